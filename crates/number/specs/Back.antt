-- A float that was printed, read back.
use Rattle.std.specs.Prelude.{◌≡◌, ℕ, true, List, ℤ, Some, Float}
use Rattle.std.specs.Float.Ieee.{eq}
use Rattle.number.specs.Forms.{float_text}
use Rattle.number.specs.Nearness.{nearest_float}
use Rattle.number.specs.Numerals.{whole_of_text}
use Rattle.number.specs.Widths.{signed}

-- a float's text form is a whole number's, and the float nearest to that number equals the float
abbrev pub ReadsBack : Float → Type 0
ReadsBack x = (text : List ℕ) → float_text x ≡ Some text → (z : ℤ) × (whole_of_text (signed 63) text ≡ Some z) × (eq (nearest_float z) x ≡ true)
