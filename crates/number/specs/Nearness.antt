-- Floats of 64 bits: the one nearest to a whole number, and whether one is zero.
use Rattle.std.specs.Prelude.{suc, Bool, true, false, ℤ, pos, negsuc, ◌==◌, Float}
use Rattle.std.specs.Float.{nan, inf, fin, binary64}
use Rattle.std.specs.Float.Ieee.{round}

-- the float nearest to a whole number, and at a tie the even one: one rounding of the exact number
abbrev pub nearest_float : ℤ → Float
nearest_float (pos n) = round binary64 false n 1
nearest_float (negsuc n) = round binary64 true (suc n) 1

-- A float is zero, of either sign. Not-a-number is not.
abbrev pub zero_float : Float → Bool
zero_float nan = false
zero_float (inf s) = false
zero_float (fin s m e) = m == 0
