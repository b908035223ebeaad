-- The text form of a number, or of a yes/no in words: what printing it writes.
use Rattle.std.specs.Prelude.{ℕ, suc, ◌*◌, ◌/◌, ◌%◌, ◌^◌, Bool, true, false, cond, ◌&&◌, List, ◌∷◌, ℤ, pos, negsuc, Some, None, codes, decimal, Option, ◌==◌, nat_lt, Float}
use Rattle.std.specs.Float.{nan, inf, fin}
use Rattle.std.specs.Float.Ieee.{up, down}
use Rattle.std.specs.Option.{option_map}

-- a size in decimal, after a minus where there is one
abbrev pub signed_text : Bool → ℕ → List ℕ
signed_text minus n = cond minus (45 ∷ decimal n) (decimal n)

-- a whole number in decimal
abbrev pub whole_text : ℤ → List ℕ
whole_text (pos n) = signed_text false n
whole_text (negsuc n) = signed_text true (suc n)

-- the sign and the size of a float that is whole and below 2 ^ 53 in size
abbrev pub whole_size : Float → Option (Bool × ℕ)
whole_size nan = None
whole_size (inf minus) = None
whole_size (fin minus m e) =
    cond (m * up e % down e == 0 && nat_lt (m * up e / down e) (2 ^ 53)) (Some (minus, m * up e / down e)) None

-- such a float in decimal, minus zero as `-0`; no other float has a text form
abbrev pub float_text : Float → Option (List ℕ)
float_text x = option_map (λ p. signed_text p.0 p.1) (whole_size x)

-- a yes/no in words
abbrev pub bool_text : Bool → List ℕ
bool_text true = codes "true"
bool_text false = codes "false"
