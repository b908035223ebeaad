-- Widths of whole numbers, and how a number is narrowed to one: what Rust's `as` casts mean.
use Rattle.std.specs.Prelude.{ℕ, suc, ◌-◌, ◌*◌, ◌/◌, ◌%◌, ◌^◌, Bool, true, false, cond, ℤ, pos, negsuc, neg_ℤ, Some, None, Option, nat_lt, Float}
use Rattle.std.specs.Float.{nan, inf, fin}
use Rattle.std.specs.Float.Ieee.{up, down}
use Rattle.std.specs.Int.{int_min, int_max}

-- a number of h bits and a sign, from -2 ^ h to 2 ^ h - 1; or of w bits without one, from 0 to 2 ^ w - 1
pub data Wide : Type 0 where
  signed : ℕ → Wide
  unsigned : ℕ → Wide

abbrev pub has_sign : Wide → Bool
has_sign (signed h) = true
has_sign (unsigned w) = false

abbrev pub least : Wide → ℤ
least (signed h) = neg_ℤ (pos (2 ^ h))
least (unsigned w) = pos 0

abbrev pub greatest : Wide → ℤ
greatest (signed h) = pos (2 ^ h - 1)
greatest (unsigned w) = pos (2 ^ w - 1)

-- whether a whole number is one of the width's
abbrev pub fits : Wide → ℤ → Bool
fits (signed h) (pos n) = nat_lt n (2 ^ h)
fits (signed h) (negsuc n) = nat_lt n (2 ^ h)
fits (unsigned w) (pos n) = nat_lt n (2 ^ w)
fits (unsigned w) (negsuc n) = false

-- a whole number where it is one of the width's
abbrev pub if_fits : Wide → ℤ → Option ℤ
if_fits w z = cond (fits w z) (Some z) None

-- a size under a sign: its negative where there is a minus
abbrev pub under_sign : Bool → ℕ → ℤ
under_sign minus n = cond minus (neg_ℤ (pos n)) (pos n)

-- a whole number where it is in the width, else the end of the width that is nearer
abbrev pub clamp : Wide → ℤ → ℤ
clamp w z = int_max (least w) (int_min z (greatest w))

-- A float loses its fraction and is clamped. Not-a-number is 0.
abbrev pub narrow_float : Wide → Float → ℤ
narrow_float w nan = pos 0
narrow_float w (inf minus) = cond minus (least w) (greatest w)
narrow_float w (fin minus m e) = clamp w (under_sign minus (m * up e / down e))

-- the low w bits of a whole number in two's complement: its remainder by 2 ^ w, which is never negative
abbrev pub low_bits : ℕ → ℤ → ℕ
low_bits w (pos n) = n % 2 ^ w
low_bits w (negsuc n) = 2 ^ w - 1 - n % 2 ^ w

-- n of h + 1 bits, the highest of which is the sign
abbrev pub twos_complement : ℕ → ℕ → ℤ
twos_complement h n = cond (nat_lt n (2 ^ h)) (pos n) (negsuc (2 ^ suc h - suc n))

-- A whole number keeps its low bits.
abbrev pub narrow_whole : Wide → ℤ → ℤ
narrow_whole (signed h) z = twos_complement h (low_bits (suc h) z)
narrow_whole (unsigned w) z = pos (low_bits w z)
