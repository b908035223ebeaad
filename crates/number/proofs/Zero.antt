-- Floats beside whole numbers: zero by the float comparison, and the float of a whole number.
use Rattle.std.proofs.Common.{◌≡◌, ℕ, zero, suc, ◌*◌, ◌<◌, Bool, true, false, eqb, ℤ, pos, negsuc, refl, ap, ◌∙◌, zero-lt-suc, mul-pos, zero-mul, arith}
use Rattle.std.proofs.lemmas.Bool.Decides.{nat_tests}
use lib.Ieee.{Float, nan, inf, fin, up, down, eq, of_bits, of_int, binary64, level}
use lib.Ieee.Fits.{up_pos}
use Rattle.number.specs.Nearness.{zero_float, nearest_float}

-- a size compared with 0 is 0 just where its significand is
level_zero : (s : Bool) (m : ℕ) (e : ℤ) → level s (m * up e * 1) false (0 * 1 * down e) ≡ eqb m 0
level_zero true zero e = let p : 0 * up e ≡ 0 = zero-mul (up e) in let q : 0 * 1 * down e ≡ 0 = zero-mul (down e) in grind (arith, nat_tests)
level_zero true (suc m) e = let p : 0 < suc m * up e = mul-pos (zero-lt-suc m) (up_pos e) in let q : 0 * 1 * down e ≡ 0 = zero-mul (down e) in grind (arith, nat_tests)
level_zero false zero e = let p : 0 * up e ≡ 0 = zero-mul (up e) in let q : 0 * 1 * down e ≡ 0 = zero-mul (down e) in grind (arith, nat_tests)
level_zero false (suc m) e = let p : 0 < suc m * up e = mul-pos (zero-lt-suc m) (up_pos e) in let q : 0 * 1 * down e ≡ 0 = zero-mul (down e) in grind (arith, nat_tests)

-- a float equals zero just where it is a zero
pub eq_zero : (x : Float) → eq x (of_bits binary64 0) ≡ zero_float x
unfolding eq of_bits
eq_zero nan = refl
eq_zero (inf true) = refl
eq_zero (inf false) = refl
eq_zero (fin s m e) = level_zero s m e

-- a whole number as a float is the nearest one
pub of_whole : (z y : ℤ) (x : Float) → y ≡ z → x ≡ of_int binary64 y → x ≡ nearest_float z
unfolding of_int
of_whole (pos n) y x q e = e ∙ ap (of_int binary64) q
of_whole (negsuc n) y x q e = e ∙ ap (of_int binary64) q
