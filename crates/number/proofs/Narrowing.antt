-- Narrowing, once for every width.
use Rattle.std.proofs.Common.{◌≡◌, ℕ, zero, suc, ◌-◌, ◌*◌, ◌/◌, ◌^◌, ◌<◌, min, true, false, ℤ, pos, negsuc, neg_ℤ, sym, refl, ap, ◌∙◌, true≢false, mod-eq_of_lt, arith, pow_pos}
use native.Mathlib.Nat.{pow-succ'}
use lib.Ieee.{Float, nan, inf, fin, up, down, to_signed, to_unsigned}
use Rattle.std.proofs.lemmas.Int.{ints}
use Rattle.std.proofs.lemmas.Bool.{ltb-true, le-ltb, cond-true, cond-false}
use Rattle.std.specs.Int.{int_min, int_max}
use Rattle.number.specs.Widths.{Wide, signed, unsigned, fits, narrow_float, narrow_whole, twos_complement}

-- a number of a width is kept whole
pub keeps : (w : Wide) (z : ℤ) → fits w z ≡ true → narrow_whole w z ≡ z
keeps (unsigned w) (pos n) f = ap pos (mod-eq_of_lt (ltb-true _ _ f))
keeps (unsigned w) (negsuc n) f = absurd (true≢false (sym f))
keeps (signed h) (pos n) f =
    let l : n < 2 ^ h = ltb-true _ _ f in
    let d : 2 ^ suc h ≡ 2 * 2 ^ h = pow-succ' 2 h in
    ap (twos_complement h) (mod-eq_of_lt (omega arith)) ∙ cond-true _ _ _ f
keeps (signed h) (negsuc n) f =
    let l : n < 2 ^ h = ltb-true _ _ f in
    let d : 2 ^ suc h ≡ 2 * 2 ^ h = pow-succ' 2 h in
    ap (λ (k : ℕ). twos_complement h (2 ^ suc h - 1 - k)) (mod-eq_of_lt (omega arith))
    ∙ cond-false _ _ _ (le-ltb (2 ^ suc h - 1 - n) (2 ^ h) (omega arith))
    ∙ ap negsuc (omega arith)

-- the cast to a width with a sign clamps
pub clamps_signed : (h : ℕ) (x : Float) → to_signed h x ≡ narrow_float (signed h) x
unfolding to_signed
clamps_signed h nan = refl
clamps_signed h (inf s) = refl
clamps_signed h (fin false m e) = top (m * up e / down e) (2 ^ h) (pow_pos h)
  where
    top : (n t : ℕ) → 0 < t → pos (min n (t - 1)) ≡ int_max (neg_ℤ (pos t)) (int_min (pos n) (pos (t - 1)))
    top n t p = grind (arith, ints)
clamps_signed h (fin true m e) = bottom (m * up e / down e) (2 ^ h) (pow_pos h)
  where
    bottom : (n t : ℕ) → 0 < t → neg_ℤ (pos (min n t)) ≡ int_max (neg_ℤ (pos t)) (int_min (neg_ℤ (pos n)) (pos (t - 1)))
    bottom n t p = grind (arith, ints)

-- the cast to a width without a sign clamps
pub clamps_unsigned : (w : ℕ) (x : Float) → pos (to_unsigned w x) ≡ narrow_float (unsigned w) x
unfolding to_unsigned
clamps_unsigned w nan = refl
clamps_unsigned w (inf true) = refl
clamps_unsigned w (inf false) = refl
clamps_unsigned w (fin false m e) = top (m * up e / down e) (2 ^ w - 1)
  where
    top : (n g : ℕ) → pos (min n g) ≡ int_max (pos 0) (int_min (pos n) (pos g))
    top n g = grind (arith, ints)
clamps_unsigned w (fin true m e) = bottom (m * up e / down e) (2 ^ w - 1)
  where
    bottom : (n g : ℕ) → pos 0 ≡ int_max (pos 0) (int_min (neg_ℤ (pos n)) (pos g))
    bottom zero g = grind (arith, ints)
    bottom (suc n) g = grind (arith, ints)
