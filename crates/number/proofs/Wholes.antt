-- A float that is whole and below 2 ^ 53 in size.
use Rattle.std.proofs.Common.{◌≡◌, ℕ, zero, suc, ◌+◌, ◌-◌, ◌*◌, ◌/◌, ◌%◌, ◌^◌, ◌<◌, ◌≤◌, min, Bool, true, false, ◌&&◌, eqb, ltb, ℤ, pos, Some, None, Option, sym, refl, ap, ◌∙◌, subst, inl, inr, true≢false, le_of_lt, div-add-mod', mul-one, mul_right_comm, mul-div_cancel, arith}
use native.Mathlib.Nat.{mul-mod_left, eq_of_mul-eq-mul_right}
use lib.Ieee.{Float, nan, inf, fin, binary64, up, down, eq, round, of_int, to_unsigned, is_nan}
use lib.Ieee.Fits.{down_pos}
use lib.Ieee.Exact.{HasValue}
use lib.Ieee.Back.{round_whole}
use Rattle.std.proofs.lemmas.Bool.{cases_eq, eq-eqb, ne_eqb, eqb-true, eqb-false, lt-ltb, ltb-true, and_parts, cond-true, cond-false, and_from}
use Rattle.std.proofs.lemmas.Bool.Decides.{nat_tests}
use Rattle.std.specs.Float.{float_with_sign, is_sign_negative}
use Rattle.std.specs.Option.{option_map}
use Rattle.number.specs.Forms.{whole_size, signed_text}
use Rattle.number.specs.Back.{ReadsBack}
use Rattle.number.specs.Numerals.{whole_of_text}
use Rattle.number.specs.Widths.{under_sign, fits, signed}
use Rattle.number.specs.Nearness.{nearest_float}
use Rattle.number.proofs.Reading.{some_is, reads_back}

-- a whole number up to 2 ^ 53 is a float exactly
pub whole_value : (n : ℕ) → n ≤ 2 ^ 53 → HasValue (of_int binary64 (pos n)) false n 1
unfolding of_int
whole_value n h = round_whole binary64 false n h

-- equal products with a factor above 0
pub eqb_scale : (a b d : ℕ) → 0 < d → eqb (a * d) (b * d) ≡ eqb a b
eqb_scale a b d D = elim (cases_eq a b) [
  | inl e ↦ eq-eqb (a * d) (b * d) (ap (λ (z : ℕ). z * d) e) ∙ sym (eq-eqb a b e)
  | inr n ↦ ne_eqb (a * d) (b * d) (λ e. n (eq_of_mul-eq-mul_right d D a b e)) ∙ sym (ne_eqb a b n)
]

-- a test beside one that is passed
and_true : (b : Bool) → (b && true) ≡ b
and_true true = refl
and_true false = refl

-- a fraction compared with a whole number
scaled : (K d c A D : ℕ) → 0 < d → K * 1 ≡ c * d → (eqb (K * D) (A * d) && true) ≡ eqb (c * D) A
scaled K d c A D p h =
    and_true (eqb (K * D) (A * d))
    ∙ ap (λ (z : ℕ). eqb (z * D) (A * d)) (sym (mul-one K) ∙ h)
    ∙ ap (λ (z : ℕ). eqb z (A * d)) (mul_right_comm c d D)
    ∙ eqb_scale (c * D) A d p

-- a whole number compared with a float of the same sign
pub eq_at : (y : Float) (s : Bool) (n m : ℕ) (e : ℤ) → HasValue y s n 1 → eq y (fin s m e) ≡ eqb (n * down e) (m * up e)
unfolding eq
eq_at nan s n m e h = absurd h
eq_at (inf t) s n m e h = absurd h
eq_at (fin true k d) false n m e h = absurd (true≢false h.0)
eq_at (fin false k d) true n m e h = absurd (true≢false (sym h.0))
eq_at (fin true k d) true n m e h = scaled (k * up d) (down d) n (m * up e) (down e) (down_pos d) h.1
eq_at (fin false k d) false n m e h = scaled (k * up d) (down d) n (m * up e) (down e) (down_pos d) h.1

-- not-a-number is not whole
pub of_nan : (x : Float) → true ≡ is_nan x → None ≡ whole_size x
unfolding is_nan
of_nan nan e = refl
of_nan (inf s) e = absurd (true≢false e)
of_nan (fin s m d) e = absurd (true≢false e)

-- a float that equals the whole number that it is cut to, below 2 ^ 53
pub is_whole : (x size : Float) (n : ℕ) (neg : Bool) → size ≡ float_with_sign false x → n ≡ to_unsigned 64 size → neg ≡ is_sign_negative x → n < 2 ^ 53 → eq (of_int binary64 (pos n)) size ≡ true → is_nan x ≡ false → Some (neg, n) ≡ whole_size x
unfolding float_with_sign is_sign_negative to_unsigned is_nan
is_whole nan size n neg s e g h q N = absurd (true≢false N)
is_whole (inf t) size n neg s e g h q N = let k : n ≡ 2 ^ 64 - 1 = e ∙ ap (to_unsigned 64) s in let z : ⊥ = omega arith in absurd z
is_whole (fin t m d) size n neg s e g h q N =
    let D = down d in
    let A = m * up d in
    let v : n * D ≡ A = eqb-true _ _ (sym (eq_at (of_int binary64 (pos n)) false n m d (whole_value n (le_of_lt h))) ∙ ap (eq (of_int binary64 (pos n))) (sym s) ∙ q) in
    let a : A % D ≡ 0 = ap (λ (z : ℕ). z % D) (sym v) ∙ mul-mod_left n D in
    let b : A / D ≡ n = ap (λ (z : ℕ). z / D) (sym v) ∙ mul-div_cancel n (down_pos d) in
    let l : A / D < 2 ^ 53 = omega arith in
    (λ i. Some (g i, sym b i)) ∙ sym (cond-true _ _ _ (and_from _ _ (eq-eqb _ _ a) (lt-ltb _ _ l)))

-- a float that does not
pub no_whole : (x size : Float) (n : ℕ) → size ≡ float_with_sign false x → n ≡ to_unsigned 64 size → (n < 2 ^ 53 → eq (of_int binary64 (pos n)) size ≡ false) → None ≡ whole_size x
unfolding float_with_sign to_unsigned
no_whole nan size n s e f = refl
no_whole (inf t) size n s e f = refl
no_whole (fin t m d) size n s e f =
    let D = down d in
    let A = m * up d in
    let k : n ≡ min (A / D) (2 ^ 64 - 1) = e ∙ ap (to_unsigned 64) s in
    let w : A / D * D + A % D ≡ A = div-add-mod' A D in
    let c : (n < 2 ^ 53 → n * D ≡ A → ⊥) = λ h. eqb-false _ _ (sym (eq_at (of_int binary64 (pos n)) false n m d (whole_value n (le_of_lt h))) ∙ ap (eq (of_int binary64 (pos n))) (sym s) ∙ f h) in
    let u : (A % D ≡ 0 → A / D < 2 ^ 53 → ⊥) = λ p q. let i : n ≡ A / D = omega arith in c (omega arith) (ap (λ (z : ℕ). z * D) i ∙ omega arith) in
    let z : (eqb (A % D) 0 && ltb (A / D) (2 ^ 53)) ≡ false = grind (arith, nat_tests) in
    sym (cond-false _ _ _ z)

-- a zero equals the zero without a sign
zero_zero : (m : ℕ) (e : ℤ) → m * up e ≡ 0 → eq (round binary64 false 0 1) (fin true m e) ≡ true
unfolding eq round
zero_zero m e h = let a : 0 * down e ≡ 0 = native.Mathlib.Nat.zero-mul (down e) in grind (arith, nat_tests)

-- the sign and the size of a whole float give it back, but for the sign of zero
pub size_back : (x : Float) (p : Bool × ℕ) → whole_size x ≡ Some p → (p.1 < 2 ^ 53) × (eq (nearest_float (under_sign p.0 p.1)) x ≡ true)
size_back nan p e = let k : ◌≡◌ {A = ℕ} 0 1 = cc in let z : ⊥ = omega arith in absurd z
size_back (inf s) p e = let k : ◌≡◌ {A = ℕ} 0 1 = cc in let z : ⊥ = omega arith in absurd z
size_back (fin s m d) p e =
    let D = down d in
    let A = m * up d in
    let c = some_is (eqb (A % D) 0 && ltb (A / D) (2 ^ 53)) (s, A / D) p (sym e) in
    let t = and_parts (eqb (A % D) 0) (ltb (A / D) (2 ^ 53)) c.0 in
    let w : A / D * D + A % D ≡ A = div-add-mod' A D in
    let r : A % D ≡ 0 = eqb-true _ _ t.0 in
    let l : A / D < 2 ^ 53 = ltb-true _ _ t.1 in
    subst (λ (q : Bool × ℕ). (q.1 < 2 ^ 53) × (eq (nearest_float (under_sign q.0 q.1)) (fin s m d) ≡ true)) c.1
    (l, equal s (A / D) l (omega arith))
  where
    equal : (s : Bool) (n : ℕ) → n < 2 ^ 53 → n * down d ≡ m * up d → eq (nearest_float (under_sign s n)) (fin s m d) ≡ true
    equal false n l q = eq_at (round binary64 false n 1) false n m d (round_whole binary64 false n (le_of_lt l)) ∙ eq-eqb _ _ q
    equal true zero l q = zero_zero m d (sym q ∙ native.Mathlib.Nat.zero-mul (down d))
    equal true (suc n) l q = eq_at (round binary64 true (suc n) 1) true (suc n) m d (round_whole binary64 true (suc n) (le_of_lt l)) ∙ eq-eqb _ _ q

-- what is below 2 ^ 53 in size fits
small : (s : Bool) (n : ℕ) → n < 2 ^ 53 → fits (signed 63) (under_sign s n) ≡ true
small false n l = lt-ltb n (2 ^ 63) (omega arith)
small true zero l = refl
small true (suc n) l = lt-ltb n (2 ^ 63) (omega arith)

-- what a float prints is read back as a whole number, which gives the float
pub float_back : (x : Float) → ReadsBack x
float_back x text e = back (whole_size x) refl e
  where
    back : (o : Option (Bool × ℕ)) → whole_size x ≡ o → option_map (λ (p : Bool × ℕ). signed_text p.0 p.1) o ≡ Some text → (z : ℤ) × (whole_of_text (signed 63) text ≡ Some z) × (eq (nearest_float z) x ≡ true)
    back None q e = let k : ◌≡◌ {A = ℕ} 0 1 = cc in let z : ⊥ = omega arith in absurd z
    back (Some p) q e =
        let b = size_back x p q in
        let t : signed_text p.0 p.1 ≡ text = cc in
        (under_sign p.0 p.1, ap (whole_of_text (signed 63)) (sym t) ∙ reads_back p.0 p.1 (omega arith) (small p.0 p.1 b.0), b.1)
