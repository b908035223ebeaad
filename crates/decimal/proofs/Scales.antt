-- The exponent less the number of places, cut where it is out of reach anyway.
use Rattle.std.proofs.Common.{◌≡◌, ℕ, zero, suc, ◌^◌, ◌<◌, ◌≤◌, min, Bool, true, false, cond, leb, ℤ, pos, negsuc, ◌-ℤ◌, neg_ℤ, nat_abs, ◌≤ℤ◌, ◌<ℤ◌, Some, None, sym, refl, ap, ◌∙◌, inl, inr, arith, w32, to_z, of_z}
use Rattle.std.specs.Bool.{then_some}
use Rattle.std.proofs.lemmas.Int.{ints}
use Rattle.std.proofs.lemmas.Bool.{cases_lt, cond-true, cond-false, le-leb, lt-leb}
use Rattle.number.specs.Widths.{under_sign}
use Rattle.decimal.specs.Amount.{in_reach}

-- what is below -22 is out of reach
low_far : (z : ℤ) → z <ℤ negsuc 21 → 22 < nat_abs z
low_far (pos k) h = let y : ⊥ = omega (arith, ints) in absurd y
low_far (negsuc k) h = omega (arith, ints)

-- an exponent of at most four digits
short : (down : Bool) (power : ℕ) → power < 10 ^ 4 → under_sign down power ≤ℤ pos 9999
short true zero h = omega (arith, ints)
short true (suc n) h = omega (arith, ints)
short false n h = omega (arith, ints)

module _ (down : Bool) (power places : ℕ) (s : ℤ) (small : power < 10 ^ 4) (cut : s ≡ under_sign down power -ℤ pos (min places 20000)) where
  -- few places are not cut
  same : places ≤ 20000 → s ≡ under_sign down power -ℤ pos places
  same h = cut ∙ ap (λ (n : ℕ). under_sign down power -ℤ pos n) (omega arith)

  -- many places are out of reach, cut or not
  many : 20000 < places → (22 < nat_abs s) × (22 < nat_abs (under_sign down power -ℤ pos places))
  many h =
      let b = short down power small in
      let m : min places 20000 ≡ 20000 = omega arith in
      let c : s ≡ under_sign down power -ℤ pos 20000 = cut ∙ ap (λ (n : ℕ). under_sign down power -ℤ pos n) m in
      (low_far s (far s (under_sign down power) 20000 c b (omega arith)), low_far _ (far _ (under_sign down power) places refl b (omega arith)))
    where
      far : (z p : ℤ) (n : ℕ) → z ≡ p -ℤ pos n → p ≤ℤ pos 9999 → 20000 ≤ n → z <ℤ negsuc 21
      far z p n q b l = omega (arith, ints)

  -- a scale in reach is the true one
  scale_found : nat_abs s ≤ 22 → Some s ≡ cond (in_reach (under_sign down power -ℤ pos places)) (Some (under_sign down power -ℤ pos places)) None
  scale_found h = elim (cases_lt 20000 places) [
    | inl f ↦ let b = many f in let y : ⊥ = omega arith in absurd y
    | inr f ↦ ap Some (same f) ∙ sym (cond-true _ _ _ (ap in_reach (sym (same f)) ∙ le-leb (nat_abs s) 22 h))
  ]

  -- and one out of reach stays so
  scale_lost : 22 < nat_abs s → None ≡ cond (in_reach (under_sign down power -ℤ pos places)) (Some (under_sign down power -ℤ pos places)) None
  scale_lost h = elim (cases_lt 20000 places) [
    | inl f ↦ sym (cond-false (in_reach (under_sign down power -ℤ pos places)) _ _ (lt-leb (nat_abs (under_sign down power -ℤ pos places)) 22 (many f).1))
    | inr f ↦ sym (cond-false _ _ _ (ap in_reach (sym (same f)) ∙ lt-leb (nat_abs s) 22 h))
  ]

  -- so a test tells it
  pub scale_told : (size : ℕ) → size ≡ nat_abs s → then_some (leb size 22) s ≡ cond (in_reach (under_sign down power -ℤ pos places)) (Some (under_sign down power -ℤ pos places)) None
  scale_told size e = elim (cases_lt 22 size) [
    | inl f ↦ ap (λ (b : Bool). then_some b s) (lt-leb size 22 f) ∙ scale_lost (omega arith)
    | inr f ↦ ap (λ (b : Bool). then_some b s) (le-leb size 22 f) ∙ scale_found (omega arith)
  ]

-- an exponent of at most four digits under its sign, in 32 bits
pub falling : (down : Bool) (power : ℕ) → power < 10 ^ 4 → down ≡ true → to_z w32 (of_z w32 (pos 0 -ℤ to_z w32 power)) ≡ under_sign down power
falling down power h e = turned power h ∙ sym (cond-true _ _ _ e)
  where
    turned : (n : ℕ) → n < 10 ^ 4 → to_z w32 (of_z w32 (pos 0 -ℤ to_z w32 n)) ≡ neg_ℤ (pos n)
    turned n l = omega (arith, ints)

-- the same without a minus
pub rising : (down : Bool) (power : ℕ) → power < 10 ^ 4 → down ≡ false → to_z w32 power ≡ under_sign down power
rising down power h e = plain power h ∙ sym (cond-false _ _ _ e)
  where
    plain : (n : ℕ) → n < 10 ^ 4 → to_z w32 n ≡ pos n
    plain n l = omega (arith, ints)

-- and less the places
pub less_places : (down : Bool) (power places m : ℕ) (p : ℤ) → power < 10 ^ 4 → p ≡ under_sign down power → m ≡ min places 20000
    → to_z w32 (of_z w32 (p -ℤ to_z w32 m)) ≡ under_sign down power -ℤ pos (min places 20000)
less_places true zero places m p h q e = omega (arith, ints)
less_places true (suc n) places m p h q e = omega (arith, ints)
less_places false n places m p h q e = omega (arith, ints)
