-- What a text taken apart is read as.
use Rattle.std.proofs.Common.{◌≡◌, ℕ, Bool, true, false, cond, eqb, List, [], ◌∷◌, ◌++◌, length, Some, None, Ok, Err, Option, Result, sym, refl, ap, ◌∙◌, inl, inr, true≢false, arith}
use lib.Ieee.{Float, neg}
use Rattle.std.specs.Option.{option_map}
use Rattle.std.specs.Str.{all_ascii_digits}
use Rattle.std.proofs.lemmas.Bool.{cond-true, cond-false, cases_Bool, and_from}
use Rattle.number.specs.Numerals.{Sign, is_minus, sign_of, after_sign, numeral}
use Rattle.decimal.specs.Grammar.{Fraction, pointless, point, Exponent, absent, power, Literal, places, sound_exponent, front_digits, past_digits, front_fraction, past_fraction, exponent_of, closed}
use Rattle.decimal.specs.Amount.{falls, exponent_digits, heading, amount, amount_of}
use Rattle.decimal.specs.Fault.{or_beyond, or_refused, float_of_text}
use Rattle.decimal.proofs.Parting.{all_append, all_front, numeral_some, exponent_sound}
use Rattle.decimal.proofs.Amounts.{amount_minus}

-- what was found of an exponent
heading_found : (o : Option Exponent) (p : Bool × List ℕ) → Some p ≡ option_map heading o → (x : Exponent) × (o ≡ Some x) × (heading x ≡ p)
heading_found None p e = let k : ◌≡◌ {A = ℕ} 0 1 = cc in let z : ⊥ = omega arith in absurd z
heading_found (Some x) p e = (x, refl, cc)

-- a refusal, or what the parts stand for
closed_as : (s : Sign) (ds : List ℕ) (f : Fraction) (x : Exponent)
    → or_refused (closed s ds f (Some x)) ≡ cond (numeral (ds ++ places f)) (or_beyond (amount (is_minus s) ds (places f) (falls x) (exponent_digits x))) (Err 13)
closed_as s ds f x = over (numeral (ds ++ places f)) (record { sign = s; whole = ds; fraction = f; exponent = x })
  where
    over : (b : Bool) (l : Literal) → or_refused (cond b (Some l) None) ≡ cond b (or_beyond (amount_of l)) (Err 13)
    over true l = refl
    over false l = refl

-- A text taken apart: what follows the sign, the digits in front and what follows them, the places and what follows those.
module _ (text body whole rest fraction last : List ℕ)
    (b : body ≡ after_sign text) (w : whole ≡ front_digits body) (r : rest ≡ past_digits body) (f : fraction ≡ places (front_fraction rest)) (t : last ≡ past_fraction rest) where
  -- what follows the digits in front, from the text
  rest_is : rest ≡ past_digits (after_sign text)
  rest_is = r ∙ ap past_digits b

  -- what is left for the exponent, from the text
  last_is : exponent_of last ≡ exponent_of (past_fraction (past_digits (after_sign text)))
  last_is = ap exponent_of (t ∙ ap past_fraction rest_is)

  module _ (down : Bool) (exponent : List ℕ) (e : Some (down, exponent) ≡ option_map heading (exponent_of last)) where
    -- the digits of the parts are digits
    pub whole_digits : all_ascii_digits whole ≡ true
    whole_digits = ap all_ascii_digits w ∙ all_front body

    pub fraction_digits : all_ascii_digits fraction ≡ true
    fraction_digits = ap all_ascii_digits f ∙ places_digits rest
      where
        places_digits : (bs : List ℕ) → all_ascii_digits (places (front_fraction bs)) ≡ true
        places_digits [] = refl
        places_digits (c ∷ bs) = elim (cases_Bool (eqb c 46)) [
          | inl q ↦ ap (λ (g : Fraction). all_ascii_digits (places g)) (cond-true (eqb c 46) (point (front_digits bs)) pointless q) ∙ all_front bs
          | inr q ↦ ap (λ (g : Fraction). all_ascii_digits (places g)) (cond-false (eqb c 46) (point (front_digits bs)) pointless q)
        ]

    pub exponent_all : all_ascii_digits exponent ≡ true
    exponent_all =
        let p = heading_found (exponent_of last) (down, exponent) e in
        sym (ap (λ (h : Bool × List ℕ). all_ascii_digits h.1) p.2) ∙ digits_of p.0 (exponent_sound last p.0 p.1)
      where
        digits_of : (x : Exponent) → sound_exponent x ≡ true → all_ascii_digits (exponent_digits x) ≡ true
        digits_of absent s = refl
        digits_of (power c g []) s = absurd (true≢false (sym s))
        digits_of (power c g (d ∷ ds)) s = s

    -- what the text is read as
    text_as : float_of_text text ≡ cond (numeral (whole ++ fraction)) (or_beyond (amount (is_minus (sign_of text)) whole fraction down exponent)) (Err 13)
    text_as =
        let p = heading_found (exponent_of last) (down, exponent) e in
        let A : List ℕ → List ℕ → Bool × List ℕ → Result Float ℕ = λ ds ps h. cond (numeral (ds ++ ps)) (or_beyond (amount (is_minus (sign_of text)) ds ps h.0 h.1)) (Err 13) in
        let ds = front_digits (after_sign text) in
        let g = front_fraction (past_digits (after_sign text)) in
        ap (λ (o : Option Exponent). or_refused (closed (sign_of text) ds g o)) (sym last_is ∙ p.1)
        ∙ (closed_as (sign_of text) ds g p.0
        ∙ (λ i. A (sym (w ∙ ap front_digits b) i) (sym (f ∙ ap (λ (l : List ℕ). places (front_fraction l)) rest_is) i) (p.2 i)))

    module _ (some : length whole ≡ 0 → length fraction ≡ 0 → ⊥) where
      digits_there : numeral (whole ++ fraction) ≡ true
      digits_there = numeral_some (whole ++ fraction) (λ h. none whole fraction some h) (all_append whole fraction ∙ and_from _ _ whole_digits fraction_digits)
        where
          none : (xs ys : List ℕ) → (length xs ≡ 0 → length ys ≡ 0 → ⊥) → length (xs ++ ys) ≡ 0 → ⊥
          none [] [] n h = n refl refl
          none [] (y ∷ ys) n h = omega arith
          none (x ∷ xs) ys n h = omega arith

      pub read_as : or_beyond (amount (is_minus (sign_of text)) whole fraction down exponent) ≡ float_of_text text
      read_as = sym (text_as ∙ cond-true _ _ _ digits_there)

-- what a minus, or none, makes of the amount without one
module _ (whole fraction exponent : List ℕ) (down : Bool) where
  -- beyond the limits
  pub beyond : (m : Bool) → None ≡ amount false whole fraction down exponent → Err 14 ≡ or_beyond (amount m whole fraction down exponent)
  beyond true n = ap or_beyond (ap (option_map neg) n ∙ sym (amount_minus whole fraction exponent down))
  beyond false n = ap or_beyond n

  -- a value, and one under a minus
  pub plain : (m : Bool) (x : Float) → Some x ≡ amount false whole fraction down exponent → m ≡ false → Ok x ≡ or_beyond (amount m whole fraction down exponent)
  plain m x n e = ap or_beyond (n ∙ ap (λ (s : Bool). amount s whole fraction down exponent) (sym e))

  pub turned : (m : Bool) (x : Float) → Some x ≡ amount false whole fraction down exponent → m ≡ true → Ok (neg x) ≡ or_beyond (amount m whole fraction down exponent)
  turned m x n e = ap or_beyond (ap (option_map neg) n ∙ (sym (amount_minus whole fraction exponent down) ∙ ap (λ (s : Bool). amount s whole fraction down exponent) (sym e)))
