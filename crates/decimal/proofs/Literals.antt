-- A text taken apart is spelled by its parts, and by no others.
use Rattle.std.proofs.Common.{◌≡◌, ℕ, true, false, cond, ◌&&◌, ◌||◌, eqb, List, [], ◌∷◌, ◌++◌, Some, None, Ok, Err, Option, Result, sym, refl, ap, ◌∙◌, inl, inr, true≢false, arith}
use lib.Ieee.{Float}
use Rattle.std.specs.Char.{is_ascii_digit}
use Rattle.std.specs.Str.{all_ascii_digits}
use Rattle.std.proofs.lemmas.Bool.{eqb-true, cond-true, cond-false, cases_Bool, and_from, and_parts, or_cases}
use Rattle.number.specs.Numerals.{Sign, sign_bytes, sign_of, after_sign, numeral}
use Rattle.number.proofs.Reading.{some_is, Bare, of_sign, other_bare, digit_bare, numeral_bare, sign_front}
use Rattle.decimal.specs.declared.fault.NumberFault.{NumberFault}
use Rattle.decimal.specs.declared.fault.NumberFault.TheVariants.{NotANumber, OutOfRange}
use Rattle.decimal.specs.Grammar.{Fraction, pointless, point, Exponent, absent, power, Literal, places, fraction_bytes, exponent_bytes, spelled, sound_exponent, sound, front_digits, past_digits, front_fraction, past_fraction, exponent_of, closed, literal}
use Rattle.decimal.specs.Amount.{amount_of}
use Rattle.decimal.specs.Fault.{numbered, or_beyond, or_refused, float_of_text}
use Rattle.decimal.specs.Answer.{Spells, Answered, OneLiteral}
use Rattle.decimal.proofs.Parting.{all_append, front_past, front_is, past_is, some_numeral, exponent_sound}

-- ---- from the text to its parts

-- a fraction and what follows it
fraction_past : (bs : List ℕ) → fraction_bytes (front_fraction bs) ++ past_fraction bs ≡ bs
fraction_past [] = refl
fraction_past (b ∷ bs) = elim (cases_Bool (eqb b 46)) [
  | inl e ↦
      (λ i. fraction_bytes (cond-true (eqb b 46) (point (front_digits bs)) pointless e i) ++ cond-true (eqb b 46) (past_digits bs) (b ∷ bs) e i)
      ∙ (λ i. sym (eqb-true b 46 e) i ∷ front_past bs i)
  | inr e ↦ (λ i. fraction_bytes (cond-false (eqb b 46) (point (front_digits bs)) pointless e i) ++ cond-false (eqb b 46) (past_digits bs) (b ∷ bs) e i)
]

-- the letter of an exponent
letter : (b : ℕ) → (eqb b 101 || eqb b 69) ≡ true → cond (eqb b 69) 69 101 ≡ b
letter b e = elim (cases_Bool (eqb b 69)) [
  | inl q ↦ cond-true _ _ _ q ∙ sym (eqb-true b 69 q)
  | inr q ↦ cond-false _ _ _ q ∙ (elim (or_cases (eqb b 101) (eqb b 69) e) [ inl p ↦ sym (eqb-true b 101 p) | inr p ↦ absurd (true≢false (sym p ∙ q)) ])
]

-- an exponent is the bytes that it was found in
exponent_back : (bs : List ℕ) (x : Exponent) → exponent_of bs ≡ Some x → exponent_bytes x ≡ bs
exponent_back [] x e = let q : x ≡ absent = cc in ap exponent_bytes q
exponent_back (b ∷ bs) x e =
    let p = some_is ((eqb b 101 || eqb b 69) && numeral (after_sign bs)) (power (eqb b 69) (sign_of bs) (after_sign bs)) x (sym e) in
    let q = and_parts (eqb b 101 || eqb b 69) (numeral (after_sign bs)) p.0 in
    sym (ap exponent_bytes p.1) ∙ (λ i. letter b q.0 i ∷ sign_front bs i)

-- what closing the parts says of them
closed_parts : (s : Sign) (ds : List ℕ) (f : Fraction) (o : Option Exponent) (l : Literal) → closed s ds f o ≡ Some l
    → (x : Exponent) × (o ≡ Some x) × (numeral (ds ++ places f) ≡ true) × (record { sign = s; whole = ds; fraction = f; exponent = x } ≡ l)
closed_parts s ds f None l e = let k : ◌≡◌ {A = ℕ} 0 1 = cc in let z : ⊥ = omega arith in absurd z
closed_parts s ds f (Some x) l e = let p = some_is (numeral (ds ++ places f)) (record { sign = s; whole = ds; fraction = f; exponent = x }) l (sym e) in (x, refl, p.0, p.1)

-- the parts of a text spell it
pub parts_spell : (text : List ℕ) (l : Literal) → literal text ≡ Some l → Spells text l
parts_spell text l e =
    let body = after_sign text in
    let rest = past_digits body in
    let p = closed_parts (sign_of text) (front_digits body) (front_fraction rest) (exponent_of (past_fraction rest)) l e in
    let k : Literal = record { sign = sign_of text; whole = front_digits body; fraction = front_fraction rest; exponent = p.0 } in
    let good : sound k ≡ true = and_from _ _ p.2 (exponent_sound (past_fraction rest) p.0 p.1) in
    let tail : fraction_bytes (front_fraction rest) ++ exponent_bytes p.0 ≡ rest =
    ap (λ (t : List ℕ). fraction_bytes (front_fraction rest) ++ t) (exponent_back (past_fraction rest) p.0 p.1) ∙ fraction_past rest in
    let whole : spelled k ≡ text =
    ap (λ (t : List ℕ). sign_bytes (sign_of text) ++ (front_digits body ++ t)) tail ∙ (ap (λ (t : List ℕ). sign_bytes (sign_of text) ++ t) (front_past body) ∙ sign_front text) in
    (sym (ap sound p.3) ∙ good, sym (ap spelled p.3) ∙ whole)

-- ---- from the parts to the text

-- an exponent begins with no digit and no point
exponent_front : (x : Exponent) → (front_digits (exponent_bytes x) ≡ []) × (front_fraction (exponent_bytes x) ≡ pointless) × (past_fraction (exponent_bytes x) ≡ exponent_bytes x)
exponent_front absent = (refl, refl, refl)
exponent_front (power true s ds) = (refl, refl, refl)
exponent_front (power false s ds) = (refl, refl, refl)

-- a fraction before an exponent is the fraction in front
fraction_is : (f : Fraction) (x : Exponent) → all_ascii_digits (places f) ≡ true
    → (front_digits (fraction_bytes f ++ exponent_bytes x) ≡ []) × (front_fraction (fraction_bytes f ++ exponent_bytes x) ≡ f) × (past_fraction (fraction_bytes f ++ exponent_bytes x) ≡ exponent_bytes x)
fraction_is pointless x a = exponent_front x
fraction_is (point ds) x a =
    let n = (exponent_front x).0 in
    (refl, ap point (front_is ds (exponent_bytes x) a n), past_is ds (exponent_bytes x) a n)

-- a sound exponent is found in its bytes
exponent_is : (x : Exponent) → sound_exponent x ≡ true → exponent_of (exponent_bytes x) ≡ Some x
exponent_is absent s = refl
exponent_is (power true g ds) s =
    let p = of_sign g ds (numeral_bare ds s) in
    cond-true _ _ _ (ap numeral p.1 ∙ s) ∙ (λ i. Some (power true (p.0 i) (p.1 i)))
exponent_is (power false g ds) s =
    let p = of_sign g ds (numeral_bare ds s) in
    cond-true _ _ _ (ap numeral p.1 ∙ s) ∙ (λ i. Some (power false (p.0 i) (p.1 i)))

-- a number's body begins with no sign
body_bare : (ds : List ℕ) (f : Fraction) (x : Exponent) → numeral (ds ++ places f) ≡ true → Bare (ds ++ (fraction_bytes f ++ exponent_bytes x))
body_bare (d ∷ ds) f x n = digit_bare d _ (and_parts (is_ascii_digit d) _ n).0
body_bare [] pointless x n = absurd (true≢false (sym n))
body_bare [] (point ps) x n = other_bare 46 (ps ++ exponent_bytes x) (λ q. omega arith) (λ q. omega arith)

-- a sound literal is what its text is taken apart to
pub literal_is : (l : Literal) → sound l ≡ true → literal (spelled l) ≡ Some l
literal_is l s =
    let ds = l.whole in
    let f = l.fraction in
    let x = l.exponent in
    let p = and_parts (numeral (ds ++ places f)) (sound_exponent x) s in
    let a = and_parts (all_ascii_digits ds) (all_ascii_digits (places f)) (sym (all_append ds (places f)) ∙ (some_numeral (ds ++ places f) p.0).1) in
    let tail = fraction_bytes f ++ exponent_bytes x in
    let g = of_sign l.sign (ds ++ tail) (body_bare ds f x p.0) in
    let h = fraction_is f x a.1 in
    let front : front_digits (after_sign (spelled l)) ≡ ds = ap front_digits g.1 ∙ front_is ds tail a.0 h.0 in
    let rest : past_digits (after_sign (spelled l)) ≡ tail = ap past_digits g.1 ∙ past_is ds tail a.0 h.0 in
    let last : exponent_of (past_fraction (past_digits (after_sign (spelled l)))) ≡ Some x = ap exponent_of (ap past_fraction rest ∙ h.2) ∙ exponent_is x p.1 in
    (λ i. closed (g.0 i) (front i) ((ap front_fraction rest ∙ h.1) i) (last i)) ∙ cond-true _ _ _ p.0

-- whatever sound literal spells a text, the text is taken apart to
pub grammar : (text : List ℕ) (l : Literal) → Spells text l → literal text ≡ Some l
grammar text l h = ap literal (sym h.1) ∙ literal_is l h.0

-- so no two sound literals spell one text
pub one_literal : OneLiteral
one_literal text k l h i = let p = grammar text k h in let q = grammar text l i in cc

-- ---- the answer by the grammar

-- a value within the limits, and none beyond them
beyond_none : (o : Option Float) → Err 14 ≡ or_beyond o → o ≡ None
beyond_none None e = refl
beyond_none (Some x) e = let k : ◌≡◌ {A = ℕ} 0 1 = cc in let z : ⊥ = omega arith in absurd z

-- a value that was read is the value
beyond_some : (o : Option Float) (x : Float) → Ok x ≡ or_beyond o → o ≡ Some x
beyond_some None x e = let k : ◌≡◌ {A = ℕ} 0 1 = cc in let z : ⊥ = omega arith in absurd z
beyond_some (Some y) x e = cc

-- what is number text is not refused as none
no_refusal : (o : Option Float) → Err 13 ≡ or_beyond o → ⊥
no_refusal None e = let k : ◌≡◌ {A = ℕ} 13 14 = cc in omega arith
no_refusal (Some x) e = let k : ◌≡◌ {A = ℕ} 0 1 = cc in omega arith

-- the answer, by what the text is taken apart to
answered_at : (text : List ℕ) (o : Option Literal) → literal text ≡ o → (r : Result Float NumberFault) → numbered r ≡ or_refused o → Answered text r
answered_at text None q (Ok x) e = let k : ◌≡◌ {A = ℕ} 0 1 = cc in let z : ⊥ = omega arith in absurd z
answered_at text None q (Err OutOfRange) e = let k : ◌≡◌ {A = ℕ} 14 13 = cc in let z : ⊥ = omega arith in absurd z
answered_at text None q (Err NotANumber) e = λ l h. let p : Some l ≡ None = sym (grammar text l h) ∙ q in let k : ◌≡◌ {A = ℕ} 0 1 = cc in omega arith
answered_at text (Some l) q (Ok x) e = (l, (parts_spell text l q, beyond_some (amount_of l) x e))
answered_at text (Some l) q (Err OutOfRange) e = (l, (parts_spell text l q, beyond_none (amount_of l) e))
answered_at text (Some l) q (Err NotANumber) e = absurd (no_refusal (amount_of l) e)

-- an answer that agrees with the definition is the answer by the grammar
pub answered : (text : List ℕ) (r : Result Float NumberFault) → numbered r ≡ float_of_text text → Answered text r
answered text r e = answered_at text (literal text) refl r e
