-- Number text taken apart, part by part.
use Rattle.std.proofs.Common.{◌≡◌, ℕ, suc, ◌+◌, Bool, true, false, not, cond, ◌&&◌, ◌||◌, eqb, List, [], ◌∷◌, ◌++◌, length, take, drop, Some, None, Option, sym, refl, ap, ◌∙◌, inl, inr, true≢false, append-nil, arith}
use Rattle.std.specs.Char.{is_ascii_digit}
use Rattle.std.specs.Str.{all_ascii_digits}
use Rattle.std.specs.List.{position, position_or_len}
use Rattle.std.specs.Option.{unwrap_or}
use Rattle.std.proofs.lemmas.List.{nil_from_length}
use Rattle.std.proofs.lemmas.List.Sums.{prefix_len-le-length}
use Rattle.std.proofs.lemmas.Bool.{lt-ltb, le-ltb, cases_lt, cond-true, cond-false, cases_Bool, and_from, and_parts}
use Rattle.number.specs.Numerals.{is_minus, sign_of, after_sign, numeral}
use Rattle.number.proofs.Reading.{some_is}
use Rattle.decimal.specs.Amount.{power_of}
use Rattle.decimal.specs.Grammar.{Exponent, absent, power, sound_exponent, front_digits, past_digits, exponent_of}

-- digits one after the other
pub all_append : (xs ys : List ℕ) → all_ascii_digits (xs ++ ys) ≡ (all_ascii_digits xs && all_ascii_digits ys)
all_append [] ys = refl
all_append (x ∷ xs) ys = elim (cases_Bool (is_ascii_digit x)) [
  | inl e ↦ ap (λ (b : Bool). b && all_ascii_digits (xs ++ ys)) e ∙ (all_append xs ys ∙ ap (λ (b : Bool). (b && all_ascii_digits xs) && all_ascii_digits ys) (sym e))
  | inr e ↦ ap (λ (b : Bool). b && all_ascii_digits (xs ++ ys)) e ∙ ap (λ (b : Bool). (b && all_ascii_digits xs) && all_ascii_digits ys) (sym e)
]

-- the digits in front, and what follows, are the bytes
pub front_past : (bs : List ℕ) → front_digits bs ++ past_digits bs ≡ bs
front_past [] = refl
front_past (b ∷ bs) = elim (cases_Bool (is_ascii_digit b)) [
  | inl e ↦ (λ i. cond-true (is_ascii_digit b) (b ∷ front_digits bs) [] e i ++ cond-true (is_ascii_digit b) (past_digits bs) (b ∷ bs) e i) ∙ ap (λ (l : List ℕ). b ∷ l) (front_past bs)
  | inr e ↦ (λ i. cond-false (is_ascii_digit b) (b ∷ front_digits bs) [] e i ++ cond-false (is_ascii_digit b) (past_digits bs) (b ∷ bs) e i)
]

-- they are digits
pub all_front : (bs : List ℕ) → all_ascii_digits (front_digits bs) ≡ true
all_front [] = refl
all_front (b ∷ bs) = elim (cases_Bool (is_ascii_digit b)) [
  | inl e ↦ ap all_ascii_digits (cond-true (is_ascii_digit b) (b ∷ front_digits bs) [] e) ∙ and_from _ _ e (all_front bs)
  | inr e ↦ ap all_ascii_digits (cond-false (is_ascii_digit b) (b ∷ front_digits bs) [] e)
]

-- digits before bytes that begin with none are the digits in front
pub front_is : (ds bs : List ℕ) → all_ascii_digits ds ≡ true → front_digits bs ≡ [] → front_digits (ds ++ bs) ≡ ds
front_is [] bs a n = n
front_is (d ∷ ds) bs a n =
    let p = and_parts (is_ascii_digit d) (all_ascii_digits ds) a in
    cond-true _ _ _ p.0 ∙ ap (λ (l : List ℕ). d ∷ l) (front_is ds bs p.1 n)

-- and what follows them is those bytes
pub past_is : (ds bs : List ℕ) → all_ascii_digits ds ≡ true → front_digits bs ≡ [] → past_digits (ds ++ bs) ≡ bs
past_is [] bs a n = sym (ap (λ (l : List ℕ). l ++ past_digits bs) n) ∙ front_past bs
past_is (d ∷ ds) bs a n =
    let p = and_parts (is_ascii_digit d) (all_ascii_digits ds) a in
    cond-true _ _ _ p.0 ∙ past_is ds bs p.1 n

-- where digits end
abbrev pub end : List ℕ → ℕ
end bs = position_or_len (λ b. not (is_ascii_digit b)) bs

-- the place of a first byte that is no digit, or the length where there is none
pub end_is : (bs : List ℕ) → unwrap_or (position (λ b. not (is_ascii_digit b)) bs) (length bs) ≡ end bs
end_is bs = elim (cases_lt (end bs) (length bs)) [
  | inl l ↦ ap (λ (o : Option ℕ). unwrap_or o (length bs)) (cond-true _ _ _ (lt-ltb _ _ l))
  | inr g ↦ ap (λ (o : Option ℕ). unwrap_or o (length bs)) (cond-false _ _ _ (le-ltb _ _ g)) ∙ omega (arith, prefix_len-le-length (λ b. not (not (is_ascii_digit b))) bs)
]

-- up to there stand the digits in front, and from there on what follows them
pub ends_at : (bs : List ℕ) → (take (end bs) bs ≡ front_digits bs) × (drop (end bs) bs ≡ past_digits bs)
ends_at [] = (refl, refl)
ends_at (b ∷ bs) =
    let p = ends_at bs in
    let more : 1 + end bs ≡ suc (end bs) = omega arith in
    elim (cases_Bool (is_ascii_digit b)) [
      | inl e ↦ (
        (λ i. take (cond (not (not (e i))) (more i) 0) (b ∷ bs)) ∙ (ap (λ (l : List ℕ). b ∷ l) p.0 ∙ sym (cond-true _ _ _ e)),
        (λ i. drop (cond (not (not (e i))) (more i) 0) (b ∷ bs)) ∙ (p.1 ∙ sym (cond-true _ _ _ e)),
      )
      | inr e ↦ (
        (λ i. take (cond (not (not (e i))) (1 + end bs) 0) (b ∷ bs)) ∙ sym (cond-false _ _ _ e),
        (λ i. drop (cond (not (not (e i))) (1 + end bs) 0) (b ∷ bs)) ∙ sym (cond-false _ _ _ e),
      )
    ]

-- a text of digits alone is its own front
pub ends_all : (bs : List ℕ) → all_ascii_digits bs ≡ true → (bs ≡ front_digits bs) × ([] ≡ past_digits bs)
ends_all bs a =
    (sym (front_is bs [] a refl) ∙ ap front_digits (append-nil bs), sym (past_is bs [] a refl) ∙ ap past_digits (append-nil bs))

-- bytes after which no digits are left are digits
pub past_none : (bs : List ℕ) → length (past_digits bs) ≡ 0 → front_digits bs ≡ bs
past_none bs e = sym (append-nil (front_digits bs)) ∙ (ap (λ (l : List ℕ). front_digits bs ++ l) (sym (nil_from_length (past_digits bs) e)) ∙ front_past bs)

-- some digits are a numeral
pub numeral_some : (ds : List ℕ) → (length ds ≡ 0 → ⊥) → all_ascii_digits ds ≡ true → numeral ds ≡ true
numeral_some [] n a = absurd (n refl)
numeral_some (d ∷ ds) n a = a

-- what a numeral is
pub some_numeral : (ds : List ℕ) → numeral ds ≡ true → (length ds ≡ 0 → ⊥) × (all_ascii_digits ds ≡ true)
some_numeral [] e = absurd (true≢false (sym e))
some_numeral (d ∷ ds) e = ((λ h. omega arith), e)

-- what has more than digits is no numeral
some_tail : (bs : List ℕ) → (length (past_digits bs) ≡ 0 → ⊥) → numeral bs ≡ false
some_tail bs h = elim (cases_Bool (numeral bs)) [
  | inl e ↦ absurd (h (sym (ap length (ends_all bs (some_numeral bs e).1).1)))
  | inr e ↦ e
]

-- what follows the letter of an exponent
module _ (bs rest ds : List ℕ) (r : rest ≡ after_sign bs) (d : ds ≡ front_digits rest) where
  -- more than digits,
  pub power_more : (tail : List ℕ) → tail ≡ past_digits rest → (length tail ≡ 0 → ⊥) → None ≡ power_of bs
  power_more tail t h = sym (cond-false _ _ _ (ap numeral (sym r) ∙ some_tail rest (λ e. h (ap length t ∙ e))))

  -- or digits
  pub power_found : (tail : List ℕ) (m : Bool) → m ≡ is_minus (sign_of bs) → tail ≡ past_digits rest → length tail ≡ 0 → (length ds ≡ 0 → ⊥) → Some (m, rest) ≡ power_of bs
  power_found tail m s t h n =
      let all : front_digits rest ≡ rest = past_none rest (sym (ap length t) ∙ h) in
      let a : numeral rest ≡ true = numeral_some rest (λ e. n (ap length (d ∙ all) ∙ e)) (sym (ap all_ascii_digits all) ∙ all_front rest) in
      (λ i. Some (s i, r i)) ∙ sym (cond-true _ _ _ (ap numeral (sym r) ∙ a))

-- an exponent that was found has digits
pub exponent_sound : (bs : List ℕ) (x : Exponent) → exponent_of bs ≡ Some x → sound_exponent x ≡ true
exponent_sound [] x e = ap sound_exponent (some_same (sym e)) where
  some_same : Some x ≡ Some absent → x ≡ absent
  some_same q = cc
exponent_sound (b ∷ bs) x e =
    let p = some_is ((eqb b 101 || eqb b 69) && numeral (after_sign bs)) (power (eqb b 69) (sign_of bs) (after_sign bs)) x (sym e) in
    sym (ap sound_exponent p.1) ∙ (and_parts (eqb b 101 || eqb b 69) (numeral (after_sign bs)) p.0).1
