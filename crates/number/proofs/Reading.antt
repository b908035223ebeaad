-- Digits and whole numbers as text.
use Rattle.std.proofs.Common.{◌≡◌, ℕ, suc, ◌+◌, ◌-◌, ◌*◌, ◌^◌, ◌<◌, ◌≤◌, Bool, true, false, cond, not, ◌&&◌, ◌||◌, eqb, ltb, leb, List, [], ◌∷◌, ◌++◌, length, get_or, drop, ℤ, pos, negsuc, Some, None, decimal, Option, sym, refl, ap, ◌∙◌, inl, inr, true≢false, le_trans, le_refl, add-one, arith, drop-cons, rules}
use lib.Signed.{mag}
use Rattle.std.specs.Char.{is_ascii_digit}
use Rattle.std.specs.Option.{option_map, is_some, IfSome}
use Rattle.std.specs.Bool.{then_some}
use Rattle.std.specs.Str.{all_ascii_digits}
use Rattle.std.proofs.lemmas.Bool.{ltb-false, lt-ltb, le-ltb, leb-true, eqb-true, ne_eqb, cond-true, cond-false, cases_Bool, and_from, and_right, and_parts, and_cases, or_left, or_right, or_from}
use Rattle.std.proofs.lemmas.Str.Parse.{IsNumeralModel, numerals_by_fold, tells_all_ascii_digits, digits_value_short}
use Rattle.std.proofs.lemmas.Fmt.{decimal_nonempty, digits_decimal, digits_value-decimal}
use Rattle.number.specs.Forms.{signed_text, whole_text}
use Rattle.number.specs.Widths.{Wide, signed, has_sign, fits, if_fits, under_sign, narrow_whole}
use Rattle.number.proofs.Narrowing.{keeps}
use Rattle.number.specs.Numerals.{value_after, digits_after, numeral, digits_in, sign_of, after_sign, whole_of_text, Sign, bare, plus, minus, sign_bytes, is_minus, Writes}

-- digits go on from the number before them
pub value_append : (n : ℕ) (xs ys : List ℕ) → value_after n (xs ++ ys) ≡ value_after (value_after n xs) ys
value_append n [] ys = refl
value_append n (x ∷ xs) ys = value_append (n * 10 + (x - 48)) xs ys

-- more digits never make a number smaller
pub value_ge : (n : ℕ) (xs : List ℕ) → n ≤ value_after n xs
value_ge n [] = le_refl n
value_ge n (x ∷ xs) = le_trans (omega arith) (value_ge (n * 10 + (x - 48)) xs)

-- a number that is too large already
pub too_large : (n b : ℕ) (bs : List ℕ) → 2 ^ 64 ≤ n * 10 + (b - 48) → digits_after n (b ∷ bs) ≡ None
too_large n b bs h = cond-false _ _ _ (and_right _ _ (le-ltb _ _ (le_trans h (value_ge (n * 10 + (b - 48)) bs))))

-- the rest of a list begins with the element there
front : (ds : List ℕ) (i : ℕ) → i < length ds → drop i ds ≡ get_or ds i 0 ∷ drop (i + 1) ds
front ds i h = drop-cons ds i 0 h ∙ ap (λ (k : ℕ). get_or ds i 0 ∷ drop k ds) (sym (add-one i))

-- a loop over digits, where n is read and the rest from i on is left: the next digit makes too large a number
pub read_too_large : (n a i : ℕ) (ds : List ℕ) → i < length ds → digits_after n (drop i ds) ≡ digits_after a ds → 2 ^ 64 ≤ n * 10 + (get_or ds i 0 - 48) → None ≡ digits_after a ds
read_too_large n a i ds h whole l =
    sym (too_large n (get_or ds i 0) (drop (i + 1) ds) l) ∙ (ap (digits_after n) (sym (front ds i h)) ∙ whole)

-- what a test says that was passed
pub some_is : {A : Type 0} (b : Bool) (x y : A) → Some y ≡ cond b (Some x) None → (b ≡ true) × (x ≡ y)
some_is true x y e = (refl, cc)
some_is false x y e = let k : ◌≡◌ {A = ℕ} 0 1 = cc in let z : ⊥ = omega arith in absurd z

-- and one that was not passed
pub none_is : {A : Type 0} (b : Bool) (x : A) → None ≡ cond b (Some x) None → b ≡ false
none_is true x e = let k : ◌≡◌ {A = ℕ} 0 1 = cc in let z : ⊥ = omega arith in absurd z
none_is false x e = refl

-- digits that were read
pub read_value : (n m : ℕ) (ds : List ℕ) → Some m ≡ digits_after n ds → value_after n ds ≡ m
read_value n m ds e = (some_is (all_ascii_digits ds && ltb (value_after n ds) (2 ^ 64)) (value_after n ds) m e).1

-- digits that write a number of more than 64 bits
pub large_value : (n : ℕ) (ds : List ℕ) → all_ascii_digits ds ≡ true → None ≡ digits_after n ds → 2 ^ 64 ≤ value_after n ds
large_value n ds a e = elim (and_cases (all_ascii_digits ds) (ltb (value_after n ds) (2 ^ 64)) (none_is _ _ e)) [
  | inl b ↦ absurd (true≢false (sym a ∙ b))
  | inr l ↦ ltb-false _ _ l
]

-- what `then_some` gives, where each answer of the test agrees
pub told : {X Y : Type 0} (f : X → Y) (b : Bool) (x : X) (r : Option X) (o : Option Y) → r ≡ then_some b x → (b ≡ true → Some (f x) ≡ o) → (b ≡ false → None ≡ o) → option_map f r ≡ o
told f true x r o e t n = ap (option_map f) e ∙ t refl
told f false x r o e t n = ap (option_map f) e ∙ n refl

-- a number that is narrowed where its width has it is kept whole
pub narrowed : {X : Type 0} (number : X → ℤ) (r : Option X) (w : Wide) (z : ℤ) → is_some r ≡ fits w z → IfSome r (λ x. number x ≡ narrow_whole w z) → option_map number r ≡ if_fits w z
narrowed number None w z e s = sym (cond-false _ _ _ (sym e))
narrowed number (Some x) w z e s = ap Some (s ∙ keeps w z (sym e)) ∙ sym (cond-true _ _ _ (sym e))

-- every text is its sign and what follows that
pub sign_front : (text : List ℕ) → sign_bytes (sign_of text) ++ after_sign text ≡ text
sign_front [] = refl
sign_front (b ∷ bs) = elim (cases_Bool (eqb b 43)) [
  | inl p ↦
      ap (λ (s : Sign). sign_bytes s ++ after_sign (b ∷ bs)) (cond-true _ _ _ p)
      ∙ (λ i. sym (eqb-true b 43 p) i ∷ cond-true (eqb b 43 || eqb b 45) bs (b ∷ bs) (or_left _ _ p) i)
  | inr p ↦ elim (cases_Bool (eqb b 45)) [
    | inl m ↦
        ap (λ (s : Sign). sign_bytes s ++ after_sign (b ∷ bs)) (cond-false _ _ _ p ∙ cond-true (eqb b 45) minus bare m)
        ∙ (λ i. sym (eqb-true b 45 m) i ∷ cond-true (eqb b 43 || eqb b 45) bs (b ∷ bs) (or_right _ _ m) i)
    | inr m ↦
        ap (λ (s : Sign). sign_bytes s ++ after_sign (b ∷ bs)) (cond-false _ _ _ p ∙ cond-false (eqb b 45) minus bare m)
        ∙ cond-false (eqb b 43 || eqb b 45) bs (b ∷ bs) (or_from _ _ p m)
  ]
]

-- bytes that begin with no sign
abbrev pub Bare : List ℕ → Type 0
Bare bs = (sign_of bs ≡ bare) × (after_sign bs ≡ bs)

-- a sign before such bytes is the text's
pub of_sign : (s : Sign) (bs : List ℕ) → Bare bs → (sign_of (sign_bytes s ++ bs) ≡ s) × (after_sign (sign_bytes s ++ bs) ≡ bs)
of_sign bare bs h = h
of_sign plus bs h = (refl, refl)
of_sign minus bs h = (refl, refl)

-- a byte that is no sign
pub other_bare : (b : ℕ) (bs : List ℕ) → (b ≡ 43 → ⊥) → (b ≡ 45 → ⊥) → Bare (b ∷ bs)
other_bare b bs p m = (
  cond-false (eqb b 43) plus _ (ne_eqb b 43 p) ∙ cond-false (eqb b 45) minus bare (ne_eqb b 45 m),
  cond-false _ _ _ (or_from _ _ (ne_eqb b 43 p) (ne_eqb b 45 m)),
)

-- what begins with a digit begins with no sign
pub digit_bare : (b : ℕ) (bs : List ℕ) → is_ascii_digit b ≡ true → Bare (b ∷ bs)
digit_bare b bs e =
    let low : 48 ≤ b = leb-true _ _ (and_parts (leb 48 b) (leb b 57) e).0 in
    other_bare b bs (λ q. omega arith) (λ q. omega arith)

-- so does a numeral
pub numeral_bare : (ds : List ℕ) → numeral ds ≡ true → Bare ds
numeral_bare [] e = absurd (true≢false (sym e))
numeral_bare (d ∷ ds) e = digit_bare d ds (and_parts (is_ascii_digit d) (all_ascii_digits ds) e).0

-- a sign that is allowed is not refused
refused_by : (m h : Bool) → (not m || h) ≡ true → (m && not h) ≡ false
refused_by true true e = refl
refused_by true false e = absurd (true≢false (sym e))
refused_by false h e = refl

-- what a text writes is read from it
pub read : (w : Wide) (text : List ℕ) (z : ℤ) → Writes w text z → whole_of_text w text ≡ Some z
read w text z h =
    let s = h.sign in
    let ds = h.digits in
    let p = of_sign s ds (numeral_bare ds h.some) in
    let v = under_sign (is_minus s) (value_after 0 ds) in
    ap (whole_of_text w) h.whole
    ∙ (ap (λ (t : Sign). cond (is_minus t && not (has_sign w)) None (digits_in w (is_minus t) (after_sign (sign_bytes s ++ ds)))) p.0
    ∙ (cond-false _ None _ (refused_by (is_minus s) (has_sign w) h.allowed)
    ∙ (ap (digits_in w (is_minus s)) p.1
    ∙ (cond-true _ _ _ (and_from (numeral ds) (fits w v) h.some (ap (fits w) h.value ∙ h.room)) ∙ ap Some h.value))))

-- digits by themselves, as the shelf has them
own : IsNumeralModel (λ ds. all_ascii_digits ds ≡ true) (value_after 0)
own = numerals_by_fold _ tells_all_ascii_digits value_after (search rules)

-- a number of at most k digits
pub value_below : (ds : List ℕ) (k : ℕ) → all_ascii_digits ds ≡ true → length ds ≤ k → value_after 0 ds < 10 ^ k
value_below ds k a l = digits_value_short own ds k a l

-- a number in decimal is a numeral
numeral_decimal : (n : ℕ) → n < 2 ^ 64 → numeral (decimal n) ≡ true
numeral_decimal n h = some_digits (decimal n) (decimal_nonempty n h) (digits_decimal own n h)
  where
    some_digits : (ds : List ℕ) → 0 < length ds → all_ascii_digits ds ≡ true → numeral ds ≡ true
    some_digits [] l e = let z : ⊥ = omega arith in absurd z
    some_digits (d ∷ ds) l e = e

-- a number in decimal is read back
pub reads_back : (minus : Bool) (n : ℕ) → n < 2 ^ 64 → fits (signed 63) (under_sign minus n) ≡ true → whole_of_text (signed 63) (signed_text minus n) ≡ Some (under_sign minus n)
reads_back true n h f =
    read (signed 63) (45 ∷ decimal n) (under_sign true n)
    (record { sign = minus; digits = decimal n; whole = refl; some = numeral_decimal n h; allowed = refl; value = ap (under_sign true) (digits_value-decimal own n h); room = f })
reads_back false n h f =
    read (signed 63) (decimal n) (under_sign false n)
    (record { sign = bare; digits = decimal n; whole = refl; some = numeral_decimal n h; allowed = refl; value = ap (under_sign false) (digits_value-decimal own n h); room = f })

-- a whole number of 64 bits is read back
pub whole_back : (z : ℤ) → mag z < 2 ^ 63 → whole_of_text (signed 63) (whole_text z) ≡ Some z
whole_back (pos n) h = reads_back false n (omega arith) (lt-ltb n (2 ^ 63) h)
whole_back (negsuc n) h = reads_back true (suc n) (omega arith) (lt-ltb n (2 ^ 63) h)
