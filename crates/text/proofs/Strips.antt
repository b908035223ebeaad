-- Characters without the blank ones at both ends.
use Rattle.std.proofs.Common.{◌≡◌, ℕ, true, false, List, [], ◌∷◌, ◌++◌, reverse, sym, refl, ap, ◌∙◌, subst, inl, inr, append-nil}
use mathlib.Core.List.{reverse-cons, reverse-append, reverse-reverse}
use Rattle.std.specs.List.{AllByRecursion}
use Rattle.std.proofs.ByRecursion.{All-push}
use Rattle.std.proofs.lemmas.Bool.{cases_Bool, cond-true, cond-false}
use Rattle.text.specs.WhiteSpace.{blank}
use Rattle.text.specs.Trimming.{past_blanks, stripped}

-- every character is blank
abbrev pub AllBlank : List ℕ → Type 0
AllBlank cs = AllByRecursion (λ c. blank c ≡ true) cs

-- the first character, if there is one, is not blank
abbrev pub NoBlankFirst : List ℕ → Type 0
NoBlankFirst [] = Unit {0}
NoBlankFirst (c ∷ cs) = blank c ≡ false

-- blank from behind as from the front
pub all_blank_reverse : (cs : List ℕ) → AllBlank cs → AllBlank (reverse cs)
all_blank_reverse [] h = tt
all_blank_reverse (c ∷ cs) h = subst AllBlank (sym (reverse-cons c cs)) (All-push (λ d. blank d ≡ true) (reverse cs) c (all_blank_reverse cs h.1) h.0)

-- a front of a list begins as the list does
pub no_blank_first_front : (xs ys : List ℕ) → NoBlankFirst (xs ++ ys) → NoBlankFirst xs
no_blank_first_front [] ys h = tt
no_blank_first_front (x ∷ xs) ys h = h

-- blank characters in front are passed over
pub past_blanks_join : (fs cs : List ℕ) → AllBlank fs → past_blanks (fs ++ cs) ≡ past_blanks cs
past_blanks_join [] cs h = refl
past_blanks_join (f ∷ fs) cs h = cond-true (blank f) (past_blanks (fs ++ cs)) (f ∷ fs ++ cs) h.0 ∙ past_blanks_join fs cs h.1

-- of blank characters alone nothing is left
pub past_blanks_none : (fs : List ℕ) → AllBlank fs → past_blanks fs ≡ []
past_blanks_none fs h = ap past_blanks (sym (append-nil fs)) ∙ past_blanks_join fs [] h

-- where the first is not blank, all stay
pub past_blanks_same : (cs : List ℕ) → NoBlankFirst cs → past_blanks cs ≡ cs
past_blanks_same [] h = refl
past_blanks_same (c ∷ cs) h = cond-false (blank c) (past_blanks cs) (c ∷ cs) h

-- blank characters, then others that neither begin nor end with one, then blank characters: those others are left
pub stripped_is : (fs ms gs : List ℕ) → AllBlank fs → AllBlank gs → NoBlankFirst ms → NoBlankFirst (reverse ms) → stripped (fs ++ (ms ++ gs)) ≡ ms
stripped_is fs [] gs F G d e = ap (λ (l : List ℕ). reverse (past_blanks (reverse l))) (past_blanks_join fs gs F ∙ past_blanks_none gs G)
stripped_is fs (m ∷ ms) gs F G d e =
    ap (λ (l : List ℕ). reverse (past_blanks (reverse l))) (past_blanks_join fs ((m ∷ ms) ++ gs) F ∙ past_blanks_same ((m ∷ ms) ++ gs) d)
    ∙ ap (λ (l : List ℕ). reverse (past_blanks l)) (reverse-append (m ∷ ms) gs)
    ∙ ap reverse (past_blanks_join (reverse gs) (reverse (m ∷ ms)) (all_blank_reverse gs G) ∙ past_blanks_same (reverse (m ∷ ms)) e)
    ∙ reverse-reverse (m ∷ ms)

-- what stands in front of the first character that is not blank
front_split : (cs : List ℕ) → (fs : List ℕ) × (cs ≡ fs ++ past_blanks cs) × AllBlank fs × NoBlankFirst (past_blanks cs)
front_split [] = ([], refl, tt, tt)
front_split (c ∷ cs) =
    elim (cases_Bool (blank c)) [
      | inl e ↦
          let r = front_split cs in
          let q = cond-true (blank c) (past_blanks cs) (c ∷ cs) e in
          (c ∷ r.0, ap (λ (l : List ℕ). c ∷ l) r.1 ∙ ap (λ (l : List ℕ). c ∷ r.0 ++ l) (sym q), (e, r.2), subst NoBlankFirst (sym q) r.3)
      | inr e ↦ let q = cond-false (blank c) (past_blanks cs) (c ∷ cs) e in ([], sym q, tt, subst NoBlankFirst (sym q) e)
    ]

-- characters are blank ones, then what is left, then blank ones
pub split : (cs : List ℕ) → (fs : List ℕ) × (gs : List ℕ) × (cs ≡ fs ++ (stripped cs ++ gs)) × AllBlank fs × AllBlank gs × NoBlankFirst (stripped cs) × NoBlankFirst (reverse (stripped cs))
split cs =
    let f = front_split cs in
    let d = past_blanks cs in
    let b = front_split (reverse d) in
    let e = past_blanks (reverse d) in
    let whole : d ≡ stripped cs ++ reverse b.0 = sym (reverse-reverse d) ∙ ap reverse b.1 ∙ reverse-append b.0 e in (
      f.0,
      reverse b.0,
      f.1 ∙ ap (λ (l : List ℕ). f.0 ++ l) whole,
      f.2,
      all_blank_reverse b.0 b.2,
      no_blank_first_front (stripped cs) (reverse b.0) (subst NoBlankFirst whole f.3),
      subst NoBlankFirst (sym (reverse-reverse e)) b.3,
    )
