-- The library's trimming, in the words of this crate.
use Rattle.std.proofs.Common.{◌≡◌, ℕ, ◌-◌, ◌<◌, Bool, true, false, ◌&&◌, cond, List, [], ◌∷◌, ◌++◌, reverse, length, IsUtf8, sym, refl, ap, ◌∙◌, subst, inl, inr, arith, eqb}
use mathlib.Core.List.{reverse-cons, reverse-append}
use lib.Utf8.{scalar, scalars, encodes}
use Rattle.std.specs.Char.{is_whitespace}
use Rattle.std.specs.Str.{chars, skip_leading_whitespace, drop_trailing_whitespace, trim_start, trim_end, trim as std_trim}
use Rattle.std.proofs.lemmas.Bool.{cases_Bool, cond-true, cond-false, and_parts}
use Rattle.std.proofs.Math.Bool.{and-true, and-false}
use Rattle.std.proofs.Math.Dec.{eqb-suc-zero}
use Rattle.std.proofs.lemmas.Bool.Decides.{nat_tests}
use Rattle.std.proofs.lemmas.Str.{chars-encodes, scalars-chars}
use Rattle.std.proofs.lemmas.List.{length-reverse}
use Rattle.text.specs.Encoding.{is_utf8}
use Rattle.text.specs.WhiteSpace.{white_space, blank}
use Rattle.text.specs.Trimming.{past_blanks, stripped, trimmed, trimmed_start, in_front}
use Rattle.text.proofs.Whole.{is_utf8_yes}

-- the library's white space is Unicode's property, and what is blank
pub white_space_is : (c : ℕ) → is_whitespace c ≡ white_space c
white_space_is c = grind (arith, nat_tests)

-- white space in front
skipped : (cs : List ℕ) → skip_leading_whitespace cs ≡ past_blanks cs
skipped [] = refl
skipped (c ∷ cs) = λ i. cond (white_space_is c i) (skipped cs i) (c ∷ cs)

-- one more character is passed over where it and all before it are blank
past_blanks_push : (cs : List ℕ) (c : ℕ) → past_blanks (cs ++ c ∷ []) ≡ cond (blank c && eqb (length (past_blanks cs)) 0) [] (past_blanks cs ++ c ∷ [])
past_blanks_push [] c = ap (λ (b : Bool). cond b [] (c ∷ [])) (sym (and-true (blank c)))
past_blanks_push (d ∷ ds) c = by (blank d) (past_blanks_push ds c)
  where
    by : (b : Bool) → past_blanks (ds ++ c ∷ []) ≡ cond (blank c && eqb (length (past_blanks ds)) 0) [] (past_blanks ds ++ c ∷ [])
        → cond b (past_blanks (ds ++ c ∷ [])) (d ∷ (ds ++ c ∷ [])) ≡ cond (blank c && eqb (length (cond b (past_blanks ds) (d ∷ ds))) 0) [] (cond b (past_blanks ds) (d ∷ ds) ++ c ∷ [])
    by true e = e
    by false e = sym (cond-false _ [] (d ∷ (ds ++ c ∷ [])) (ap (λ (t : Bool). blank c && t) (eqb-suc-zero (length ds)) ∙ and-false (blank c)))

-- white space at the end
dropped : (cs : List ℕ) → drop_trailing_whitespace cs ≡ reverse (past_blanks (reverse cs))
dropped [] = refl
dropped (c ∷ cs) =
    let front = past_blanks (reverse cs) in
    (λ i. cond (white_space_is c i && eqb (length (dropped cs i)) 0) [] (c ∷ dropped cs i))
    ∙ ap (λ (n : ℕ). cond (blank c && eqb n 0) [] (c ∷ reverse front)) (length-reverse front)
    ∙ by (blank c && eqb (length front) 0) front
    ∙ ap reverse (sym (past_blanks_push (reverse cs) c) ∙ ap past_blanks (sym (reverse-cons c cs)))
  where
    by : (b : Bool) (xs : List ℕ) → cond b [] (c ∷ reverse xs) ≡ reverse (cond b [] (xs ++ c ∷ []))
    by true xs = refl
    by false xs = sym (reverse-append xs (c ∷ []))

-- what is not passed over is characters still
scalars_past : (cs : List ℕ) → scalars cs ≡ true → scalars (past_blanks cs) ≡ true
scalars_past [] s = refl
scalars_past (c ∷ cs) s =
    elim (cases_Bool (blank c)) [
      | inl e ↦ subst (λ (l : List ℕ). scalars l ≡ true) (sym (cond-true (blank c) (past_blanks cs) (c ∷ cs) e)) (scalars_past cs (and_parts (scalar c) (scalars cs) s).1)
      | inr e ↦ subst (λ (l : List ℕ). scalars l ≡ true) (sym (cond-false (blank c) (past_blanks cs) (c ∷ cs) e)) s
    ]

module _ (bs text : List ℕ) (u : IsUtf8 bs) (is : text ≡ bs) where
  -- the text from its first character on that is not blank
  front_is : trim_start text ≡ encodes (past_blanks (chars bs))
  unfolding trim_start
  front_is = ap (λ (l : List ℕ). encodes (skip_leading_whitespace (chars l))) is ∙ ap encodes (skipped (chars bs))

  -- where that begins, unless it is empty
  pub start_is : (first : List ℕ) → first ≡ trim_start text → 0 < length first → length text - length first ≡ trimmed_start bs
  unfolding trimmed_start
  start_is first e some =
      let cs = past_blanks (chars bs) in
      by cs (cond-true (is_utf8 bs) (in_front (length bs) cs) 0 (is_utf8_yes bs u)) (e ∙ front_is)
    where
      by : (xs : List ℕ) → trimmed_start bs ≡ in_front (length bs) xs → first ≡ encodes xs → length text - length first ≡ trimmed_start bs
      by [] c q = absurd (omega (arith, ap length q))
      by (x ∷ xs) c q = omega (arith, c, ap length q, ap length is)

  -- the text without the blank characters at both ends
  pub trimmed_is : std_trim text ≡ trimmed bs
  unfolding trim_end trimmed
  trimmed_is =
      let front = past_blanks (chars bs) in
      ap (λ (l : List ℕ). encodes (drop_trailing_whitespace (chars l))) front_is
      ∙ ap (λ (l : List ℕ). encodes (drop_trailing_whitespace l)) (chars-encodes front (scalars_past (chars bs) (scalars-chars bs u)))
      ∙ ap encodes (dropped front)
      ∙ sym (cond-true _ (encodes (stripped (chars bs))) bs (is_utf8_yes bs u))
