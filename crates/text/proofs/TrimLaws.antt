-- What trimming leaves of bytes: the function `trimmed` against the relation `Trims`, and the part that it lies in.
use Rattle.std.proofs.Common.{◌≡◌, ℕ, ◌+◌, ◌-◌, ◌<◌, ◌≤◌, true, false, List, [], ◌∷◌, ◌++◌, reverse, length, take, codes, IsUtf8, sym, refl, ap, ◌∙◌, subst, inl, inr, append-nil, arith, length-append}
use mathlib.Core.List.{reverse-cons, reverse-append, reverse-reverse}
use lib.Utf8.{scalar, scalars, encode, encodes}
use Rattle.std.specs.Str.{chars}
use Rattle.std.proofs.lemmas.List.{take_at}
use Rattle.std.proofs.lemmas.Bool.{cases_Bool, cond-true, cond-false, and_parts, and_from, both_ways}
use Rattle.std.proofs.lemmas.Str.{encodes-append, encodes_same, cons_from_encodes, IsCharBoundary-at_seam, IsUtf8-take, IsUtf8-encode, chars_from_encodes}
use Rattle.text.specs.Encoding.{is_utf8}
use Rattle.text.specs.WhiteSpace.{blank}
use Rattle.text.specs.Trimming.{past_blanks, stripped, trimmed, trimmed_start, in_front, Blanks, Bare, Trims}
use Rattle.text.proofs.Strips.{AllBlank, NoBlankFirst, past_blanks_join, past_blanks_none, past_blanks_same, stripped_is, split}
use Rattle.text.proofs.Whole.{is_utf8_yes, is_utf8_no, utf8_cases}

-- ---- lists of characters and their bytes

-- scalar values, one list after another
pub scalars_join : (xs ys : List ℕ) → scalars xs ≡ true → scalars ys ≡ true → scalars (xs ++ ys) ≡ true
scalars_join [] ys p q = q
scalars_join (x ∷ xs) ys p q = let h = and_parts (scalar x) (scalars xs) p in and_from (scalar x) (scalars (xs ++ ys)) h.0 (scalars_join xs ys h.1 q)

pub scalars_parts : (xs ys : List ℕ) → scalars (xs ++ ys) ≡ true → (scalars xs ≡ true) × (scalars ys ≡ true)
scalars_parts [] ys p = (refl, p)
scalars_parts (x ∷ xs) ys p =
    let h = and_parts (scalar x) (scalars (xs ++ ys)) p in
    let r = scalars_parts xs ys h.1 in
    (and_from (scalar x) (scalars xs) h.0 r.0, r.1)

-- the bytes of three lists of characters
pub encodes_three : (fs ms gs : List ℕ) → encodes (fs ++ (ms ++ gs)) ≡ encodes fs ++ (encodes ms ++ encodes gs)
encodes_three fs ms gs = encodes-append fs (ms ++ gs) ∙ ap (λ (l : List ℕ). encodes fs ++ l) (encodes-append ms gs)

-- the bytes of characters, and one more
pub encodes_push : (cs : List ℕ) (c : ℕ) → encodes (cs ++ c ∷ []) ≡ encodes cs ++ encode c
encodes_push cs c = encodes-append cs (c ∷ []) ∙ ap (λ (l : List ℕ). encodes cs ++ l) (append-nil (encode c))

-- ---- neither begins nor ends with a blank character: bytes and characters

-- a character that is not found to be blank is not
not_blank : (c : ℕ) → (blank c ≡ true → ⊥) → blank c ≡ false
not_blank c n = elim (cases_Bool (blank c)) [ inl e ↦ absurd (n e) | inr e ↦ e ]

-- bytes that no blank character begins: the first of their characters is not blank
begins_no_blank : (rs : List ℕ) → scalars rs ≡ true → Bare (encodes rs) → NoBlankFirst rs
begins_no_blank [] s b = tt
begins_no_blank (c ∷ cs) s b = not_blank c (λ e. (b c (encodes cs) (and_parts (scalar c) (scalars cs) s).0 e).0 refl)

-- bytes that no blank character ends: the last of their characters is not blank
ends_no_blank : (xs rs : List ℕ) → rs ≡ reverse xs → scalars rs ≡ true → Bare (encodes rs) → NoBlankFirst xs
ends_no_blank [] rs q s b = tt
ends_no_blank (x ∷ xs) rs q s b =
    let w : rs ≡ reverse xs ++ x ∷ [] = q ∙ reverse-cons x xs in
    let sx = (scalars_parts (reverse xs) (x ∷ []) (subst (λ (l : List ℕ). scalars l ≡ true) w s)).1 in
    not_blank x (λ e. (b x (encodes (reverse xs)) (and_parts (scalar x) true sx).0 e).1 (ap encodes w ∙ encodes_push (reverse xs) x))

-- bytes that neither begin nor end with a blank character, in characters ..
pub bare_characters : (rs : List ℕ) → scalars rs ≡ true → Bare (encodes rs) → NoBlankFirst rs × NoBlankFirst (reverse rs)
bare_characters rs s b = (begins_no_blank rs s b, ends_no_blank (reverse rs) rs (sym (reverse-reverse rs)) s b)

-- a list that begins with c: where its first is not blank, c is not
not_first : (c : ℕ) (cs rs : List ℕ) → rs ≡ c ∷ cs → NoBlankFirst rs → blank c ≡ true → ⊥
not_first c cs rs q d e = both_ways (blank c) (subst NoBlankFirst q d) e

-- .. and back
pub characters_bare : (rs : List ℕ) → scalars rs ≡ true → NoBlankFirst rs → NoBlankFirst (reverse rs) → Bare (encodes rs)
characters_bare rs s d e c rest sc bl = (
  (λ q. let r = cons_from_encodes rs rest c q in not_first c r.0 rs r.1 d bl),
  (λ q.
      let u : IsUtf8 (encodes rs) = (rs, (s, refl)) in
      let k = IsCharBoundary-at_seam (encodes rs) rest (encode c) q (IsUtf8-encode c sc) in
      let t : IsUtf8 rest = subst IsUtf8 (ap (take (length rest)) q ∙ take_at rest (encode c) (length rest) refl) (IsUtf8-take (encodes rs) (length rest) u k) in
      let w : rs ≡ t.0 ++ c ∷ [] = encodes_same rs (t.0 ++ c ∷ []) (q ∙ ap (λ (l : List ℕ). l ++ encode c) (sym t.1.1) ∙ sym (encodes_push t.0 c)) in
      not_first c (reverse t.0) (reverse rs) (ap reverse w ∙ reverse-append t.0 (c ∷ [])) e bl),
)

-- ---- the function and the relation

-- three lists of characters as the relation has them
pub record Parted (bs fs ms gs : List ℕ) : Type 0 where
  pub all : scalars (fs ++ (ms ++ gs)) ≡ true
  pub is : encodes (fs ++ (ms ++ gs)) ≡ bs
  pub front : AllBlank fs
  pub back : AllBlank gs
  pub begins : NoBlankFirst ms
  pub ends : NoBlankFirst (reverse ms)

-- together they are a text
pub parted_utf8 : (bs fs ms gs : List ℕ) → Parted bs fs ms gs → IsUtf8 bs
parted_utf8 bs fs ms gs p = (fs ++ (ms ++ gs), (p.all, p.is))

-- the middle one is what trimming leaves
pub parted_trims : (bs fs ms gs : List ℕ) → Parted bs fs ms gs → Trims bs (encodes ms)
parted_trims bs fs ms gs p =
    let s = scalars_parts fs (ms ++ gs) p.all in
    let t = scalars_parts ms gs s.1 in
    record {
      text = λ _. (encodes fs, encodes gs, sym p.is ∙ encodes_three fs ms gs, (fs, s.0, refl, p.front), (ms, (t.0, refl)), (gs, t.1, refl, p.back), characters_bare ms t.0 p.begins p.ends);
      other = λ n. absurd (n (parted_utf8 bs fs ms gs p));
    }

-- the function gives the middle one
pub parted_trimmed : (bs fs ms gs : List ℕ) → Parted bs fs ms gs → trimmed bs ≡ encodes ms
unfolding trimmed
parted_trimmed bs fs ms gs p =
    let u = parted_utf8 bs fs ms gs p in
    cond-true (is_utf8 bs) (encodes (stripped (chars bs))) bs (is_utf8_yes bs u)
    ∙ ap (λ (l : List ℕ). encodes (stripped l)) (sym (chars_from_encodes (fs ++ (ms ++ gs)) bs u p.is))
    ∙ ap encodes (stripped_is fs ms gs p.front p.back p.begins p.ends)

-- bytes as the relation has them, in characters
pub between_parted : (bs front r back : List ℕ) → bs ≡ front ++ (r ++ back) → (F : Blanks front) → (R : IsUtf8 r) → (G : Blanks back) → Bare r → Parted bs F.0 R.0 G.0
between_parted bs front r back q F R G b =
    let d = bare_characters R.0 R.1.0 (subst Bare (sym R.1.1) b) in
    record {
      all = scalars_join F.0 (R.0 ++ G.0) F.1 (scalars_join R.0 G.0 R.1.0 G.1);
      is = encodes_three F.0 R.0 G.0 ∙ (λ i. F.2 i ++ (R.1.1 i ++ G.2 i)) ∙ sym q;
      front = F.3;
      back = G.3;
      begins = d.0;
      ends = d.1;
    }

-- UTF-8 bytes, parted at what is left of their characters
pub utf8_parted : (bs : List ℕ) → IsUtf8 bs → (fs : List ℕ) × (ms : List ℕ) × (gs : List ℕ) × Parted bs fs ms gs
utf8_parted bs u =
    let cs = u.0 in
    let s = split cs in (
      s.0,
      stripped cs,
      s.1,
      record {
        all = subst (λ (l : List ℕ). scalars l ≡ true) s.2 u.1.0;
        is = ap encodes (sym s.2) ∙ u.1.1;
        front = s.3;
        back = s.4;
        begins = s.5;
        ends = s.6;
      },
    )

-- bytes that are not UTF-8 stay
pub trimmed_other : (bs : List ℕ) → (IsUtf8 bs → ⊥) → trimmed bs ≡ bs
unfolding trimmed
trimmed_other bs n = cond-false (is_utf8 bs) (encodes (stripped (chars bs))) bs (is_utf8_no bs n)

-- trimming leaves what `trimmed` says ..
pub trimmed_trims : (bs : List ℕ) → Trims bs (trimmed bs)
trimmed_trims bs =
    elim (utf8_cases bs) [
      | inl u ↦ let p = utf8_parted bs u in subst (Trims bs) (sym (parted_trimmed bs p.0 p.1 p.2 p.3)) (parted_trims bs p.0 p.1 p.2 p.3)
      | inr n ↦ record { text = λ u. absurd (n u); other = λ _. trimmed_other bs n }
    ]

-- .. and nothing else
pub trims_only : (bs x : List ℕ) → Trims bs x → x ≡ trimmed bs
trims_only bs x t =
    elim (utf8_cases bs) [
      | inl u ↦
          let b = t.text u in
          let p = between_parted bs b.0 x b.1 b.2 b.3 b.4 b.5 b.6 in
          sym (parted_trimmed bs b.3.0 b.4.0 b.5.0 p ∙ b.4.1.1)
      | inr n ↦ t.other n ∙ sym (trimmed_other bs n)
    ]

-- ---- laws for callers

-- of a text a text is left
pub trimmed_utf8 : (bs : List ℕ) → IsUtf8 bs → IsUtf8 (trimmed bs)
trimmed_utf8 bs u = ((trimmed_trims bs).text u).4

-- trimming adds nothing
pub trimmed_length : (bs : List ℕ) → length (trimmed bs) ≤ length bs
trimmed_length bs =
    elim (utf8_cases bs) [
      | inl u ↦ let b = (trimmed_trims bs).text u in omega (arith, ap length b.2, length-append b.0 (trimmed bs ++ b.1), length-append (trimmed bs) b.1)
      | inr n ↦ omega (arith, ap length (trimmed_other bs n))
    ]

-- a text that neither begins nor ends with a blank character stays
pub trimmed_bare : (bs : List ℕ) → IsUtf8 bs → Bare bs → trimmed bs ≡ bs
trimmed_bare bs u b = sym (trims_only bs bs (record { text = λ _. ([], [], sym (append-nil bs), ([], refl, refl, tt), u, ([], refl, refl, tt), b); other = λ _. refl }))

-- what is trimmed is not trimmed again
pub trimmed_trimmed : (bs : List ℕ) → trimmed (trimmed bs) ≡ trimmed bs
trimmed_trimmed bs =
    elim (utf8_cases bs) [
      | inl u ↦ let b = (trimmed_trims bs).text u in trimmed_bare (trimmed bs) b.4 b.6
      | inr n ↦ ap trimmed (trimmed_other bs n)
    ]

-- a text whose bytes are known is trimmed by computing
pub trimmed_ra : trimmed (codes " RA ") ≡ codes "RA"
unfolding trimmed is_utf8 chars encode
trimmed_ra = refl

-- ---- where what is left lies

-- bytes that are not UTF-8 stay from their start on
pub trimmed_start_other : (bs : List ℕ) → (IsUtf8 bs → ⊥) → trimmed_start bs ≡ 0
unfolding trimmed_start
trimmed_start_other bs n = cond-false (is_utf8 bs) (in_front (length bs) (past_blanks (chars bs))) 0 (is_utf8_no bs n)

-- characters in front of the first that is not blank, in bytes
pub parted_start : (bs fs ms gs : List ℕ) → Parted bs fs ms gs → (length ms ≡ 0 → trimmed_start bs ≡ 0) × (0 < length ms → trimmed_start bs ≡ length (encodes fs))
unfolding trimmed_start
parted_start bs fs ms gs p =
    let u = parted_utf8 bs fs ms gs p in
    let e : trimmed_start bs ≡ in_front (length bs) (past_blanks (ms ++ gs)) =
    cond-true (is_utf8 bs) (in_front (length bs) (past_blanks (chars bs))) 0 (is_utf8_yes bs u)
    ∙ ap (λ (l : List ℕ). in_front (length bs) (past_blanks l)) (sym (chars_from_encodes (fs ++ (ms ++ gs)) bs u p.is))
    ∙ ap (in_front (length bs)) (past_blanks_join fs (ms ++ gs) p.front) in
    by_middle ms e p.begins p.is
  where
    by_middle : (xs : List ℕ) → trimmed_start bs ≡ in_front (length bs) (past_blanks (xs ++ gs)) → NoBlankFirst xs → encodes (fs ++ (xs ++ gs)) ≡ bs → (length xs ≡ 0 → trimmed_start bs ≡ 0) × (0 < length xs → trimmed_start bs ≡ length (encodes fs))
    by_middle [] e d q = (λ _. e ∙ ap (in_front (length bs)) (past_blanks_none gs p.back), λ h. absurd (omega arith))
    by_middle (x ∷ xs) e d q =
        let all : length bs ≡ length (encodes fs) + length (encodes (x ∷ xs ++ gs)) = ap length (sym q ∙ encodes-append fs (x ∷ xs ++ gs)) ∙ length-append (encodes fs) (encodes (x ∷ xs ++ gs)) in
        let f : trimmed_start bs ≡ length bs - length (encodes (x ∷ xs ++ gs)) = e ∙ ap (in_front (length bs)) (past_blanks_same (x ∷ xs ++ gs) d) in
        (λ h. absurd (omega arith), λ _. omega (arith, all, f))
