-- Where in the bytes lies what trimming leaves: `trimmed_start` and the length of `trimmed` against the relation `Leaves`.
use Rattle.std.proofs.Common.{◌≡◌, ℕ, ◌+◌, ◌≤◌, true, List, [], ◌∷◌, ◌++◌, length, take, drop, IsUtf8, sym, refl, ap, ◌∙◌, subst, inl, inr, arith, length-append, length-drop}
use lib.Utf8.{encodes}
use Rattle.std.proofs.ByRecursion.{All-append}
use Rattle.std.proofs.lemmas.List.{drop_at, take_at, take_all, length-take-le, nil_from_length, take-append-drop, drop-drop}
use Rattle.std.proofs.lemmas.Bool.{cases_lt}
use Rattle.std.proofs.lemmas.Str.{length-le-encodes}
use Rattle.text.specs.Trimming.{trimmed, trimmed_start, Trims, Leaves}
use Rattle.text.specs.WhiteSpace.{blank}
use Rattle.text.proofs.Whole.{utf8_cases}
use Rattle.text.proofs.TrimLaws.{Parted, scalars_parts, encodes_three, utf8_parted, parted_trims, parted_trimmed, parted_start, trimmed_start_other, trimmed_other, between_parted, trims_only}

-- ---- the functions meet the relation

-- no bytes, no characters
no_bytes_none : (cs : List ℕ) → length (encodes cs) ≡ 0 → length cs ≡ 0
no_bytes_none cs h = omega (arith, length-le-encodes cs)

-- parted bytes, where nothing stands in front if nothing is left: the part in the middle
parted_leaves : (bs fs ms gs : List ℕ) → Parted bs fs ms gs → (length ms ≡ 0 → length fs ≡ 0) → Leaves bs (length (encodes fs)) (length (encodes ms))
parted_leaves bs fs ms gs p nothing =
    let F = encodes fs in
    let R = encodes ms in
    let G = encodes gs in
    let whole : bs ≡ F ++ (R ++ G) = sym p.is ∙ encodes_three fs ms gs in
    let s = scalars_parts fs (ms ++ gs) p.all in
    let t = scalars_parts ms gs s.1 in
    let rest : drop (length F) bs ≡ R ++ G = ap (drop (length F)) whole ∙ drop_at F (R ++ G) (length F) refl in
    let mid : take (length R) (drop (length F) bs) ≡ R = ap (take (length R)) rest ∙ take_at R G (length R) refl in
    let tail : drop (length F + length R) bs ≡ G = sym (drop-drop (length R) (length F) bs) ∙ ap (drop (length R)) rest ∙ drop_at R G (length R) refl in
    record {
      inside = omega (arith, ap length whole, length-append F (R ++ G), length-append R G);
      part = subst (Trims bs) (sym mid) (parted_trims bs fs ms gs p);
      before = λ _. (fs, s.0, sym (ap (take (length F)) whole ∙ take_at F (R ++ G) (length F) refl), p.front);
      after = λ _. (gs, t.1, sym tail, p.back);
      nothing = λ z. ap (λ (l : List ℕ). length (encodes l)) (nil_from_length fs (nothing (no_bytes_none ms z)));
    }

-- the same with the functions' start and length; where all is blank, all of it counts as behind
leaves_parted : (bs fs ms gs : List ℕ) → Parted bs fs ms gs → Leaves bs (trimmed_start bs) (length (trimmed bs))
leaves_parted bs fs ms gs p =
    subst (λ (n : ℕ). Leaves bs (trimmed_start bs) n) (ap length (sym (parted_trimmed bs fs ms gs p))) (by_middle ms p)
  where
    by_middle : (xs : List ℕ) → Parted bs fs xs gs → Leaves bs (trimmed_start bs) (length (encodes xs))
    by_middle [] q =
        let behind : Parted bs [] [] (fs ++ gs) = record { all = q.all; is = q.is; front = tt; back = All-append (λ c. blank c ≡ true) fs gs q.front q.back; begins = tt; ends = tt } in
        subst (λ (n : ℕ). Leaves bs n 0) (sym ((parted_start bs fs [] gs q).0 refl)) (parted_leaves bs [] [] (fs ++ gs) behind (λ _. refl))
    by_middle (x ∷ xs) q =
        subst (λ (n : ℕ). Leaves bs n (length (encodes (x ∷ xs)))) (sym ((parted_start bs fs (x ∷ xs) gs q).1 (omega arith))) (parted_leaves bs fs (x ∷ xs) gs q (λ h. absurd (omega arith)))

-- bytes that are not UTF-8 stay as they are
leaves_other : (bs : List ℕ) → (IsUtf8 bs → ⊥) → Leaves bs 0 (length bs)
leaves_other bs n =
    record {
      inside = omega arith;
      part = record { text = λ u. absurd (n u); other = λ _. take_all (length bs) bs (omega arith) };
      before = λ u. absurd (n u);
      after = λ u. absurd (n u);
      nothing = λ _. refl;
    }

leaves_trimmed : (bs : List ℕ) → Leaves bs (trimmed_start bs) (length (trimmed bs))
leaves_trimmed bs =
    elim (utf8_cases bs) [
      | inl u ↦ let p = utf8_parted bs u in leaves_parted bs p.0 p.1 p.2 p.3
      | inr n ↦ subst (λ (k : ℕ). Leaves bs k (length (trimmed bs))) (sym (trimmed_start_other bs n)) (subst (λ (k : ℕ). Leaves bs 0 k) (ap length (sym (trimmed_other bs n))) (leaves_other bs n))
    ]

-- where nothing is left, that is at 0
pub nothing_left : (bs : List ℕ) → length (trimmed bs) ≡ 0 → trimmed_start bs ≡ 0
nothing_left bs h = (leaves_trimmed bs).nothing h

-- ---- and nothing else does

-- the part that trimming leaves is the function's, so there is only one
leaves_is : (bs : List ℕ) (start len : ℕ) → Leaves bs start len → (start ≡ trimmed_start bs) × (len ≡ length (trimmed bs)) × (take len (drop start bs) ≡ trimmed bs)
leaves_is bs start len v =
    let e = trims_only bs (take len (drop start bs)) v.part in
    let l : length (take len (drop start bs)) ≡ len = length-take-le len (drop start bs) (omega (arith, v.inside, length-drop start bs)) in
    (starts_at e l, sym l ∙ ap length e, e)
  where
    starts_at : take len (drop start bs) ≡ trimmed bs → length (take len (drop start bs)) ≡ len → start ≡ trimmed_start bs
    starts_at e l =
        elim (utf8_cases bs) [
          | inl u ↦
              let x = take len (drop start bs) in
              let whole : bs ≡ take start bs ++ (x ++ drop (start + len) bs) =
              sym (take-append-drop start bs) ∙ ap (λ (r : List ℕ). take start bs ++ r) (sym (take-append-drop len (drop start bs)) ∙ ap (λ (r : List ℕ). x ++ r) (drop-drop len start bs)) in
              let F = v.before u in
              let G = v.after u in
              let b = v.part.text u in
              let R = b.4 in
              let p = parted_start bs F.0 R.0 G.0 (between_parted bs (take start bs) x (drop (start + len) bs) whole F R G b.6) in
              elim (cases_lt 0 (length R.0)) [
                | inl some ↦ sym (p.1 some ∙ ap length F.2 ∙ length-take-le start bs (omega (arith, v.inside)))
                | inr less ↦
                    let none : length R.0 ≡ 0 = omega arith in
                    v.nothing (sym l ∙ ap length (sym R.1.1) ∙ ap (λ (r : List ℕ). length (encodes r)) (nil_from_length R.0 none)) ∙ sym (p.0 none)
              ]
          | inr n ↦ omega (arith, trimmed_start_other bs n, v.inside, ap length (v.part.other n))
        ]

-- a part that starts and ends where the functions say: it lies inside, is what trimming leaves, and the only such part
pub part_is : (bs : List ℕ) (start len : ℕ) → start ≡ trimmed_start bs → len ≡ length (trimmed bs)
    → (start + len ≤ length bs) × (take len (drop start bs) ≡ trimmed bs) × Leaves bs start len × ((s n : ℕ) → Leaves bs s n → (s ≡ start) × (n ≡ len))
part_is bs start len e f =
    let v : Leaves bs start len = subst (λ (k : ℕ). Leaves bs k len) (sym e) (subst (λ (k : ℕ). Leaves bs (trimmed_start bs) k) (sym f) (leaves_trimmed bs)) in
    (v.inside, (leaves_is bs start len v).2, v, λ s n w. let i = leaves_is bs s n w in (i.0 ∙ sym e, i.1 ∙ sym f))
