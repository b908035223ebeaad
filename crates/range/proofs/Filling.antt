-- A store's front filled entry by entry.
use Rattle.std.proofs.Common.{◌≡◌, ℕ, ◌+◌, ◌<◌, List, [], ◌∷◌, ◌++◌, map, length, take, set, sym, ap, ◌∙◌, arith}
use Rattle.std.specs.List.{range_with_len}
use Rattle.std.proofs.lemmas.List.{take_more_set}
use Rattle.std.proofs.lemmas.List.FromFn.{map-range_with_len_more}

-- one entry more
pub fill_more : {C : Type 0} (entry : ℕ → C) (store : List C) (at : ℕ) (x : C) → at < length store → x ≡ entry at → take at store ≡ map entry (range_with_len 0 at) → take (at + 1) (set store at x) ≡ map entry (range_with_len 0 (at + 1))
fill_more entry store at x inside is front =
    take_more_set store at x inside
    ∙ ap (λ y. take at store ++ (y ∷ [])) is
    ∙ ap (λ l. l ++ (entry at ∷ [])) front
    ∙ sym (map-range_with_len_more entry 0 at at (omega arith))
