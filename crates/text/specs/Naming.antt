-- Names that lie one after another in one text: a list of ends, each name from the end before it (the first from 0) to its own.
use Rattle.std.specs.Prelude.{ℕ, ◌<◌, ◌≤◌, Bool, true, ◌&&◌, List, [], ◌∷◌, length, IsUtf8, nat_le, slice_index, slice_range}
use Rattle.text.specs.Encoding.{is_utf8}

-- ---- one name

-- where the name at the index begins, and where it ends
abbrev pub name_start : List ℕ → ℕ → ℕ
name_start ends index = slice_index (0 ∷ ends) index

abbrev pub name_end : List ℕ → ℕ → ℕ
name_end ends index = slice_index ends index

-- the bytes from start to end
abbrev pub slice : List ℕ → ℕ → ℕ → List ℕ
slice text start end = slice_range text start end

-- there is such a name: it is listed, does not end before it begins, and ends inside the text
abbrev pub Lies : List ℕ → List ℕ → ℕ → Type 0
Lies text ends index = (index < length ends) × (name_start ends index ≤ name_end ends index) × (name_end ends index ≤ length text)

-- ---- all names

abbrev pub names_from : ℕ → List ℕ → List ℕ → List (List ℕ)
names_from start text [] = []
names_from start text (end ∷ ends) = slice text start end ∷ names_from end text ends

abbrev pub names_of : List ℕ → List ℕ → List (List ℕ)
names_of text ends = names_from 0 text ends

-- the name from start to end does not end before it begins, ends inside the text, and is UTF-8
abbrev pub sound_name : List ℕ → ℕ → ℕ → Bool
sound_name text start end = nat_le start end && (nat_le end (length text) && is_utf8 (slice text start end))

abbrev pub sound_from : ℕ → List ℕ → List ℕ → Bool
sound_from start text [] = true
sound_from start text (end ∷ ends) = sound_name text start end && sound_from end text ends

abbrev pub sound_names : List ℕ → List ℕ → Bool
sound_names text ends = sound_from 0 text ends

-- in words: the ends never fall and stay inside the text, and every name by itself is UTF-8
abbrev pub Sound : List ℕ → List ℕ → Type 0
Sound text ends = (index : ℕ) → index < length ends → Lies text ends index × IsUtf8 (slice text (name_start ends index) (name_end ends index))
