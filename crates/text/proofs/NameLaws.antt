-- Names in one text with their ends.
use Rattle.std.proofs.Common.{◌≡◌, ℕ, zero, suc, ◌<◌, ◌≤◌, Bool, true, false, ◌&&◌, leb, List, [], ◌∷◌, length, get_or, IfSome, Some, None, IsUtf8, Decides, MatchBool, Option, sym, refl, ap, ◌∙◌, subst, inl, inr, arith, Bor}
use Rattle.std.proofs.lemmas.Bool.{le-leb, leb-true, and_parts, and_from, cases_Bool}
use Rattle.std.proofs.lemmas.List.FromFn.{length-range_with_len, get_or-range_with_len}
use Rattle.std.specs.List.{range_with_len, AllWithin, HoldsAt}
use Rattle.text.specs.Encoding.{is_utf8}
use Rattle.text.specs.Naming.{name_start, name_end, slice, Lies, sound_name, names_from, names_of, sound_from, sound_names, Sound}
use Rattle.text.proofs.Whole.{is_utf8_decides, is_utf8_yes}

-- there are as many names as ends
names_from_length : (start : ℕ) (text ends : List ℕ) → length (names_from start text ends) ≡ length ends
names_from_length start text [] = refl
names_from_length start text (e ∷ ends) = ap suc (names_from_length e text ends)

pub names_length : (text ends : List ℕ) → length (names_of text ends) ≡ length ends
names_length text ends = names_from_length 0 text ends

-- a name runs from the end before it to its own
names_from_get : (start : ℕ) (text ends : List ℕ) (k : ℕ) → k < length ends → get_or (names_from start text ends) k [] ≡ slice text (get_or (start ∷ ends) k 0) (get_or ends k 0)
names_from_get start text [] k h = absurd (omega arith)
names_from_get start text (e ∷ ends) zero h = refl
names_from_get start text (e ∷ ends) (suc k) h = names_from_get e text ends k (omega arith)

pub names_get : (text ends : List ℕ) (k : ℕ) → k < length ends → get_or (names_of text ends) k [] ≡ slice text (name_start ends k) (name_end ends k)
names_get text ends k h = names_from_get 0 text ends k h

-- the bytes of a name are those in the list of names
pub name_listed : (text ends : List ℕ) (k : ℕ) → k < length ends → (r : Option (Bor (List ℕ))) → IfSome r (λ x. x.now ≡ slice text (name_start ends k) (name_end ends k)) → IfSome r (λ x. x.now ≡ get_or (names_of text ends) k [])
name_listed text ends k h None f = tt
name_listed text ends k h (Some x) f = f ∙ sym (names_get text ends k h)

-- ---- soundness: the test and the words

-- one name, with the start given
abbrev Fine : List ℕ → ℕ → ℕ → Type 0
Fine text start end = (start ≤ end) × (end ≤ length text) × IsUtf8 (slice text start end)

module _ (text : List ℕ) (start end : ℕ) where
  -- what the test says of one name, both ways
  fine_yes : Fine text start end → sound_name text start end ≡ true
  fine_yes f =
      and_from (leb start end) (leb end (length text) && is_utf8 (slice text start end)) (le-leb start end f.0)
      (and_from (leb end (length text)) (is_utf8 (slice text start end)) (le-leb end (length text) f.1) (is_utf8_yes (slice text start end) f.2))

  fine_from : sound_name text start end ≡ true → Fine text start end
  fine_from e =
      let a = and_parts (leb start end) (leb end (length text) && is_utf8 (slice text start end)) e in
      let b = and_parts (leb end (length text)) (is_utf8 (slice text start end)) a.1 in
      (leb-true start end a.0, leb-true end (length text) b.0, (is_utf8_decides (slice text start end)).0 b.1)

-- from the test to each name ..
sound_from_all : (start : ℕ) (text ends : List ℕ) → sound_from start text ends ≡ true → (k : ℕ) → k < length ends → Fine text (get_or (start ∷ ends) k 0) (get_or ends k 0)
sound_from_all start text [] s k h = absurd (omega arith)
sound_from_all start text (e ∷ ends) s zero h = fine_from text start e (and_parts (sound_name text start e) (sound_from e text ends) s).0
sound_from_all start text (e ∷ ends) s (suc k) h =
    sound_from_all e text ends (and_parts (sound_name text start e) (sound_from e text ends) s).1 k (omega arith)

-- .. and back
all_sound_from : (start : ℕ) (text ends : List ℕ) → ((k : ℕ) → k < length ends → Fine text (get_or (start ∷ ends) k 0) (get_or ends k 0)) → sound_from start text ends ≡ true
all_sound_from start text [] f = refl
all_sound_from start text (e ∷ ends) f =
    and_from (sound_name text start e) (sound_from e text ends) (fine_yes text start e (f zero (omega arith))) (all_sound_from e text ends (λ k h. f (suc k) (omega arith)))

-- the test is true exactly of sound names
pub sound_decides : (text ends : List ℕ) → Decides (sound_names text ends) (Sound text ends)
sound_decides text ends = (
  λ s k h. let f = sound_from_all 0 text ends s k h in ((h, f.0, f.1), f.2),
  λ w. all_sound_from 0 text ends (λ k h. let l = w k h in (l.0.1, l.0.2, l.1)),
)

-- an answer that decides `Sound` is the test's
pub sound_as : (text ends : List ℕ) (r : Bool) → MatchBool r (Sound text ends) (Sound text ends → ⊥) → r ≡ sound_names text ends
sound_as text ends true w = sym ((sound_decides text ends).1 w)
sound_as text ends false n = elim (cases_Bool (sound_names text ends)) [ inl e ↦ absurd (n ((sound_decides text ends).0 e)) | inr e ↦ sym e ]

-- one name is sound
abbrev pub SoundName : List ℕ → List ℕ → ℕ → Type 0
SoundName text ends k = Lies text ends k × IsUtf8 (slice text (name_start ends k) (name_end ends k))

-- each name in turn is sound, or some name is not
pub sound_each : (text ends : List ℕ) (n : ℕ) (r : Bool) → n ≡ length ends
    → MatchBool r (AllWithin (SoundName text ends) (range_with_len 0 n) 0 (length (range_with_len 0 n))) ((k : ℕ) × (k < length (range_with_len 0 n)) × HoldsAt (λ i. SoundName text ends i → ⊥) (range_with_len 0 n) k)
    → MatchBool r (Sound text ends) (Sound text ends → ⊥)
sound_each text ends n true e all = λ k h.
    let at : get_or (range_with_len 0 n) k 0 ≡ k = omega (arith, get_or-range_with_len 0 n k 0 (omega arith)) in
    subst (SoundName text ends) at (all k 0 (omega arith) (omega (arith, length-range_with_len 0 n)))
sound_each text ends n false e (k, h, unsound) = λ w.
    let l : k < n = omega (arith, length-range_with_len 0 n) in
    let at : get_or (range_with_len 0 n) k 0 ≡ k = omega (arith, get_or-range_with_len 0 n k 0 l) in
    unsound 0 (subst (SoundName text ends) (sym at) (w k (omega arith)))

-- ---- laws for callers

-- of sound names each lies in the text, and is UTF-8
pub sound_lies : (text ends : List ℕ) (k : ℕ) → sound_names text ends ≡ true → k < length ends → Lies text ends k
sound_lies text ends k s h = ((sound_decides text ends).0 s k h).0

pub sound_utf8 : (text ends : List ℕ) (k : ℕ) → sound_names text ends ≡ true → k < length ends → IsUtf8 (get_or (names_of text ends) k [])
sound_utf8 text ends k s h = subst IsUtf8 (sym (names_get text ends k h)) ((sound_decides text ends).0 s k h).1
