-- The test for UTF-8, and the first character.
use Rattle.std.proofs.Common.{◌≡◌, ℕ, zero, suc, ◌+◌, ◌≤◌, min, Bool, true, false, ◌⊎◌, List, length, take, IsUtf8, MatchBool, Decides, sym, ap, ◌∙◌, subst, inl, inr, arith, length-append}
use lib.Seq.{take-append_seam}
use lib.Utf8.{encode}
use Rattle.std.specs.Str.{is_utf8 as std_is_utf8}
use Rattle.std.specs.Str.Lossy.{valid_len_up_to, utf8_valid_len}
use Rattle.std.proofs.lemmas.List.{take-take, length-take-le}
use Rattle.std.proofs.lemmas.Bool.{cases_Bool, cases_lt, cond-true, cond-false, both_ways}
use Rattle.std.proofs.lemmas.Bool.Decides.{not_from_Decides}
use Rattle.std.proofs.lemmas.Str.{IsUtf8-encode, length-encode, len_utf8_bounds, IsUtf8-from_is_utf8, is_utf8-from_IsUtf8}
use Rattle.text.specs.Encoding.{NoCharacter, is_utf8}

-- the test is the library's
pub is_utf8_decides : (bs : List ℕ) → Decides (is_utf8 bs) (IsUtf8 bs)
unfolding is_utf8 std_is_utf8
is_utf8_decides bs = (IsUtf8-from_is_utf8 bs, is_utf8-from_IsUtf8 bs)

pub is_utf8_yes : (bs : List ℕ) → IsUtf8 bs → is_utf8 bs ≡ true
is_utf8_yes bs u = (is_utf8_decides bs).1 u

pub is_utf8_no : (bs : List ℕ) → (IsUtf8 bs → ⊥) → is_utf8 bs ≡ false
is_utf8_no bs n = elim (cases_Bool (is_utf8 bs)) [ inl e ↦ absurd (n ((is_utf8_decides bs).0 e)) | inr e ↦ e ]

-- bytes are UTF-8 or not
pub utf8_cases : (bs : List ℕ) → IsUtf8 bs ⊎ (IsUtf8 bs → ⊥)
utf8_cases bs = elim (cases_Bool (is_utf8 bs)) [ inl e ↦ inl ((is_utf8_decides bs).0 e) | inr e ↦ inr (not_from_Decides (is_utf8 bs) (is_utf8_decides bs) e) ]

-- an answer that decides `IsUtf8` is the test's
pub is_utf8_as : (bs : List ℕ) (r : Bool) → MatchBool r (IsUtf8 bs) (IsUtf8 bs → ⊥) → r ≡ is_utf8 bs
is_utf8_as bs true u = sym (is_utf8_yes bs u)
is_utf8_as bs false n = sym (is_utf8_no bs n)

-- ---- the first character, read from the bytes in front

-- a front that is UTF-8 is no longer than the longest
valid_reaches : (bs : List ℕ) (m n : ℕ) → IsUtf8 (take m bs) → m ≤ n → m ≤ valid_len_up_to bs n
valid_reaches bs m zero u h = h
valid_reaches bs m (suc n) u h =
    elim (cases_Bool (std_is_utf8 (take (suc n) bs))) [
      | inl e ↦ subst (λ (k : ℕ). m ≤ k) (sym (cond-true (std_is_utf8 (take (suc n) bs)) (suc n) (valid_len_up_to bs n) e)) h
      | inr e ↦
          let shorter : m ≤ n = elim (cases_lt m (suc n)) [
            | inl l ↦ omega arith
            | inr l ↦ let same : m ≡ suc n = omega arith in absurd (both_ways (std_is_utf8 (take (suc n) bs)) e (is_utf8-from_IsUtf8 (take (suc n) bs) (subst (λ (k : ℕ). IsUtf8 (take k bs)) same u)))
          ] in
          subst (λ (k : ℕ). m ≤ k) (sym (cond-false (std_is_utf8 (take (suc n) bs)) (suc n) (valid_len_up_to bs n) e)) (valid_reaches bs m n u shorter)
    ]

-- four bytes have room for any character: where no front of the first four is UTF-8, no character begins the bytes
pub no_character : (bs front : List ℕ) → front ≡ take (min (length bs) 4) bs → utf8_valid_len front ≡ 0 → NoCharacter bs
unfolding utf8_valid_len
no_character bs front is none c rest s q =
    let n = min (length bs) 4 in
    let m = length (encode c) in
    let long : length bs ≡ m + length rest = ap length q ∙ length-append (encode c) rest in
    let some : 1 ≤ m = omega (arith, length-encode c, len_utf8_bounds c) in
    let few : m ≤ 4 = omega (arith, length-encode c, len_utf8_bounds c) in
    let first : take m front ≡ encode c = ap (take m) is ∙ take-take m n bs (omega arith) ∙ ap (take m) q ∙ take-append_seam (encode c) rest in
    let within : m ≤ length front = omega (arith, ap length is, length-take-le n bs (omega arith)) in
    let reach = valid_reaches front m (length front) (subst IsUtf8 (sym first) (IsUtf8-encode c s)) within in
    omega arith
