-- Bytes in a row, the chunks that they are cut into, and the numbers that they stand for.
use Rattle.std.proofs.Common.{◌≡◌, ℕ, zero, suc, ◌+◌, ◌-◌, ◌*◌, ◌/◌, ◌<◌, ◌≤◌, List, [], ◌∷◌, length, get_or, take, drop, refl, ap, ◌∙◌, arith, length-drop}
use Rattle.std.specs.Int.{from_le_bytes, w32, w64}
use Rattle.std.specs.Simd.{first_chunks}
use Rattle.std.proofs.lemmas.List.{drop-drop, drop-take, take-take, length-take-le}
use Rattle.sheetfile.specs.Bytes.{valued, part}

-- four bytes, and eight, read as one number
pub four : (bytes : List ℕ) → length bytes ≡ 4 → from_le_bytes w32 bytes ≡ valued bytes
unfolding valued
four (a ∷ b ∷ c ∷ d ∷ []) e = omega arith
four (a ∷ b ∷ c ∷ d ∷ x ∷ xs) e = absurd (omega arith)
four (a ∷ b ∷ c ∷ []) e = absurd (omega arith)
four (a ∷ b ∷ []) e = absurd (omega arith)
four (a ∷ []) e = absurd (omega arith)
four [] e = absurd (omega arith)

pub eight : (bytes : List ℕ) → length bytes ≡ 8 → from_le_bytes w64 bytes ≡ valued bytes
unfolding valued
eight (a ∷ b ∷ c ∷ d ∷ e ∷ f ∷ g ∷ h ∷ []) is = omega arith
eight (a ∷ b ∷ c ∷ d ∷ e ∷ f ∷ g ∷ h ∷ x ∷ xs) is = absurd (omega arith)
eight (a ∷ b ∷ c ∷ d ∷ e ∷ f ∷ g ∷ []) is = absurd (omega arith)
eight (a ∷ b ∷ c ∷ d ∷ e ∷ f ∷ []) is = absurd (omega arith)
eight (a ∷ b ∷ c ∷ d ∷ e ∷ []) is = absurd (omega arith)
eight (a ∷ b ∷ c ∷ d ∷ []) is = absurd (omega arith)
eight (a ∷ b ∷ c ∷ []) is = absurd (omega arith)
eight (a ∷ b ∷ []) is = absurd (omega arith)
eight (a ∷ []) is = absurd (omega arith)
eight [] is = absurd (omega arith)

-- a part has its length
pub length_part : (at len : ℕ) (bytes : List ℕ) → at + len ≤ length bytes → length (part at len bytes) ≡ len
length_part at len bytes inside = length-take-le len (drop at bytes) (omega (arith, length-drop at bytes))

-- a part of a part
pub part_of_part : (bytes : List ℕ) (at len i n : ℕ) → i + n ≤ len → part i n (part at len bytes) ≡ part (at + i) n bytes
part_of_part bytes at len i n le =
    let split : len ≡ i + (len - i) = omega arith in
    ap (λ m. take n (drop i (take m (drop at bytes)))) split
    ∙ ap (take n) (drop-take i (len - i) (drop at bytes))
    ∙ take-take n (len - i) (drop i (drop at bytes)) (omega arith)
    ∙ ap (take n) (drop-drop i at bytes)

-- there are as many chunks as were cut
pub length_chunks : (n k : ℕ) (bytes : List ℕ) → length (first_chunks n k bytes) ≡ k
length_chunks n zero bytes = refl
length_chunks n (suc k) bytes = ap suc (length_chunks n k (drop n bytes))

-- the i-th of the chunks of n bytes
pub chunk_at : (n k i : ℕ) (bytes : List ℕ) → i < k → get_or (first_chunks n k bytes) i [] ≡ part (i * n) n bytes
chunk_at n zero i bytes lt = absurd (omega arith)
chunk_at n (suc k) zero bytes lt = let none : 0 ≡ 0 * n = omega arith in ap (λ m. part m n bytes) none
chunk_at n (suc k) (suc i) bytes lt =
    let next : n + i * n ≡ suc i * n = omega arith in
    chunk_at n k i (drop n bytes) (omega arith) ∙ ap (take n) (drop-drop (i * n) n bytes ∙ ap (λ m. drop m bytes) next)

-- the i-th of the numbers of four bytes
pub number_at : (i : ℕ) (bytes : List ℕ) (fours : List (List ℕ)) → fours ≡ first_chunks 4 (length bytes / 4) bytes → i * 4 + 4 ≤ length bytes → from_le_bytes w32 (get_or fours i []) ≡ valued (part (i * 4) 4 bytes)
number_at i bytes fours cut inside =
    let at = ap (λ l. get_or l i []) cut ∙ chunk_at 4 (length bytes / 4) i bytes (omega arith) in
    ap (from_le_bytes w32) at ∙ four (part (i * 4) 4 bytes) (length_part (i * 4) 4 bytes inside)
