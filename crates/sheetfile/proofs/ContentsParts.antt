-- The entries of the table of contents, read where they lie.
use Rattle.std.proofs.Common.{◌≡◌, ℕ, ◌+◌, ◌*◌, ◌/◌, ◌≤◌, List, [], length, get_or, take, ap, ◌∙◌, arith}
use Rattle.std.specs.Simd.{first_chunks}
use Rattle.sheetfile.specs.Bytes.{valued, part}
use Rattle.sheetfile.specs.Contents.{extent_at, contents_of}
use Rattle.sheetfile.proofs.LittleEndian.{part_of_part, chunk_at}

-- an entry of bytes that are part of others
pub extent_part : (bytes : List ℕ) (at len i : ℕ) → i + 8 ≤ len → extent_at (part at len bytes) i ≡ extent_at bytes (at + i)
extent_part bytes at len i inside =
    let next : at + (i + 4) ≡ at + i + 4 = omega arith in
    let place = ap valued (part_of_part bytes at len i 4 (omega arith)) in
    let length = ap valued (part_of_part bytes at len (i + 4) 4 (omega arith) ∙ ap (λ m. part m 4 bytes) next) in
    cc

-- the i-th of the entries
pub entry_at : (i : ℕ) (bytes : List ℕ) (eights : List (List ℕ)) → eights ≡ first_chunks 8 (length bytes / 8) bytes → i * 8 + 8 ≤ length bytes → extent_at (get_or eights i []) 0 ≡ extent_at bytes (i * 8)
entry_at i bytes eights cut inside =
    let at = ap (λ l. get_or l i []) cut ∙ chunk_at 8 (length bytes / 8) i bytes (omega arith) in
    let none : i * 8 + 0 ≡ i * 8 = omega arith in
    ap (λ l. extent_at l 0) at ∙ extent_part bytes (i * 8) 8 0 (omega arith) ∙ ap (extent_at bytes) none

-- the contents stand in the first 24 bytes
pub contents_front : (file : List ℕ) → contents_of (take 24 file) ≡ contents_of file
contents_front file =
    let shape = extent_part file 0 24 0 (omega arith) in
    let cells = extent_part file 0 24 8 (omega arith) in
    let text = extent_part file 0 24 16 (omega arith) in
    cc
