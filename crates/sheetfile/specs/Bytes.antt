-- Bytes of a file, and the little-endian numbers that they stand for.
use Rattle.std.specs.Prelude.{ℕ, ◌+◌, ◌*◌, List, [], ◌∷◌, take, drop}

-- the number that bytes stand for, the lowest byte first
unfoldable pub valued : List ℕ → ℕ
valued [] = 0
valued (b ∷ bs) = b + 256 * valued bs

-- so many bytes from a place on
abbrev pub part : ℕ → ℕ → List ℕ → List ℕ
part at len bytes = take len (drop at bytes)
