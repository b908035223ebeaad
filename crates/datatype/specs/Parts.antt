-- A part of a text.
use Rattle.std.specs.Prelude.{ℕ, ◌+◌, cond, List, length, take, drop, Some, None, Option, nat_le}

-- so many bytes from a place on; none where they leave the text by the true sum
abbrev pub part_bytes : ℕ → ℕ → List ℕ → Option (List ℕ)
part_bytes place len text = cond (nat_le (place + len) (length text)) (Some (take len (drop place text))) None
