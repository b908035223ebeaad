-- UTF-8 by RFC 3629. `encode c` is the one to four bytes of the scalar value c (a code point below U+110000 that is no surrogate),
-- `encodes cs` those of a list, and `IsUtf8 bs` says that some list of scalar values encodes to bs.
use Rattle.std.specs.Prelude.{◌≡◌, ℕ, Bool, true, ◌&&◌, List, ◌++◌, length, drop, Some, None, Option, ◌≢◌}
use Rattle.std.proofs.Math.Utf8.{scalar, scalars, encode, encodes}
use Rattle.std.specs.Str.{chars, bytes_eq}
use Rattle.text.specs.declared.utf8.Decoded.{Decoded}

-- no character's encoding begins bs
abbrev pub NoCharacter : List ℕ → Type 0
NoCharacter bs = (c : ℕ) (rest : List ℕ) → scalar c ≡ true → bs ≢ encode c ++ rest

-- bs begins with the encoding of the character c, which takes len bytes
abbrev pub Begins : List ℕ → ℕ → ℕ → Type 0
Begins bs c len = (scalar c ≡ true) × (len ≡ length (encode c)) × (bs ≡ encode c ++ drop len bs)

-- what bs begins with
abbrev pub FirstCharacter : List ℕ → Option Decoded → Type 0
FirstCharacter bs None = NoCharacter bs
FirstCharacter bs (Some d) = Begins bs d.character d.len

-- `IsUtf8` as a test: read as characters, bs gives scalar values that encode to bs again
unfoldable pub is_utf8 : List ℕ → Bool
is_utf8 bs = scalars (chars bs) && bytes_eq (encodes (chars bs)) bs
