-- Trimming: blank characters go from both ends of bytes that are UTF-8; bytes that are not stay as they are.
use Rattle.std.specs.Prelude.{◌≡◌, ℕ, ◌+◌, ◌-◌, ◌≤◌, true, cond, List, [], ◌∷◌, ◌++◌, reverse, length, take, drop, IsUtf8, ◌≢◌}
use Rattle.std.proofs.Math.Utf8.{scalar, scalars, encode, encodes}
use Rattle.std.specs.List.{AllByRecursion}
use Rattle.std.specs.Str.{chars}
use Rattle.text.specs.Encoding.{is_utf8}
use Rattle.text.specs.WhiteSpace.{blank}

-- ---- as a function

-- the characters from the first on that is not blank
abbrev pub past_blanks : List ℕ → List ℕ
past_blanks [] = []
past_blanks (c ∷ cs) = cond (blank c) (past_blanks cs) (c ∷ cs)

-- the characters without the blank ones at both ends
abbrev pub stripped : List ℕ → List ℕ
stripped cs = reverse (past_blanks (reverse (past_blanks cs)))

-- what trimming leaves of bytes
unfoldable pub trimmed : List ℕ → List ℕ
trimmed bs = cond (is_utf8 bs) (encodes (stripped (chars bs))) bs

-- how many bytes stand in front of these last characters; 0 if there are none
abbrev pub in_front : ℕ → List ℕ → ℕ
in_front all [] = 0
in_front all (c ∷ cs) = all - length (encodes (c ∷ cs))

-- where in the bytes begins what trimming leaves; 0 if nothing is left
unfoldable pub trimmed_start : List ℕ → ℕ
trimmed_start bs = cond (is_utf8 bs) (in_front (length bs) (past_blanks (chars bs))) 0

-- ---- in words

-- bs is blank characters, or nothing
abbrev pub Blanks : List ℕ → Type 0
Blanks bs = (cs : List ℕ) × (scalars cs ≡ true) × (encodes cs ≡ bs) × AllByRecursion (λ c. blank c ≡ true) cs

-- bs neither begins nor ends with a blank character
abbrev pub Bare : List ℕ → Type 0
Bare bs = (c : ℕ) (rest : List ℕ) → scalar c ≡ true → blank c ≡ true → (bs ≢ encode c ++ rest) × (bs ≢ rest ++ encode c)

-- bs is blank characters, then the text r, then blank characters, and r neither begins nor ends with one
abbrev pub Between : List ℕ → List ℕ → Type 0
Between bs r = (front : List ℕ) × (back : List ℕ) × (bs ≡ front ++ (r ++ back)) × Blanks front × IsUtf8 r × Blanks back × Bare r

-- r is what trimming leaves of bs
pub record Trims (bs r : List ℕ) : Type 0 where
  pub text : IsUtf8 bs → Between bs r
  pub other : (IsUtf8 bs → ⊥) → r ≡ bs

-- the part of bs from start on, len bytes long, is what trimming leaves: what stands before it and after it is blank, and it starts at 0 if nothing is left
pub record Leaves (bs : List ℕ) (start len : ℕ) : Type 0 where
  pub inside : start + len ≤ length bs
  pub part : Trims bs (take len (drop start bs))
  pub before : IsUtf8 bs → Blanks (take start bs)
  pub after : IsUtf8 bs → Blanks (drop (start + len) bs)
  pub nothing : len ≡ 0 → start ≡ 0
