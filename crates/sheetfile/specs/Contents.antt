-- The table of contents: where shape, cells and text lie in the file.
use Rattle.std.specs.Prelude.{◌≡◌, ℕ, ◌+◌, Bool, ◌&&◌, ◌||◌, ◌⊎◌, List, length, ◌==◌, nat_le}
use Rattle.sheetfile.specs.Bytes.{valued, part}
use Rattle.sheetfile.specs.declared.contents.Extent.{Extent}
use Rattle.sheetfile.specs.declared.contents.Contents.{Contents}

-- an entry: a place and a length, four bytes each
abbrev pub extent_at : List ℕ → ℕ → Extent
extent_at file at = record { place = valued (part at 4 file); len = valued (part (at + 4) 4 file) }

abbrev pub contents_of : List ℕ → Contents
contents_of file = record { shape = extent_at file 0; cells = extent_at file 8; text = extent_at file 16 }

-- the byte behind a part
abbrev pub behind : Extent → ℕ
behind e = e.place + e.len

-- a lawful table of contents: the parts follow one another from byte 24 to the end of the file,
-- and they are all empty, or the shape has 16 bytes
pub record Laid (c : Contents) (size : ℕ) : Type 0 where
  pub first : c.shape.place ≡ 24
  pub second : c.cells.place ≡ behind c.shape
  pub third : c.text.place ≡ behind c.cells
  pub ends : behind c.text ≡ size
  pub sized : ((c.shape.len ≡ 0) × (c.cells.len ≡ 0) × (c.text.len ≡ 0)) ⊎ (c.shape.len ≡ 16)

-- the same as tests
abbrev pub gapless : Contents → ℕ → Bool
gapless c size = (c.shape.place == 24 && c.cells.place == behind c.shape) && (c.text.place == behind c.cells && behind c.text == size)

-- all three lengths 0: the empty sheet
abbrev pub no_parts : Contents → Bool
no_parts c = c.shape.len == 0 && (c.cells.len == 0 && c.text.len == 0)

abbrev pub lawful : List ℕ → Bool
lawful file = nat_le 24 (length file) && (gapless (contents_of file) (length file) && (no_parts (contents_of file) || (contents_of file).shape.len == 16))
