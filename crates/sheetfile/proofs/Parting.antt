-- A file cut behind its table of contents, part by part.
use Rattle.std.proofs.Common.{◌≡◌, ℕ, ◌+◌, ◌≤◌, true, ◌&&◌, ◌||◌, eqb, List, length, take, drop, sym, ap, ◌∙◌, arith, length-drop}
use Rattle.std.proofs.lemmas.List.{take_all, drop-drop}
use Rattle.std.proofs.lemmas.Bool.{le-leb}
use Rattle.sheetfile.specs.Bytes.{part}
use Rattle.sheetfile.specs.Contents.{contents_of, gapless, no_parts, lawful}
use Rattle.sheetfile.specs.declared.contents.Contents.{Contents}
use Rattle.sheetfile.proofs.LayoutLaws.{lawful_laid}
use Rattle.sheetfile.proofs.ContentsParts.{contents_front}

-- a table of contents of 24 bytes at the front is lawful as the file's
pub front_lawful : (file : List ℕ) (c : Contents) → 24 ≤ length file → c ≡ contents_of (take 24 file) → (gapless c (length file) && (no_parts c || eqb c.shape.len 16)) ≡ lawful file
front_lawful file c inside is =
    let whole = is ∙ contents_front file in
    let test = le-leb 24 (length file) inside in
    ap (λ (d : Contents). gapless d (length file) && (no_parts d || eqb d.shape.len 16)) whole
    ∙ sym (ap (λ b. b && (gapless (contents_of file) (length file) && (no_parts (contents_of file) || eqb (contents_of file).shape.len 16))) test)

-- a text that ends the file is all that lies behind its place
text_rest : (file : List ℕ) (place len : ℕ) → place + len ≡ length file → drop place file ≡ part place len file
text_rest file place len e = sym (take_all len (drop place file) (omega (arith, length-drop place file)))

module _ (file : List ℕ) (ok : lawful file ≡ true) (c : Contents) (is : c ≡ contents_of file) where
  -- the place of each part is where those before it end
  pub shape_cut : take c.shape.len (drop 24 file) ≡ part (contents_of file).shape.place (contents_of file).shape.len file
  shape_cut =
      let laid = lawful_laid file ok in
      ap (λ (d : Contents). part 24 d.shape.len file) is ∙ ap (λ n. part n (contents_of file).shape.len file) (sym laid.first)

  pub behind_shape : drop c.shape.len (drop 24 file) ≡ drop (contents_of file).cells.place file
  behind_shape =
      let laid = lawful_laid file ok in
      let place : 24 + (contents_of file).shape.len ≡ (contents_of file).cells.place = omega (arith, laid.first, laid.second) in
      ap (λ (d : Contents). drop d.shape.len (drop 24 file)) is ∙ drop-drop (contents_of file).shape.len 24 file ∙ ap (λ n. drop n file) place

  pub cells_cut : take c.cells.len (drop c.shape.len (drop 24 file)) ≡ part (contents_of file).cells.place (contents_of file).cells.len file
  cells_cut = ap (take c.cells.len) behind_shape ∙ ap (λ (d : Contents). part (contents_of file).cells.place d.cells.len file) is

  pub text_cut : drop c.cells.len (drop c.shape.len (drop 24 file)) ≡ part (contents_of file).text.place (contents_of file).text.len file
  text_cut =
      let laid = lawful_laid file ok in
      let place : (contents_of file).cells.place + (contents_of file).cells.len ≡ (contents_of file).text.place = sym laid.third in
      ap (drop c.cells.len) behind_shape
      ∙ ap (λ (d : Contents). drop d.cells.len (drop (contents_of file).cells.place file)) is
      ∙ drop-drop (contents_of file).cells.len (contents_of file).cells.place file
      ∙ ap (λ n. drop n file) place
      ∙ text_rest file (contents_of file).text.place (contents_of file).text.len laid.ends
