-- What a lawful table of contents gives, and the questions before the cells.
use Rattle.std.proofs.Common.{◌≡◌, ℕ, Bool, true, false, cond, ◌&&◌, ◌||◌, eqb, leb, List, [], ◌∷◌, length, None, arith}
use Rattle.std.proofs.lemmas.Bool.Decides.{nat_tests}
use Rattle.std.proofs.lemmas.Bool.{and_parts, and_from, le-leb}
use Rattle.questions.specs.Questions.{Refusal, Question, first_no}
use Rattle.sheetfile.specs.Contents.{contents_of, gapless, no_parts, lawful, Laid}
use Rattle.sheetfile.specs.declared.contents.Contents.{Contents}

-- the tests of a table of contents as facts, both ways
pub laid_tests : (c : Contents) (size : ℕ) → Laid c size → (gapless c size && (no_parts c || eqb c.shape.len 16)) ≡ true
laid_tests c size l = grind (arith, nat_tests, l.first, l.second, l.third, l.ends, l.sized)

pub no_parts_facts : (c : Contents) → no_parts c ≡ true → (c.shape.len ≡ 0) × (c.cells.len ≡ 0) × (c.text.len ≡ 0)
no_parts_facts c h = grind (arith, nat_tests)

pub tests_laid : (c : Contents) (size : ℕ) → (gapless c size && (no_parts c || eqb c.shape.len 16)) ≡ true → Laid c size
tests_laid c size h = record {
  first = grind (arith, nat_tests);
  second = grind (arith, nat_tests);
  third = grind (arith, nat_tests);
  ends = grind (arith, nat_tests);
  sized = grind (arith, nat_tests);
}

pub lawful_laid : (file : List ℕ) → lawful file ≡ true → Laid (contents_of file) (length file)
lawful_laid file h =
    tests_laid (contents_of file) (length file) (and_parts (leb 24 (length file)) (gapless (contents_of file) (length file) && (no_parts (contents_of file) || eqb (contents_of file).shape.len 16)) h).1

-- a table of contents takes 24 bytes, and the first part lies behind it
pub laid_lawful : (file : List ℕ) → Laid (contents_of file) (length file) → lawful file ≡ true
laid_lawful file l =
    and_from (leb 24 (length file)) _ (le-leb 24 (length file) (omega (arith, l.first, l.second, l.third, l.ends))) (laid_tests (contents_of file) (length file) l)

-- the first question passed, and no more put
pub passed_alone : (a b : Bool) (x : Refusal) (qs : List Question) → a ≡ true → b ≡ true → None ≡ first_no ((a, x) ∷ cond b [] qs)
passed_alone a b x qs ea eb = rw (ea, eb)

-- the first question passed, and the others put
pub passed_on : (a b : Bool) (x : Refusal) (qs : List Question) → a ≡ true → b ≡ false → first_no qs ≡ first_no ((a, x) ∷ cond b [] qs)
passed_on a b x qs ea eb = rw (ea, eb)
