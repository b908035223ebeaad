-- Making a sheet: the three questions, and what each refusal tells.
use Rattle.std.specs.Prelude.{ℕ, ◌*◌, List, [], ◌∷◌, Option, nat_le}
use Rattle.questions.specs.Questions.{Refusal, Question, bare, first_no}
use Rattle.range.specs.Shapes.{ordered, limited, counted, rows_of, columns_of}
use Rattle.range.specs.declared.corners.Corners.{Corners}
use Rattle.range.specs.declared.fault.RangeFault.{RangeFault}
use Rattle.range.specs.declared.fault.RangeFault.TheVariants.{Reversed, PastLimits, CellCount, StoreShort}

abbrev pub told : RangeFault → Refusal
told Reversed = bare 1
told PastLimits = bare 2
told CellCount = bare 3
told StoreShort = bare 20

-- the two questions put to corners alone, and those after them
abbrev pub corner_questions : Corners → List Question → List Question
corner_questions k more = (ordered k, bare 1) ∷ (limited k, bare 2) ∷ more

abbrev pub making : Corners → ℕ → Option Refusal
making k count = first_no (corner_questions k ((counted k count, bare 3) ∷ []))

-- copying a part into a store of so many entries
abbrev pub copying : Corners → ℕ → Option Refusal
copying k room = first_no (corner_questions k ((nat_le (rows_of k * columns_of k) room, bare 20) ∷ []))
