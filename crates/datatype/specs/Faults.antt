-- What the refusals of a coercion tell.
use Rattle.std.specs.Prelude.{ℕ, [], ◌∷◌}
use Rattle.questions.specs.Questions.{Refusal, bare}
use Rattle.datatype.specs.declared.cell_error_type.CellErrorType.{CellErrorType}
use Rattle.datatype.specs.declared.cell_error_type.CellErrorType.TheVariants.{Div0, NA, Name, Null, Num, Ref, Value, GettingData}
use Rattle.datatype.specs.declared.coercion_fault.CoercionFault.{CoercionFault}
use Rattle.datatype.specs.declared.coercion_fault.CoercionFault.TheVariants.{CellError, NoTextForm, WrongKind, Unreadable, OutOfRange, OutsideCalendar}

-- the errors by number, as a sheet file has them
abbrev pub error_number : CellErrorType → ℕ
error_number Div0 = 0
error_number NA = 1
error_number Name = 2
error_number Null = 3
error_number Num = 4
error_number Ref = 5
error_number Value = 6
error_number GettingData = 7

-- an error cell: 7, and which error
abbrev pub error_refusal : CellErrorType → Refusal
error_refusal e = record { number = 7; values = error_number e ∷ [] }

abbrev pub told : CoercionFault → Refusal
told (CellError e) = error_refusal e
told NoTextForm = bare 8
told WrongKind = bare 12
told Unreadable = bare 13
told OutOfRange = bare 14
told OutsideCalendar = bare 15
