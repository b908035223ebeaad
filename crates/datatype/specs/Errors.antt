-- How a spreadsheet writes its errors, and which of them a number stands for.
use Rattle.std.specs.Prelude.{◌≡◌, ℕ, ◌<◌, List, codes, Result, MatchResult}
use Rattle.datatype.specs.Faults.{error_number}
use Rattle.datatype.specs.declared.cell_error_type.CellErrorType.{CellErrorType}
use Rattle.datatype.specs.declared.cell_error_type.CellErrorType.TheVariants.{Div0, NA, Name, Null, Num, Ref, Value, GettingData}
use Rattle.datatype.specs.declared.cell_error_type.UnknownErrorType.{UnknownErrorType}

abbrev pub error_text : CellErrorType → List ℕ
error_text Div0 = codes "#DIV/0!"
error_text NA = codes "#N/A"
error_text Name = codes "#NAME?"
error_text Null = codes "#NULL!"
error_text Num = codes "#NUM!"
error_text Ref = codes "#REF!"
error_text Value = codes "#VALUE!"
error_text GettingData = codes "#DATA!"

-- the error of this number, or the number itself where it is past that of the last error
abbrev pub Numbered : ℕ → Result CellErrorType UnknownErrorType → Type 0
Numbered number r = MatchResult r (λ e. error_number e ≡ number) (λ unknown. (unknown.0 ≡ number) × (7 < number))
