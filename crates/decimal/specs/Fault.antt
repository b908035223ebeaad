-- Why a text is not read as a float, by the numbers of the refusals.
use Rattle.std.specs.Prelude.{ℕ, List, Some, None, Ok, Err, Option, Result, Float}
use Rattle.questions.specs.Questions.{Refusal, bare}
use Rattle.decimal.specs.declared.fault.NumberFault.{NumberFault}
use Rattle.decimal.specs.declared.fault.NumberFault.TheVariants.{NotANumber, OutOfRange}
use Rattle.decimal.specs.Grammar.{Literal, literal}
use Rattle.decimal.specs.Amount.{amount_of}

-- the number of each refusal
abbrev pub fault_number : NumberFault → ℕ
fault_number NotANumber = 13
fault_number OutOfRange = 14

-- which carries nothing else
abbrev pub told : NumberFault → Refusal
told f = bare (fault_number f)

-- an answer with the number of its refusal
abbrev pub numbered : Result Float NumberFault → Result Float ℕ
numbered (Ok x) = Ok x
numbered (Err f) = Err (fault_number f)

abbrev pub or_beyond : Option Float → Result Float ℕ
or_beyond (Some x) = Ok x
or_beyond None = Err 14

abbrev pub or_refused : Option Literal → Result Float ℕ
or_refused None = Err 13
or_refused (Some l) = or_beyond (amount_of l)

-- A text as a float: 13 where it is no number text, 14 where it is and lies beyond the limits, else the nearest float.
abbrev pub float_of_text : List ℕ → Result Float ℕ
float_of_text text = or_refused (literal text)
