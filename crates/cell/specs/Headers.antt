-- The header text of a cell, by what the cell means.
use Rattle.std.specs.Prelude.{ℕ, List, Err, Result}
use Rattle.questions.specs.Questions.{Refusal, bare}
use Rattle.datatype.specs.Meanings.{Meaning, empty, whole, float, text, yes_no, moment, span, iso_date_time, iso_duration, error, unsound}
use Rattle.datatype.specs.Faults.{told as coercion_told}
use Rattle.datatype.specs.TextForms.{text_form}
use Rattle.cell.specs.declared.header_fault.HeaderFault.{HeaderFault}
use Rattle.cell.specs.declared.header_fault.HeaderFault.TheVariants.{Unsound, Refused}

abbrev pub told : HeaderFault → Refusal
told Unsound = bare 4
told (Refused f) = coercion_told f

-- 4 for an unsound cell, and else the text form of its meaning or that form's refusal
abbrev pub header_text : Meaning → Result (List ℕ) Refusal
header_text unsound = Err (bare 4)
header_text empty = text_form empty
header_text (whole n) = text_form (whole n)
header_text (float x) = text_form (float x)
header_text (text bytes) = text_form (text bytes)
header_text (yes_no b) = text_form (yes_no b)
header_text (moment is1904 x) = text_form (moment is1904 x)
header_text (span is1904 x) = text_form (span is1904 x)
header_text (iso_date_time bytes) = text_form (iso_date_time bytes)
header_text (iso_duration bytes) = text_form (iso_duration bytes)
header_text (error e) = text_form (error e)
