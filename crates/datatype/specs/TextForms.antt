-- The text form of a meaning.
use Rattle.std.specs.Prelude.{ℕ, List, [], Some, None, Ok, Err, Option, Result}
use Rattle.questions.specs.Questions.{Refusal, bare}
use Rattle.number.specs.Forms.{whole_text, float_text, bool_text}
use Rattle.datatype.specs.Meanings.{Meaning, empty, whole, float, text, yes_no, moment, span, iso_date_time, iso_duration, error, unsound}
use Rattle.datatype.specs.Faults.{error_refusal}

-- a value where there is one, and else a refusal that carries nothing
abbrev pub or_refuse : {A : Type 0} → ℕ → Option A → Result A Refusal
or_refuse n (Some x) = Ok x
or_refuse n None = Err (bare n)

-- Text and ISO texts are their own text form. A whole, a float that is whole and below 2 ^ 53 in size, and
-- a yes/no are printed, and empty has no bytes. Nothing else has a text form.
abbrev pub text_form : Meaning → Result (List ℕ) Refusal
text_form empty = Ok []
text_form (whole n) = Ok (whole_text n)
text_form (float x) = or_refuse 8 (float_text x)
text_form (text bytes) = Ok bytes
text_form (yes_no b) = Ok (bool_text b)
text_form (moment is1904 x) = Err (bare 8)
text_form (span is1904 x) = Err (bare 8)
text_form (iso_date_time bytes) = Ok bytes
text_form (iso_duration bytes) = Ok bytes
text_form (error e) = Err (error_refusal e)
text_form unsound = Err (bare 12)
