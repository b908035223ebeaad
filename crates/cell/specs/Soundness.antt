-- Texts of cells: they are UTF-8, and parts of the sheet's text.
use Rattle.std.specs.Prelude.{◌≡◌, ℕ, ◌+◌, ◌≤◌, true, List, length, take, drop, Some, None, Option}
use Rattle.text.specs.Encoding.{is_utf8}
use Rattle.datatype.specs.Meanings.{Meaning, empty, whole, float, text, yes_no, moment, span, iso_date_time, iso_duration, error, unsound}
use Rattle.datatype.specs.declared.text_form.TextForm.{TextForm}
use Rattle.datatype.specs.declared.text_form.TextForm.TheVariants.{Lent, Printed}
use Rattle.datatype.specs.declared.value.Value.{Value}
use Rattle.datatype.specs.declared.value.Value.TheVariants.{Int, Float, String, Bool as YesNo, DateTime, DateTimeIso, DurationIso, Error, Empty, Unsound}

-- the bytes of a meaning that carries bytes
abbrev pub text_of : Meaning → Option (List ℕ)
text_of empty = None
text_of (whole n) = None
text_of (float x) = None
text_of (text bytes) = Some bytes
text_of (yes_no b) = None
text_of (moment is1904 x) = None
text_of (span is1904 x) = None
text_of (iso_date_time bytes) = Some bytes
text_of (iso_duration bytes) = Some bytes
text_of (error e) = None
text_of unsound = None

-- bytes that a meaning carries are UTF-8
abbrev pub TextIsUtf8 : Meaning → Type 0
TextIsUtf8 m = (bytes : List ℕ) → text_of m ≡ Some bytes → is_utf8 bytes ≡ true

-- the bytes at a place do not leave the text, and are those that stand there
abbrev pub StandsAt : List ℕ → ℕ → List ℕ → Type 0
StandsAt sheet_text place bytes = (place + length bytes ≤ length sheet_text) × (take (length bytes) (drop place sheet_text) ≡ bytes)

-- the bytes of a text value stand in the text at the place that it tells
abbrev pub Lies : List ℕ → Value → Type 0
Lies sheet_text (Int n) = Unit {0}
Lies sheet_text (Float x) = Unit {0}
Lies sheet_text (String t) = StandsAt sheet_text t.place t.bytes.now
Lies sheet_text (YesNo b) = Unit {0}
Lies sheet_text (DateTime t) = Unit {0}
Lies sheet_text (DateTimeIso t) = StandsAt sheet_text t.place t.bytes.now
Lies sheet_text (DurationIso t) = StandsAt sheet_text t.place t.bytes.now
Lies sheet_text (Error e) = Unit {0}
Lies sheet_text Empty = Unit {0}
Lies sheet_text Unsound = Unit {0}

-- the bytes of a text form that is lent stand in the text at the place that it tells
abbrev pub FormLies : List ℕ → TextForm → Type 0
FormLies sheet_text (Lent t) = StandsAt sheet_text t.place t.bytes.now
FormLies sheet_text (Printed p) = Unit {0}
