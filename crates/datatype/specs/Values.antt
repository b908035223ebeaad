-- A value's meaning, and where its text lies.
use Rattle.std.specs.Prelude.{ℕ, Bool, Some, None, Option, Float}
use Rattle.datatype.specs.Meanings.{Meaning, empty, whole, float, text, yes_no, moment, span, iso_date_time, iso_duration, error, unsound}
use Rattle.datatype.specs.Serials.{serial_of}
use Rattle.datatype.specs.declared.excel_date_time.ExcelDateTime.{ExcelDateTime}
use Rattle.datatype.specs.declared.excel_date_time.ExcelDateTimeType.{ExcelDateTimeType}
use Rattle.datatype.specs.declared.excel_date_time.ExcelDateTimeType.TheVariants.{DateTime as point_in_time, TimeDelta as length_of_time}
use Rattle.datatype.specs.declared.value.Value.{Value}
use Rattle.datatype.specs.declared.value.Value.TheVariants.{Int, Float as Number, String, Bool as YesNo, DateTime, DateTimeIso, DurationIso, Error, Empty, Unsound}

abbrev pub serial_kind : ExcelDateTimeType → Bool → Float → Meaning
serial_kind point_in_time is1904 x = moment is1904 x
serial_kind length_of_time is1904 x = span is1904 x

-- a point in time means a moment, a length of time a span
abbrev pub serial_meaning : ExcelDateTime → Meaning
serial_meaning t = serial_kind t.datetime_type t.is_1904 (serial_of t)

abbrev pub shown : Value → Meaning
shown (Int n) = whole n
shown (Number x) = float x
shown (String t) = text t.bytes.now
shown (YesNo b) = yes_no b
shown (DateTime t) = serial_meaning t
shown (DateTimeIso t) = iso_date_time t.bytes.now
shown (DurationIso t) = iso_duration t.bytes.now
shown (Error e) = error e
shown Empty = empty
shown Unsound = unsound

-- where the bytes of a text or ISO text lie; no other value lies anywhere
abbrev pub place_of_text : Value → Option ℕ
place_of_text (Int n) = None
place_of_text (Number x) = None
place_of_text (String t) = Some t.place
place_of_text (YesNo b) = None
place_of_text (DateTime t) = None
place_of_text (DateTimeIso t) = Some t.place
place_of_text (DurationIso t) = Some t.place
place_of_text (Error e) = None
place_of_text Empty = None
place_of_text Unsound = None
