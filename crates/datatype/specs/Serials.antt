-- A serial: a float kept as its 64 bits, a point or a length of time, and the system that it counts by.
use Rattle.std.specs.Prelude.{◌≡◌, Bool, true, false, from_bits, Float}
use Rattle.std.specs.Float.{binary64}
use Rattle.datatype.specs.declared.excel_date_time.ExcelDateTime.{ExcelDateTime}
use Rattle.datatype.specs.declared.excel_date_time.ExcelDateTimeType.{ExcelDateTimeType}
use Rattle.datatype.specs.declared.excel_date_time.ExcelDateTimeType.TheVariants.{DateTime, TimeDelta}

-- the float of the kept bits
abbrev pub serial_of : ExcelDateTime → Float
serial_of t = from_bits binary64 t.bits

abbrev pub is_duration_type : ExcelDateTimeType → Bool
is_duration_type DateTime = false
is_duration_type TimeDelta = true

abbrev pub is_datetime_type : ExcelDateTimeType → Bool
is_datetime_type DateTime = true
is_datetime_type TimeDelta = false

abbrev pub is_duration : ExcelDateTime → Bool
is_duration t = is_duration_type t.datetime_type

abbrev pub is_datetime : ExcelDateTime → Bool
is_datetime t = is_datetime_type t.datetime_type

-- a serial of a value, a type and a system
pub record Holds (t : ExcelDateTime) (x : Float) (k : ExcelDateTimeType) (later : Bool) : Type 0 where
  pub value : serial_of t ≡ x
  pub type : t.datetime_type ≡ k
  pub system : t.is_1904 ≡ later
