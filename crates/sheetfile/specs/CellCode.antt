-- A cell in nine bytes: its kind, and what the other eight stand for under that kind.
use Rattle.std.specs.Prelude.{ℕ, Bool, true, false, cond, List, [], ◌∷◌, map, get_or, take, drop, Some, None, Option, ◌==◌, from_bits, slice_index_or}
use Rattle.std.specs.Int.{w64}
use Rattle.std.proofs.Common.{to_z}
use Rattle.std.specs.Float.{float_is_finite, binary64}
use Rattle.datatype.specs.declared.data.Data.{Data}
use Rattle.datatype.specs.declared.data.Data.TheVariants.{Int, Float, String, Bool as YesNo, DateTime as Serial, DateTimeIso, DurationIso, Error, Empty}
use Rattle.datatype.specs.declared.data.TextPart.{TextPart}
use Rattle.datatype.specs.declared.cell_error_type.CellErrorType.TheVariants.{Div0, NA, Name, Null, Num, Ref, Value, GettingData}
use Rattle.datatype.specs.declared.excel_date_time.ExcelDateTimeType.{ExcelDateTimeType}
use Rattle.datatype.specs.declared.excel_date_time.ExcelDateTimeType.TheVariants.{DateTime, TimeDelta}
use Rattle.sheetfile.specs.Bytes.{valued}

-- floats are finite
abbrev pub when_finite : ℕ → Data → Option Data
when_finite bits cell = cond (float_is_finite (from_bits binary64 bits)) (Some cell) None

abbrev pub empty_cell : ℕ → Option Data
empty_cell n = cond (n == 0) (Some Empty) None

-- yes is 1 and no is 0
abbrev pub bool_cell : ℕ → Option Data
bool_cell n = slice_index_or (Some (YesNo false) ∷ Some (YesNo true) ∷ []) n None

abbrev pub serial_cell : ℕ → ExcelDateTimeType → Bool → Option Data
serial_cell bits type later = when_finite bits (Serial (record { bits = bits; datetime_type = type; is_1904 = later }))

-- the errors by their number, 0 to 7
abbrev pub error_cell : ℕ → Option Data
error_cell n = slice_index_or (map (λ e. Some (Error e)) (Div0 ∷ NA ∷ Name ∷ Null ∷ Num ∷ Ref ∷ Value ∷ GettingData ∷ [])) n None

-- the cell of each kind, 0 to 11, from its eight bytes as one number and as a place and a length
abbrev pub cell_of : ℕ → ℕ → TextPart → Option Data
cell_of kind n text =
    get_or (
    empty_cell n
    ∷ Some (Int (to_z w64 n))
    ∷ when_finite n (Float n)
    ∷ Some (String text)
    ∷ bool_cell n
    ∷ serial_cell n DateTime false
    ∷ serial_cell n DateTime true
    ∷ serial_cell n TimeDelta false
    ∷ serial_cell n TimeDelta true
    ∷ Some (DateTimeIso text)
    ∷ Some (DurationIso text)
    ∷ error_cell n
    ∷ []) kind None

unfoldable pub decoded : List ℕ → Option Data
decoded [] = None
decoded (kind ∷ bs) = cell_of kind (valued bs) (record { place = valued (take 4 bs); len = valued (drop 4 bs) })
