-- What a cell means over the text of its sheet. Two meanings are equal when their kind and all that they carry are.
use Rattle.std.specs.Prelude.{ℕ, Bool, true, false, List, ℤ, Float}
use Rattle.datatype.specs.declared.cell_error_type.CellErrorType.{CellErrorType}

-- A float has one not-a-number, and two zeros. A moment is a date and time, a span a length of time: each is
-- a serial by the 1904 system where the first is true, and else by the 1900 system.
pub data Meaning : Type 0 where
  empty : Meaning
  whole : ℤ → Meaning
  float : Float → Meaning
  text : List ℕ → Meaning
  yes_no : Bool → Meaning
  moment : Bool → Float → Meaning
  span : Bool → Float → Meaning
  iso_date_time : List ℕ → Meaning
  iso_duration : List ℕ → Meaning
  error : CellErrorType → Meaning
  unsound : Meaning

abbrev pub is_empty : Meaning → Bool
is_empty empty = true
is_empty (whole n) = false
is_empty (float x) = false
is_empty (text bytes) = false
is_empty (yes_no b) = false
is_empty (moment is1904 x) = false
is_empty (span is1904 x) = false
is_empty (iso_date_time bytes) = false
is_empty (iso_duration bytes) = false
is_empty (error e) = false
is_empty unsound = false
