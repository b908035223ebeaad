-- What the two kinds of cells mean over the sheet's text.
use Rattle.std.specs.Prelude.{ℕ, ◌+◌, cond, ◌&&◌, List, length, take, drop, ℤ, pos, negsuc, Some, None, Option, ◌==◌, from_bits, nat_le}
use Rattle.std.specs.Float.{binary64}
use Rattle.text.specs.Encoding.{is_utf8}
use Rattle.datatype.specs.Meanings.{Meaning, empty, whole, float, text, yes_no, iso_date_time, iso_duration, error, unsound}
use Rattle.datatype.specs.Values.{serial_meaning}
use Rattle.datatype.specs.declared.data.Data.{Data}
use Rattle.datatype.specs.declared.data.Data.TheVariants.{Int, Float, String, Bool as YesNo, DateTime, DateTimeIso, DurationIso, Error, Empty}
use Rattle.cell.specs.declared.count.Count.{Count}

-- the bytes of a part of the text, which does not leave the text by the true sum, and is UTF-8
abbrev pub sound_part : ℕ → ℕ → List ℕ → Option (List ℕ)
sound_part place len t =
    let bytes = take len (drop place t) in
    cond (nat_le (place + len) (length t) && is_utf8 bytes) (Some bytes) None

abbrev pub or_unsound : (List ℕ → Meaning) → Option (List ℕ) → Meaning
or_unsound kind (Some bytes) = kind bytes
or_unsound kind None = unsound

-- the typed cell, case by case; a float is that of its 64 bits
abbrev pub data_meaning : Data → List ℕ → Meaning
data_meaning (Int n) t = whole n
data_meaning (Float bits) t = float (from_bits binary64 bits)
data_meaning (String p) t = or_unsound text (sound_part p.place p.len t)
data_meaning (YesNo b) t = yes_no b
data_meaning (DateTime s) t = serial_meaning s
data_meaning (DateTimeIso p) t = or_unsound iso_date_time (sound_part p.place p.len t)
data_meaning (DurationIso p) t = or_unsound iso_duration (sound_part p.place p.len t)
data_meaning (Error e) t = error e
data_meaning Empty t = empty

-- -2,147,483,648 means empty, any other number that whole
abbrev pub number_meaning : ℤ → Meaning
number_meaning (pos n) = whole (pos n)
number_meaning (negsuc n) = cond (n == 2147483647) empty (whole (negsuc n))

abbrev pub count_meaning : Count → List ℕ → Meaning
count_meaning c t = number_meaning c.0
