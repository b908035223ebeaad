-- What a serial means: a date and a time of day, or a refusal.
use Rattle.std.specs.Prelude.{◌≡◌, ℕ, ◌+◌, ◌*◌, ◌/◌, ◌%◌, ◌<◌, Bool, false, cond, not, ◌&&◌, ◌||◌, Ok, Err, Result, ◌==◌, nat_le, Float}
use Rattle.std.specs.Float.{nan, inf, fin}
use Rattle.questions.specs.Questions.{Refusal, bare}
use Rattle.calendar.specs.declared.civil.CivilTime.{CivilTime}
use Rattle.calendar.specs.declared.civil.DateFault.{DateFault}
use Rattle.calendar.specs.declared.civil.DateFault.TheVariants.{OutsideCalendar}
use Rattle.calendar.specs.Calendar.{CountsTo, OnlyDate, date_of, last_day}
use Rattle.calendar.specs.Clock.{millis_since_start}

-- the number of each refusal
abbrev pub number : DateFault → ℕ
number OutsideCalendar = 15

-- which carries nothing else
abbrev pub told : DateFault → Refusal
told f = bare (number f)

-- the serial day after carrying
abbrev pub day_of : Float → ℕ
day_of serial = millis_since_start serial / 86400000

-- a number, not below 0 (minus zero is not), and not past the last day after carrying
unfoldable pub accepted : Bool → Float → Bool
accepted is1904 nan = false
accepted is1904 (inf negative) = false
accepted is1904 (fin negative m e) = (not negative || m == 0) && nat_le (day_of (fin negative m e)) (last_day is1904)

-- the date of the serial's day, and the time by quotients and remainders of its milliseconds
abbrev pub time_of : Bool → Float → CivilTime
time_of is1904 serial =
    record { date = date_of is1904 (day_of serial); hour = millis_since_start serial / 3600000 % 24; minute = millis_since_start serial / 60000 % 60; second = millis_since_start serial / 1000 % 60; milli = millis_since_start serial % 1000 }

-- the answer to a serial
abbrev pub answer : Bool → Float → Result CivilTime DateFault
answer is1904 serial = cond (accepted is1904 serial) (Ok (time_of is1904 serial)) (Err OutsideCalendar)

-- a time of the 24-hour clock, which with the days before it makes up so many milliseconds
abbrev pub Clocks : CivilTime → ℕ → ℕ → Type 0
Clocks time days total =
    (time.hour < 24) × (time.minute < 60) × (time.second < 60) × (time.milli < 1000)
    × ((((days * 24 + time.hour) * 60 + time.minute) * 60 + time.second) * 1000 + time.milli ≡ total)

-- What an answer says, by case: its date counts to the serial's day, no other date does, and with its time it makes up the serial's milliseconds; or a refusal has the number 15.
abbrev pub Says : Bool → Float → Result CivilTime DateFault → Type 0
Says is1904 serial (Ok time) = CountsTo is1904 time.date (day_of serial) × OnlyDate is1904 time.date (day_of serial) × Clocks time (day_of serial) (millis_since_start serial)
Says is1904 serial (Err fault) = number fault ≡ 15
