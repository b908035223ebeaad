-- The civil calendar, and the two systems that number its days.
-- A serial day belongs to the 1900 system, or to the 1904 system where `is1904` is true.
use Rattle.std.specs.Prelude.{◌≡◌, ℕ, zero, suc, ◌+◌, ◌-◌, ◌%◌, ◌≤◌, Bool, true, false, cond, not, ◌&&◌, ◌||◌, ◌==◌, nat_lt}
use Rattle.calendar.specs.declared.civil.Date.{Date}

-- the Gregorian rule; the 1900 system also counts its own 1900 as a leap year
abbrev pub leap : Bool → ℕ → Bool
leap is1904 year = (year % 400 == 0 || (year % 4 == 0 && not (year % 100 == 0))) || (not is1904 && year == 1900)

-- the days of February, by whether the year is a leap year
abbrev pub february : Bool → ℕ
february true = 29
february false = 28

-- the days of a year, by whether it is a leap year
abbrev pub year_length : Bool → ℕ
year_length true = 366
year_length false = 365

-- the days of a month, 1 to 12: February's, 30 in April, June, September and November, else 31
abbrev pub month_length : Bool → ℕ → ℕ
month_length isLeap month = cond (month == 2) (february isLeap) (cond ((month == 4 || month == 6) || (month == 9 || month == 11)) 30 31)

-- the days of the k years from a year on
abbrev pub days_of_years : Bool → ℕ → ℕ → ℕ
days_of_years is1904 year zero = 0
days_of_years is1904 year (suc k) = days_of_years is1904 year k + year_length (leap is1904 (year + k))

-- the days of the first k months of a year
abbrev pub days_of_months : Bool → ℕ → ℕ
days_of_months isLeap zero = 0
days_of_months isLeap (suc k) = days_of_months isLeap k + month_length isLeap (suc k)

-- the year of day 0, and the days of that year before it: day 0 is 1899-12-31, or 1904-01-01
abbrev pub start_year : Bool → ℕ
start_year is1904 = cond is1904 1904 1899

abbrev pub start_days : Bool → ℕ
start_days is1904 = cond is1904 0 364

-- the serial day of 9999-12-31, the last that a system has
abbrev pub last_day : Bool → ℕ
last_day is1904 = cond is1904 2957003 2958465

-- the date is one of the calendar, and counting its days from the system's start comes to this serial day
pub record CountsTo (is1904 : Bool) (date : Date) (day : ℕ) : Type 0 where
  pub month_low : 1 ≤ date.month
  pub month_high : date.month ≤ 12
  pub day_low : 1 ≤ date.day
  pub day_high : date.day ≤ month_length (leap is1904 date.year) date.month
  pub year_low : start_year is1904 ≤ date.year
  pub counts : days_of_years is1904 (start_year is1904) (date.year - start_year is1904) + days_of_months (leap is1904 date.year) (date.month - 1) + (date.day - 1) ≡ day + start_days is1904

-- no other date counts to this serial day
abbrev pub OnlyDate : Bool → Date → ℕ → Type 0
OnlyDate is1904 date day = (other : Date) → CountsTo is1904 other day → other ≡ date

-- a date by its parts
abbrev pub ymd : ℕ → ℕ → ℕ → Date
ymd y m d = record { year = y; month = m; day = d }

-- the day after: the next of the month, after the month's last the first of the next month, after December's last the first of the next year
abbrev pub day_after : Bool → Date → Date
day_after is1904 date =
    cond (nat_lt date.day (month_length (leap is1904 date.year) date.month)) (ymd date.year date.month (suc date.day))
    (cond (nat_lt date.month 12) (ymd date.year (suc date.month) 1) (ymd (suc date.year) 1 1))

-- the date of a serial day, day by day from the system's day 0
unfoldable pub date_of : Bool → ℕ → Date
date_of is1904 zero = cond is1904 (ymd 1904 1 1) (ymd 1899 12 31)
date_of is1904 (suc n) = day_after is1904 (date_of is1904 n)
