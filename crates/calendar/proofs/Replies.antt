-- The answer to a serial, by what the program found.
use Rattle.std.proofs.Common.{◌≡◌, ℕ, ◌+◌, ◌*◌, ◌/◌, ◌%◌, true, cond, Bool, Ok, Err, sym, ap, ◌∙◌, subst, arith}
use native.Mathlib.Nat.{div-div-eq-div-mul}
use lib.Ieee.{Float}
use Rattle.calendar.specs.declared.civil.Date.{Date}
use Rattle.calendar.specs.declared.civil.CivilTime.{CivilTime}
use Rattle.calendar.specs.declared.civil.DateFault.TheVariants.{OutsideCalendar}
use Rattle.calendar.specs.Calendar.{CountsTo}
use Rattle.calendar.specs.Clock.{millis_since_start}
use Rattle.calendar.specs.Serial.{day_of, accepted, time_of, answer, Says, Clocks}
use Rattle.calendar.proofs.Days.{date_is}
use Rattle.calendar.proofs.Unique.{only}

-- a date, and the time by quotients and remainders of a number of milliseconds
abbrev pub time_at : Date → ℕ → CivilTime
time_at date count = record { date = date; hour = count / 3600000 % 24; minute = count / 60000 % 60; second = count / 1000 % 60; milli = count % 1000 }

-- quotients and remainders of the milliseconds put together again
recomposed : (n : ℕ) → (((n / 86400000 * 24 + n / 3600000 % 24) * 60 + n / 60000 % 60) * 60 + n / 1000 % 60) * 1000 + n % 1000 ≡ n
recomposed n =
    let b : n / 60000 ≡ n / 1000 / 60 = sym (div-div-eq-div-mul n 1000 60) in
    let c : n / 3600000 ≡ n / 60000 / 60 = sym (div-div-eq-div-mul n 60000 60) in
    let d : n / 86400000 ≡ n / 3600000 / 24 = sym (div-div-eq-div-mul n 3600000 24) in
    omega arith

-- an accepted serial, its milliseconds, and a date that counts to its day
module _ (is1904 : Bool) (x : Float) (date : Date) (count : ℕ) (h : accepted is1904 x ≡ true) (counted : count ≡ millis_since_start x) (dated : CountsTo is1904 date (day_of x)) where
  -- its answer is that date, with the time by the milliseconds
  pub replied : Ok (time_at date count) ≡ answer is1904 x
  replied =
      ap (λ (n : ℕ). Ok (time_at date n)) counted
      ∙ ap (λ (d : Date). Ok (time_at d (millis_since_start x))) (date_is is1904 date (day_of x) dated)
      ∙ sym (ap (λ (b : Bool). cond b (Ok (time_of is1904 x)) (Err OutsideCalendar)) h)

  clocked : (n : ℕ) → Clocks (time_at date n) (n / 86400000) n
  clocked n = (omega arith, omega arith, omega arith, omega arith, recomposed n)

  pub said : Says is1904 x (Ok (time_at date count))
  said = (dated, only is1904 date (day_of x) dated, subst (λ (n : ℕ). Clocks (time_at date n) (day_of x) (millis_since_start x)) (sym counted) (clocked (millis_since_start x)))
