use Rattle.std.proofs.Common.{◌≡◌, ◌+◌, ◌-◌}
use Rattle.calendar.specs.Calendar.{days_of_months}
use Rattle.calendar.proofs.year.YearDay.date.Given as goal

-- the months before this one, and the days left, make up the day
abbrev pub invariant-loop-month : goal.invariant-loop-month
invariant-loop-month l = days_of_months l.self.is_leap (l.month - 1) + l.left ≡ l.self.day
