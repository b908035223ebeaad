-- The days of the first months of a year.
use Rattle.std.proofs.Common.{◌≡◌, ℕ, zero, suc, ◌+◌, ◌-◌, ◌≤◌, Bool, true, false, sym, refl, ap, ◌∙◌, arith}
use Rattle.std.proofs.lemmas.Bool.Decides.{nat_tests}
use Rattle.calendar.specs.Calendar.{year_length, month_length, days_of_months}

-- the months up to month m, and month m; k is m, however it is written
pub months_to : (isLeap : Bool) (m k : ℕ) → 1 ≤ m → k ≡ m → days_of_months isLeap k ≡ days_of_months isLeap (m - 1) + month_length isLeap m
months_to isLeap zero k h e = let z : ⊥ = omega arith in absurd z
months_to isLeap (suc j) k h e =
    let b : suc j - 1 ≡ j = omega arith in
    ap (days_of_months isLeap) e ∙ sym (ap (λ (z : ℕ). days_of_months isLeap z + month_length isLeap (suc j)) b)

-- no month is empty
pub some_day : (isLeap : Bool) (m : ℕ) → 1 ≤ month_length isLeap m
some_day true m = grind (arith, nat_tests)
some_day false m = grind (arith, nat_tests)

-- more months have no fewer days
pub month_grows : (isLeap : Bool) (k : ℕ) → days_of_months isLeap k ≤ days_of_months isLeap (suc k)
month_grows isLeap k = omega arith

-- the twelve months make up the year
pub whole_year : (isLeap : Bool) → days_of_months isLeap 12 ≡ year_length isLeap
whole_year true = refl
whole_year false = refl
