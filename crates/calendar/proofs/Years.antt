-- The days of a run of years in closed form.
use Rattle.std.proofs.Common.{◌≡◌, ℕ, zero, suc, ◌+◌, ◌-◌, ◌*◌, ◌/◌, ◌≤◌, Bool, true, false, cond, not, ◌&&◌, ltb, sym, ap, ◌∙◌, add-zero, add-suc, zero-add, arith, lit≤}
use native.Mathlib.Nat.{add_right_comm, add-sub_of_le}
use Rattle.std.proofs.lemmas.Bool.Decides.{nat_tests}
use Rattle.calendar.specs.Calendar.{leap, year_length, days_of_years, start_year}

-- the days from 1601-01-01 to the start of a year, by the Gregorian rule
abbrev pub civil : ℕ → ℕ
civil y = 365 * (y - 1601) + (y - 1601) / 4 - (y - 1601) / 100 + (y - 1601) / 400

-- the one more that the 1900 system has after its own 1900
abbrev pub extra : Bool → ℕ → ℕ
extra is1904 y = cond (not is1904 && ltb 1900 y) 1 0

-- a year's length is what its days add
step : (is1904 : Bool) (y : ℕ) → 1601 ≤ y → civil y + extra is1904 y + year_length (leap is1904 y) ≡ civil (suc y) + extra is1904 (suc y)
step true y h = grind (arith, nat_tests)
step false y h = grind (arith, nat_tests)

-- the days of k years are the difference of the days before their ends
pub years_from : (is1904 : Bool) (y k : ℕ) → 1601 ≤ y → days_of_years is1904 y k + (civil y + extra is1904 y) ≡ civil (y + k) + extra is1904 (y + k)
years_from is1904 y zero h = zero-add (civil y + extra is1904 y) ∙ ap (λ (x : ℕ). civil x + extra is1904 x) (sym (add-zero y))
years_from is1904 y (suc k) h =
    let e = years_from is1904 y k h in
    let s = step is1904 (y + k) (omega arith) in
    let r : days_of_years is1904 y k + year_length (leap is1904 (y + k)) + (civil y + extra is1904 y) ≡ civil (suc (y + k)) + extra is1904 (suc (y + k)) = add_right_comm _ _ _ ∙ ap (λ (x : ℕ). x + year_length (leap is1904 (y + k))) e ∙ s in
    r ∙ ap (λ (x : ℕ). civil x + extra is1904 x) (sym (add-suc y k))

-- the same from the start of a system to a year r of it
pub since_start : (is1904 : Bool) (r : ℕ) → start_year is1904 ≤ r → days_of_years is1904 (start_year is1904) (r - start_year is1904) + (civil (start_year is1904) + extra is1904 (start_year is1904)) ≡ civil r + extra is1904 r
since_start true r h = years_from true 1904 (r - 1904) (lit≤ tt) ∙ ap (λ (x : ℕ). civil x + extra true x) (add-sub_of_le h)
since_start false r h = years_from false 1899 (r - 1899) (lit≤ tt) ∙ ap (λ (x : ℕ). civil x + extra false x) (add-sub_of_le h)
