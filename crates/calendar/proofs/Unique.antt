-- A serial day has one date.
use Rattle.std.proofs.Common.{◌≡◌, ℕ, zero, suc, ◌+◌, ◌-◌, ◌<◌, ◌≤◌, Bool, sym, ap, ◌∙◌, subst, inl, inr, le_trans, le_refl, add-suc, arith}
use Rattle.std.proofs.lemmas.Bool.{cases_order}
use Rattle.calendar.specs.declared.civil.Date.{Date}
use Rattle.calendar.proofs.Months.{months_to, month_grows, whole_year}
use Rattle.calendar.specs.Calendar.{leap, year_length, month_length, days_of_years, days_of_months, start_year, start_days, CountsTo, OnlyDate}

-- a place in a sum of parts, where f k is the sum of the first k: which part it lies in
module _ (f : ℕ → ℕ) (grows : (k : ℕ) → f k ≤ f (suc k)) where
  mono : (i k : ℕ) → f i ≤ f (i + k)
  mono i zero = subst (λ (z : ℕ). f i ≤ f z) (omega arith) (le_refl (f i))
  mono i (suc k) = le_trans (mono i k) (subst (λ (z : ℕ). f (i + k) ≤ f z) (sym (add-suc i k)) (grows (i + k)))

  before : (i j : ℕ) → i < j → f (suc i) ≤ f j
  before i j h = subst (λ (z : ℕ). f (suc i) ≤ f z) (omega arith) (mono (suc i) (j - suc i))

  same_part : (i j n : ℕ) → f i ≤ n → n < f (suc i) → f j ≤ n → n < f (suc j) → i ≡ j
  same_part i j n a b c d = elim (cases_order i j) [
    | inl e ↦ e
    | inr o ↦ elim o [ inl l ↦ let z : ⊥ = omega (arith, before i j l) in absurd z | inr l ↦ let z : ⊥ = omega (arith, before j i l) in absurd z ]
  ]

-- more years have no fewer days
year_grows : (is1904 : Bool) (y k : ℕ) → days_of_years is1904 y k ≤ days_of_years is1904 y (suc k)
year_grows is1904 y k = omega arith

-- a day of month m lies before the month's end, and so before the year's
inside : (isLeap : Bool) (m d : ℕ) → 1 ≤ m → m ≤ 12 → 1 ≤ d → d ≤ month_length isLeap m → (days_of_months isLeap (m - 1) + (d - 1) < days_of_months isLeap (suc (m - 1))) × (days_of_months isLeap (m - 1) + (d - 1) < year_length isLeap)
inside isLeap m d a b c e =
    let n = months_to isLeap m (suc (m - 1)) a (omega arith) in
    let t : suc (m - 1) + (12 - suc (m - 1)) ≡ 12 = omega arith in
    let r : days_of_months isLeap (suc (m - 1)) ≤ days_of_months isLeap 12 = subst (λ (z : ℕ). days_of_months isLeap (suc (m - 1)) ≤ days_of_months isLeap z) t (mono (days_of_months isLeap) (month_grows isLeap) (suc (m - 1)) (12 - suc (m - 1))) in
    omega (arith, whole_year isLeap)

-- equal fields make equal dates
same_fields : (d e : Date) → d.year ≡ e.year → d.month ≡ e.month → d.day ≡ e.day → d ≡ e
same_fields d e p q r = λ i. record { year = p i; month = q i; day = r i }

-- two dates that count to one serial day are equal: first their years, then their months, then their days
pub one_date : (is1904 : Bool) (d e : Date) (n : ℕ) → CountsTo is1904 d n → CountsTo is1904 e n → d ≡ e
one_date is1904 d e n p q =
    let Y = start_year is1904 in
    let N = n + start_days is1904 in
    let i = d.year - Y in
    let j = e.year - Y in
    let ld = leap is1904 d.year in
    let le' = leap is1904 e.year in
    let a = inside ld d.month d.day p.month_low p.month_high p.day_low p.day_high in
    let b = inside le' e.month e.day q.month_low q.month_high q.day_low q.day_high in
    let yi : Y + i ≡ d.year = omega (arith, p.year_low) in
    let yj : Y + j ≡ e.year = omega (arith, q.year_low) in
    let si : days_of_years is1904 Y (suc i) ≡ days_of_years is1904 Y i + year_length ld = ap (λ (z : ℕ). days_of_years is1904 Y i + year_length (leap is1904 z)) yi in
    let sj : days_of_years is1904 Y (suc j) ≡ days_of_years is1904 Y j + year_length le' = ap (λ (z : ℕ). days_of_years is1904 Y j + year_length (leap is1904 z)) yj in
    let same : i ≡ j = same_part (days_of_years is1904 Y) (year_grows is1904 Y) i j N (omega (arith, p.counts)) (omega (arith, p.counts)) (omega (arith, q.counts)) (omega (arith, q.counts)) in
    let years : d.year ≡ e.year = sym yi ∙ ap (λ (z : ℕ). Y + z) same ∙ yj in
    let ls : ld ≡ le' = ap (leap is1904) years in
    let fs : days_of_years is1904 Y i ≡ days_of_years is1904 Y j = ap (days_of_years is1904 Y) same in
    let M = days_of_months ld (d.month - 1) + (d.day - 1) in
    let ms : days_of_months le' (e.month - 1) ≡ days_of_months ld (e.month - 1) = ap (λ (z : Bool). days_of_months z (e.month - 1)) (sym ls) in
    let mt : days_of_months le' (suc (e.month - 1)) ≡ days_of_months ld (suc (e.month - 1)) = ap (λ (z : Bool). days_of_months z (suc (e.month - 1))) (sym ls) in
    let eq : M ≡ days_of_months ld (e.month - 1) + (e.day - 1) = omega (arith, p.counts, q.counts) in
    let k : d.month - 1 ≡ e.month - 1 = same_part (days_of_months ld) (month_grows ld) (d.month - 1) (e.month - 1) M (omega arith) (omega arith) (omega arith) (omega arith) in
    let months : d.month ≡ e.month = omega (arith, p.month_low, q.month_low) in
    let mm : days_of_months ld (d.month - 1) ≡ days_of_months ld (e.month - 1) = ap (days_of_months ld) k in
    let days : d.day ≡ e.day = omega (arith, p.day_low, q.day_low) in
    same_fields d e years months days

-- so a date that counts to a day is the only one
pub only : (is1904 : Bool) (d : Date) (n : ℕ) → CountsTo is1904 d n → OnlyDate is1904 d n
only is1904 d n p other q = one_date is1904 other d n q p
