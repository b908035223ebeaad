-- Day by day from its start, a system's dates count to their days.
use Rattle.std.proofs.Common.{◌≡◌, ℕ, zero, suc, ◌+◌, ◌-◌, ◌<◌, ◌≤◌, Bool, true, false, cond, ltb, sym, refl, ap, ◌∙◌, arith, lit≤}
use Rattle.std.proofs.lemmas.Bool.{ltb-true, ltb-false}
use Rattle.calendar.specs.declared.civil.Date.{Date}
use Rattle.calendar.specs.Calendar.{leap, year_length, month_length, days_of_years, start_year, CountsTo, ymd, day_after, date_of}
use Rattle.calendar.proofs.Months.{months_to, some_day, whole_year}
use Rattle.calendar.proofs.Unique.{one_date}

-- the three ways to the day after
module _ (is1904 : Bool) (d : Date) (n : ℕ) (p : CountsTo is1904 d n) where
  in_month : d.day < month_length (leap is1904 d.year) d.month → CountsTo is1904 (ymd d.year d.month (suc d.day)) (suc n)
  in_month h =
      let low = p.day_low in
      let e = p.counts in
      record { month_low = p.month_low; month_high = p.month_high; day_low = omega arith; day_high = omega arith; year_low = p.year_low; counts = omega arith }

  next_month : month_length (leap is1904 d.year) d.month ≤ d.day → d.month < 12 → CountsTo is1904 (ymd d.year (suc d.month) 1) (suc n)
  next_month h l =
      let isLeap = leap is1904 d.year in
      let m = d.month in
      let low = p.month_low in
      let a = p.day_low in
      let b = p.day_high in
      let e = p.counts in
      let f = months_to isLeap m (suc m - 1) low (omega arith) in
      record { month_low = omega arith; month_high = omega arith; day_low = lit≤ tt; day_high = some_day isLeap (suc m); year_low = p.year_low; counts = omega arith }

  next_year : month_length (leap is1904 d.year) d.month ≤ d.day → 12 ≤ d.month → CountsTo is1904 (ymd (suc d.year) 1 1) (suc n)
  next_year h l =
      let isLeap = leap is1904 d.year in
      let Y = start_year is1904 in
      let y = d.year in
      let m = d.month in
      let low = p.month_low in
      let high = p.month_high in
      let a = p.day_low in
      let b = p.day_high in
      let e = p.counts in
      let g = p.year_low in
      let s : suc y - Y ≡ suc (y - Y) = omega arith in
      let t : Y + (y - Y) ≡ y = omega arith in
      let years : days_of_years is1904 Y (suc y - Y) ≡ days_of_years is1904 Y (y - Y) + year_length isLeap = ap (days_of_years is1904 Y) s ∙ ap (λ (z : ℕ). days_of_years is1904 Y (y - Y) + year_length (leap is1904 z)) t in
      let months = sym (whole_year isLeap) ∙ months_to isLeap m 12 low (omega arith) in
      record { month_low = lit≤ tt; month_high = lit≤ tt; day_low = lit≤ tt; day_high = lit≤ tt; year_low = omega arith; counts = omega arith }

-- the day after a date counts to the next serial day
pub after_counts : (is1904 : Bool) (d : Date) (n : ℕ) → CountsTo is1904 d n → CountsTo is1904 (day_after is1904 d) (suc n)
after_counts is1904 d n p = go (ltb d.day L) (ltb d.month 12) (ltb-true d.day L) (ltb-false d.day L) (ltb-true d.month 12) (ltb-false d.month 12)
  where
    L : ℕ
    L = month_length (leap is1904 d.year) d.month

    go : (a b : Bool) → (a ≡ true → d.day < L) → (a ≡ false → L ≤ d.day) → (b ≡ true → d.month < 12) → (b ≡ false → 12 ≤ d.month)
        → CountsTo is1904 (cond a (ymd d.year d.month (suc d.day)) (cond b (ymd d.year (suc d.month) 1) (ymd (suc d.year) 1 1))) (suc n)
    go true b s t u v = in_month is1904 d n p (s refl)
    go false true s t u v = next_month is1904 d n p (t refl) (u refl)
    go false false s t u v = next_year is1904 d n p (t refl) (v refl)

-- so the date of a serial day counts to it
pub date_counts : (is1904 : Bool) (n : ℕ) → CountsTo is1904 (date_of is1904 n) n
unfolding date_of
date_counts true zero = record { month_low = lit≤ tt; month_high = lit≤ tt; day_low = lit≤ tt; day_high = lit≤ tt; year_low = lit≤ tt; counts = refl }
date_counts false zero = record { month_low = lit≤ tt; month_high = lit≤ tt; day_low = lit≤ tt; day_high = lit≤ tt; year_low = lit≤ tt; counts = refl }
date_counts is1904 (suc n) = after_counts is1904 (date_of is1904 n) n (date_counts is1904 n)

-- and any date that counts to a serial day is its date
pub date_is : (is1904 : Bool) (d : Date) (n : ℕ) → CountsTo is1904 d n → d ≡ date_of is1904 n
date_is is1904 d n p = one_date is1904 d (date_of is1904 n) n p (date_counts is1904 n)
