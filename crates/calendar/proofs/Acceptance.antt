-- Which serials are accepted, by the comparisons that the program makes.
use Rattle.std.proofs.Common.{◌≡◌, ℕ, zero, suc, ◌*◌, ◌/◌, ◌^◌, ◌<◌, ◌≤◌, Bool, true, false, not, ◌&&◌, ◌||◌, eqb, leb, ℤ, sym, refl, ap, ◌∙◌, true≢false, zero-lt-suc, mul-pos, le-div_iff_mul-le, zero-mul, mul-one, arith}
use lib.Ieee.{Float, nan, inf, fin, binary64, up, down, le, of_bits}
use lib.Ieee.Fits.{up_pos, down_pos}
use Rattle.std.proofs.lemmas.Bool.Decides.{nat_tests}
use Rattle.std.proofs.lemmas.Bool.{leb-true, leb-false, eqb-true, lt-leb, and_right}
use Rattle.std.specs.Float.{float_with_sign}
use Rattle.calendar.specs.Calendar.{last_day}
use Rattle.calendar.specs.Clock.{Under, whole_part, millis_since_start}
use Rattle.calendar.specs.Serial.{day_of, accepted}

-- 0.0, and 2958466.0, the first serial past both calendars
abbrev pub naught : Float
naught = of_bits binary64 0

abbrev pub end : Float
end = of_bits binary64 4703607668705591296

-- a value with the sign plus is not below zero, and one with the sign minus only where it is minus zero
naught_plus : (m : ℕ) (e : ℤ) → le naught (fin false m e) ≡ true
unfolding le of_bits
naught_plus m e = let p : 0 * down e ≡ 0 = zero-mul (down e) in grind (arith, nat_tests)

naught_minus : (m : ℕ) (e : ℤ) → le naught (fin true m e) ≡ eqb m 0
unfolding le of_bits
naught_minus zero e = let p : 0 * down e ≡ 0 = zero-mul (down e) in let q : 0 * up e ≡ 0 = zero-mul (up e) in grind (arith, nat_tests)
naught_minus (suc m) e = let p : 0 * down e ≡ 0 = zero-mul (down e) in let q : 0 < suc m * up e = mul-pos (zero-lt-suc m) (up_pos e) in grind (arith, nat_tests)

-- so whatever is not at least zero is refused
pub below_zero : (is1904 : Bool) (x : Float) → le naught x ≡ false → accepted is1904 x ≡ false
unfolding accepted
below_zero is1904 nan h = refl
below_zero is1904 (inf s) h = refl
below_zero is1904 (fin false m e) h = absurd (true≢false (sym (naught_plus m e) ∙ h))
below_zero is1904 (fin true m e) h = ap (λ (b : Bool). b && leb (day_of (fin true m e)) (last_day is1904)) (sym (naught_minus m e) ∙ h)

-- what is at least zero has the sign plus, or it is minus zero
not_negative : (s : Bool) (m : ℕ) (e : ℤ) → le naught (fin s m e) ≡ true → (not s || eqb m 0) ≡ true
not_negative false m e h = refl
not_negative true m e h = sym (naught_minus m e) ∙ h

-- only a value with the sign plus reaches the end
end_plus : (m : ℕ) (e : ℤ) → le end (fin false m e) ≡ leb (2958466 * down e) (m * up e)
unfolding le of_bits
end_plus m e = let p : m * up e * 1 ≡ m * up e = mul-one (m * up e) in grind (arith, nat_tests)

end_minus : (m : ℕ) (e : ℤ) → le end (fin true m e) ≡ false
unfolding le of_bits
end_minus m e = let p = down_pos e in grind (arith, nat_tests)

-- no system reaches further than the 1900 one
last_le : (is1904 : Bool) → last_day is1904 ≤ 2958465
last_le true = omega arith
last_le false = omega arith

-- carrying never takes a day back
day_ge : (x : Float) → whole_part x ≤ day_of x
day_ge x = omega arith

-- from the end on a serial is refused in either system
pub past_end : (is1904 : Bool) (x : Float) → le end x ≡ true → accepted is1904 x ≡ false
unfolding accepted
past_end is1904 nan h = refl
past_end is1904 (inf s) h = refl
past_end is1904 (fin false m e) h =
    let l : 2958466 * down e ≤ m * up e = leb-true _ _ (sym (end_plus m e) ∙ h) in
    let w : 2958466 ≤ m * up e / down e = (le-div_iff_mul-le (down_pos e)).1 l in
    let d = day_ge (fin false m e) in
    and_right true (leb (day_of (fin false m e)) (last_day is1904)) (lt-leb _ _ (omega (arith, last_le is1904)))
past_end is1904 (fin true m e) h = absurd (true≢false (sym h ∙ end_minus m e))

-- neither comparison holds of not-a-number, and not both of an infinity
no_infinity : (s : Bool) → le naught (inf s) ≡ true → le end (inf s) ≡ false → ⊥
unfolding le of_bits
no_infinity true g h = true≢false (sym g)
no_infinity false g h = true≢false h

no_nan : le naught nan ≡ true → ⊥
unfolding le of_bits
no_nan g = true≢false (sym g)

-- between the two, the size of a serial is what the clock takes
pub under : (x : Float) → le naught x ≡ true → le end x ≡ false → Under (float_with_sign false x) (2 ^ 32)
unfolding float_with_sign
under nan g h = absurd (no_nan g)
under (inf s) g h = absurd (no_infinity s g h)
under (fin false m d) g h = ((refl, refl), omega (arith, leb-false _ _ (sym (end_plus m d) ∙ h), down_pos d))
under (fin true m d) g h =
    let z : m ≡ 0 = eqb-true m 0 (sym (naught_minus m d) ∙ g) in
    let q : m * up d ≡ 0 = ap (λ (k : ℕ). k * up d) z ∙ zero-mul (up d) in
    ((refl, refl), omega (arith, down_pos d))

-- the sign does not matter to the milliseconds
pub same_millis : (x : Float) → millis_since_start (float_with_sign false x) ≡ millis_since_start x
unfolding float_with_sign
same_millis nan = refl
same_millis (inf s) = refl
same_millis (fin s m d) = refl

-- between the two, the day after carrying decides
pub by_day : (is1904 : Bool) (x : Float) → le naught x ≡ true → le end x ≡ false → accepted is1904 x ≡ leb (day_of x) (last_day is1904)
unfolding accepted
by_day is1904 nan g h = absurd (no_nan g)
by_day is1904 (inf s) g h = absurd (no_infinity s g h)
by_day is1904 (fin s m e) g h = ap (λ (b : Bool). b && leb (day_of (fin s m e)) (last_day is1904)) (not_negative s m e g)
