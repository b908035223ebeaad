-- The whole part and the fraction of a float, each exact.
use Rattle.std.proofs.Common.{◌≡◌, ℕ, zero, suc, ◌+◌, ◌-◌, ◌*◌, ◌/◌, ◌%◌, ◌^◌, ◌<◌, ◌≤◌, Bool, true, false, cond, ◌&&◌, T, eqb, ltb, leb, ℤ, pos, negsuc, sym, refl, ap, ◌∙◌, subst, inl, inr, true≢false, le_trans, le_of_eq, lt_of_lt_of_le, lt_of_le_of_lt, le_of_lt, mul-le-mul_right, mod-lt, zero-lt-suc, mul_assoc, mul_comm, div-lt_iff_lt-mul, add-mul, mul-lt-mul_of_pos_right, mul-pos, div-add-mod', mul-one, mul_right_comm, not-le_of_lt, arith, lit≤, le→leb, eqb→eq, ltb→lt, leb→le, pow_pos, pow_mono, pow-add}
use native.Mathlib.Nat.{mod-le, mod-one, sub-add_cancel, mul-mul-mul_comm}
use Rattle.std.proofs.lemmas.Bool.{cases_lt}
use Rattle.std.specs.Float as Floats
use Rattle.std.specs.Float.{round_with}
use lib.Pow.{pow-lt}
use lib.Ieee.{Float, nan, inf, fin, Format, binary64, up, down, round, mul, sub, sum, of_int, to_unsigned, fits, in_float}
use lib.Ieee.Fits.{down_pos, and_l, and_r}
use lib.Ieee.Exact.{HasValue, round_exact}
use lib.Ieee.Scale.{round_same}
use lib.Ieee.Back.{round_whole, unsigned_back}
use lib.Ieee.Positive.{num, den, den_pos}
use Rattle.calendar.specs.Clock.{Under, whole_part, fraction_times, half_up}
use Rattle.calendar.proofs.Rounding.{round_at_most}

-- a whole number of at most 2 ^ 53 is a float
whole_value : (n : ℕ) → n ≤ 2 ^ 53 → HasValue (of_int binary64 (pos n)) false n 1
unfolding of_int
whole_value n h = round_whole binary64 false n h

-- a cast to 64 bits takes the whole part
pub whole_part_lem : (x : Float) (r : ℕ) → Under x (2 ^ 32) → r ≡ to_unsigned 64 x → r ≡ whole_part x
unfolding to_unsigned
whole_part_lem nan r u e = absurd u.0
whole_part_lem (inf s) r u e = absurd u.0
whole_part_lem (fin true m d) r u e = absurd (true≢false u.0.0)
whole_part_lem (fin false m d) r u e = let l : m * up d / down d < 2 ^ 32 = (div-lt_iff_lt-mul (down_pos d)).1 u.1 in omega arith

-- which is small where the float is
pub whole_bound : (x : Float) (r : ℕ) → Under x (2 ^ 32) → r ≡ to_unsigned 64 x → r < 2 ^ 32
whole_bound x r u e = subst (λ (n : ℕ). n < 2 ^ 32) (sym (whole_part_lem x r u e)) ((div-lt_iff_lt-mul (den_pos x)).1 u.1)

-- a product of two values that are not negative, by the fractions that they equal
times : (f : Format) (x y : Float) (a c b d : ℕ) → 0 < c → 0 < d → HasValue x false a c → HasValue y false b d → mul f x y ≡ round f false (a * b) (c * d)
unfolding mul
times f nan y a c b d C D h k = absurd h
times f (inf s) y a c b d C D h k = absurd h
times f (fin s m e) nan a c b d C D h k = absurd k
times f (fin s m e) (inf t) a c b d C D h k = absurd k
times f (fin true m e) (fin t n g) a c b d C D h k = absurd (true≢false h.0)
times f (fin false m e) (fin true n g) a c b d C D h k = absurd (true≢false k.0)
times f (fin false m e) (fin false n g) a c b d C D h k =
    round_same f false (m * up e * (n * up g)) (down e * down g) (a * b) (c * d) (mul-pos (down_pos e) (down_pos g)) (mul-pos C D)
    (mul-mul-mul_comm (m * up e) (n * up g) c d ∙ ap (λ (z : ℕ). z * (n * up g * d)) h.1 ∙ ap (λ (z : ℕ). a * down e * z) k.1 ∙ mul-mul-mul_comm a (down e) b (down g))

-- a difference whose second part is no larger is not negative
pick : (f : Format) (a b c : ℕ) → b ≤ a → sum f false a true b c ≡ round f false (a - b) c
unfolding sum
pick f a b c h = go (ltb a b) (ltb→lt a b)
  where
    go : (t : Bool) → (T t → a < b) → cond t (round f true (b - a) c) (round f false (a - b) c) ≡ round f false (a - b) c
    go true k = absurd (not-le_of_lt (k tt) h)
    go false k = refl

-- a difference of two values over their common denominator
opened : (f : Format) (m : ℕ) (e : ℤ) (n : ℕ) (d : ℤ) → sub f (fin false m e) (fin false n d) ≡ sum f false (m * up e * down d) true (n * up d * down e) (down e * down d)
unfolding sub
opened f m e n d = refl

-- taking the quotient n off A / D leaves the remainder, over the denominator D * g
rest : (A g N n D : ℕ) → N * 1 ≡ n * g → n ≡ A / D → (N * D ≤ A * g) × (A * g - N * D ≡ A % D * g)
rest A g N n D h e =
    let x : N ≡ n * g = sym (mul-one N) ∙ h in
    let d : n * D + A % D ≡ A = ap (λ (z : ℕ). z * D + A % D) e ∙ div-add-mod' A D in
    let y : N * D ≡ n * D * g = ap (λ (z : ℕ). z * D) x ∙ mul_right_comm n g D in
    let z : A * g ≡ n * D * g + A % D * g = ap (λ (z : ℕ). z * g) (sym d) ∙ add-mul (n * D) (A % D) g in
    omega arith

-- a value less its whole part is its fraction, rounded
less_whole : (x y : Float) (n : ℕ) → HasValue x false (num x) (den x) → HasValue y false n 1 → n ≡ whole_part x → sub binary64 x y ≡ round binary64 false (num x % den x) (den x)
less_whole nan y n h k e = absurd h
less_whole (inf s) y n h k e = absurd h
less_whole (fin s m d) nan n h k e = absurd k
less_whole (fin s m d) (inf t) n h k e = absurd k
less_whole (fin true m d) (fin t p g) n h k e = absurd (true≢false h.0)
less_whole (fin false m d) (fin true p g) n h k e = absurd (true≢false k.0)
less_whole (fin false m d) (fin false p g) n h k e =
    let A = m * up d in
    let r = rest A (down g) (p * up g) n (down d) k.1 e in
    opened binary64 m d p g
    ∙ pick binary64 (A * down g) (p * up g * down d) (down d * down g) r.0
    ∙ ap (λ (z : ℕ). round binary64 false z (down d * down g)) r.1
    ∙ round_same binary64 false (A % down d * down g) (down d * down g) (A % down d) (down d) (mul-pos (down_pos d) (down_pos g)) (down_pos d)
    (mul_assoc (A % down d) (down g) (down d) ∙ ap (λ (z : ℕ). A % down d * z) (mul_comm (down g) (down d)))

-- powers of two are in the order of their exponents
shallow : (k : ℕ) → 2 ^ k ≤ 2 ^ 1074 → k ≤ 1074
shallow k h = elim (cases_lt 1074 k) [ inl l ↦ absurd (not-le_of_lt (pow-lt l) h) | inr g ↦ g ]

-- what a float below 1 in its last place has: a short significand, and an exponent that is not too deep
deep : (m k : ℕ) → T (fits binary64 (fin false m (negsuc k))) → (m < 2 ^ 53) × (suc k ≤ 1074)
unfolding fits
deep zero k t = let e : 1 * 2 ^ suc k ≡ 1 = eqb→eq _ _ t in let z : ⊥ = omega (arith, pow-lt {i = 0} {j = suc k} (zero-lt-suc k)) in absurd z
deep (suc m) k t =
    let A = eqb (suc m % 2) 1 in
    let B = ltb (suc m) (2 ^ 53) in
    let C = leb (2 ^ suc k) (2 ^ 1074) in
    let D = ltb (suc m * 1) (2 ^ 1024 * 2 ^ suc k) in
    (ltb→lt _ _ (and_r A B (and_l (A && B) C (and_l (A && B && C) D t))), shallow (suc k) (leb→le _ _ (and_r (A && B) C (and_l (A && B && C) D t))))

-- the fraction of a float is a float: rounding leaves it
fraction_held : (x : Float) → T (fits binary64 x) → HasValue x false (num x) (den x) → HasValue (round binary64 false (num x % den x) (den x)) false (num x % den x) (den x)
fraction_held nan t h = absurd h
fraction_held (inf s) t h = absurd h
fraction_held (fin true m e) t h = absurd (true≢false h.0)
fraction_held (fin false m (pos k)) t h =
    let z = mod-one (m * 2 ^ k) in
    round_exact binary64 false (m * 2 ^ k % 1) 1 0 0 (zero-lt-suc 0) (pow_pos 53) (pow_pos (1074 + 1024)) (ap (λ (y : ℕ). y * 2 ^ 1074) z)
fraction_held (fin false m (negsuc k)) t h =
    let d = deep m k t in
    let D = 2 ^ suc k in
    let q = m * 1 % D in
    let Q : q < 2 ^ 53 = lt_of_le_of_lt (le_trans (mod-le (m * 1) D) (le_of_eq (mul-one m))) d.0 in
    let j = 1074 - suc k in
    let e : 2 ^ 1074 ≡ 2 ^ j * D = ap (λ (y : ℕ). 2 ^ y) (sym (sub-add_cancel d.1)) ∙ pow-add 2 j (suc k) in
    let top : q * 2 ^ j < 2 ^ (1074 + 1024) = lt_of_lt_of_le (mul-lt-mul_of_pos_right Q (pow_pos j)) (le_trans (le_of_eq (sym (pow-add 2 53 j))) (pow_mono (room j (suc k) d.1))) in
    round_exact binary64 false q D q j (pow_pos (suc k)) Q top (ap (λ (y : ℕ). q * y) e ∙ sym (mul_assoc q (2 ^ j) D))
  where
    room : (j i : ℕ) → i ≤ 1074 → 53 + (1074 - i) ≤ 1074 + 1024
    room j i g = omega arith

-- the whole part as a float
trunc_value : (x : Float) → Under x (2 ^ 32) → HasValue (Floats.trunc binary64 x) false (whole_part x) 1
unfolding round_with
trunc_value nan u = absurd u.0
trunc_value (inf s) u = absurd u.0
trunc_value (fin true m d) u = absurd (true≢false u.0.0)
trunc_value (fin false m d) u =
    let l : m * up d / down d < 2 ^ 32 = (div-lt_iff_lt-mul (down_pos d)).1 u.1 in
    round_whole binary64 false (m * up d / down d) (le_trans (le_of_lt l) (lit≤ tt))

-- the whole part taken off, and one product: the fraction times k
pub fraction_by : (x y : Float) (k : ℕ) → fits binary64 x ≡ true → Under x (2 ^ 32) → k ≤ 2 ^ 53 → y ≡ sub binary64 x (Floats.trunc binary64 x) → mul binary64 y (of_int binary64 (pos k)) ≡ fraction_times x k
fraction_by x y k f u K e =
    let t : T (fits binary64 x) = subst T (sym f) tt in
    let s = less_whole x (Floats.trunc binary64 x) (whole_part x) u.0 (trunc_value x u) refl in
    let v = subst (λ (z : Float). HasValue z false (num x % den x) (den x)) (sym (e ∙ s)) (fraction_held x t u.0) in
    times binary64 y (of_int binary64 (pos k)) (num x % den x) (den x) k 1 (den_pos x) (zero-lt-suc 0) v (whole_value k K)
    ∙ ap (λ (z : ℕ). round binary64 false (num x % den x * k) z) (mul-one (den x))

-- the fraction is below 1, so its product with k is at most k
fraction_under : (x : Float) (k bound : ℕ) → k < bound → bound ≤ 2 ^ 53 → Under (fraction_times x k) bound
fraction_under x k bound K B =
    let y = fraction_times x k in
    let l : num x % den x * k ≤ k * den x = le_trans (mul-le-mul_right k (le_of_lt (mod-lt (num x) (den_pos x)))) (le_of_eq (mul_comm (den x) k)) in
    let b = round_at_most (num x % den x * k) (den x) k (den_pos x) l (le_trans (le_of_lt K) B) in
    (b.0, lt_of_le_of_lt b.1 (mul-lt-mul_of_pos_right K (den_pos y)))

-- and so for the product as the program has it
pub fraction_by_under : (x y : Float) (k bound : ℕ) → fits binary64 x ≡ true → Under x (2 ^ 32) → k < bound → bound ≤ 2 ^ 53 → y ≡ sub binary64 x (Floats.trunc binary64 x) → Under (mul binary64 y (of_int binary64 (pos k))) bound
fraction_by_under x y k bound f u K B e = subst (λ (z : Float). Under z bound) (sym (fraction_by x y k f u (le_trans (le_of_lt K) B) e)) (fraction_under x k bound K B)

-- a whole number below 2 ^ 53 comes back from its float
half_back : (n : ℕ) → n < 2 ^ 53 → to_unsigned 64 (round binary64 false n 1) ≡ n
unfolding of_int in_float
half_back n h = (unsigned_back binary64 64 n (le→leb n (2 ^ 53) (le_of_lt h)) (lt_of_lt_of_le h (lit≤ tt))).1

-- a fraction below 2 ^ 32 rounds to less than 2 ^ 53
half_small : (a d : ℕ) → 0 < d → a < 4294967296 * d → (2 * a + d) / (2 * d) < 2 ^ 53
half_small a d D h = (div-lt_iff_lt-mul {y = 2 ^ 53} (mul-pos (zero-lt-suc 1) D)).1 (omega arith)

-- a cast of the nearest whole float gives the nearest whole number, halves up
pub half_part : (x y : Float) (r : ℕ) → Under x (2 ^ 32) → y ≡ round_with Floats.ratio_round_half_up Floats.ratio_round_half_up binary64 x → r ≡ to_unsigned 64 y → r ≡ half_up x
unfolding round_with
half_part nan y r u e h = absurd u.0
half_part (inf s) y r u e h = absurd u.0
half_part (fin true m d) y r u e h = absurd (true≢false u.0.0)
half_part (fin false m d) y r u e h = h ∙ ap (to_unsigned 64) e ∙ half_back ((2 * (m * up d) + down d) / (2 * down d)) (half_small (m * up d) (down d) (down_pos d) u.1)

-- which is small where the float is
pub half_bound : (x : Float) → Under x (2 ^ 32) → half_up x < 2 ^ 53
half_bound x u = half_small (num x) (den x) (den_pos x) u.1
