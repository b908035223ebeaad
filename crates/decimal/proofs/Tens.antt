-- Powers of ten as floats: a product or a quotient of two is the exact one, rounded once.
use Rattle.std.proofs.Common.{◌≡◌, ℕ, zero, suc, ◌+◌, ◌*◌, ◌^◌, ◌<◌, ◌≤◌, Bool, true, false, cond, eqb, ltb, List, [], ◌∷◌, length, get_or, ℤ, pos, negsuc, nat_abs, sym, refl, ap, ◌∙◌, subst, true≢false, le_of_suc-le-suc, add-zero, add-suc, zero-lt-suc, mul_assoc, mul_comm, suc-add, mul-pos, zero-add, zero-mul, mul-one, mul_left_comm, arith, ne_eqb}
use native.Mathlib.Nat.{one-le-pow}
use lib.Dec.{leb-zero}
use lib.Signed.{le_z}
use lib.Ieee.{low, emax, prec, Float, nan, inf, fin, Format, binary64, up, down, round, units, odd, neg, mul, div, of_int, of_bits}
use lib.Ieee.Fits.{down_pos}
use lib.Ieee.Exact.{HasValue}
use lib.Ieee.Scale.{round_same}
use Rattle.number.proofs.Wholes.{whole_value}
use Rattle.decimal.specs.Amount.{nearest_decimal}

-- exact numerators and denominators multiply
cross : (m n d e a b : ℕ) → m * 1 ≡ a * d → n * 1 ≡ b * e → m * n * 1 ≡ a * b * (d * e)
cross m n d e a b p q =
    let x : m ≡ a * d = sym (mul-one m) ∙ p in
    let y : n ≡ b * e = sym (mul-one n) ∙ q in
    mul-one (m * n) ∙ ap (λ (z : ℕ). z * n) x ∙ ap (λ (z : ℕ). a * d * z) y ∙ simp (mul_assoc, mul_comm, mul_left_comm)

-- a product of two whole numbers, rounded once
pub times : (f : Format) (x y : Float) (a b : ℕ) → HasValue x false a 1 → HasValue y false b 1 → mul f x y ≡ round f false (a * b) 1
unfolding mul
times f nan y a b h k = absurd h
times f (inf s) y a b h k = absurd h
times f (fin s m e) nan a b h k = absurd k
times f (fin s m e) (inf t) a b h k = absurd k
times f (fin true m e) (fin t n d) a b h k = absurd (true≢false h.0)
times f (fin false m e) (fin true n d) a b h k = absurd (true≢false k.0)
times f (fin false m e) (fin false n d) a b h k =
    round_same f false (m * up e * (n * up d)) (down e * down d) (a * b) 1 (mul-pos (down_pos e) (down_pos d)) (zero-lt-suc 0)
    (cross (m * up e) (n * up d) (down e) (down d) a b h.1 k.1)

-- what is above 0 is not 0
not_zero : (n u b d : ℕ) → 0 < b → 0 < d → n * u * 1 ≡ b * d → n ≡ 0 → ⊥
not_zero n u b d B D h z = let p = mul-pos B D in let q : n * u ≡ 0 = ap (λ (x : ℕ). x * u) z ∙ native.Mathlib.Nat.zero-mul u in omega arith

-- and divide
cross_div : (m n d e a b : ℕ) → m * 1 ≡ a * d → n * 1 ≡ b * e → m * e * b ≡ a * (n * d)
cross_div m n d e a b p q =
    let x : m ≡ a * d = sym (mul-one m) ∙ p in
    let y : n ≡ b * e = sym (mul-one n) ∙ q in
    ap (λ (z : ℕ). z * e * b) x ∙ (simp (mul_assoc, mul_comm, mul_left_comm)) ∙ sym (ap (λ (z : ℕ). a * (z * d)) y)

-- a quotient of two whole numbers, rounded once
pub over : (f : Format) (x y : Float) (a b : ℕ) → 0 < b → HasValue x false a 1 → HasValue y false b 1 → div f x y ≡ round f false a b
unfolding div
over f nan y a b B h k = absurd h
over f (inf s) y a b B h k = absurd h
over f (fin s m e) nan a b B h k = absurd k
over f (fin s m e) (inf t) a b B h k = absurd k
over f (fin true m e) (fin t n d) a b B h k = absurd (true≢false h.0)
over f (fin false m e) (fin true n d) a b B h k = absurd (true≢false k.0)
over f (fin false m e) (fin false n d) a b B h k =
    let z : eqb n 0 ≡ false = ne_eqb n 0 (not_zero n (up d) b (down d) B (down_pos d) k.1) in
    let N : 0 < n * up d = omega (arith, mul-pos B (down_pos d), k.1) in
    ap (λ (t : Bool). cond t (cond (eqb m 0) nan (inf false)) (round f false (m * up e * down d) (n * up d * down e))) z
    ∙ round_same f false (m * up e * down d) (n * up d * down e) a b (mul-pos N (down_pos e)) B
    (cross_div (m * up e) (n * up d) (down e) (down d) a b h.1 k.1)

-- the floats of a list are the powers of ten from 10 ^ k on
abbrev pub Powers : List Float → ℕ → Type 0
Powers [] k = Unit {0}
Powers (x ∷ xs) k = HasValue x false (10 ^ k) 1 × Powers xs (suc k)

-- each of them is at its place
pub power_at : (xs : List Float) (j k : ℕ) (d : Float) → Powers xs j → k < length xs → HasValue (get_or xs k d) false (10 ^ (j + k)) 1
power_at [] j k d p h = let z : ⊥ = omega arith in absurd z
power_at (x ∷ xs) j zero d p h = subst (λ (z : ℕ). HasValue x false (10 ^ z) 1) (sym (add-zero j)) p.0
power_at (x ∷ xs) j (suc k) d p h = subst (λ (z : ℕ). HasValue (get_or xs k d) false (10 ^ z) 1) (suc-add j k ∙ sym (add-suc j k)) (power_at xs (suc j) k d p.1 (le_of_suc-le-suc h))

-- the powers from 1 to 10 ^ 22, by their bits
abbrev pub tens : List Float
tens = of_bits binary64 4607182418800017408 ∷ of_bits binary64 4621819117588971520 ∷ of_bits binary64 4636737291354636288 ∷ of_bits binary64 4652007308841189376 ∷ of_bits binary64 4666723172467343360 ∷ of_bits binary64 4681608360884174848 ∷ of_bits binary64 4696837146684686336 ∷ of_bits binary64 4711630319722168320 ∷ of_bits binary64 4726483295884279808 ∷ of_bits binary64 4741671816366391296 ∷ of_bits binary64 4756540486875873280 ∷ of_bits binary64 4771362005757984768 ∷ of_bits binary64 4786511204640096256 ∷ of_bits binary64 4801453603149578240 ∷ of_bits binary64 4816244402031689728 ∷ of_bits binary64 4831355200913801216 ∷ of_bits binary64 4846369599423283200 ∷ of_bits binary64 4861130398305394688 ∷ of_bits binary64 4876203697187506176 ∷ of_bits binary64 4891288408196988160 ∷ of_bits binary64 4906019910204099648 ∷ of_bits binary64 4921056587992461136 ∷ of_bits binary64 4936209963552724370 ∷ []

-- they are exact
pub powers : Powers tens 0
unfolding of_bits
powers = ((refl, refl), ((refl, refl), ((refl, refl), ((refl, refl), ((refl, refl), ((refl, refl), ((refl, refl), ((refl, refl), ((refl, refl), ((refl, refl), ((refl, refl), ((refl, refl), ((refl, refl), ((refl, refl), ((refl, refl), ((refl, refl), ((refl, refl), ((refl, refl), ((refl, refl), ((refl, refl), ((refl, refl), ((refl, refl), ((refl, refl), tt)))))))))))))))))))))))

-- the power at k
pub ten_at : (k : ℕ) → k < 23 → HasValue (get_or tens k nan) false (10 ^ k) 1
ten_at k h = subst (λ (z : ℕ). HasValue (get_or tens k nan) false (10 ^ z) 1) (zero-add k) (power_at tens 0 k nan powers h)

-- a number below 10 ^ 15 is a float exactly
small : (w : ℕ) → w < 10 ^ 15 → w ≤ 2 ^ 53
small w h = omega arith

-- a number times a power of ten up to 10 ^ 22, rounded once
pub scaled_up : (w : ℕ) (e z : ℤ) (n : ℕ) (t : Float) → w < 10 ^ 15 → z ≡ e → n ≡ nat_abs z → le_z (pos 0) z ≡ true → HasValue t false (10 ^ n) 1
    → mul binary64 (of_int binary64 (pos w)) t ≡ nearest_decimal false w e
scaled_up w (negsuc k) z n t h q i p v = absurd (true≢false (sym p ∙ ap (le_z (pos 0)) q))
scaled_up w (pos k) z n t h q i p v =
    times binary64 (of_int binary64 (pos w)) t w (10 ^ n) (whole_value w (small w h)) v ∙ ap (λ (x : ℕ). round binary64 false (w * 10 ^ x) 1) (i ∙ ap nat_abs q)

-- and divided by one
pub scaled_down : (w : ℕ) (e z : ℤ) (n : ℕ) (t : Float) → w < 10 ^ 15 → z ≡ e → n ≡ nat_abs z → le_z (pos 0) z ≡ false → HasValue t false (10 ^ n) 1
    → div binary64 (of_int binary64 (pos w)) t ≡ nearest_decimal false w e
scaled_down w (pos k) z n t h q i p v = absurd (true≢false (sym (leb-zero k) ∙ sym (ap (le_z (pos 0)) q) ∙ p))
scaled_down w (negsuc k) z n t h q i p v =
    over binary64 (of_int binary64 (pos w)) t w (10 ^ n) (one-le-pow n 10 (zero-lt-suc 9)) (whole_value w (small w h)) v ∙ ap (λ (x : ℕ). round binary64 false w (10 ^ x)) (i ∙ ap nat_abs q)

-- zero by its bits is 0 rounded
zero_is : of_bits binary64 0 ≡ round binary64 false 0 1
unfolding of_bits round
zero_is = refl

-- 0 over any number is 0
zero_over : (d : ℕ) → 0 < d → of_bits binary64 0 ≡ round binary64 false 0 d
zero_over d h = zero_is ∙ round_same binary64 false 0 1 0 d (zero-lt-suc 0) h (zero-mul d ∙ sym (zero-mul 1))

-- 0 is 0 at every scale
pub zero_scaled : (e : ℤ) → of_bits binary64 0 ≡ nearest_decimal false 0 e
zero_scaled (pos k) = zero_over 1 (zero-lt-suc 0) ∙ ap (λ (n : ℕ). round binary64 false n 1) (sym (zero-mul (10 ^ k)))
zero_scaled (negsuc k) = zero_over (10 ^ suc k) (one-le-pow (suc k) 10 (zero-lt-suc 9))

-- rounding keeps the sign apart
neg_odd : (d q k l : ℕ) → neg (odd d false q k l) ≡ odd d true q k l
unfolding odd neg
neg_odd d zero k l = refl
neg_odd d (suc q) k l = refl

-- or to an infinity
neg_cond : (b : Bool) (x y : Float) → neg x ≡ y → neg (cond b x (inf false)) ≡ cond b y (inf true)
unfolding neg
neg_cond true x y e = e
neg_cond false x y e = refl

-- so in units of the smallest value
neg_units : (f : Format) (q k : ℕ) → neg (units f false q k) ≡ units f true q k
unfolding units
neg_units f q k = neg_cond (ltb (q * 2 ^ k) (2 ^ (low f + suc (emax f)))) _ _ (neg_odd (suc (prec f)) q k (low f))

-- so for any fraction
neg_round : (f : Format) (a b : ℕ) → neg (round f false a b) ≡ round f true a b
unfolding round
neg_round f a b = neg_units f _ _

-- the nearest float of a number under a minus is that of the number, turned over
pub neg_decimal : (w : ℕ) (e : ℤ) → neg (nearest_decimal false w e) ≡ nearest_decimal true w e
neg_decimal w (pos k) = neg_round binary64 (w * 10 ^ k) 1
neg_decimal w (negsuc k) = neg_round binary64 w (10 ^ suc k)
