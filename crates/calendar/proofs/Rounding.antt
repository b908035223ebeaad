-- Rounding does not pass a whole number that the format holds.
use Rattle.std.proofs.Common.{◌≡◌, ℕ, ◌*◌, ◌^◌, ◌<◌, ◌≤◌, Bool, true, false, ◌&&◌, ◌||◌, T, eqb, ltb, sym, refl, ap, ◌∙◌, true≢false, le_trans, le_of_eq, le_of_lt, zero-lt-suc, zero-mul, mul-one, mul_right_comm, le_of_mul-le-mul_right, arith, lit≤, eqb→eq, ltb→lt}
use lib.Ieee.{Float, nan, inf, fin, binary64, up, down, le, round}
use lib.Ieee.Back.{round_whole}
use lib.Ieee.Exact.{HasValue}
use lib.Ieee.Fits.{and_l}
use lib.Ieee.Order.{round_mono}
use lib.Ieee.Positive.{num, den, den_pos, value→cross}
use lib.Ieee.Scale.{finite, grid, round_val, round_under}

-- what lies between two finite values is finite
finite_between : (lo x hi : Float) (a b : ℕ) → HasValue lo false a 1 → HasValue hi false b 1 → T (le lo x) → T (le x hi) → T (finite x)
unfolding le
finite_between nan x hi a b v w h k = absurd v
finite_between (inf s) x hi a b v w h k = absurd v
finite_between (fin true m e) x hi a b v w h k = absurd (true≢false v.0)
finite_between (fin false m e) nan hi a b v w h k = absurd h
finite_between (fin false m e) (inf true) hi a b v w h k = absurd h
finite_between (fin false m e) (inf false) nan a b v w h k = absurd w
finite_between (fin false m e) (inf false) (inf t) a b v w h k = absurd w
finite_between (fin false m e) (inf false) (fin t n d) a b v w h k = absurd k
finite_between (fin false m e) (fin s n d) hi a b v w h k = tt

-- the test for at most, as two tests
lt_or_eq : (p q : ℕ) → T (ltb p q || (eqb p q && true)) → p ≤ q
lt_or_eq p q = go (ltb p q) (ltb→lt p q)
  where
    go : (b : Bool) → (T b → p < q) → T (b || (eqb p q && true)) → p ≤ q
    go true h t = le_of_lt (h tt)
    go false h t = le_of_eq (eqb→eq p q (and_l (eqb p q) true t))

-- the order of two values as the order of the fractions
crossed : (x y : Float) (a c b d : ℕ) → HasValue x false a c → HasValue y false b d → T (le x y) → num x * den y ≤ num y * den x
unfolding le
crossed nan y a c b d v w h = absurd v
crossed (inf s) y a c b d v w h = absurd v
crossed (fin true m e) y a c b d v w h = absurd (true≢false v.0)
crossed (fin false m e) nan a c b d v w h = absurd w
crossed (fin false m e) (inf t) a c b d v w h = absurd w
crossed (fin false m e) (fin true n g) a c b d v w h = absurd (true≢false w.0)
crossed (fin false m e) (fin false n g) a c b d v w h = lt_or_eq (m * up e * down g) (n * up g * down e) h

-- the fraction that a value is
own_value : (x : Float) (a c : ℕ) → HasValue x false a c → HasValue x false (num x) (den x)
own_value nan a c h = absurd h
own_value (inf s) a c h = absurd h
own_value (fin s m e) a c h = (h.0, refl)

-- a fraction that is at most b, rounded, is a value that is at most b
pub round_at_most : (a c b : ℕ) → 0 < c → a ≤ b * c → b ≤ 2 ^ 53 → HasValue (round binary64 false a c) false (num (round binary64 false a c)) (den (round binary64 false a c)) × (num (round binary64 false a c) ≤ b * den (round binary64 false a c))
round_at_most a c b C h B =
    let x = round binary64 false a c in
    let y = round binary64 false b 1 in
    let low = round_mono binary64 0 1 a c (zero-lt-suc 0) C (omega (arith, zero-mul c)) in
    let high = round_mono binary64 a c b 1 C (zero-lt-suc 0) (le_trans (le_of_eq (mul-one a)) h) in
    let bottom = round_whole binary64 false 0 (lit≤ tt) in
    let top = round_whole binary64 false b B in
    let held = round_val binary64 a c (round_under binary64 a c (finite_between (round binary64 false 0 1) x y 0 b bottom top low high)) in
    let y_is : num y ≡ b * den y = sym (mul-one (num y)) ∙ value→cross y b 1 top in
    let order = crossed x y (grid binary64 a c) (2 ^ 1074) b 1 held top high in
    let to : num y * den x ≡ b * den x * den y = ap (λ (z : ℕ). z * den x) y_is ∙ mul_right_comm b (den y) (den x) in
    (own_value x (grid binary64 a c) (2 ^ 1074) held, le_of_mul-le-mul_right (le_trans order (le_of_eq to)) (den_pos y))
