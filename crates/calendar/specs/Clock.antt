-- The time of day in a serial, in exact terms. A float that is not negative is the fraction num / den.
use Rattle.std.specs.Prelude.{ℕ, ◌+◌, ◌*◌, ◌/◌, ◌%◌, ◌<◌, false, Float}
use Rattle.std.specs.Float.Ieee.{round}
use Rattle.std.specs.Float.{binary64}
use Rattle.std.specs.Float.Ieee.Exact.{HasValue}
use Rattle.std.specs.Float.Ieee.Positive.{num, den}

-- x is finite, its sign is plus, and it is below the bound
abbrev pub Under : Float → ℕ → Type 0
Under x bound = HasValue x false (num x) (den x) × (num x < bound * den x)

-- x without its fraction
abbrev pub whole_part : Float → ℕ
whole_part x = num x / den x

-- the fraction of x times k, rounded once to the nearest float, ties to even
abbrev pub fraction_times : Float → ℕ → Float
fraction_times x k = round binary64 false (num x % den x * k) (den x)

-- the nearest whole number, halves up
abbrev pub half_up : Float → ℕ
half_up x = (2 * num x + den x) / (2 * den x)

-- the seconds since midnight, and the milliseconds past the second, both still with a fraction
abbrev pub seconds : Float → Float
seconds serial = fraction_times serial 86400

abbrev pub millis : Float → Float
millis serial = fraction_times (seconds serial) 1000

-- all milliseconds since day 0: here 1,000 of them are a second, and 86,400 seconds a day, so that every carry is made
abbrev pub millis_since_start : Float → ℕ
millis_since_start serial = (whole_part serial * 86400 + whole_part (seconds serial)) * 1000 + half_up (millis serial)
