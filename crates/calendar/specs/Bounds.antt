-- That a float is under a bound has one proof at most, as a field that keeps the fact asks.
use Rattle.std.specs.Prelude.{ℕ, false, Float}
use Rattle.std.specs.Coded.{×_prop, le_prop}
use Rattle.std.specs.Float.{nan, inf, fin}
use mathlib.Core.Bool.{Bool-set}
use mathlib.Core.HLevel.{hedberg}
use native.Mathlib.Decide.{ℕ_discrete}
use Rattle.calendar.specs.Clock.{Under}

pub Under-prop : (x : Float) (bound : ℕ) → IsProp (Under x bound)
Under-prop nan bound = λ p. absurd p.0
Under-prop (inf s) bound = λ p. absurd p.0
Under-prop (fin s m e) bound = ×_prop (×_prop (Bool-set s false) (hedberg ℕ_discrete _ _)) le_prop
