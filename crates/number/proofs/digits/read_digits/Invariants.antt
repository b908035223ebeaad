use Rattle.std.proofs.Common.{◌≡◌, ◌^◌, ◌<◌, drop}
use Rattle.number.specs.Numerals.{digits_after}
use Rattle.number.proofs.digits.read_digits.Given as goal

-- the number so far has at most 64 bits; what is left, after the number so far, is the whole
abbrev pub invariant-loop-digit : goal.invariant-loop-digit
invariant-loop-digit l = (l.number < 2 ^ 64) × (digits_after l.number (drop l.digit-index l.digits) ≡ digits_after l.after l.digits)
