-- Digits that end at 20 bytes.
use Rattle.std.proofs.Common.{◌≡◌, ℕ, ◌+◌, ◌^◌, ◌<◌, ◌≤◌, length, decimal, arith}
use Rattle.std.proofs.lemmas.Fmt.{length-decimal-le}

-- a number below 10 ^ 19 leaves a byte in front of its digits
pub room : (start n : ℕ) → start + length (decimal n) ≡ 20 → n < 10 ^ 19 → 1 ≤ start
room start n e h = omega (arith, length-decimal-le 19 n (omega arith) h (omega arith))
