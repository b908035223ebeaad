use Rattle.std.proofs.Common.{◌≡◌, rules}
use Rattle.calendar.specs.Clock.{half_up}
use Rattle.calendar.proofs.Fractions.{half_part, half_bound}
use Rattle.calendar.proofs.clock.Elapsed.half_up.Goals as goal

pub returns : goal.returns
returns c =
    let x = c.args.self.amount in
    let value : c.saturating_f64_to_u64.result ≡ half_up x = search (rules, half_part) in
    record { value = value; bound = rw value (half_bound x c.args.self.bounded) }
