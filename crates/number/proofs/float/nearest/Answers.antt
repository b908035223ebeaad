use Rattle.std.proofs.Common.{w64}
use mir.ValLaws.{to_z-of_z}
use Rattle.number.proofs.Zero.{of_whole}
use Rattle.number.proofs.float.nearest.Goals as goal

pub returns : goal.returns
returns c = of_whole c.args.n _ c.nearest_i64_to_f64.result (to_z-of_z w64 c.args.n c.ranges.n) c.nearest_i64_to_f64.ensures
