use Rattle.std.proofs.Common.{w32}
use mir.ValLaws.{to_z-of_z}
use Rattle.decimal.proofs.Tens.{scaled_up, scaled_down}
use Rattle.decimal.proofs.amount.scale_by_ten.Goals as goal

pub returns-then-scale-ge0 : goal.returns-then-scale-ge0
returns-then-scale-ge0 c =
    scaled_up c.args.number c.args.scale _ c.unsigned_abs.result c.ten_to-ten.result c.requires.small (to_z-of_z w32 c.args.scale c.ranges.scale)
    c.unsigned_abs.ensures.value c.if-scale-ge0.true c.ten_to-ten.ensures

pub returns-else-scale-ge0 : goal.returns-else-scale-ge0
returns-else-scale-ge0 c =
    scaled_down c.args.number c.args.scale _ c.unsigned_abs.result c.ten_to-ten.result c.requires.small (to_z-of_z w32 c.args.scale c.ranges.scale)
    c.unsigned_abs.ensures.value c.if-scale-ge0.false c.ten_to-ten.ensures
