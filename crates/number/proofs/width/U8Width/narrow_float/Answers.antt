use Rattle.std.proofs.Common.{pos, ap, ◌∙◌}
use Rattle.number.proofs.Narrowing.{clamps_unsigned}
use Rattle.number.proofs.width.U8Width.narrow_float.Goals as goal

pub returns : goal.returns
returns c = ap pos c.saturating_f64_to_u8.ensures ∙ clamps_unsigned 8 c.args.x
