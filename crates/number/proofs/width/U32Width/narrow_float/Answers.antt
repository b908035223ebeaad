use Rattle.std.proofs.Common.{pos, ap, ◌∙◌}
use Rattle.number.proofs.Narrowing.{clamps_unsigned}
use Rattle.number.proofs.width.U32Width.narrow_float.Goals as goal

pub returns : goal.returns
returns c = ap pos c.saturating_f64_to_u32.ensures ∙ clamps_unsigned 32 c.args.x
