use Rattle.std.proofs.Common.{◌∙◌, w64}
use mir.ValLaws.{to_z-of_z}
use Rattle.number.proofs.Narrowing.{clamps_signed}
use Rattle.number.proofs.width.I64Width.narrow_float.Goals as goal

pub returns : goal.returns
returns c =
    let f = c.saturating_f64_to_i64 in
    to_z-of_z w64 f.result (record { sfits = f.type_inv }) ∙ (f.ensures ∙ clamps_signed 63 c.args.x)
