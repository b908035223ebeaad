use Rattle.std.proofs.Common.{length, sym, ap, ◌∙◌, arith}
use Rattle.std.proofs.lemmas.Bool.{eqb-true, eqb-false}
use Rattle.std.specs.Str.{trim_end}
use Rattle.text.proofs.LibraryTrim.{start_is, trimmed_is}
use Rattle.text.proofs.TrimLaws.{trimmed_other, trimmed_start_other}
use Rattle.text.proofs.TrimPart.{nothing_left, part_is}
use Rattle.text.proofs.trim.trimmed_part.Goals as goal

-- the bytes are not UTF-8
pub returns-in_default : goal.returns-in_default
returns-in_default c =
    let bs = c.args.bytes.now in
    let start = sym (trimmed_start_other bs c.in_default.ensures.cases.0) in
    let len = ap length (sym (trimmed_other bs c.in_default.ensures.cases.0)) in
    record {
      start = start;
      len = grind (arith, len);
      inside = (part_is bs _ _ start (grind (arith, len))).0;
      part = (part_is bs _ _ start (grind (arith, len))).1;
      law = (part_is bs _ _ start (grind (arith, len))).2;
      only = (part_is bs _ _ start (grind (arith, len))).3;
    }

-- all is blank
pub returns-then-is_empty : goal.returns-then-is_empty
returns-then-is_empty c =
    let bs = c.args.bytes.now in
    let text = c.in-Ok.ensures.cases in
    let kept = c.trim_end-kept.result.now in
    let kept_is = c.trim_end-kept.ensures.trim ∙ ap trim_end c.trim_start-from_first.ensures.trim ∙ trimmed_is bs c.in-Ok.text.now text.1 text.0 in
    let len = sym (eqb-true (length kept) 0 (sym c.is_empty.ensures ∙ c.if-is_empty.true)) ∙ ap length kept_is in
    let start = sym (nothing_left bs (sym len)) in
    let p = part_is bs 0 0 start len in
    record { start = start; len = len; inside = p.0; part = p.1; law = p.2; only = p.3 }

-- something is kept
pub returns : goal.returns
returns c =
    let bs = c.args.bytes.now in
    let text = c.in-Ok.ensures.cases in
    let first = c.trim_start-from_first.result.now in
    let kept = c.trim_end-kept.result.now in
    let kept_is = c.trim_end-kept.ensures.trim ∙ ap trim_end c.trim_start-from_first.ensures.trim ∙ trimmed_is bs c.in-Ok.text.now text.1 text.0 in
    let some = eqb-false (length kept) 0 (sym c.is_empty.ensures ∙ c.if-is_empty.false) in
    let start = start_is bs c.in-Ok.text.now text.1 text.0 first c.trim_start-from_first.ensures.trim (omega (arith, some, c.trim_end-kept.ensures.value.4, c.trim_end-kept.ensures.value.5)) in
    let len = ap length kept_is in
    record {
      start = omega (arith, start);
      len = omega (arith, len);
      inside = (part_is bs _ _ (omega (arith, start)) (omega (arith, len))).0;
      part = (part_is bs _ _ (omega (arith, start)) (omega (arith, len))).1;
      law = (part_is bs _ _ (omega (arith, start)) (omega (arith, len))).2;
      only = (part_is bs _ _ (omega (arith, start)) (omega (arith, len))).3;
    }
