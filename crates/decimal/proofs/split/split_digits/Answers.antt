use Rattle.std.proofs.Common.{◌≡◌, ℕ, not, length, take, drop, Option, ap, ◌∙◌, rules, tests}
use Rattle.std.specs.Char.{is_ascii_digit}
use Rattle.std.specs.Option.{unwrap_or}
use Rattle.std.proofs.lemmas.Iterator.{YieldsList-from_slice}
use Rattle.std.proofs.lemmas.Iterator.Search.{position_from_yields_List}
use Rattle.decimal.proofs.Parting.{end, end_is, ends_at}
use Rattle.decimal.proofs.split.split_digits.Goals as goal

pub returns : goal.returns
returns c =
    let text = c.args.text.now in
    let found = position_from_yields_List (λ b. not (is_ascii_digit b)) _ _ c.position-end.result c.position-end.ensures.ran (YieldsList-from_slice text cc) (λ x b q k. search (rules, tests)) in
    let at : c.unwrap_or.result ≡ end text = c.unwrap_or.ensures ∙ (ap (λ (o : Option ℕ). unwrap_or o (length text)) found ∙ end_is text) in
    let p = ends_at text in
    record { digits = c.split_at.ensures.front ∙ (ap (λ (n : ℕ). take n text) at ∙ p.0); rest = c.split_at.ensures.back ∙ (ap (λ (n : ℕ). drop n text) at ∙ p.1) }
