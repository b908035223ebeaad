use Rattle.std.proofs.Common.{sym, ap, ◌∙◌, subst}
use Rattle.std.specs.Option.{option_map}
use Rattle.range.specs.Sheets.{Sheet, made_of}
use Rattle.datatype.specs.declared.data.Data.{Data}
use Rattle.sheetfile.specs.Files.{shown}
use Rattle.sheetfile.specs.Reading.{StandsFor}
use Rattle.sheetfile.proofs.LendLaws.{stands}
use Rattle.sheetfile.proofs.sheet_file.worksheet_range.Goals as goal

pub returns-in-Ok-Some-clause-read : goal.returns-in-Ok-Some-clause-read
returns-in-Ok-Some-clause-read c =
    let file = c.args.file.now in
    let layout = c.in-Ok-Some.layout in
    let made = rw c.unwrap.ensures at c.from_parts.ensures.made in
    let is = made ∙ ap (λ cells. made_of layout.corners cells layout.text.now) c.split_at.ensures.front in
    subst (λ (s : Sheet Data). StandsFor file s) (sym is) (stands file c.args.store.now c.fill.new.store c.in-Ok-Some.ensures.answers c.fill.ensures.holds (shown layout) (ap (option_map shown) (sym c.in-Ok-Some.field-0-is) ∙ c.in-Ok-Some.ensures.is))
