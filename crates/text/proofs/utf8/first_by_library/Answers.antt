use Rattle.std.proofs.Common.{ℕ, length, take, sym, ap, ◌∙◌, subst, arith}
use Rattle.std.proofs.lemmas.Str.{utf8_valid_len_le}
use Rattle.text.specs.Encoding.{FirstCharacter}
use Rattle.text.proofs.Whole.{no_character}
use Rattle.text.proofs.utf8.first_by_library.Goals as goal

-- there is no byte
pub returns-in_err-next : goal.returns-in_err-next
returns-in_err-next c =
    let bs = c.args.bytes.now in
    let front = c.utf8_chunks.result.rest.now in
    subst (FirstCharacter bs) (sym c.from_residual.ensures)
    (no_character bs front (c.utf8_chunks.ensures.rest ∙ ap (λ (n : ℕ). take n bs) c.min.ensures) (omega (arith, utf8_valid_len_le front, c.in_err-next.ensures.steps.0)))

-- no front of the bytes is text
pub returns-in_err-character : goal.returns-in_err-character
returns-in_err-character c =
    let bs = c.args.bytes.now in
    let front = c.utf8_chunks.result.rest.now in
    subst (FirstCharacter bs) (sym c.from_residual-in_err-character.ensures)
    (no_character bs front (c.utf8_chunks.ensures.rest ∙ ap (λ (n : ℕ). take n bs) c.min.ensures)
    (omega (arith, c.in_ok-next.ensures.steps.3.0, c.in_err-character.ensures.steps.0.0, ap length c.chars.ensures.rest, ap length c.valid-text.ensures)))
