-- The bytes of a text form, and where they lie.
use Rattle.std.specs.Prelude.{ℕ, List, Some, None, Option}
use Rattle.number.specs.Stamp.{printed_text}
use Rattle.datatype.specs.declared.text_form.TextForm.{TextForm}
use Rattle.datatype.specs.declared.text_form.TextForm.TheVariants.{Lent, Printed}

abbrev pub form_bytes : TextForm → List ℕ
form_bytes (Lent t) = t.bytes.now
form_bytes (Printed p) = printed_text p

-- the place in the lent text; none for what was printed
abbrev pub form_place : TextForm → Option ℕ
form_place (Lent t) = Some t.place
form_place (Printed p) = None
