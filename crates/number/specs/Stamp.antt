-- The bytes that a printed number holds.
use Rattle.std.specs.Prelude.{ℕ, List, drop}
use Rattle.number.specs.declared.printed.Printed.{Printed}

abbrev pub printed_text : Printed → List ℕ
printed_text p = drop p.start p.bytes
