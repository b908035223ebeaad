-- The answer to number text, by the grammar.
use Rattle.std.specs.Prelude.{◌≡◌, ℕ, true, List, Some, None, Ok, Err, Result, Float}
use Rattle.decimal.specs.declared.fault.NumberFault.{NumberFault}
use Rattle.decimal.specs.declared.fault.NumberFault.TheVariants.{NotANumber, OutOfRange}
use Rattle.decimal.specs.Grammar.{Literal, sound, spelled}
use Rattle.decimal.specs.Amount.{amount_of}

-- the literal is sound, and the text is what it spells
abbrev pub Spells : List ℕ → Literal → Type 0
Spells text l = (sound l ≡ true) × (spelled l ≡ text)

-- the value of a literal that the text spells; beyond the limits, one that has no value there; and otherwise there is none
abbrev pub Answered : List ℕ → Result Float NumberFault → Type 0
Answered text (Ok x) = (l : Literal) × (Spells text l × (amount_of l ≡ Some x))
Answered text (Err OutOfRange) = (l : Literal) × (Spells text l × (amount_of l ≡ None))
Answered text (Err NotANumber) = (l : Literal) → Spells text l → ⊥

-- a text is spelled by one literal at most
abbrev pub OneLiteral : Type 0
OneLiteral = (text : List ℕ) (k l : Literal) → Spells text k → Spells text l → k ≡ l
