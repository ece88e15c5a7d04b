-- The line of a variable.
use Rattle.std.specs.Prelude.{ℕ, List, [], ◌∷◌, Some, None, Option}
use Rattle.items.specs.Lines.{behind}
use Rattle.items.specs.Names.{name_read}
use Rattle.items.specs.Numbers.{integer_read}
use Rattle.items.specs.Reads.{and_read, and_text, whole}
use Rattle.numbers.specs.Values.{VariableModel}
use Rattle.numbers.specs.Filling.{as_variable}
use Rattle.number_text.specs.declared.variables.Declared.{Declared}

-- the variable that a line declares
abbrev pub declared_seen : Option Declared → Option VariableModel
declared_seen (Some d) = Some (as_variable d.name.now d.low d.high)
declared_seen None = None

-- LOW HIGH, each within ±10,000, and nothing after them
abbrev pub bounds_read : (name : List ℕ) → (text : List ℕ) → Option VariableModel
bounds_read name text =
    and_read (integer_read 10000 text) (λ low bs. and_text (behind (32 ∷ []) bs) (λ bs. and_read (integer_read 10000 bs) (λ high bs. whole (as_variable name low high) bs)))

-- NAME LOW HIGH
abbrev pub variable_read : (text : List ℕ) → Option VariableModel
variable_read text = and_read (name_read text) (λ name bs. and_text (behind (32 ∷ []) bs) (bounds_read name))
