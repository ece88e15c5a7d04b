-- The values of a code, and the code of values.
use Rattle.std.specs.Prelude.{◌≡◌, ℕ, zero, ◌+◌, ◌*◌, ◌<◌, List, [], ◌∷◌, ℤ, ◌-ℤ◌, unsigned_abs}
use Rattle.numbers.specs.Values.{VariableModel, combinations, value}

-- the value of each variable in a code, in their order
abbrev pub all_values : List VariableModel → (code : ℕ) → List ℤ
all_values [] code = []
all_values (v ∷ vs) code = value (v ∷ vs) zero code ∷ all_values vs code

-- the code of values: how far each lies above its low bound, counted in combinations of the later variables
abbrev pub code_of : List VariableModel → List ℤ → ℕ
code_of [] zs = 0
code_of (v ∷ vs) [] = 0
code_of (v ∷ vs) (z ∷ zs) = unsigned_abs (z -ℤ v.low) * combinations vs + code_of vs zs

-- the values of a code tell the code
abbrev pub ValuesTellCodes : Type 0
ValuesTellCodes = (vs : List VariableModel) (code : ℕ) → code < combinations vs → code_of vs (all_values vs code) ≡ code
