-- What is passed on of a line.
use Rattle.std.specs.Prelude.{ℕ, List, [], take, Ok, Err, Result}
use Rattle.refusal.specs.declared.Refusal.{Refusal}

-- the first bytes, as many as the call that made the line says; none where it was refused
abbrev pub passed : (line : List ℕ) → Result ℕ Refusal → List ℕ
passed line (Ok n) = take n line
passed line (Err e) = []
