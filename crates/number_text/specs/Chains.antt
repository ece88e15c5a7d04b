-- How readers follow one another.
use Rattle.std.specs.Prelude.{ℕ, Some, None, Option}

-- a number that was found, and how to go on with it
abbrev pub and_found : {X : Type 0} → Option ℕ → (ℕ → Option X) → Option X
and_found None f = None
and_found (Some n) f = f n
