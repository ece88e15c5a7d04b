-- How many facts a theory has.
use Rattle.std.specs.Prelude.{Some, ℕ, zero, suc, ◌+◌, Bool, cond, Ok, Err, Result}
use Rattle.refusal.specs.declared.Refusal.{Refusal}
use Rattle.theory.specs.Meaning.{Meaning, answer}

-- 1 for the answer yes
abbrev pub as_one : Result Bool Refusal → ℕ
as_one (Ok held) = cond held 1 0
as_one (Err e) = 0

-- before how many of the first n codes the atom holds at the code
abbrev pub facts_from : Meaning → (atom code n : ℕ) → ℕ
facts_from m atom code zero = 0
facts_from m atom code (suc n) = facts_from m atom code n + as_one (answer m atom code (Some n))

-- at how many pairs of the first n codes with any code the atom holds
abbrev pub facts_in : Meaning → (atom n : ℕ) → ℕ
facts_in m atom zero = 0
facts_in m atom (suc n) = facts_in m atom n + facts_from m atom n m.codes
