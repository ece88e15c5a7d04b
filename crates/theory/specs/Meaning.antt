-- What a theory means, and what its call `holds` answers.
use Rattle.std.specs.Prelude.{Option, Some, None, ℕ, ◌≤◌, Bool, true, cond, ◌&&◌, Ok, Err, Result, nat_lt}
use Rattle.refusal.specs.declared.Refusal.{Refusal}
use Rattle.refusal.specs.declared.Refusal.TheVariants.{Unknown, NoSuchCode}

-- A theory's meaning: how many codes and atoms there are, and the facts,
-- which say whether an atom holds at a code when a code, or nothing, comes next.
pub record Meaning : Type 0 where
  pub codes : ℕ
  pub atoms : ℕ
  pub fact : (atom code : ℕ) → Option ℕ → Bool

-- the ranges of the counts
pub record InRange (m : Meaning) : Type 0 where
  pub some_code : 1 ≤ m.codes
  pub few_codes : m.codes ≤ 65535
  pub few_atoms : m.atoms ≤ 255

-- what comes next is nothing, or one of `codes` codes
abbrev pub next_exists : (codes : ℕ) → Option ℕ → Bool
next_exists codes (Some n) = nat_lt n codes
next_exists codes None = true

-- 2 for an atom that does not exist comes before 4 for a code that does not exist
abbrev pub within : (codes atoms atom code : ℕ) → Option ℕ → Result (Unit {0}) Refusal
within codes atoms atom code next =
    cond (nat_lt atom atoms) (cond (nat_lt code codes && next_exists codes next) (Ok tt) (Err NoSuchCode)) (Err Unknown)

-- a value, unless the question was refused
abbrev pub unless_refused : {X : Type 0} → Result (Unit {0}) Refusal → X → Result X Refusal
unless_refused (Ok u) x = Ok x
unless_refused (Err e) x = Err e

-- what `holds` answers: a refusal, or the fact
abbrev pub answer : Meaning → (atom code : ℕ) → Option ℕ → Result Bool Refusal
answer m atom code next = unless_refused (within m.codes m.atoms atom code next) (m.fact atom code next)
