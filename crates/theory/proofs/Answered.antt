-- What follows where `holds` was not refused, and what an implementation of it has to show.
use Rattle.std.specs.Prelude.{Option, Some, None}
use Rattle.std.proofs.Common.{◌≡◌, ℕ, ◌<◌, Bool, true, Ok, Result, sym, ap, ◌∙◌, ap₂, arith}
use Rattle.std.proofs.lemmas.Bool.Decides.{nat_tests}
use Rattle.refusal.specs.declared.Refusal.{Refusal}
use Rattle.theory.specs.Meaning.{Meaning, next_exists, within, unless_refused, answer}

pub answered : (m : Meaning) (atom code : ℕ) (next : Option ℕ) (held : Bool)
    → answer m atom code next ≡ Ok held → (held ≡ m.fact atom code next) × (atom < m.atoms) × (code < m.codes)
answered m atom code (Some n) held e = grind (arith, nat_tests)
answered m atom code None held e = grind (arith, nat_tests)

-- a question within the counts is answered by the fact
pub answers_fact : (m : Meaning) (atom code : ℕ) (next : Option ℕ)
    → atom < m.atoms → code < m.codes → next_exists m.codes next ≡ true → answer m atom code next ≡ Ok (m.fact atom code next)
answers_fact m atom code (Some n) a c e = grind (arith, nat_tests)
answers_fact m atom code None a c e = grind (arith, nat_tests)

-- what a `holds` that checked its question against its counts has to show of its answer
pub answers : (m : Meaning) (atom code : ℕ) (next : Option ℕ) {codes atoms : ℕ} {checked : Result (Unit {0}) Refusal} {held : Bool}
    → checked ≡ within codes atoms atom code next → checked ≡ Ok tt → codes ≡ m.codes → atoms ≡ m.atoms
    → held ≡ m.fact atom code next → Ok held ≡ answer m atom code next
answers m atom code next is passed is-codes is-atoms is_held_lem =
    let asked = sym passed ∙ is ∙ ap₂ (λ x y. within x y atom code next) is-codes is-atoms in
    ap (λ b. Ok b) is_held_lem ∙ ap (λ r. unless_refused r (m.fact atom code next)) asked
