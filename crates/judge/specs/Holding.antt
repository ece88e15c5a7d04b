-- When a formula holds at a visit of a history, and when a history meets a book.
use Rattle.std.specs.Prelude.{◌≡◌, ℕ, suc, ◌<◌, ◌≤◌, true, false, ◌⊎◌, List, length}
use Rattle.theory.specs.Meaning.{Meaning}
use Rattle.ltlf.specs.Contents.{Contents}
use Rattle.judge.specs.Formulas.{Formula, truth, falsity, atom, negated_atom, both, either, tomorrow, weak_tomorrow, until, release, formula, Among}
use Rattle.judge.specs.Histories.{visit, after}

-- The formula holds at visit i of the history σ, where i is below the number of visits.
-- A negated atom holds exactly where its atom does not, at the last visit too.
abbrev pub Holds : Meaning → (σ : List ℕ) → (i : ℕ) → Formula → Type 0
Holds m σ i truth = Unit {0}
Holds m σ i falsity = ⊥
Holds m σ i (atom a) = m.fact a (visit σ i) (after σ i) ≡ true
Holds m σ i (negated_atom a) = m.fact a (visit σ i) (after σ i) ≡ false
Holds m σ i (both α β) = Holds m σ i α × Holds m σ i β
Holds m σ i (either α β) = Holds m σ i α ⊎ Holds m σ i β
Holds m σ i (tomorrow α) = (suc i < length σ) × Holds m σ (suc i) α
Holds m σ i (weak_tomorrow α) = (suc i ≡ length σ) ⊎ Holds m σ (suc i) α
Holds m σ i (until α β) =
    (j : ℕ) × (i ≤ j) × (j < length σ) × Holds m σ j β × ((k : ℕ) → i ≤ k → k < j → Holds m σ k α)
Holds m σ i (release α β) =
    ((j : ℕ) → i ≤ j → j < length σ → Holds m σ j β)
    ⊎ ((k : ℕ) × (i ≤ k) × (k < length σ) × Holds m σ k α × ((j : ℕ) → i ≤ j → j ≤ k → Holds m σ j β))

-- A history meets a book when every rule holds at the first visit.
abbrev pub Meets : Meaning → Contents → List ℕ → Type 0
Meets m b σ = (f : ℕ) → Among f b.rules → Holds m σ 0 (formula b f)

-- A history fails a book when some rule does not hold at the first visit.
abbrev pub Fails : Meaning → Contents → List ℕ → Type 0
Fails m b σ = (f : ℕ) × Among f b.rules × (Holds m σ 0 (formula b f) → ⊥)

-- every history meets a book or fails it, and none does both
abbrev pub MeetsOrFails : Type 0
MeetsOrFails = (m : Meaning) (b : Contents) (σ : List ℕ) → (Meets m b σ ⊎ Fails m b σ) × (Meets m b σ → Fails m b σ → ⊥)
