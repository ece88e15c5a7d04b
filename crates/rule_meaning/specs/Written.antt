-- When a rule as a planner writes it holds at a visit of a history.
use Rattle.std.specs.Prelude.{◌≡◌, ℕ, suc, ◌<◌, ◌≤◌, true, ◌⊎◌, List, [], ◌∷◌, length}
use Rattle.theory.specs.Meaning.{Meaning}
use Rattle.judge.specs.Histories.{visit, after}
use Rattle.formula_text.specs.Grammar.{Written, constant, atom, negation, single, finally, globally, pair}
use Rattle.formula_text.specs.declared.operator.One.TheVariants as one
use Rattle.formula_text.specs.declared.operator.Two.TheVariants as two

-- The rule holds at visit i of the history σ, where i is below the number of visits.
-- A negation holds exactly where what it negates does not; nothing is pushed down, and F and G are not unfolded.
abbrev pub WrittenHolds : Meaning → (σ : List ℕ) → (i : ℕ) → Written → Type 0
WrittenHolds m σ i (constant v) = v ≡ true
WrittenHolds m σ i (atom a) = m.fact a (visit σ i) (after σ i) ≡ true
WrittenHolds m σ i (negation w) = WrittenHolds m σ i w → ⊥
WrittenHolds m σ i (single one.Tomorrow w) = (suc i < length σ) × WrittenHolds m σ (suc i) w
WrittenHolds m σ i (single one.WeakTomorrow w) = (suc i ≡ length σ) ⊎ WrittenHolds m σ (suc i) w
WrittenHolds m σ i (finally w) = (j : ℕ) × (i ≤ j) × (j < length σ) × WrittenHolds m σ j w
WrittenHolds m σ i (globally w) = (j : ℕ) → i ≤ j → j < length σ → WrittenHolds m σ j w
WrittenHolds m σ i (pair two.And l r) = WrittenHolds m σ i l × WrittenHolds m σ i r
WrittenHolds m σ i (pair two.Or l r) = WrittenHolds m σ i l ⊎ WrittenHolds m σ i r
WrittenHolds m σ i (pair two.Until l r) =
    (j : ℕ) × (i ≤ j) × (j < length σ) × WrittenHolds m σ j r × ((k : ℕ) → i ≤ k → k < j → WrittenHolds m σ k l)
WrittenHolds m σ i (pair two.Release l r) =
    ((j : ℕ) → i ≤ j → j < length σ → WrittenHolds m σ j r)
    ⊎ ((k : ℕ) × (i ≤ k) × (k < length σ) × WrittenHolds m σ k l × ((j : ℕ) → i ≤ j → j ≤ k → WrittenHolds m σ j r))

-- every rule of a list holds at the first visit
abbrev pub AllHold : Meaning → (σ : List ℕ) → List Written → Type 0
AllHold m σ [] = Unit {0}
AllHold m σ (w ∷ ws) = WrittenHolds m σ 0 w × AllHold m σ ws
