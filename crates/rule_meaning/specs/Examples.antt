-- Small rules at the last visit, where the operators differ.
use Rattle.std.specs.Prelude.{None, ◌≡◌, ℕ, ◌<◌, true, false, ◌↔◌, List, [], ◌∷◌, length}
use Rattle.theory.specs.Meaning.{Meaning}
use Rattle.formula_text.specs.Grammar.{Written, constant, atom, negation, single, finally, globally, pair}
use Rattle.formula_text.specs.declared.operator.One.TheVariants.{Tomorrow, WeakTomorrow}
use Rattle.formula_text.specs.declared.operator.Two.TheVariants.{Until}
use Rattle.rule_meaning.specs.Written.{WrittenHolds}

-- a rule holds at the only visit of a history
abbrev pub HoldsAlone : Meaning → (code : ℕ) → Written → Type 0
HoldsAlone m c w = WrittenHolds m (c ∷ []) 0 w

-- an atom's fact is there at a code with nothing next
abbrev pub Fact : Meaning → (code atom : ℕ) → Type 0
Fact m c a = m.fact a c None ≡ true

-- what rules say of a history of one visit, in every theory
pub record AtTheLastVisit (m : Meaning) (c a : ℕ) : Type 0 where
  pub x_t : HoldsAlone m c (single Tomorrow (constant true)) → ⊥
  pub w_l : HoldsAlone m c (single WeakTomorrow (constant false))
  pub x_atom : HoldsAlone m c (single Tomorrow (atom a)) → ⊥
  pub w_atom : HoldsAlone m c (single WeakTomorrow (atom a))
  pub f_atom : HoldsAlone m c (finally (atom a)) ↔ Fact m c a
  pub g_atom : HoldsAlone m c (globally (atom a)) ↔ Fact m c a
  pub u_t_x_t : HoldsAlone m c (pair Until (constant true) (single Tomorrow (constant true))) → ⊥
  pub not_x_t : HoldsAlone m c (negation (single Tomorrow (constant true)))

abbrev pub LastVisitTried : Type 0
LastVisitTried = (m : Meaning) (c a : ℕ) → AtTheLastVisit m c a

-- G W L holds exactly for histories of one visit.
abbrev pub OneVisitSaid : Type 0
OneVisitSaid =
    (m : Meaning) (σ : List ℕ) → 0 < length σ → WrittenHolds m σ 0 (globally (single WeakTomorrow (constant false))) ↔ (length σ ≡ 1)
