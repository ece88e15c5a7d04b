-- Whether a formula holds at a visit is decided.
use Rattle.std.proofs.Common.{◌≡◌, ℕ, zero, suc, ◌+◌, ◌-◌, Bool, true, false, ◌⊎◌, List, length, refl, inl, inr, arith}
use native.Mathlib.Decide.{dec_le, dec_lt, ℕ_discrete}
use Rattle.theory.specs.Meaning.{Meaning}
use Rattle.judge.specs.Formulas.{Formula, truth, falsity, atom, negated_atom, both, either, tomorrow, weak_tomorrow, until, release}
use Rattle.judge.specs.Histories.{visit, after}
use Rattle.judge.specs.Holding.{Holds}
use Rattle.judge.proofs.Unfolding.{until_now, until_later, until_split, release_now, release_later, release_holds, release_split}

pub dec_is : (b c : Bool) → Dec (b ≡ c)
dec_is true true = yes refl
dec_is false false = yes refl
dec_is true false = no (λ e. let z : ◌≡◌ {A = ℕ} 0 1 = cc in omega arith)
dec_is false true = no (λ e. let z : ◌≡◌ {A = ℕ} 0 1 = cc in omega arith)

pub dec_× : {P Q : Type 0} → Dec P → Dec Q → Dec (P × Q)
dec_× (yes p) (yes q) = yes (p, q)
dec_× (yes p) (no h) = no (λ w. h w.1)
dec_× (no h) d = no (λ w. h w.0)

pub dec_⊎ : {P Q : Type 0} → Dec P → Dec Q → Dec (P ⊎ Q)
dec_⊎ (yes p) d = yes (inl p)
dec_⊎ (no h) (yes q) = yes (inr q)
dec_⊎ (no h) (no k) = no (elim [ inl p ↦ h p | inr q ↦ k q ])

module _ (m : Meaning) (σ : List ℕ) (α β : Formula) (dα : (i : ℕ) → Dec (Holds m σ i α)) (dβ : (i : ℕ) → Dec (Holds m σ i β)) where
  until_from : (k i : ℕ) → i + k ≡ length σ → Dec (Holds m σ i (until α β))
  until_from zero i e = no (λ u. omega (arith, u.1, u.2))
  until_from (suc k) i e = go (dβ i) (dα i) (until_from k (suc i) (omega arith))
    where
      go : Dec (Holds m σ i β) → Dec (Holds m σ i α) → Dec (Holds m σ (suc i) (until α β)) → Dec (Holds m σ i (until α β))
      go (yes hb) a u = yes (until_now m σ α β i (omega arith) hb)
      go (no nb) (yes ha) (yes u) = yes (until_later m σ α β i ha u)
      go (no nb) (yes ha) (no nu) = no (λ v. elim (until_split m σ α β i v) [ inl hb ↦ nb hb | inr p ↦ nu p.1.1 ])
      go (no nb) (no na) u = no (λ v. elim (until_split m σ α β i v) [ inl hb ↦ nb hb | inr p ↦ na p.0 ])

  release_from : (k i : ℕ) → i + k ≡ length σ → Dec (Holds m σ i (release α β))
  release_from zero i e = yes (inl (λ k p r. absurd (omega arith)))
  release_from (suc k) i e = go (dβ i) (dα i) (release_from k (suc i) (omega arith))
    where
      go : Dec (Holds m σ i β) → Dec (Holds m σ i α) → Dec (Holds m σ (suc i) (release α β)) → Dec (Holds m σ i (release α β))
      go (no nb) a u = no (λ v. nb (release_holds m σ α β i (omega arith) v))
      go (yes hb) (yes ha) u = yes (release_now m σ α β i (omega arith) ha hb)
      go (yes hb) (no na) (yes u) = yes (release_later m σ α β i hb (inr u))
      go (yes hb) (no na) (no nu) = no (λ v. elim (release_split m σ α β i v) [ inl ha ↦ na ha | inr u ↦ nu u ])

  until? : (i : ℕ) → Dec (Holds m σ i (until α β))
  until? i = elim (dec_le i (length σ)) [
    | yes h ↦ until_from (length σ - i) i (omega arith)
    | no h ↦ no (λ u. omega (arith, u.1, u.2))
  ]

  release? : (i : ℕ) → Dec (Holds m σ i (release α β))
  release? i = elim (dec_le i (length σ)) [
    | yes h ↦ release_from (length σ - i) i (omega arith)
    | no h ↦ yes (inl (λ k p r. absurd (omega arith)))
  ]

pub holds? : (m : Meaning) (σ : List ℕ) (φ : Formula) (i : ℕ) → Dec (Holds m σ i φ)
holds? m σ truth i = yes tt
holds? m σ falsity i = no (λ z. z)
holds? m σ (atom a) i = dec_is (m.fact a (visit σ i) (after σ i)) true
holds? m σ (negated_atom a) i = dec_is (m.fact a (visit σ i) (after σ i)) false
holds? m σ (both α β) i = dec_× (holds? m σ α i) (holds? m σ β i)
holds? m σ (either α β) i = dec_⊎ (holds? m σ α i) (holds? m σ β i)
holds? m σ (tomorrow α) i = dec_× (dec_lt (suc i) (length σ)) (holds? m σ α (suc i))
holds? m σ (weak_tomorrow α) i = dec_⊎ (ℕ_discrete (suc i) (length σ)) (holds? m σ α (suc i))
holds? m σ (until α β) i = until? m σ α β (holds? m σ α) (holds? m σ β) i
holds? m σ (release α β) i = release? m σ α β (holds? m σ α) (holds? m σ β) i
