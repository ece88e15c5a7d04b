-- The first choice that is tried is sound.
use Rattle.std.proofs.Common.{◌≡◌, ℕ, Bool, true, false, Option, Decides, refl, subst, inl, inr}
use mathlib.Core.Path.{subst⁻¹}
use lib.Bits.{bit_or}
use Rattle.std.proofs.lemmas.Bool.{false≢true}
use Rattle.ltlf.specs.Contents.{Contents}
use Rattle.tableau.specs.Labels.{Label, ◌∈◌}
use Rattle.tableau.proofs.Masks.{zero_has}
use Rattle.viability.specs.declared.offer.Offer.{Offer}
use Rattle.viability.specs.Offers.{Inside, BringsInside}
use Rattle.viability.specs.Viable.{known_part, Tells, DecidesSound}
use Rattle.viability.proofs.Bits.{in_or}

unflipped : (k flips : ℕ) (f : Bool) → flips ≡ 0 → Decides f (k ∈ flips) → f ≡ false
unflipped k flips true e d = absurd (zero_has k (subst (λ (x : ℕ). k ∈ x) e (d.0 refl)))
unflipped k flips false e d = refl

module _ (V k flips S : ℕ) (f : Bool) (r : Option Offer) (none : flips ≡ 0) (d : Decides f (k ∈ flips))
    (fit : f ≡ false → k ∈ V → BringsInside V r) (ins : Inside S V) (m : k ∈ S) where
  -- with no flips the side fits, so that its parts are viable
  pub first_brings : BringsInside V r
  first_brings = fit (unflipped k flips f none d) (ins k m)

pub first_inside : (V S : ℕ) (o : Offer) → Inside S V → Inside o.parts V → Inside (bit_or S o.parts) V
first_inside V S o ins new g h = elim (in_or S o.parts g h) [ inl x ↦ ins g x | inr x ↦ new g x ]

module _ (b : Contents) (truth : ℕ) (last : Bool) (V L K : Label) (te : Tells b truth last V) (is : K ≡ known_part b L) where
  pub not_sound : (Inside K V → ⊥) → DecidesSound b truth last L false
  not_sound out w sh = ((λ e. absurd (false≢true e)), (λ p. absurd (out (subst⁻¹ (λ (x : ℕ). Inside x V) is ((te.sound w sh L).0 p)))))

  pub is_sound : Inside K V → DecidesSound b truth last L true
  is_sound ins w sh = ((λ e. (te.sound w sh L).1 (subst (λ (x : ℕ). Inside x V) is ins)), (λ p. refl))
