-- A label has a sound choice exactly if its members are viable.
use Rattle.std.proofs.Common.{◌≡◌, ℕ, zero, suc, ◌+◌, ◌^◌, ◌<◌, Bool, true, false, ◌↔◌, length, Decides, refl, ◌∙◌, subst, ⊎_elim, arith, Some, None, Option}
use mathlib.Core.Path.{subst⁻¹}
use native.Mathlib.Decide.{ℕ_discrete}
use lib.Bits.{bit_or}
use Rattle.std.specs.Bool.{then_some}
use Rattle.std.proofs.lemmas.Bool.{false≢true}
use Rattle.masks.specs.Masks.{including}
use Rattle.masks.proofs.Bits.{including_is}
use Rattle.ltlf.specs.Contents.{Contents, Proper}
use Rattle.judge.specs.Formulas.{node_at}
use Rattle.tableau.specs.Labels.{◌∈◌}
use Rattle.tableau.specs.Expansion.{Side, one, other, Choice, parts, Expansion, member, part}
use Rattle.tableau.proofs.Masks.{zero_has, member?}
use Rattle.tableau.proofs.Steps.{part_before}
use Rattle.viability.specs.declared.offer.Offer.{Offer}
use Rattle.viability.specs.Moments.{Moment, Admits, SoundAt, SomeSound, moment}
use Rattle.viability.specs.Offers.{Inside, Under, OffersSide, BringsInside}
use Rattle.viability.specs.Viable.{Fits, FitOffered, FitsSomehow, Viable, ViableBelow, known_part, Tells}
use Rattle.viability.proofs.Bits.{in_or_left, in_with, with_has, in_low, inside_parts}
use Rattle.viability.proofs.Shown.{sound_shown}

module _ (w : Moment) (b : Contents) (pr : Proper b) (V : ℕ) (vi : Viable w b V) where
  -- what a sound expansion holds is viable
  pub sound_inside : (κ : Choice) (L : ℕ) → SoundAt w b κ L → (d f : ℕ) → f < d → f < length b.nodes → Expansion b κ L f → f ∈ V
  sound_inside κ L so zero f lt len x = absurd (omega arith)
  sound_inside κ L so (suc d) f lt len x =
      (vi f).1 (
        len,
        (
          κ f,
          (
            so f x,
            λ g a.
                let l : g < f = part_before b pr f (κ f) g a in sound_inside κ L so d g (omega arith) (omega arith) (part x a),
          ),
        ),
      )

  picked : (f : ℕ) → Dec (f ∈ V) → Side
  picked f (yes m) = ((vi f).0 m).1.0
  picked f (no h) = one

  -- the choice that takes a side that fits
  pub pick : Choice
  pick f = picked f (member? f V)

  pub pick_fits : (f : ℕ) → f ∈ V → Fits w b V f (pick f)
  unfolding pick picked
  pick_fits f m = go (member? f V)
    where
      go : (d : Dec (f ∈ V)) → Fits w b V f (picked f d)
      go (yes m') = ((vi f).0 m').1.1
      go (no h) = absurd (h m)

  pub pick_inside : (L : ℕ) → Inside L V → (f : ℕ) → Expansion b pick L f → f ∈ V
  pick_inside L h f (member m) = h f m
  pick_inside L h g (part {f = f} x a) = (pick_fits f (pick_inside L h f x)).1 g a

  pub pick_sound : (L : ℕ) → Inside L V → SoundAt w b pick L
  pick_sound L h f x = (pick_fits f (pick_inside L h f x)).0

  pub sound_viable : (L : ℕ) → Under L (length b.nodes) → SomeSound w b L ↔ Inside L V
  sound_viable L within = (
    (λ p f m. sound_inside p.0 L p.1 (suc f) f (omega arith) (within f m) (member m)),
    (λ h. (pick, pick_sound L h)),
  )

module _ (b : Contents) (pr : Proper b) (truth : ℕ) (last : Bool) (V : ℕ) (vi : Viable (moment truth last) b V) where
  pub tells : Tells b truth last V
  tells = record {
    known = λ f m. ((vi f).0 m).0;
    sound = λ w sh L.
        let here = sound_viable (moment truth last) b pr V vi (known_part b L) (λ f m. in_low L (length b.nodes) f m) in
        let there = sound_shown b pr truth last w sh (known_part b L) in
        ((λ p. here.0 (there.1 p)), (λ h. there.0 (here.1 h)));
  }

module _ (w : Moment) (b : Contents) (pr : Proper b) where
  pub viable_none : ViableBelow w b 0 0
  viable_none f = ((λ m. absurd (zero_has f m)), (λ p. absurd (omega (arith, p.0))))

  viable_or : (V k : ℕ) → FitsSomehow w b V k → ViableBelow w b V k → ViableBelow w b (bit_or V (2 ^ k)) (k + 1)
  viable_or V k (s, fit) vi f = (
    (λ m. ⊎_elim
        (λ (x : f ∈ V). let r = (vi f).0 x in (omega (arith, r.0), (r.1.0, (r.1.1.0, λ g a. in_or_left V (2 ^ k) g (r.1.1.1 g a)))))
        (λ (e : f ≡ k). (omega arith, (s, subst⁻¹ (λ (x : ℕ). Fits w b (bit_or V (2 ^ k)) x s) e (fit.0, λ g a. in_or_left V (2 ^ k) g (fit.1 g a)))))
        (in_with V k f m)),
    (λ p. elim (ℕ_discrete f k) [
      | yes e ↦ subst⁻¹ (λ (x : ℕ). x ∈ bit_or V (2 ^ k)) e (with_has V k)
      | no ne ↦ in_or_left V (2 ^ k) f ((vi f).1 (omega (arith, ne, p.0), (p.1.0, (p.1.1.0, λ g a. lower g (part_before b pr f p.1.0 g a) p.0 (p.1.1.1 g a)))))
    ]),
  )
    where
      lower : (g : ℕ) → g < f → f < k + 1 → g ∈ bit_or V (2 ^ k) → g ∈ V
      lower g l h m = ⊎_elim (λ x. x) (λ (e : g ≡ k). absurd (omega arith)) (in_with V k g m)

  pub viable_with : (V W k : ℕ) → k < 64 → W ≡ including V k → FitsSomehow w b V k → ViableBelow w b V k → ViableBelow w b W (k + 1)
  viable_with V W k lt e fit vi = subst⁻¹ (λ (x : ℕ). ViableBelow w b x (k + 1)) (e ∙ including_is V k lt) (viable_or V k fit vi)

  pub viable_skip : (V k : ℕ) → (FitsSomehow w b V k → ⊥) → ViableBelow w b V k → ViableBelow w b V (k + 1)
  viable_skip V k none vi f = (
    (λ m. let r = (vi f).0 m in (omega (arith, r.0), r.1)),
    (λ p. elim (ℕ_discrete f k) [
      | yes e ↦ absurd (none (p.1.0, subst (λ (x : ℕ). Fits w b V x p.1.0) e p.1.1))
      | no ne ↦ (vi f).1 (omega (arith, ne, p.0), p.1)
    ]),
  )

-- one side does not fit, so that the other decides
pub fits_other : (w : Moment) (b : Contents) (V k : ℕ) → (Fits w b V k one → ⊥) → FitsSomehow w b V k → Fits w b V k other
fits_other w b V k out (one, h) = absurd (out h)
fits_other w b V k out (other, h) = h

-- an admitted offer whose parts are in V is that of a side that fits, and another is not
pub fit_offered : (w : Moment) (b : Contents) (V k : ℕ) (s : Side) (o : Offer) (i : Bool) (r : Option Offer) → Admits w (node_at b k) s
    → OffersSide k (node_at b k) s o → Decides i (Inside o.parts V) → r ≡ then_some i o → FitOffered w b V k s r
fit_offered w b V k s o true r ok is d e =
    subst⁻¹ (FitOffered w b V k s) e ((ok, (inside_parts (parts (node_at b k) s) o.parts V is.parts_are).0 (d.0 refl)), is)
fit_offered w b V k s o false r ok is d e =
    subst⁻¹ (FitOffered w b V k s) e (λ fit. false≢true (d.1 ((inside_parts (parts (node_at b k) s) o.parts V is.parts_are).1 fit.1)))

-- a side that fits brings in members of V alone
pub fit_brings : (w : Moment) (b : Contents) (V k : ℕ) (s : Side) (r : Option Offer) → FitOffered w b V k s r → Fits w b V k s → BringsInside V r
fit_brings w b V k s (Some o) (fit, is) h = (inside_parts (parts (node_at b k) s) o.parts V is.parts_are).1 fit.1
fit_brings w b V k s None out h = out h
