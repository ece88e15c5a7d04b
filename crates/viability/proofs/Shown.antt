-- Soundness depends on a moment only through the atoms that hold there, and whether it is the last.
use Rattle.std.specs.Prelude.{Option, Some, None}
use Rattle.std.proofs.Common.{◌≡◌, ℕ, Bool, true, false, ◌↔◌, length, sym, refl, ◌∙◌, subst, arith}
use native.Mathlib.Decide.{dec_lt}
use Rattle.std.proofs.lemmas.List.{get_or_past}
use Rattle.std.proofs.lemmas.Bool.{ltb-true, both_ways}
use Rattle.ltlf.specs.Contents.{Contents, Proper}
use Rattle.ltlf.specs.Nodes.{known}
use Rattle.ltlf.specs.declared.node.Node.{Node}
use Rattle.ltlf.specs.declared.node.Node.TheVariants.{True, False, Atom, NotAtom, And, Or, Tomorrow, WeakTomorrow, Until, Release}
use Rattle.judge.specs.Formulas.{node_at}
use Rattle.judge.specs.Marks.{is_last}
use Rattle.tableau.specs.Labels.{Label}
use Rattle.tableau.specs.Expansion.{Side, one, other, Choice, GoesOn}
use Rattle.viability.specs.Moments.{Moment, Admits, SoundAt, SomeSound, HandsOn, Shows, moment}

goes : (n n' : Option ℕ) → is_last n ≡ is_last n' → GoesOn n → GoesOn n'
goes (Some c) (Some c') e h = tt
goes (Some c) None e h = both_ways (is_last (Some c)) refl e
goes None n' e h = absurd h

-- two moments that one mask shows admit the same members
module _ (w w' : Moment) (atoms truth : ℕ) (last : Bool) (sh : Shows w atoms truth last) (sh' : Shows w' atoms truth last) where
  admits_same : (k : ℕ) (m : Node) (s : Side) → known atoms k m ≡ true → Admits w m s → Admits w' m s
  admits_same k True s e h = tt
  admits_same k False s e h = h
  admits_same k (Atom a) s e h = let l = ltb-true a atoms e in sh'.facts a l ∙ sym (sh.facts a l) ∙ h
  admits_same k (NotAtom a) s e h = let l = ltb-true a atoms e in sh'.facts a l ∙ sym (sh.facts a l) ∙ h
  admits_same k (And f g) s e h = tt
  admits_same k (Or f g) s e h = tt
  admits_same k (Tomorrow f) s e h = goes w.next w'.next (sh.end ∙ sym sh'.end) h
  admits_same k (WeakTomorrow f) s e h = tt
  admits_same k (Until f g) one e h = tt
  admits_same k (Until f g) other e h = goes w.next w'.next (sh.end ∙ sym sh'.end) h
  admits_same k (Release f g) s e h = tt

pub sound_same : (b : Contents) → Proper b → (w w' : Moment) (truth : ℕ) (last : Bool) → Shows w b.atoms truth last → Shows w' b.atoms truth last
    → (κ : Choice) (L : Label) → SoundAt w b κ L → SoundAt w' b κ L
sound_same b pr w w' truth last sh sh' κ L so f x = elim (dec_lt f (length b.nodes)) [
  | yes h ↦ admits_same w w' b.atoms truth last sh sh' f (node_at b f) (κ f) (pr.before f h) (so f x)
  | no h ↦ subst (λ (m : Node). Admits w' m (κ f)) (sym (get_or_past b.nodes f True (omega arith))) tt
]

pub shows_moment : (atoms truth : ℕ) (last : Bool) → Shows (moment truth last) atoms truth last
shows_moment atoms truth true = record { facts = λ a h. refl; end = refl }
shows_moment atoms truth false = record { facts = λ a h. refl; end = refl }

-- what is so at the mask's own moment is so at every moment that the mask shows
module _ (b : Contents) (pr : Proper b) (truth : ℕ) (last : Bool) (w : Moment) (sh : Shows w b.atoms truth last) (L : Label) where
  pub sound_shown : SomeSound (moment truth last) b L ↔ SomeSound w b L
  sound_shown = (
    (λ p. (p.0, sound_same b pr (moment truth last) w truth last (shows_moment b.atoms truth last) sh p.0 L p.1)),
    (λ p. (p.0, sound_same b pr w (moment truth last) truth last sh (shows_moment b.atoms truth last) p.0 L p.1)),
  )

  pub hands_shown : (L' : Label) → HandsOn (moment truth last) b L L' ↔ HandsOn w b L L'
  hands_shown L' = (
    (λ p. (p.0, (sound_same b pr (moment truth last) w truth last (shows_moment b.atoms truth last) sh p.0 L p.1.0, p.1.1))),
    (λ p. (p.0, (sound_same b pr w (moment truth last) truth last sh (shows_moment b.atoms truth last) p.0 L p.1.0, p.1.1))),
  )
