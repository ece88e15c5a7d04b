use Rattle.std.proofs.Common.{Some, None, refl}
use Rattle.std.proofs.lemmas.Bool.{false≢true}
use Rattle.viability.specs.Visits.{contents_at}
use Rattle.viability.proofs.First.{first_inside, first_brings, not_sound, is_sound}
use Rattle.viability.proofs.visit.Visit.some_sound.Goals as goal

pub loop-number-preserved : goal.loop-number-preserved
loop-number-preserved c =
    first_inside c.viable-able.result _ c.in-Some.offer c.loop-number.invariant
    (first_brings c.viable-able.result _ _ _ _ (Some c.in-Some.offer) c.choices.invariant c.contains-in-loop-number.ensures c.in-Some.ensures c.loop-number.invariant
    (c.if-not-contains.ensures.0 refl))

pub choices-preserved : goal.choices-preserved
choices-preserved c =
    absurd
    (first_brings c.viable-able.result _ _ _ _ None c.choices.invariant c.contains-in-loop-number.ensures c.in_default.ensures c.loop-number.invariant
    (c.if-not-contains.ensures.0 refl))

pub returns-then-not-inside : goal.returns-then-not-inside
returns-then-not-inside c =
    not_sound (contents_at c.args.self.now) c.args.self.now.truth c.args.self.now.last c.viable-able.result c.args.label _
    c.viable-able.ensures.tells c.known_part-members.ensures (λ h. false≢true (c.if-not-inside.ensures.1 h))

pub returns-in-choices : goal.returns-in-choices
returns-in-choices c =
    is_sound (contents_at c.args.self.now) c.args.self.now.truth c.args.self.now.last c.viable-able.result c.args.label _
    c.viable-able.ensures.tells c.known_part-members.ensures (c.if-not-inside.ensures.0 refl)
