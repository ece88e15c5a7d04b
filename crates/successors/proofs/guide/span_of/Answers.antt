use Rattle.successors.proofs.Filling.{covers_two, shared_two}
use Rattle.successors.proofs.guide.span_of.Goals as goal

pub returns-in-Some : goal.returns-in-Some
returns-in-Some c = (
  covers_two _ c.args.ways _ _ _ c.in-Some.is c.brought-first.ensures.0 c.brought-second.ensures.0,
  shared_two _ c.args.ways _ _ _ c.in-Some.is c.brought-first.ensures.1 c.brought-second.ensures.1,
)
