use Rattle.search.proofs.Visiting.{allowed_past, allowed_read}
use Rattle.search.proofs.visits.visits_at.Goals as goal

pub returns-in-Some : goal.returns-in-Some
returns-in-Some c = allowed_read c.args.codes c.args.kept.now c.args.place c.in-Some.code.now c.in-Some.ensures.lookup.3.0 c.in-Some.ensures.lookup.1 c.requires

pub returns-in-None : goal.returns-in-None
returns-in-None c = allowed_past c.args.codes c.args.kept.now c.args.place c.in-None.ensures.lookup.3
