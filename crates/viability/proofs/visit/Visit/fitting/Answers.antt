use Rattle.viability.specs.Visits.{moment_at, contents_at}
use Rattle.viability.proofs.Viability.{fit_offered}
use Rattle.viability.proofs.visit.Visit.fitting.Goals as goal

pub returns : goal.returns
returns c =
    fit_offered (moment_at c.args.self.now) (contents_at c.args.self.now) c.args.able c.args.number _ _ c.inside.result _
    c.in_ok-offer.ensures.0 c.in_ok-offer.ensures.1 c.inside.ensures c.then_some.ensures
