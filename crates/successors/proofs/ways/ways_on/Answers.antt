use Rattle.viability.specs.Visits.{moment_at, contents_at}
use Rattle.successors.proofs.Filling.{ways_none}
use Rattle.successors.proofs.ways.ways_on.Goals as goal

pub returns-in_err-other-in-None : goal.returns-in_err-other-in-None
returns-in_err-other-in-None c =
    rw c.from_residual.ensures
    (ways_none (moment_at c.args.visit.now) (contents_at c.args.visit.now) c.args.able c.args.number c.in-None.ensures c.in_err-other-in-None.ensures)
