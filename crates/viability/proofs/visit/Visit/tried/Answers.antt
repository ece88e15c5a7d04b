use Rattle.std.proofs.Common.{Some}
use Rattle.tableau.specs.Expansion.{one, other}
use Rattle.viability.specs.Visits.{moment_at, contents_at}
use Rattle.viability.proofs.Viability.{fits_other, fit_brings}
use Rattle.viability.proofs.visit.Visit.tried.Goals as goal

pub returns-in-Some : goal.returns-in-Some
returns-in-Some c = λ e m.
    let v = c.args.self.now in
    fit_brings (moment_at v) (contents_at v) c.args.able c.args.number one (Some c.in-Some.offer) c.in-Some.ensures c.in-Some.ensures.0

pub returns-in-None : goal.returns-in-None
returns-in-None c = λ e m.
    let v = c.args.self.now in
    fit_brings (moment_at v) (contents_at v) c.args.able c.args.number other _ c.fitting-in-None.ensures
    (fits_other (moment_at v) (contents_at v) c.args.able c.args.number c.in-None.ensures ((c.requires c.args.number).0 m).1)
