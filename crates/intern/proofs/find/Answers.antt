use Rattle.std.proofs.Common.{◌≡◌, ◌∙◌, rules}
use Rattle.intern.specs.Walk.{lookup}
use Rattle.intern.proofs.Index.{to_index}
use Rattle.intern.proofs.Indexes.{lookup_place}
use Rattle.intern.proofs.find.Goals as goal

pub returns-in_err-ok-clause-first : goal.returns-in_err-ok-clause-first
returns-in_err-ok-clause-first g c =
    let is : c.from_residual.result ≡ lookup g.R.Keyed.alike g.R.Keyed.turns c.args.cells.now c.args.filled c.args.r = search rules in
    λ ix. is ∙ lookup_place g.R.Keyed.alike g.R.Keyed.turns g.met.R.Keyed.symmetric g.met.R.Keyed.transitive g.met.R.Keyed.agree _ _ _ (to_index _ _ _ _ ix)

pub returns-clause-first : goal.returns-clause-first
returns-clause-first g c =
    let is : c.found.result ≡ lookup g.R.Keyed.alike g.R.Keyed.turns c.args.cells.now c.args.filled c.args.r = search rules in
    λ ix. is ∙ lookup_place g.R.Keyed.alike g.R.Keyed.turns g.met.R.Keyed.symmetric g.met.R.Keyed.transitive g.met.R.Keyed.agree _ _ _ (to_index _ _ _ _ ix)
