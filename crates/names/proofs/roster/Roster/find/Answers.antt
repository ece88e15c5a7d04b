use Rattle.std.proofs.Common.{sym, ◌∙◌}
use Rattle.intern.specs.Index.{items}
use Rattle.names.proofs.Rosters.{named_none, none_named, numbered}
use Rattle.names.proofs.roster.Roster.find.Goals as goal

pub returns-in_err-new : goal.returns-in_err-new
returns-in_err-new g c =
    let r = c.args.self.now in
    c.from_residual.ensures ∙ sym (none_named c.args.text.now (named_none c.args.text.now c.in_err-new.ensures) (items r.cells r.count))

pub returns : goal.returns
returns g c =
    let r = c.args.self.now in
    numbered r c.in_ok-new.field-0 c.args.text.now _ c.in_ok-new.ensures (c.find.ensures.first r.indexed)
