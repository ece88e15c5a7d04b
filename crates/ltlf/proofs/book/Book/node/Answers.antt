use Rattle.std.proofs.Common.{sym, arith}
use Rattle.std.proofs.lemmas.Bool.{cond-false}
use Rattle.refusal.specs.declared.Refusal.TheVariants.{Unknown}
use Rattle.ltlf.specs.declared.node.Node.TheVariants.{True}
use Rattle.ltlf.proofs.Fronts.{read_item, not_put}
use Rattle.ltlf.proofs.book.Book.node.Goals as goal

pub returns-then-number-self : goal.returns-then-number-self
returns-then-number-self c =
    let d = c.args.self.now.sealed in
    read_item d.cells d.len c.args.number _ True Unknown (omega arith) (omega arith)

pub returns-else-number-self : goal.returns-else-number-self
returns-else-number-self c =
    let d = c.args.self.now.sealed in
    sym (cond-false _ _ _ (not_put d.cells d.len c.args.number (omega arith) (omega arith)))
