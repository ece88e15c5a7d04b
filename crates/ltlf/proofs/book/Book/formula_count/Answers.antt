use Rattle.std.proofs.Common.{sym, arith}
use Rattle.intern.proofs.Places.{length_items}
use Rattle.ltlf.proofs.book.Book.formula_count.Goals as goal

pub returns : goal.returns
returns c = let d = c.args.self.now.sealed in sym (length_items d.cells d.len (omega arith))
