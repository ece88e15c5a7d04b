use Rattle.std.proofs.Common.{◌≡◌, None, sym, subst, arith}
use Rattle.ltlf.specs.Contents.{book_contents}
use Rattle.search.specs.Questions.{Patterned}
use Rattle.search.proofs.Listing.{patterned_some, patterned_none}
use Rattle.search.proofs.labels.labels_for.Goals as goal

pub returns-in_err-count : goal.returns-in_err-count
returns-in_err-count c =
    let gone : c.from_residual.result ≡ None = grind arith in
    subst (λ r. Patterned (book_contents c.args.book.now) c.args.label c.args.truth c.next_labels.new.cells r) (sym gone)
    (patterned_none _ _ _ _ _ c.requires.0 c.next_labels.auto.cells c.in_err-count.ensures)

pub returns : goal.returns
returns c = patterned_some _ _ _ _ _ _ c.in_ok-count.ensures
