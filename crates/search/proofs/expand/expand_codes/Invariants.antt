use Rattle.std.proofs.Common.{◌≡◌, ◌+◌, length}
use Rattle.ltlf.specs.Contents.{book_contents}
use Rattle.search.specs.Rows.{position}
use Rattle.search.specs.Questions.{StepsFrom, Known}
use Rattle.search.proofs.Families.{Collected}
use Rattle.search.proofs.expand.expand_codes.Given as goal

abbrev pub invariant-loop-code : goal.invariant-loop-code
invariant-loop-code g l =
    Collected (λ e. e.from ≡ l.visit.from)
    (StepsFrom (g.T.Theory.meaning l.asked.theory.now) (book_contents l.asked.book.now) (position l.row) l.visit.place) l.fn.visits.start
    l.initial.rows l.rows l.initial.filled l.filled (l.fn.visits.start + length l.yielded)
    × Known (book_contents l.asked.book.now) l.row.label l.cells l.known
