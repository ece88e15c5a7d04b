use Rattle.std.proofs.Common.{sym}
use Rattle.ltlf.specs.Contents.{book_contents}
use Rattle.ltlf.proofs.Books.{book_proper}
use Rattle.judge.proofs.Verdicts.{judged_met, judged_unmet}
use Rattle.judge.proofs.judging.judge.Goals as goal

pub returns-then-rules_marked : goal.returns-then-rules_marked
returns-then-rules_marked g c =
    judged_met (g.T.Theory.meaning c.args.theory.now) (book_contents c.args.book.now) (book_proper c.args.book.now)
    c.args.visits.now (sym c.in_ok-check.ensures) c.first_marks-marks.result c.first_marks-marks.ensures (sym c.if-rules_marked.ensures)

pub returns-else-rules_marked : goal.returns-else-rules_marked
returns-else-rules_marked g c =
    judged_unmet (g.T.Theory.meaning c.args.theory.now) (book_contents c.args.book.now) (book_proper c.args.book.now)
    c.args.visits.now (sym c.in_ok-check.ensures) c.first_marks-marks.result c.first_marks-marks.ensures (sym c.if-rules_marked.ensures)
