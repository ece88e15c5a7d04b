use Rattle.std.proofs.Common.{◌≡◌, ℕ, ◌+◌, ◌<◌, length, drop}
use Rattle.ltlf.specs.Contents.{book_contents}
use Rattle.judge.specs.Histories.{first}
use Rattle.judge.specs.Marks.{Marks}
use Rattle.judge.proofs.judging.first_marks.Given as goal

abbrev pub invariant-loop-code : goal.invariant-loop-code
invariant-loop-code g l = (i : ℕ) → i + length l.yielded ≡ length l.visits
    → (first (drop i l.visits) ≡ l.next) × (i < length l.visits → Marks (g.T.Theory.meaning l.theory) (book_contents l.book) l.visits i l.marks)
