use Rattle.std.proofs.Common.{◌≡◌, ◌+◌, length}
use Rattle.search.specs.Questions.{StartsAt}
use Rattle.search.proofs.Families.{Collected}
use Rattle.search.proofs.starts.enter_starts.Given as goal

abbrev pub invariant-loop-code : goal.invariant-loop-code
invariant-loop-code l =
    Collected (λ e. e.from ≡ 0) (StartsAt l.label) l.fn.visits.start l.initial.rows l.rows 0 l.filled (l.fn.visits.start + length l.yielded)
