use Rattle.std.proofs.Common.{◌≡◌}
use Rattle.search.specs.Questions.{at_place}
use Rattle.search.proofs.Families.{Collected}
use Rattle.search.proofs.Listing.{label_in}
use Rattle.search.proofs.labels.enter_labels.Given as goal

abbrev pub invariant-loop-cell : goal.invariant-loop-cell
invariant-loop-cell l =
    Collected (λ e. e.from ≡ l.visit.from) (λ i p. p ≡ at_place l.visit.place (label_in l.cells i) l.visit.code) 0
    l.initial.rows l.rows l.initial.filled l.filled l.cell-index
