use Rattle.std.proofs.Common.{◌≡◌, None, length, sym, subst, arith}
use Rattle.search.specs.Layers.{Spread}
use Rattle.search.specs.Questions.{at_place, Labelled}
use Rattle.search.proofs.Families.{spread_some, spread_none, collected_more, collected_short, collected_all}
use Rattle.search.proofs.Listing.{label_in, some_labelled, labelled_some}
use Rattle.search.proofs.labels.enter_labels.Goals as goal

pub loop-cell-preserved : goal.loop-cell-preserved
loop-cell-preserved c =
    collected_more (λ e. e.from ≡ c.args.visit.from) (λ i p. p ≡ at_place c.args.visit.place (label_in c.args.cells.now i) c.args.visit.code) 0
    _ _ _ _ _ _ _ (omega arith) c.loop-cell.invariant c.in_ok-filled.ensures

pub returns-in_err-filled : goal.returns-in_err-filled
returns-in_err-filled c =
    let cells = c.args.cells.now in
    let gone : c.from_residual.result ≡ None = grind arith in
    subst (λ r. Spread (λ e. e.from ≡ c.args.visit.from) (Labelled c.args.visit.place c.args.visit.code cells (length cells)) c.args.rows.now c.enter.new.rows c.args.filled r) (sym gone)
    (spread_none (λ e. e.from ≡ c.args.visit.from) _ _
    (some_labelled cells (length cells) (omega arith) c.args.visit.place c.args.visit.code)
    _ _ _
    (collected_short (λ e. e.from ≡ c.args.visit.from) (λ i p. p ≡ at_place c.args.visit.place (label_in cells i) c.args.visit.code) 0
    _ _ _ _ _ _ (length cells) (omega arith) (omega arith) c.loop-cell.invariant c.in_err-filled.ensures))

pub returns : goal.returns
returns c =
    let cells = c.args.cells.now in
    spread_some (λ e. e.from ≡ c.args.visit.from) _ _
    (some_labelled cells (length cells) (omega arith) c.args.visit.place c.args.visit.code)
    (labelled_some cells (length cells) (omega arith) c.args.visit.place c.args.visit.code)
    _ _ _ _
    (collected_all (λ e. e.from ≡ c.args.visit.from) (λ i p. p ≡ at_place c.args.visit.place (label_in cells i) c.args.visit.code) 0
    _ _ _ _ _ (length cells) (omega arith) (omega arith) c.loop-cell.invariant)
