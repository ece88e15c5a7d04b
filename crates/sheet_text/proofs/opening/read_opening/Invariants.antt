use Rattle.std.proofs.Common.{◌≡◌}
use Rattle.sheet_text.specs.Lines.{lines_left, placed_read}
use Rattle.sheet_text.specs.Opening.{declaration_read}
use Rattle.sheet_text.specs.declared.opening.Stage.TheVariants.{Start}
use Rattle.sheet_text.proofs.opening.read_opening.Given as goal

abbrev pub invariant-loop-place : goal.invariant-loop-place
invariant-loop-place g l =
    (goal.iterator-loop-place g).can_next l.place-iterator ×
    (goal.iterator-loop-place g).is_finite l.place-iterator ×
    (placed_read declaration_read (lines_left l.place-iterator) (l.stage, g.T.Filled.held l.theory) ≡ placed_read declaration_read (lines_left l.fn.lines) (Start, g.T.Filled.held l.initial.theory))
