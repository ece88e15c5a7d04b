use Rattle.std.proofs.Common.{◌≡◌}
use Rattle.sheet_text.specs.Held.{note_by}
use Rattle.sheet_text.specs.Lines.{lines_left, placed_read}
use Rattle.sheet_text.specs.Notes.{note_counted}
use Rattle.sheet_text.proofs.notes.check_notes.Given as goal

abbrev pub invariant-loop-place : goal.invariant-loop-place
invariant-loop-place g l =
    (goal.iterator-loop-place g).can_next l.place-iterator ×
    (goal.iterator-loop-place g).is_finite l.place-iterator ×
    (placed_read (note_counted (note_by (g.T.Filled.held l.theory)) l.room) (lines_left l.place-iterator) l.count ≡ placed_read (note_counted (note_by (g.T.Filled.held l.theory)) l.room) (lines_left l.fn.lines) 0)
