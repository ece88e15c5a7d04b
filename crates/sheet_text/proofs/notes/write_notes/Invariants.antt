use Rattle.std.proofs.Common.{◌≡◌, map}
use Rattle.sheet_text.specs.Held.{note_by}
use Rattle.sheet_text.specs.Lines.{lines_left}
use Rattle.sheet_text.specs.Notes.{codes_of, over}
use Rattle.sheet_text.proofs.Writes.{written}
use Rattle.sheet_text.proofs.notes.write_notes.Given as goal

abbrev pub invariant-loop-entry : goal.invariant-loop-entry
invariant-loop-entry g l =
    written (note_by (g.T.Filled.held l.theory)) l.visits l.entry-index (lines_left l.lines)
    ≡ over (codes_of (note_by (g.T.Filled.held l.theory)) (map (λ p. p.1) (lines_left l.fn.lines))) l.initial.visits
