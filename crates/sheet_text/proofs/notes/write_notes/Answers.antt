use Rattle.std.proofs.Common.{drop, ap, ◌∙◌, arith, rules}
use Rattle.items.specs.Lines.{lines_of}
use Rattle.sheet_text.specs.Held.{note_by}
use Rattle.sheet_text.specs.Lines.{lines_left}
use Rattle.sheet_text.specs.Notes.{codes_of, over}
use Rattle.sheet_text.proofs.Turns.{unplaced}
use Rattle.sheet_text.proofs.Writes.{no_line, no_entry, one_written}
use Rattle.sheet_text.proofs.notes.write_notes.Goals as goal

pub returns-in_default : goal.returns-in_default
returns-in_default g c =
    no_line (note_by (g.T.Filled.held c.args.theory.now)) c.loop-entry.visits _ c.loop-entry.entry-index (lines_left c.loop-entry.lines) c.loop-entry.invariant c.in_default.ensures.steps.0
    ∙ ap (λ ls. over (codes_of (note_by (g.T.Filled.held c.args.theory.now)) ls) c.args.visits.now) (unplaced c.args.lines.next (lines_of (drop c.args.lines.next c.args.lines.text.now)))

pub loop-entry-preserved : goal.loop-entry-preserved
loop-entry-preserved g c =
    one_written (note_by (g.T.Filled.held c.args.theory.now)) c.loop-entry.visits _ c.loop-entry.entry-index (lines_left c.loop-entry.lines) c.loop-entry.invariant
    c.in-Some.field-0-0 c.in-Some.line.now (lines_left c.next.new.self) c.unwrap_or.result (omega arith) c.in-Some.ensures.steps (search rules)

pub returns : goal.returns
returns g c =
    no_entry (note_by (g.T.Filled.held c.args.theory.now)) c.loop-entry.visits _ c.loop-entry.entry-index (lines_left c.loop-entry.lines) c.loop-entry.invariant (omega arith)
    ∙ ap (λ ls. over (codes_of (note_by (g.T.Filled.held c.args.theory.now)) ls) c.args.visits.now) (unplaced c.args.lines.next (lines_of (drop c.args.lines.next c.args.lines.text.now)))
