use Rattle.std.proofs.Common.{◌≡◌}
use Rattle.ltlf.specs.Contents.{draft_contents}
use Rattle.sheet_text.specs.Lines.{lines_left, placed_read}
use Rattle.sheet_text.specs.Rules.{rule_read}
use Rattle.sheet_text.proofs.rules.read_rules.Given as goal

abbrev pub invariant-loop-place : goal.invariant-loop-place
invariant-loop-place l =
    placed_read rule_read (lines_left l.place-iterator) (draft_contents l.draft) ≡ placed_read rule_read (lines_left l.fn.lines) (draft_contents l.initial.draft)
