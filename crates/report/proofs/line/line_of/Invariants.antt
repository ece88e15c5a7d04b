use Rattle.std.proofs.Common.{◌≡◌, ◌+◌, ◌*◌, ◌≤◌, ◌++◌, length, drop}
use Rattle.report.specs.Lines.{numbers_text, line_text}
use Rattle.report.proofs.line.line_of.Given as goal

-- with what is left of the numbers it is the whole line
abbrev pub invariant-loop-number : goal.invariant-loop-number
invariant-loop-number l =
    (l.line.bytes ++ numbers_text (drop l.number-index l.numbers) ≡ line_text l.word l.numbers)
    × (length l.line.bytes ≤ length l.word + 21 * l.number-index)
