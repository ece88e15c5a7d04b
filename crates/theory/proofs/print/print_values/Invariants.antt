use Rattle.std.proofs.Common.{◌≡◌, ◌≤◌, length, take}
use Rattle.writer.specs.Puts.{put_at}
use Rattle.theory.specs.Print.{spaced}
use Rattle.theory.proofs.print.print_values.Given as goal

-- the first values are written into the text
abbrev pub invariant-loop-value : goal.invariant-loop-value
invariant-loop-value l =
    let text = spaced (take l.value-index l.values) in
    (l.at ≡ length text) × (l.text ≡ put_at (take 64 l.out) 0 text) × (l.at ≤ 64)
