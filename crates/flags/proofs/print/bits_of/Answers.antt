use Rattle.std.proofs.Common.{◌/◌, ◌%◌, ◌^◌, pos, arith}
use Rattle.std.proofs.lemmas.List.FromFn.{fill_by_all}
use Rattle.flags.proofs.print.bits_of.Goals as goal

pub returns : goal.returns
returns c =
    fill_by_all (λ i. pos (c.args.code / 2 ^ i % 2)) c.loop-place.bit-items 12 (pos 0) (omega arith)
    (λ k h. c.loop-place.invariant.1 k (omega arith))
