use Rattle.std.proofs.Common.{◌≡◌, ℕ, ◌/◌, ◌%◌, ◌^◌, ◌<◌, get_or, length, pos}
use Rattle.flags.proofs.print.bits_of.Given as goal

-- the first bits are written
abbrev pub invariant-loop-place : goal.invariant-loop-place
invariant-loop-place l = (length l.bit-items ≡ 12) × ((k : ℕ) → k < l.place → get_or l.bit-items k (pos 0) ≡ pos (l.code / 2 ^ k % 2))
