use Rattle.std.proofs.Common.{◌≡◌, ◌*◌, take, pos, neg_ℤ, ◌≤ℤ◌}
use Rattle.numbers.specs.Kept.{kept_sum}
use Rattle.numbers.proofs.atom.Atom.sum.Given as goal

abbrev pub invariant-loop-term : goal.invariant-loop-term
invariant-loop-term l =
    (l.sum ≡ kept_sum l.grid l.code l.next (take l.term-index l.self.terms.items))
    × (neg_ℤ (pos (10000000 * l.term-index)) ≤ℤ l.sum) × (l.sum ≤ℤ pos (10000000 * l.term-index))
