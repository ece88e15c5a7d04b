use Rattle.std.proofs.Common.{◌≡◌, ◌-◌, ◌<◌, ◌≤◌, length}
use Rattle.intern.specs.Walk.{walk, reached}
use Rattle.intern.proofs.descent.descend.Given as goal

abbrev pub invariant-loop-depth : goal.invariant-loop-depth
invariant-loop-depth g l =
    (l.filled ≤ length l.cells) × (0 < l.filled → l.at < l.filled)
    × (walk g.R.Keyed.alike g.R.Keyed.turns l.cells l.filled l.r (l.filled - l.depth) l.at l.depth
    ≡ reached g.R.Keyed.alike g.R.Keyed.turns l.cells l.filled l.r)
