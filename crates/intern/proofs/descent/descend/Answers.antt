use Rattle.std.proofs.Common.{refl, arith}
use Rattle.intern.proofs.Descents.{ends_here, ends_gap, ends_low, ends_high, goes_on}
use Rattle.intern.proofs.descent.descend.Goals as goal
use Rattle.intern.proofs.descent.descend.Goals.{then-next-at-via-then-next-at, then-next-at-via-else-next-at+then-next-filled}

pub returns-then-eq : goal.returns-then-eq
returns-then-eq g c =
    ends_here g.R.Keyed.alike g.R.Keyed.turns _ _ _ _ _ _ _ c.loop-depth-test.true (c.loop-depth.invariant.1 (omega arith)) c.loop-depth.invariant.0 c.loop-depth.invariant.2 c.index-cells-at.is
    _ (g.met.R.Keyed.decides _ _ _ c.if-eq.ensures) refl

pub returns-in_default : goal.returns-in_default
returns-in_default g c =
    ends_gap g.R.Keyed.alike g.R.Keyed.turns _ _ _ _ _ _ _ c.loop-depth-test.true (c.loop-depth.invariant.1 (omega arith)) c.loop-depth.invariant.0 c.loop-depth.invariant.2 c.index-cells-at.is
    _ _ _ (g.met.R.Keyed.decides _ _ _ c.if-eq.ensures) refl c.turn-right.ensures c.child.ensures c.in_default.is

pub returns-then-next-at : goal.returns-then-next-at
returns-then-next-at g c = elim c.then-next-at.branch [
  | then-next-at-via-then-next-at w ↦
      ends_low g.R.Keyed.alike g.R.Keyed.turns _ _ _ _ _ _ _ c.loop-depth-test.true (c.loop-depth.invariant.1 (omega arith)) c.loop-depth.invariant.0 c.loop-depth.invariant.2 c.index-cells-at.is
      _ _ _ (g.met.R.Keyed.decides _ _ _ c.if-eq.ensures) refl c.turn-right.ensures c.child.ensures _ c.in-Some.is w.if-next-at.true
  | then-next-at-via-else-next-at+then-next-filled w ↦
      ends_high g.R.Keyed.alike g.R.Keyed.turns _ _ _ _ _ _ _ c.loop-depth-test.true (c.loop-depth.invariant.1 (omega arith)) c.loop-depth.invariant.0 c.loop-depth.invariant.2 c.index-cells-at.is
      _ _ _ (g.met.R.Keyed.decides _ _ _ c.if-eq.ensures) refl c.turn-right.ensures c.child.ensures _ c.in-Some.is w.if-next-filled.true
]

pub loop-depth-preserved : goal.loop-depth-preserved
loop-depth-preserved g c = (
  c.loop-depth.invariant.0,
  λ some. omega arith,
  goes_on g.R.Keyed.alike g.R.Keyed.turns _ _ _ _ _ _ _ c.loop-depth-test.true (c.loop-depth.invariant.1 (omega arith)) c.loop-depth.invariant.0 c.loop-depth.invariant.2 c.index-cells-at.is
      _ _ _ (g.met.R.Keyed.decides _ _ _ c.if-eq.ensures) refl c.turn-right.ensures c.child.ensures _ c.in-Some.is (omega arith) (omega arith),
)
