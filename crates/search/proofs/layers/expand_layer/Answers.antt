use Rattle.std.proofs.Common.{◌≡◌, None, length, sym, subst, arith}
use Rattle.tableau.specs.Positions.{Step}
use Rattle.search.specs.Layers.{After, Came, Spread}
use Rattle.search.proofs.Entering.{rows_within}
use Rattle.search.proofs.Lists.{grown_to, listed_to, grown_twice, came_here, after_here, whole_more}
use Rattle.search.proofs.layers.expand_layer.Goals as goal

pub returns-in_err-filled : goal.returns-in_err-filled
returns-in_err-filled g c =
    let S = Step (g.S.Space.question c.args.space.now) in
    let bad = c.in_err-filled.ensures in
    let len = rows_within _ _ c.requires.indexed in
    let full : length c.loop-i.rows ≡ length c.args.rows.now = c.loop-i.auto.rows in
    let gone : c.from_residual.result ≡ None = grind arith in
    subst (λ r. Spread (Came S c.args.rows.now c.args.start c.args.end) (After S c.args.rows.now c.args.start c.args.end) c.args.rows.now c.expand.new.rows c.args.end r) (sym gone) (
      grown_to _ _ _ _ _ _ full
          (grown_twice _ _ _ _ _ _ _ _ _ (λ _ x. x)
          (came_here S _ _ _ _ _ _ _ _ c.loop-i.invariant.0 c.loop-i.auto.i c.loop-i-test.true len)
          c.loop-i.invariant.0 bad.0),
      (
        bad.1.0,
        after_here S _ _ _ _ _ _ _ _ c.loop-i.invariant.0 c.loop-i.auto.i c.loop-i-test.true len bad.1.0 bad.1.1,
        λ l. bad.1.2 (listed_to _ _ _ _ _ full l),
      ),
    )

pub loop-i-preserved : goal.loop-i-preserved
loop-i-preserved g c = (
  grown_twice _ _ _ _ _ _ _ _ _
      (λ _ x. x)
      (came_here (Step (g.S.Space.question c.args.space.now)) _ _ _ _ _ _ _ _ c.loop-i.invariant.0 c.loop-i.auto.i c.loop-i-test.true (rows_within _ _ c.requires.indexed))
      c.loop-i.invariant.0
      c.in_ok-filled.ensures.0,
  whole_more (Step (g.S.Space.question c.args.space.now)) _ _ _ _ _ _ _ _ _ _ _ c.loop-i.invariant.0 c.in_ok-filled.ensures.0 c.loop-i-test.true c.loop-i.invariant.1 c.in_ok-filled.ensures.1,
)
