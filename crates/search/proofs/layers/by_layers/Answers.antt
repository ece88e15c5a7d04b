use Rattle.std.proofs.Common.{◌≡◌, None, sym, subst, arith}
use Rattle.tableau.specs.Positions.{Starts, Step, Ends}
use Rattle.search.specs.Layers.{Searched}
use Rattle.search.proofs.Levels.{level_first, level_next, level_can, level_cannot, level_short, level_from, begin_short}
use Rattle.search.proofs.Bounds.{level_bounded}
use Rattle.search.proofs.layers.by_layers.Goals as goal

pub returns-in_err-filled : goal.returns-in_err-filled
returns-in_err-filled g c =
    let q = g.S.Space.question c.args.space.now in
    let gone : c.from_residual.result ≡ None = grind arith in
    subst (λ r. Searched (Starts q) (Step q) (Ends q) c.args.rows.now c.begin.new.rows r) (sym gone) (begin_short _ _ _ _ _ _ c.in_err-filled.ensures)

pub layers-init : goal.layers-init
layers-init g c = (omega arith, level_first _ _ _ _ _ _ _ c.in_ok-filled.ensures)

pub first_end-requires-clause-bounded : goal.first_end-requires-clause-bounded
first_end-requires-clause-bounded g c = level_bounded _ (g.S.Space.ready c.args.space.now).posed _ _ _ _ _ c.layers.invariant.1

pub expand_layer-requires-clause-bounded : goal.expand_layer-requires-clause-bounded
expand_layer-requires-clause-bounded g c = level_bounded _ (g.S.Space.ready c.args.space.now).posed _ _ _ _ _ c.layers.invariant.1

pub returns-in-Some : goal.returns-in-Some
returns-in-Some g c =
    level_can _ _ _ _ _ _ _ _ _
    (level_from _ _ _ _ _ _ _ _ _ _ _ c.in_ok-filled.ensures.0 c.layers.invariant.0 c.layers.invariant.1)
    c.in-Some.ensures

pub returns-in_err-more : goal.returns-in_err-more
returns-in_err-more g c =
    let q = g.S.Space.question c.args.space.now in
    let gone : c.from_residual-in_err-more.result ≡ None = grind arith in
    subst (λ r. Searched (Starts q) (Step q) (Ends q) c.args.rows.now c.expand_layer.new.rows r) (sym gone)
    (level_short _ _ _ _ _ _ _ _ _
    c.layers-test.true
    (level_from _ _ _ _ _ _ _ _ _ _ _ c.in_ok-filled.ensures.0 c.layers.invariant.0 c.layers.invariant.1)
    c.in_default.ensures
    c.in_err-more.ensures)

pub layers-preserved : goal.layers-preserved
layers-preserved g c = (
  omega (arith, c.in_ok-more.ensures.0.rises),
  level_next _ _ _ _ _ _ _ _ _ _ c.layers-test.true c.layers.invariant.1 c.in_default.ensures c.in_ok-more.ensures,
)

pub returns : goal.returns
returns g c =
    level_cannot _ _ _ _ _ _ _ _
    c.layers-test.false
    (level_from _ _ _ _ _ _ _ _ _ _ _ c.in_ok-filled.ensures.0 c.layers.invariant.0 c.layers.invariant.1)
