use Rattle.std.proofs.Common.{◌<◌, length, sym, refl, subst, arith}
use Rattle.std.proofs.lemmas.Bool.{false≢true}
use Rattle.tableau.specs.Positions.{Ends}
use Rattle.search.proofs.Lists.{here, none_more, listed_wider}
use Rattle.search.proofs.layers.first_end.Goals as goal

pub finish-requires : goal.finish-requires
finish-requires g c = record { bounded = c.requires.bounded _ _ (omega arith) (omega arith) }

pub returns-then-finish : goal.returns-then-finish
returns-then-finish g c =
    let lt : c.loop-i.i < length c.args.rows.now = omega arith in (
      omega arith,
      omega arith,
      λ d. subst (Ends (g.S.Space.question c.args.space.now)) (sym (here c.args.rows.now c.loop-i.i _ lt d)) (c.if-finish.ensures.0 refl),
    )

pub loop-i-preserved : goal.loop-i-preserved
loop-i-preserved g c =
    none_more (Ends (g.S.Space.question c.args.space.now)) c.args.rows.now c.args.start c.loop-i.i _ c.loop-i.invariant (λ e. false≢true (c.if-finish.ensures.1 e))

pub returns : goal.returns
returns g c = λ p l e.
    c.loop-i.invariant p (listed_wider c.args.rows.now c.args.start c.args.end c.args.start c.loop-i.i p (omega arith) (omega arith) l) e
