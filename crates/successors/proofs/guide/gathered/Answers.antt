use Rattle.std.proofs.Common.{◌≡◌, sym, ap, arith}
use Rattle.successors.specs.declared.guide.Guide.{Guide}
use Rattle.successors.specs.Guides.{no_guide, reach_at, must_at}
use Rattle.successors.proofs.Filling.{gathering_none, gathering_more, gathering_done, under_less, under_rest}
use Rattle.successors.proofs.guide.gathered.Goals as goal

pub loop-rest-init : goal.loop-rest-init
loop-rest-init c = (gathering_none _ _, gathering_none _ _)

pub loop-rest-smaller : goal.loop-rest-smaller
loop-rest-smaller c =
    let t = c.top-number.ensures.1 in
    under_less c.loop-rest.rest c.top-number.result c.without-rest.result t
    (under_rest c.loop-rest.rest c.top-number.result c.without-rest.result t c.without-rest.ensures)

pub loop-rest-preserved : goal.loop-rest-preserved
loop-rest-preserved c =
    let is = sym (c.guide_at.ensures no_guide) in (
      gathering_more (reach_at c.args.guides.now) c.args.members c.loop-rest.rest c.without-rest.result c.loop-rest.reach _ c.top-number.result
          c.top-number.ensures.1.within c.without-rest.ensures (ap (λ (g : Guide). g.span.reach) is) c.loop-rest.invariant.0,
      gathering_more (must_at c.args.guides.now) c.args.members c.loop-rest.rest c.without-rest.result c.loop-rest.must _ c.top-number.result
          c.top-number.ensures.1.within c.without-rest.ensures (ap (λ (g : Guide). g.span.must) is) c.loop-rest.invariant.1,
    )

pub returns : goal.returns
returns c =
    let e : c.loop-rest.rest ≡ 0 = omega arith in (
      gathering_done (reach_at c.args.guides.now) c.args.members c.loop-rest.rest c.loop-rest.reach e c.loop-rest.invariant.0,
      gathering_done (must_at c.args.guides.now) c.args.members c.loop-rest.rest c.loop-rest.must e c.loop-rest.invariant.1,
    )
