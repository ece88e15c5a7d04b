use Rattle.std.proofs.Common.{Some, None, arith, refl}
use Rattle.viability.specs.Visits.{moment_at, contents_at}
use Rattle.successors.proofs.Expanding.{opened, filled_zero, inside_rest, less_rest, filled_drop, less_next, inside_next, filled_way, filled_one, filled_both, filled_stop, ways_read, idle_read}
use Rattle.successors.proofs.Growing.{filled_there}
use Rattle.successors.proofs.Tabling.{kept_stands, kept_more, kept_filled}
use Rattle.successors.proofs.expand.+expand.Goals as goal

pub returns-then-members-eq0 : goal.returns-then-members-eq0
returns-then-members-eq0 t c =
    let v = c.args.sight.now.visit in record {
      fills = filled_zero c.requires.guided c.args.members c.args.next c.if-members-eq0.true _ _ _ _ c.enter.ensures;
      keeps = kept_more (moment_at v) (contents_at v) _ _ _ _ _ _ c.enter.ensures c.requires.kept;
    }

pub expand-requires : goal.expand-requires
expand-requires t c =
    let st = opened c.requires.guided c.requires.viable c.top-number.ensures.1 c.without-rest.result c.without-rest.ensures in
    ((let l = less_rest st in omega (arith, l)), (c.requires.guided, (inside_rest st, (c.requires.taken, c.requires.kept))))

pub returns-then-inside-clause-fills : goal.returns-then-inside-clause-fills
returns-then-inside-clause-fills t c =
    let st = opened c.requires.guided c.requires.viable c.top-number.ensures.1 c.without-rest.result c.without-rest.ensures in
    filled_drop st c.args.next (idle_read st c.guide_at-guide.result c.args.next c.guide_at-guide.ensures (c.if-inside.ensures.0 refl)) _ _ _ _ c.expand.ensures.fills

pub expand-requires-in_default : goal.expand-requires-in_default
expand-requires-in_default t c =
    let st = opened c.requires.guided c.requires.viable c.top-number.ensures.1 c.without-rest.result c.without-rest.ensures in
    let is = ways_read st c.guide_at-guide.result c.guide_at-guide.ensures in
    let on = c.guide_at-guide.result.ways in (
      (let l = less_next st on.first is.first_is in omega (arith, l)),
      (c.requires.guided, (inside_next st on.first is.first_is, (c.requires.taken, c.requires.kept))),
    )

pub returns-in_default-clause-fills : goal.returns-in_default-clause-fills
returns-in_default-clause-fills t c =
    let st = opened c.requires.guided c.requires.viable c.top-number.ensures.1 c.without-rest.result c.without-rest.ensures in
    let is = ways_read st c.guide_at-guide.result c.guide_at-guide.ensures in
    let on = c.guide_at-guide.result.ways in
    filled_one st on is c.args.next c.in_default.is _ _ _ _ c.expand-in_default.ensures.fills

pub returns-then-seen-clause-fills : goal.returns-then-seen-clause-fills
returns-then-seen-clause-fills t c =
    let v = c.args.sight.now.visit in
    filled_there _ _ _ c.requires.taken (kept_stands (moment_at v) (contents_at v) c.args.table.now c.args.cells.now c.args.filled _ c.requires.kept (c.if-seen.ensures refl))

pub expand-requires-2 : goal.expand-requires-2
expand-requires-2 t c =
    let st = opened c.requires.guided c.requires.viable c.top-number.ensures.1 c.without-rest.result c.without-rest.ensures in
    let is = ways_read st c.guide_at-guide.result c.guide_at-guide.ensures in
    let on = c.guide_at-guide.result.ways in (
      (let l = less_next st on.first is.first_is in omega (arith, l)),
      (c.requires.guided, (inside_next st on.first is.first_is, (c.requires.taken, c.requires.kept))),
    )

pub returns-in_err-more-clause-fills : goal.returns-in_err-more-clause-fills
returns-in_err-more-clause-fills t c =
    let st = opened c.requires.guided c.requires.viable c.top-number.ensures.1 c.without-rest.result c.without-rest.ensures in
    let is = ways_read st c.guide_at-guide.result c.guide_at-guide.ensures in
    let on = c.guide_at-guide.result.ways in
    rw c.from_residual.ensures
    (filled_stop st on is c.args.next _ _ _
    (filled_way st on.first is.first_is c.args.next _ c.gathered.ensures.1 _ _ _ None c.in_err-more.ensures.fills))

pub expand-requires-3 : goal.expand-requires-3
expand-requires-3 t c =
    let st = opened c.requires.guided c.requires.viable c.top-number.ensures.1 c.without-rest.result c.without-rest.ensures in
    let is = ways_read st c.guide_at-guide.result c.guide_at-guide.ensures in
    let on = c.guide_at-guide.result.ways in
    let second = is.second_is c.in-Some.second c.in-Some.is in
    let g = c.in_ok-more.ensures.fills.0 in (
      (let l = less_next st c.in-Some.second second in omega (arith, l)),
      (c.requires.guided, (inside_next st c.in-Some.second second, (g.taken, c.in_ok-more.ensures.keeps))),
    )

pub returns-in_err-all-clause-fills : goal.returns-in_err-all-clause-fills
returns-in_err-all-clause-fills t c =
    let st = opened c.requires.guided c.requires.viable c.top-number.ensures.1 c.without-rest.result c.without-rest.ensures in
    let is = ways_read st c.guide_at-guide.result c.guide_at-guide.ensures in
    let on = c.guide_at-guide.result.ways in
    let second = is.second_is c.in-Some.second c.in-Some.is in
    rw c.from_residual-in_err-all.ensures
    (filled_both st on is c.args.next c.in-Some.second c.in-Some.is _ _ _ _ _ None
    (filled_way st on.first is.first_is c.args.next _ c.gathered.ensures.1 _ _ _ (Some c.in_ok-more.more) c.in_ok-more.ensures.fills)
    (filled_way st c.in-Some.second second c.args.next _ c.gathered-2.ensures.1 _ _ _ None c.in_err-all.ensures.fills))

pub returns : goal.returns
returns t c =
    let v = c.args.sight.now.visit in
    let st = opened c.requires.guided c.requires.viable c.top-number.ensures.1 c.without-rest.result c.without-rest.ensures in
    let is = ways_read st c.guide_at-guide.result c.guide_at-guide.ensures in
    let on = c.guide_at-guide.result.ways in
    let second = is.second_is c.in-Some.second c.in-Some.is in
    let all = filled_both st on is c.args.next c.in-Some.second c.in-Some.is _ _ _ _ _ (Some c.in_ok-all.all)
    (filled_way st on.first is.first_is c.args.next _ c.gathered.ensures.1 _ _ _ (Some c.in_ok-more.more) c.in_ok-more.ensures.fills)
    (filled_way st c.in-Some.second second c.args.next _ c.gathered-2.ensures.1 _ _ _ (Some c.in_ok-all.all) c.in_ok-all.ensures.fills) in
    record {
      fills = all;
      keeps = kept_filled (moment_at v) (contents_at v) _ _ _ _ _ c.in_ok-all.all _ c.remember.ensures all c.in_ok-all.ensures.keeps;
    }
