use Rattle.std.proofs.Common.{◌≡◌, ◌+◌, ◌<◌, List, length, ap, ◌∙◌, arith}
use mathlib.Core.Path.{subst⁻¹}
use Rattle.std.proofs.lemmas.List.{length-set}
use Rattle.ltlf.proofs.Books.{book_proper}
use Rattle.viability.specs.Visits.{moment_at, contents_at}
use Rattle.successors.specs.declared.guide.Guide.{Guide}
use Rattle.successors.specs.Guides.{GuidesBelow}
use Rattle.successors.proofs.Filling.{guides_step, guides_skip}
use Rattle.successors.proofs.guide.fill.Goals as goal
use Rattle.successors.proofs.guide.fill.Goals.{in-Some, in_default}

pub loop-number-preserved : goal.loop-number-preserved
loop-number-preserved c =
    let v = c.args.visit.now in
    let k = c.loop-number.number in
    let gs = c.loop-number.guides in
    let pr = book_proper v.book.now in
    elim c.match-ways_on.branch [
      | in-Some w ↦
          (let on = w.in-Some.ways in
          let len : length c.match-ways_on.guides ≡ length gs = ap length w.guides-is ∙ length-set gs k _ in
          let room : k < length gs = omega (arith, pr.few, len, c.match-ways_on.array_long, c.loop-number-test.true, c.formula_count-number-end.ensures) in
          subst⁻¹ (λ (x : List Guide). GuidesBelow (moment_at v) (contents_at v) c.args.able x (k + 1)) w.guides-is
          (guides_step (moment_at v) (contents_at v) pr c.args.able k on w.in-Some.ensures gs w.span_of-span.result room
          w.span_of-span.ensures.0 w.span_of-span.ensures.1 c.loop-number.invariant))
      | in_default w ↦
          subst⁻¹ (λ (x : List Guide). GuidesBelow (moment_at v) (contents_at v) c.args.able x (k + 1)) w.guides-is
          (guides_skip (moment_at v) (contents_at v) c.args.able k gs w.in_default.ensures c.loop-number.invariant)
    ]
