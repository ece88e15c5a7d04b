use Rattle.std.proofs.Common.{◌<◌, length, get_or, pos, ap, ◌∙◌, arith}
use Rattle.std.proofs.lemmas.Int.{ints}
use Rattle.std.proofs.lemmas.List.{take_all}
use Rattle.numbers.specs.declared.term.Moment.TheVariants.{Now}
use Rattle.numbers.specs.declared.term.Term.{Term}
use Rattle.numbers.specs.Kept.{amount_of, kept_sum}
use Rattle.numbers.specs.Limits.{terms_fit}
use Rattle.numbers.proofs.Sums.{term_at, sum_is, sum_more}
use Rattle.numbers.proofs.atom.Atom.sum.Goals as goal

pub amount-sum-requires : goal.amount-sum-requires
amount-sum-requires c =
    let n = length c.args.grid.now.variables.items in
    term_at n c.as_slice-term-items.result.now c.loop-term.term-index _ c.loop-term-test.true (ap (terms_fit n) c.as_slice-term-items.ensures.value ∙ c.requires.fit)

pub overflow_add-sum : goal.overflow_add-sum
overflow_add-sum c =
    let so_far = c.loop-term.invariant in
    let x = c.amount-sum.ensures.bounds in
    let below : c.loop-term.term-index < 4 = omega (arith, c.loop-term-test.true, ap length c.as_slice-term-items.ensures.value, c.requires.few) in
    omega (arith, ints)

pub loop-term-preserved : goal.loop-term-preserved
loop-term-preserved c =
    let so_far = c.loop-term.invariant in
    let x = c.amount-sum.ensures in
    let i = c.loop-term.term-index in
    let ts = c.args.self.now.terms.items in
    let d : Term = record { coefficient = pos 0; variable = 0; moment = Now } in
    let long = ap length c.as_slice-term-items.ensures.value in
    let below : i < 4 = omega (arith, c.loop-term-test.true, long, c.requires.few) in
    let here = sum_is i c.amount-sum.result below so_far.1 so_far.2 x.bounds.0 x.bounds.1 in
    let more = sum_more c.args.grid.now c.args.code c.args.next ts i d (omega (arith, c.loop-term-test.true, long)) so_far.0
    (x.is ∙ ap (λ us. amount_of c.args.grid.now c.args.code c.args.next (get_or us i d)) c.as_slice-term-items.ensures.value) in
    (here ∙ more, omega (arith, ints), omega (arith, ints))

pub returns : goal.returns
returns c =
    c.loop-term.invariant.0
    ∙ ap (kept_sum c.args.grid.now c.args.code c.args.next)
    (take_all c.loop-term.term-index c.args.self.now.terms.items (omega (arith, c.loop-term-test.false, ap length c.as_slice-term-items.ensures.value)))
