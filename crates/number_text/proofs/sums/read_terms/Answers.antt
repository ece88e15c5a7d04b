use Rattle.std.proofs.Common.{◌-◌, ap, ◌∙◌, Some, rules}
use Rattle.numbers.specs.Model.{numbers_of}
use Rattle.number_text.specs.Sums.{terms_read}
use Rattle.number_text.proofs.Joining.{joined, no_term, last_term, more_terms}
use Rattle.number_text.proofs.sums.read_terms.Goals as goal

pub returns-in_err-term : goal.returns-in_err-term
returns-in_err-term c =
    rw c.from_residual.ensures (no_term (numbers_of c.args.numbers.now).variables c.loop-rest.terms.items c.loop-rest.rest.now _ c.loop-rest.invariant (search rules) c.in_err-term.ensures)

pub returns-in_default : goal.returns-in_default
returns-in_default c =
    let left = c.in_ok-term.term.rest.now in
    ap (λ ts. Some (ts, left)) c.push.ensures.items ∙ last_term (numbers_of c.args.numbers.now).variables c.loop-rest.terms.items c.loop-rest.rest.now _ c.loop-rest.invariant (search rules) c.in_ok-term.term.value left c.in_ok-term.ensures c.in_default.ensures

pub loop-rest-preserved : goal.loop-rest-preserved
loop-rest-preserved c =
    let variables = (numbers_of c.args.numbers.now).variables in
    (λ i. joined (c.push.ensures.items i) (terms_read variables (4 - c.push.ensures.len i) c.in-Some.more.now)) ∙ more_terms variables c.loop-rest.terms.items c.loop-rest.rest.now _ c.loop-rest.invariant (search rules) c.in_ok-term.term.value c.in_ok-term.term.rest.now c.in_ok-term.ensures _ c.in-Some.ensures
