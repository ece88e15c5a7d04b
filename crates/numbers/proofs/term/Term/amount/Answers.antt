use Rattle.std.proofs.Common.{ltb, length}
use Rattle.std.proofs.lemmas.Bool.{and_parts}
use Rattle.numbers.specs.Limits.{within}
use Rattle.numbers.proofs.Products.{product_within, product_is}
use Rattle.numbers.proofs.term.Term.amount.Goals as goal

pub returns-clause-bounds : goal.returns-clause-bounds
returns-clause-bounds c =
    let t = c.args.self in
    let small = (and_parts (ltb t.variable (length c.args.grid.now.variables.items)) (within 1000 t.coefficient) c.requires).1 in
    let bounded = product_within t.coefficient c.value.result small c.value.ensures.bounds in
    let same = product_is t.coefficient c.value.result small c.value.ensures.bounds in
    rw same bounded
