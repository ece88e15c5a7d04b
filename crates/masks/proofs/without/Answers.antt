use Rattle.std.proofs.Common.{◌≡◌, ◌*◌, ◌%◌, ◌^◌, ◌<◌, true, sym, ap, ◌∙◌, arith}
use lib.Bits.{bit_xor}
use Rattle.std.proofs.lemmas.Nat.{pow_below}
use Rattle.std.proofs.lemmas.Bool.{cond-true}
use Rattle.masks.specs.Masks.{has}
use Rattle.masks.proofs.Bits.{has_below}
use Rattle.masks.proofs.without.Goals as goal

pub overflow_shl-result : goal.overflow_shl-result
overflow_shl-result c = has_below c.args.mask 64 c.args.number (omega arith) (sym c.contains.ensures ∙ c.if-contains.true)

pub returns-then-contains : goal.returns-then-contains
returns-then-contains c =
    let has_it : has c.args.mask c.args.number ≡ true = sym c.contains.ensures ∙ c.if-contains.true in
    let small : c.args.number < 64 = has_below c.args.mask 64 c.args.number (omega arith) has_it in
    let lt : 2 ^ c.args.number < 2 ^ 64 = pow_below c.args.number 64 small in
    let e : (1 * 2 ^ c.args.number) % 18446744073709551616 ≡ 2 ^ c.args.number = omega arith in
    ap (bit_xor c.args.mask) e ∙ sym (cond-true _ _ _ has_it)
