use Rattle.std.proofs.Common.{◌≡◌, map, length, sym, ap, ◌∙◌, arith}
use Rattle.names.specs.Rosters.{texts}
use Rattle.numbers.specs.Kept.{atom_of, sums_stand}
use Rattle.numbers.proofs.Means.{codes_are}
use Rattle.numbers.proofs.numbers.Numbers.of.Goals as goal

pub invariant_of-result : goal.invariant_of-result
invariant_of-result c =
    let g = c.args.grid in
    let paired : length (texts c.of.result) ≡ length g.variables.items = ap length c.of.ensures ∙ sym c.requires in
    record {
      paired = paired;
      counted = codes_are (texts c.of.result) g paired;
      few = omega (arith, ap length c.new.ensures);
      known = ap (λ xs. sums_stand (length g.variables.items) (map atom_of xs)) c.new.ensures;
    }
