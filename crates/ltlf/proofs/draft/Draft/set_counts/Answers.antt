use Rattle.std.proofs.Common.{length, ap, arith}
use Rattle.intern.proofs.Index.{indexed_none}
use Rattle.ltlf.specs.Nodes.{same, node_turn}
use Rattle.ltlf.proofs.draft.Draft.set_counts.Goals as goal

pub invariant_of-self : goal.invariant_of-self
invariant_of-self c =
    let d = c.args.self.now in
    record {
      room = omega arith;
      whole = d.whole;
      indexed = indexed_none same node_turn d.cells;
      before = λ k h. absurd (omega arith);
      stood = λ i h. absurd (omega (arith, ap length c.clear.ensures));
      apart = λ i j lt h e. absurd (omega (arith, ap length c.clear.ensures));
      coded = omega arith;
      told = omega arith;
    }
