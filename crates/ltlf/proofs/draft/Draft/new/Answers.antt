use Rattle.std.proofs.Common.{length, refl, ap, arith}
use Rattle.intern.specs.Index.{indexed_from}
use Rattle.ltlf.proofs.draft.Draft.new.Goals as goal

pub invariant_of-result : goal.invariant_of-result
unfolding indexed_from
invariant_of-result c =
    record {
      room = omega arith;
      whole = refl;
      indexed = refl;
      before = λ k h. absurd (omega arith);
      stood = λ i h. absurd (omega (arith, ap length c.new-2.ensures));
      apart = λ i j lt h e. absurd (omega (arith, ap length c.new-2.ensures));
      coded = omega arith;
      told = omega arith;
    }
