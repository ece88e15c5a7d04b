use Rattle.std.proofs.Common.{replicate, subst, sym, arith}
use Rattle.std.proofs.lemmas.List.{length-replicate}
use Rattle.intern.specs.Index.{Indexed}
use Rattle.names.specs.Texts.{same_text, name_turn}
use Rattle.names.proofs.Rosters.{first_indexed}
use Rattle.names.proofs.roster.Roster.of.Goals as goal

pub invariant_of-result : goal.invariant_of-result
invariant_of-result g c =
    record {
      whole = length-replicate g.row.N c.new.result;
      few = omega (arith, c.min.ensures);
      indexed = subst (λ k. Indexed same_text name_turn (replicate g.row.N c.new.result) k) (sym c.min.ensures) (first_indexed g.row.N c.new.result c.args.name c.new.ensures);
    }
