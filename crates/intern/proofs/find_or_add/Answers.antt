use Rattle.intern.proofs.Settling.{settles}
use Rattle.intern.proofs.find_or_add.Goals as goal

pub returns : goal.returns
returns g c =
    record {
      answer = c.enter.ensures.answer;
      after = c.enter.ensures.after;
      settled = λ ix.
          settles g.R.Keyed.alike g.R.Keyed.turns g.met.R.Keyed.reflexive g.met.R.Keyed.symmetric g.met.R.Keyed.transitive g.met.R.Keyed.agree
          _ _ _ ix _ _ c.enter.ensures.answer c.enter.ensures.after;
    }
