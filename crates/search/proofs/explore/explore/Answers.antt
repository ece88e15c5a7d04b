use Rattle.std.proofs.Common.{Some, subst, refl, arith}
use Rattle.tableau.specs.Positions.{Starts, Step, Ends}
use Rattle.search.specs.declared.layers.Found.{Found}
use Rattle.search.specs.Layers.{Searched}
use Rattle.search.proofs.Members.{same_rest}
use Rattle.search.proofs.Answering.{can_left, can_answer, can_backed, can_history, cannot_left, cannot_answer, short_distinct, short_counted, short_answer}
use Rattle.search.proofs.explore.explore.Goals as goal

pub read_back-requires : goal.read_back-requires
read_back-requires g c =
    let q = g.S.Space.question c.args.space.now in
    let x = subst (λ (f : Found). Searched (Starts q) (Step q) (Ends q) c.args.rows.now c.by_layers.new.rows (Some f)) c.in-Some-Can.field-0-is c.in-Some-Can.ensures in
    (omega (arith, x.0.room, x.6, x.5.0), can_backed _ (g.S.Space.ready c.args.space.now).posed _ _ _ _ _ x)

pub returns-in-Some-Can : goal.returns-in-Some-Can
returns-in-Some-Can g c =
    let q = g.S.Space.question c.args.space.now in
    let x = subst (λ (f : Found). Searched (Starts q) (Step q) (Ends q) c.args.rows.now c.by_layers.new.rows (Some f)) c.in-Some-Can.field-0-is c.in-Some-Can.ensures in
    record {
      answer = can_answer _ (g.S.Space.ready c.args.space.now).posed _ _ _ _ _ x;
      rows = (can_left _ (g.S.Space.ready c.args.space.now).posed _ _ _ _ _ x, x.5.0, same_rest _ _ _ x.5.0 x.5.1);
      history = can_history _ (g.S.Space.ready c.args.space.now).posed _ _ _ _ _ x _ _ c.read_back.ensures;
    }

pub returns-in-Some-Cannot : goal.returns-in-Some-Cannot
returns-in-Some-Cannot g c =
    let q = g.S.Space.question c.args.space.now in
    let x = subst (λ (f : Found). Searched (Starts q) (Step q) (Ends q) c.args.rows.now c.by_layers.new.rows (Some f)) c.in-Some-Cannot.field-0-is c.in-Some-Cannot.ensures in
    record {
      answer = cannot_answer _ (g.S.Space.ready c.args.space.now).posed _ _ _ x;
      rows = (cannot_left _ (g.S.Space.ready c.args.space.now).posed _ _ _ x, x.2.0, same_rest _ _ _ x.2.0 x.2.1);
      history = refl;
    }

pub returns-in-None : goal.returns-in-None
returns-in-None g c =
    let x = c.in-None.ensures.1 in
    record {
      answer = short_answer _ (g.S.Space.ready c.args.space.now).posed _ _ _ x;
      rows = (short_distinct _ (g.S.Space.ready c.args.space.now).posed _ _ _ x, short_counted _ (g.S.Space.ready c.args.space.now).posed _ _ _ x, x.0);
      history = refl;
    }
