use Rattle.std.proofs.Common.{length, ap}
use Rattle.record.specs.Calls.{record_model}
use Rattle.household.specs.Law.{drawn}
use Rattle.household.proofs.Strikes.{struck_one}
use Rattle.household.proofs.replaying.step.Goals as goal

pub returns-in-Strike : goal.returns-in-Strike
returns-in-Strike g c =
    let said = c.strike-result.ensures in
    struck_one g.O.Observer.hears (record_model c.args.«record») c.args.visits.now c.args.observer.now c.requires.within
    (record_model c.strike-result.new.self) c.struck.new.self c.strike-result.result _
    (ap (drawn g.T.Theory.meaning (length c.args.rows.now) (length c.args.history.now)) c.in-Strike.is)
    said.answer said.after c.struck.ensures
