use Rattle.std.proofs.Common.{[], ◌∷◌}
use Rattle.ltlf.specs.Contents.{book_contents}
use Rattle.record.specs.Calls.{record_model}
use Rattle.household.specs.Law.{answered}
use Rattle.household.proofs.Answering.{answers_law}
use Rattle.household.proofs.Hears.{heard_one}
use Rattle.household.proofs.replaying.ask.Goals as goal

pub returns : goal.returns
returns g c =
    let a = c.args in
    let said = c.question-result.ensures in
    let result = c.question-result.result in
    let filled = c.question-result.new.rows in
    let shown = c.question-result.new.history in (
      answered result filled shown ∷ [],
      (
        heard_one g.O.Observer.hears a.observer.now c.answered.new.self (answered result filled shown) c.answered.ensures,
        (
          answers_law (record_model a.«record».now) (book_contents a.book.now) (g.T.Theory.meaning a.theory.now) a.visits.now
              c.requires.within c.requires.codes a.rows.now filled a.history.now shown result
              said.answer said.means,
          tt,
        ),
      ),
    )
