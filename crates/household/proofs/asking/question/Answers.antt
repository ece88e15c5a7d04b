use Rattle.std.proofs.Common.{◌≡◌, ◌-◌, ℕ, List, length, take, sym, ap, ◌∙◌, subst, arith}
use Rattle.ltlf.specs.Contents.{book_contents}
use Rattle.ltlf.proofs.Books.{book_proper, book_few_atoms}
use Rattle.search.specs.Calls.{search_answer, RowsAfter, HistoryAfter}
use Rattle.search.specs.Questions.{asked}
use Rattle.record.specs.Calls.{record_model}
use Rattle.household.proofs.Checks.{question_answered}
use Rattle.household.proofs.Outcomes.{means}
use Rattle.household.proofs.asking.question.Goals as goal

pub returns : goal.returns
returns g c =
    let r = record_model c.args.«record».now in
    let b = book_contents c.args.book.now in
    let m = g.T.Theory.meaning c.args.theory.now in
    let visits = c.args.visits.now in
    let rows = c.args.rows.now in
    let history = c.args.history.now in
    let same = c.kept-kept.ensures.value in
    let said = c.search.ensures in
    let part = (rw c.in_ok-visits.ensures.ok_part at c.get.ensures.lookup).0 in
    let whole : c.kept-kept.result - 0 ≡ c.kept-kept.result = omega arith in
    let cut : c.in_ok-visits.visits.now ≡ take c.kept-kept.result visits = part.2 ∙ ap (λ (n : ℕ). take n visits) whole in
    let kept : c.in_ok-visits.visits.now ≡ take r.kept visits = cut ∙ ap (λ (n : ℕ). take n visits) same in
    let answer = said.answer ∙ ap (λ (xs : List ℕ). search_answer m b xs (length rows) (length history)) kept
    ∙ question_answered r b m visits (sym c.if-not-counts_agree.ensures) (omega (arith, same, part.1)) (omega (arith, same, c.kept-kept.ensures.few)) (book_few_atoms c.args.book.now) (length rows) (length history) in
    let filled = subst (λ (xs : List ℕ). RowsAfter (asked m b xs) rows c.search.new.rows c.search.result) kept said.rows in
    let shown = subst (λ (xs : List ℕ). HistoryAfter (asked m b xs) history c.search.new.history c.search.result) kept said.history in
    record {
      answer = answer;
      rows = filled;
      history = shown;
      means = means r b m visits (book_proper c.args.book.now) rows c.search.new.rows history c.search.new.history c.search.result answer filled shown;
    }
