use Rattle.std.proofs.Common.{◌≡◌, ◌-◌, ℕ, List, take, sym, ap, ◌∙◌, subst, arith}
use Rattle.std.proofs.lemmas.Bool.{ne_eqb}
use Rattle.ltlf.specs.Contents.{book_contents}
use Rattle.judge.specs.Judging.{Judged}
use Rattle.record.specs.Calls.{record_model}
use Rattle.household.proofs.Checks.{stood}
use Rattle.household.proofs.standing.stands.Goals as goal

pub returns : goal.returns
returns g c =
    let r = record_model c.args.«record».now in
    let b = book_contents c.args.book.now in
    let m = g.T.Theory.meaning c.args.theory.now in
    let visits = c.args.visits.now in
    let same = c.kept-kept.ensures.value in
    let part = (rw c.in_ok-visits.ensures.ok_part at c.get.ensures.lookup).0 in
    let whole : c.kept-kept.result - 0 ≡ c.kept-kept.result = omega arith in
    let cut : c.in_ok-visits.visits.now ≡ take c.kept-kept.result visits = part.2 ∙ ap (λ (n : ℕ). take n visits) whole in
    stood r b m visits (sym c.if-not-counts_agree.ensures) (omega (arith, same, part.1)) (ne_eqb _ _ (λ none. c.if-kept-eq0.false (same ∙ none)))
    c.judge.result
    (subst (λ (n : ℕ). Judged m b (take n visits) c.judge.result) same (subst (λ (xs : List ℕ). Judged m b xs c.judge.result) cut c.judge.ensures))
