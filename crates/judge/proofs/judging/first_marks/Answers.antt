use Rattle.std.specs.Prelude.{Some}
use Rattle.std.proofs.Common.{◌≡◌, ℕ, suc, ◌-◌, ◌<◌, [], ◌∷◌, length, drop, sym, subst, length-append, arith}
use Rattle.std.proofs.lemmas.List.{length-reverse}
use Rattle.std.proofs.lemmas.Iterator.Adapters.{YieldsList-from_rev_slice}
use Rattle.std.proofs.lemmas.Iterator.Consumers.{YieldsList-turn, YieldsList-end}
use Rattle.ltlf.specs.Contents.{book_contents}
use Rattle.judge.specs.Histories.{first}
use Rattle.judge.proofs.Checking.{some_visit, visit_exists, after_exists}
use Rattle.judge.proofs.Histories.{first_at, read_back}
use Rattle.judge.proofs.judging.first_marks.Goals as goal

pub pass-marks-requires-clause-exist : goal.pass-marks-requires-clause-exist
pass-marks-requires-clause-exist g c =
    let m = g.T.Theory.meaning c.args.theory.now in
    let b = book_contents c.args.book.now in
    let σ = c.args.visits.now in
    let n = length c.loop-code.yielded in
    let turn = YieldsList-turn (YieldsList-from_rev_slice σ cc) c.loop-code.yielded _ c.loop-code.yielded_by _ c.next.new.self c.in-Some.code c.in-Some.is c.next.ensures.steps in
    let size = length-reverse σ in
    let i : ℕ = length σ - 1 - n in
    let is = read_back σ n c.in-Some.code.now i turn.0 turn.1 (omega arith) in (
      subst (λ (x : ℕ). x < m.codes) is (visit_exists m b σ c.requires i (omega arith)),
      after_exists m b σ c.requires i _ (omega arith) (sym (c.loop-code.invariant (suc i) (omega arith)).0),
    )

pub loop-code-preserved : goal.loop-code-preserved
loop-code-preserved g c = λ i at.
    let σ = c.args.visits.now in
    let n = length c.loop-code.yielded in
    let turn = YieldsList-turn (YieldsList-from_rev_slice σ cc) c.loop-code.yielded _ c.loop-code.yielded_by _ c.next.new.self c.in-Some.code c.in-Some.is c.next.ensures.steps in
    let size = length-append c.loop-code.yielded (c.in-Some.code ∷ []) in
    let is = read_back σ n c.in-Some.code.now i turn.0 turn.1 (omega arith) in
    let past = c.loop-code.invariant (suc i) (omega arith) in (
      subst (λ (x : ℕ). first (drop i σ) ≡ Some x) is (first_at σ i (omega arith)),
      λ h. c.pass-marks.ensures σ i h is past.0 past.1,
    )

pub returns : goal.returns
returns g c =
    let σ = c.args.visits.now in
    let size = length-reverse σ in
    let end = YieldsList-end (YieldsList-from_rev_slice σ cc) c.loop-code.yielded _ c.loop-code.yielded_by _ c.next.new.self c.in-None.is c.next.ensures.steps in
    (c.loop-code.invariant 0 (omega (arith, end.1))).1 (some_visit (g.T.Theory.meaning c.args.theory.now) (book_contents c.args.book.now) σ c.requires)
