use Rattle.std.proofs.Common.{◌≡◌, ℕ, ◌+◌, None, sym, subst, arith}
use Rattle.intern.proofs.Index.{indexed_none}
use Rattle.search.specs.Layers.{Spread}
use Rattle.search.specs.Rows.{same_position, row_turn}
use Rattle.search.specs.Questions.{SomeOf, StartsAt}
use Rattle.search.proofs.Families.{Collected, collected_none, collected_more, collected_short, collected_all}
use Rattle.search.proofs.Visiting.{range_turn, range_end, range_more}
use Rattle.search.proofs.starts.enter_starts.Goals as goal

pub loop-code-init : goal.loop-code-init
loop-code-init c =
    let same : c.args.visits.start ≡ c.args.visits.start + 0 = omega arith in
    subst (λ (n : ℕ). Collected (λ e. e.from ≡ 0) (StartsAt c.args.label) c.args.visits.start c.args.rows.now c.args.rows.now 0 0 n) same
    (collected_none (λ e. e.from ≡ 0) (StartsAt c.args.label) c.args.visits.start _ 0 (omega arith) (indexed_none same_position row_turn _))

pub loop-code-preserved : goal.loop-code-preserved
loop-code-preserved c =
    let start = c.args.visits.start in
    let at = range_turn start c.args.visits.end (cc) c.loop-code.yielded _ c.loop-code.yielded_by _ c.next.new.self c.in-Some.code c.in-Some.is c.next.ensures.steps in
    let so-far =
    subst (λ (n : ℕ). Collected (λ e. e.from ≡ 0) (StartsAt c.args.label) start c.args.rows.now c.loop-code.rows 0 c.loop-code.filled n) at.0 c.loop-code.invariant in
    subst (λ (n : ℕ). Collected (λ e. e.from ≡ 0) (StartsAt c.args.label) start c.args.rows.now c.enter.new.rows 0 c.in_ok-filled.filled n)
    (range_more start c.in-Some.code c.loop-code.yielded c.in-Some.code at.0)
    (collected_more (λ e. e.from ≡ 0) (StartsAt c.args.label) start _ _ _ 0 _ _ _ (omega (arith, at.0)) so-far c.in_ok-filled.ensures)

pub returns-in_err-filled : goal.returns-in_err-filled
returns-in_err-filled c =
    let start = c.args.visits.start in
    let at = range_turn start c.args.visits.end (cc) c.loop-code.yielded _ c.loop-code.yielded_by _ c.next.new.self c.in-Some.code c.in-Some.is c.next.ensures.steps in
    let so-far =
    subst (λ (n : ℕ). Collected (λ e. e.from ≡ 0) (StartsAt c.args.label) start c.args.rows.now c.loop-code.rows 0 c.loop-code.filled n) at.0 c.loop-code.invariant in
    let gone : c.from_residual.result ≡ None = grind arith in
    subst (λ r. Spread (λ e. e.from ≡ 0) (SomeOf (StartsAt c.args.label) start c.args.visits.end) c.args.rows.now c.enter.new.rows 0 r) (sym gone)
    (collected_short (λ e. e.from ≡ 0) (StartsAt c.args.label) start _ _ _ 0 _ _ c.args.visits.end (omega (arith, at.0)) at.1 so-far c.in_err-filled.ensures)

pub returns : goal.returns
returns c =
    collected_all (λ e. e.from ≡ 0) (StartsAt c.args.label) c.args.visits.start _ _ 0 _ _ c.args.visits.end c.requires.1
    (range_end c.args.visits.start c.args.visits.end (cc) c.loop-code.yielded _ c.loop-code.yielded_by _ c.next.new.self c.requires.1 c.in-None.is c.next.ensures.steps) c.loop-code.invariant
