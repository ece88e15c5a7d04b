-- Reached positions, layer by layer.
use Rattle.std.proofs.Common.{◌≡◌, ℕ, zero, suc, ◌≤◌, true, arith}
use Rattle.tableau.specs.Positions.{Position, Question, Starts, Step, Path, stay, go, Reached}
use Rattle.tableau.specs.Theorems.{ClosedHoldsAll, ReachedByStep, LayerByLayer, CountedIfEnds, CountedIfNone}

closed_path : (q : Question) (P : Position → Type 0) → ((s s' : Position) → P s → Step q s s' → P s')
    → {n : ℕ} {s e : Position} → Path q n s e → P s → P e
closed_path q P step stay h = h
closed_path q P step (go {s = s} {s' = s'} st w) h = closed_path q P step w (step s s' h st)

pub closed_reached : (q : Question) (P : Position → Type 0) → ((s : Position) → Starts q s → P s) → ((s s' : Position) → P s → Step q s s' → P s')
    → (n : ℕ) (e : Position) → Reached q n e → P e
closed_reached q P start step n e r = closed_path q P step r.2 (start r.0 r.1)

pub closed_holds : ClosedHoldsAll
closed_holds q p = closed_reached q (λ s. p s ≡ true)

snoc : (q : Question) {n : ℕ} {s e e' : Position} → Path q n s e → Step q e e' → Path q (suc n) s e'
snoc q stay st = go st stay
snoc q (go h w) st = go h (snoc q w st)

unsnoc : (q : Question) (n : ℕ) {s e : Position} → Path q (suc n) s e → (m : Position) × Path q n s m × Step q m e
unsnoc q zero {s = s} (go h stay) = (s, stay, h)
unsnoc q (suc n) (go h w) = let r = unsnoc q n w in (r.0, go h r.1, r.2)

pub reached_by_step : ReachedByStep
reached_by_step q n e = (
  (λ r. let u = unsnoc q n r.2 in (u.0, (r.0, r.1, u.1), u.2)),
  (λ r. (r.1.0, r.1.1, snoc q r.1.2 r.2)),
)

pub layer_by_layer : LayerByLayer
layer_by_layer q n e d =
    let r = (reached_by_step q n e).0 d.0 in
    (r.0, (r.1, λ m x. omega (arith, d.1 (suc m) ((reached_by_step q m e).1 (r.0, x, r.2)))), r.2)

pub counted_if_ends : CountedIfEnds
counted_if_ends q d le e = (
  (λ c. (c.0, c.1, c.2 d le)),
  (λ c. (c.0, c.1, λ d' le'. let h : d ≤ d' = le.1 le'.0.0 d' le'.0.1 le'.0.2 in omega (arith, c.2))),
)

pub counted_if_none : CountedIfNone
counted_if_none q none e = (
  (λ c. (c.0, c.1)),
  (λ c. (c.0, c.1, λ d le. absurd (none le.0.0 d le.0.2.0 le.0.1))),
)
