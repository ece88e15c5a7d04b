-- The table of states that are done.
use Rattle.std.proofs.Common.{◌≡◌, ℕ, ◌<◌, List, length, get_or, set, replicate, Some, None, Option, ap, ◌∙◌, subst, inl, inr, arith}
use mathlib.Core.Path.{subst⁻¹}
use native.Mathlib.Decide.{ℕ_discrete}
use Rattle.std.proofs.lemmas.List.{length-set, get_or-set_same, get_or-set_other, get_or-replicate, length-replicate}
use Rattle.ltlf.specs.Contents.{Contents}
use Rattle.intern.specs.declared.cell.Cell.{Cell}
use Rattle.tableau.specs.Labels.{Label}
use Rattle.tableau.specs.Positions.{In}
use Rattle.viability.specs.Moments.{Moment}
use Rattle.successors.specs.declared.label.NextLabel.{NextLabel}
use Rattle.successors.specs.declared.table.State.{State}
use Rattle.successors.specs.Cells.{labels, Filled}
use Rattle.successors.specs.Handing.{Hands}
use Rattle.successors.specs.Tables.{Stands, Puts, Done, Kept, Keeps}

module _ (w : Moment) (b : Contents) where
  -- a state that stands in the table is done
  pub kept_stands : (ts : List (Option State)) (cells : List (Cell NextLabel)) (n : ℕ) (s : State) → Kept w b ts cells n → Stands ts s
      → (q : Label) → Hands w b s.members s.next q → In q (labels cells n)
  kept_stands ts cells n s kp (j, lt, is) q h = subst (Done w b cells n) (is None) (kp j None lt) q h

  -- labels are added
  pub kept_more : (P : Label → Type 0) (ts : List (Option State)) (xs ys : List (Cell NextLabel)) (n : ℕ) (r : Option ℕ)
      → Filled P xs ys n r → Kept w b ts xs n → Keeps w b ts ys r
  kept_more P ts xs ys n (Some m) (g, all) kp = λ j d lt. done_more (get_or ts j d) (kp j d lt)
    where
      done_more : (o : Option State) → Done w b xs n o → Done w b ys m o
      done_more None d = tt
      done_more (Some s) d = λ q h. g.kept q (d q h)
  kept_more P ts xs ys n None f kp = tt

  -- a state is put into it
  kept_put : (ts us : List (Option State)) (cells : List (Cell NextLabel)) (n : ℕ) (s : State) → Puts ts us s
      → ((q : Label) → Hands w b s.members s.next q → In q (labels cells n)) → Kept w b ts cells n → Kept w b us cells n
  kept_put ts us cells n s (inl e) all kp = subst⁻¹ (λ (l : List (Option State)). Kept w b l cells n) e kp
  kept_put ts us cells n s (inr (p, e)) all kp =
      subst⁻¹ (λ (l : List (Option State)). Kept w b l cells n) e (λ j d lt.
      let len : length (set ts p (Some s)) ≡ length ts = length-set ts p (Some s) in
      elim (ℕ_discrete j p) [
        | yes z ↦
            (let lt' : p < length ts = omega arith in
            let here : get_or (set ts p (Some s)) j d ≡ Some s =
            ap (λ (x : ℕ). get_or (set ts p (Some s)) x d) z ∙ get_or-set_same ts p (Some s) d lt' in
            subst⁻¹ (Done w b cells n) here all)
        | no ne ↦ subst⁻¹ (Done w b cells n) (get_or-set_other ts p j (Some s) d ne) (kp j d (omega arith))
      ])

  -- a state whose labels have all been entered is put into it
  pub kept_filled : (ts us : List (Option State)) (xs ys : List (Cell NextLabel)) (n m : ℕ) (s : State) → Puts ts us s
      → Filled (Hands w b s.members s.next) xs ys n (Some m) → Kept w b ts ys m → Kept w b us ys m
  kept_filled ts us xs ys n m s put f kp = kept_put ts us ys m s put f.1 kp

  -- no state is in it yet
  pub kept_fresh : (m : ℕ) (cells : List (Cell NextLabel)) (n : ℕ) → Kept w b (replicate m None) cells n
  kept_fresh m cells n j d lt =
      let none : Option State = None in
      let len = length-replicate m none in
      subst⁻¹ (Done w b cells n) (get_or-replicate m j none d (omega arith)) tt
