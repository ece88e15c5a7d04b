-- A turn of the loop is a step of the walk.
use Rattle.std.proofs.Common.{◌≡◌, ℕ, suc, ◌+◌, ◌-◌, ◌<◌, ◌≤◌, Bool, true, false, List, length, get_or, Some, None, Ok, Err, Option, sym, ap, ◌∙◌, subst, add-one, arith}
use Rattle.std.proofs.lemmas.List.{get_or_read}
use Rattle.std.proofs.lemmas.Bool.{cond-true, le-leb}
use Rattle.intern.specs.declared.cell.Cell.{Cell}
use Rattle.intern.specs.declared.descent.End.TheVariants.{Here, Gap}
use Rattle.intern.specs.declared.EntryError.TheVariants.{Broken}
use Rattle.intern.specs.Links.{leaf, child_of}
use Rattle.intern.specs.Walk.{Walked, walk, reached}
use Rattle.intern.proofs.Walks.{walk_here, walk_gap, walk_next, walk_low, walk_high}

module _ {R : Type 0} (alike : R → R → Bool) (turns : R → ℕ → Bool) (cells : List (Cell R)) (n : ℕ) (r : R) where
  pub starts : n ≤ length cells → walk alike turns cells n r (n - 0) 0 0 ≡ reached alike turns cells n r
  starts len =
      ap (λ (f : ℕ). walk alike turns cells n r f 0 0) (let e : n - 0 ≡ n = omega arith in e)
      ∙ sym (cond-true _ _ _ (le-leb n (length cells) len))

  pub runs_out : (at d : ℕ) (end : Walked) → n ≤ d → walk alike turns cells n r (n - d) at d ≡ end → Err Broken ≡ end
  runs_out at d end past from =
      subst (λ (f : ℕ). walk alike turns cells n r f at d ≡ end) (let e : n - d ≡ 0 = omega arith in e) from

module _ {R : Type 0} (alike : R → R → Bool) (turns : R → ℕ → Bool) (cells : List (Cell R)) (n : ℕ) (r : R)
    (at d : ℕ) (here : Cell R) (end : Walked)
    (more : d < n) (below : at < n) (len : n ≤ length cells)
    (from : walk alike turns cells n r (n - d) at d ≡ end)
    (is : here ≡ get_or cells at here) where
  read : here ≡ get_or cells at (leaf r)
  read = get_or_read cells at here (omega arith) is (leaf r)

  step : walk alike turns cells n r (suc (n - (d + 1))) at d ≡ end
  step = subst (λ (f : ℕ). walk alike turns cells n r f at d ≡ end) (let e : n - d ≡ suc (n - (d + 1)) = omega arith in e) from

  item_is : (b : Bool) → b ≡ alike here.item r → alike (get_or cells at (leaf r)).item r ≡ b
  item_is b e = ap (λ (c : Cell R). alike c.item r) (sym read) ∙ sym e

  child_is : (side : Bool) (o : Option ℕ) → side ≡ turns r d → o ≡ child_of here side → child_of (get_or cells at (leaf r)) (turns r d) ≡ o
  child_is side o s e = ap (λ (c : Cell R). child_of c (turns r d)) (sym read) ∙ ap (child_of here) (sym s) ∙ sym e

  pub ends_here : (b : Bool) → b ≡ alike here.item r → b ≡ true → Ok (Here at) ≡ end
  ends_here b e t = sym (walk_here alike turns cells n r (n - (d + 1)) at d (item_is b e ∙ t)) ∙ step

  module _ (b side : Bool) (o : Option ℕ) (e : b ≡ alike here.item r) (f : b ≡ false) (s : side ≡ turns r d) (c : o ≡ child_of here side) where
    pub ends_gap : o ≡ None → Ok (Gap at side) ≡ end
    ends_gap none = ap (λ (s : Bool). Ok (Gap at s)) s ∙ sym (walk_gap alike turns cells n r (n - (d + 1)) at d (item_is b e ∙ f) (child_is side o s c ∙ none)) ∙ step

    pub ends_low : (to : ℕ) → o ≡ Some to → to ≤ at → Err Broken ≡ end
    ends_low to some low = sym (walk_low alike turns cells n r (n - (d + 1)) at d to (item_is b e ∙ f) (child_is side o s c ∙ some) low) ∙ step

    pub ends_high : (to : ℕ) → o ≡ Some to → n ≤ to → Err Broken ≡ end
    ends_high to some high = sym (walk_high alike turns cells n r (n - (d + 1)) at d to (item_is b e ∙ f) (child_is side o s c ∙ some) high) ∙ step

    pub goes_on : (to : ℕ) → o ≡ Some to → at < to → to < n → walk alike turns cells n r (n - (d + 1)) to (d + 1) ≡ end
    goes_on to some up lt =
        subst (λ (x : ℕ). walk alike turns cells n r (n - (d + 1)) to x ≡ end) (sym (add-one d))
        (sym (walk_next alike turns cells n r (n - (d + 1)) at d to (item_is b e ∙ f) (child_is side o s c ∙ some) up lt) ∙ step)
