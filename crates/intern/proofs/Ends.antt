-- Where walks end.
use Rattle.std.proofs.Common.{◌≡◌, ℕ, zero, suc, ◌+◌, ◌<◌, ◌≤◌, Bool, true, false, List, length, get_or, Some, None, Ok, Err, Option, sym, refl, ap, ◌∙◌, subst, arith}
use Rattle.std.proofs.lemmas.List.{get_or_default}
use Rattle.std.proofs.lemmas.Bool.{and_from, lt-ltb, both_ways, cond-true, le-leb}
use Rattle.intern.specs.declared.cell.Cell.{Cell}
use Rattle.intern.specs.declared.descent.End.TheVariants.{Here, Gap}
use Rattle.intern.specs.declared.EntryError.{EntryError}
use Rattle.intern.specs.Links.{leaf, child_of}
use Rattle.intern.specs.Walk.{Walked, walk, reached}
use Rattle.intern.proofs.Walks.{at_item, at_gap, along, astray, step, walk_here, walk_gap, walk_next, walk_off}

pub here_gap : (e : Walked) (k a : ℕ) (s : Bool) → e ≡ Ok (Here k) → e ≡ Ok (Gap a s) → ⊥
here_gap e k a s p q = let z : ◌≡◌ {A = ℕ} 0 1 = cc in omega arith

pub here_broken : (e : Walked) (k : ℕ) (why : EntryError) → e ≡ Ok (Here k) → e ≡ Err why → ⊥
here_broken e k why p q = let z : ◌≡◌ {A = ℕ} 0 1 = cc in omega arith

pub gap_broken : (e : Walked) (a : ℕ) (s : Bool) (why : EntryError) → e ≡ Ok (Gap a s) → e ≡ Err why → ⊥
gap_broken e a s why p q = let z : ◌≡◌ {A = ℕ} 0 1 = cc in omega arith

pub same_here : (e : Walked) (k l : ℕ) → e ≡ Ok (Here k) → e ≡ Ok (Here l) → k ≡ l
same_here e k l p q = cc

pub same_gap : (e : Walked) (a b : ℕ) (s t : Bool) → e ≡ Ok (Gap a s) → e ≡ Ok (Gap b t) → (a ≡ b) × (s ≡ t)
same_gap e a b s t p q = (cc, cc)

module _ {R : Type 0} (alike : R → R → Bool) (turns : R → ℕ → Bool) (cells : List (Cell R)) (n : ℕ) (r : R) where
  -- a walk that finds its record found it in a filled cell
  pub here_found : (f at d k : ℕ) → at < n → walk alike turns cells n r f at d ≡ Ok (Here k) → (k < n) × (alike (get_or cells k (leaf r)).item r ≡ true)
  here_found zero at d k lt e = absurd (here_broken _ k _ e refl)
  here_found (suc f) at d k lt e =
      elim (step alike turns cells n r f at d) [
        | at_item yes-item w ↦
            let same : at ≡ k = same_here _ at k w e in
            (omega arith, subst (λ (x : ℕ). alike (get_or cells x (leaf r)).item r ≡ true) same yes-item)
        | at_gap no_item none w ↦ absurd (here_gap _ k at (turns r d) e w)
        | along to no_item some up below w ↦ here_found f to (suc d) k below (sym w ∙ e)
        | astray to no_item some off w ↦ absurd (here_broken _ k _ e w)
      ]

  -- a gap is a missing link of a filled cell
  pub gap_found : (f at d a : ℕ) (s : Bool) → at < n → walk alike turns cells n r f at d ≡ Ok (Gap a s) → (a < n) × (child_of (get_or cells a (leaf r)) s ≡ None)
  gap_found zero at d a s lt e = absurd (gap_broken _ a s _ e refl)
  gap_found (suc f) at d a s lt e =
      elim (step alike turns cells n r f at d) [
        | at_item yes-item w ↦ absurd (here_gap _ at a s w e)
        | at_gap no_item none w ↦
            let same = same_gap _ at a (turns r d) s w e in (
              omega (arith, same.0),
              subst (λ (x : ℕ). child_of (get_or cells x (leaf r)) s ≡ None) same.0
                  (subst (λ (b : Bool). child_of (get_or cells at (leaf r)) b ≡ None) same.1 none),
            )
        | along to no_item some up below w ↦ gap_found f to (suc d) a s below (sym w ∙ e)
        | astray to no_item some off w ↦ absurd (gap_broken _ a s _ e w)
      ]

  -- where every link leads to a later filled cell, no walk breaks off
  pub never_broken : ((k to : ℕ) (side : Bool) (e : Cell R) → k < n → child_of (get_or cells k e) side ≡ Some to → (k < to) × (to < n))
      → (f at d : ℕ) (why : EntryError) → at < n → n ≤ at + f → walk alike turns cells n r f at d ≡ Err why → ⊥
  never_broken links zero at d why lt enough e = absurd (omega arith)
  never_broken links (suc f) at d why lt enough e =
      elim (step alike turns cells n r f at d) [
        | at_item yes-item w ↦ here_broken _ at _ w e
        | at_gap no_item none w ↦ gap_broken _ at (turns r d) _ w e
        | along to no_item some up below w ↦ never_broken links f to (suc d) why below (omega arith) (sym w ∙ e)
        | astray to no_item some off w ↦
            let p = links at to (turns r d) (leaf r) lt some in
            both_ways _ off (and_from _ _ (lt-ltb at to p.0) (lt-ltb to n p.1))
      ]

  module _ (x : R) (same-items : (y : R) → alike y x ≡ alike y r) (same_turns : (d : ℕ) → turns x d ≡ turns r d) (len : n ≤ length cells) where
    cell_is : (at : ℕ) → at < n → get_or cells at (leaf r) ≡ get_or cells at (leaf x)
    cell_is at lt = get_or_default cells at (leaf r) (leaf x) (omega arith)

    item_is : (at : ℕ) (b : Bool) → at < n → alike (get_or cells at (leaf r)).item r ≡ b → alike (get_or cells at (leaf x)).item x ≡ b
    item_is at b lt e = same-items _ ∙ ap (λ (c : Cell R). alike c.item r) (sym (cell_is at lt)) ∙ e

    child_is : (at d : ℕ) (o : Option ℕ) → at < n → child_of (get_or cells at (leaf r)) (turns r d) ≡ o → child_of (get_or cells at (leaf x)) (turns x d) ≡ o
    child_is at d o lt e = ap (child_of (get_or cells at (leaf x))) (same_turns d) ∙ ap (λ (c : Cell R). child_of c (turns r d)) (sym (cell_is at lt)) ∙ e

    -- equal records walk alike
    pub walk_alike : (f at d : ℕ) → at < n → walk alike turns cells n x f at d ≡ walk alike turns cells n r f at d
    walk_alike zero at d lt = refl
    walk_alike (suc f) at d lt =
        elim (step alike turns cells n r f at d) [
          | at_item yes-item w ↦ walk_here alike turns cells n x f at d (item_is at true lt yes-item) ∙ sym w
          | at_gap no_item none w ↦
              walk_gap alike turns cells n x f at d (item_is at false lt no_item) (child_is at d None lt none) ∙ ap (λ (s : Bool). Ok (Gap at s)) (same_turns d) ∙ sym w
          | along to no_item some up below w ↦
              walk_next alike turns cells n x f at d to (item_is at false lt no_item) (child_is at d (Some to) lt some) up below
              ∙ walk_alike f to (suc d) below ∙ sym w
          | astray to no_item some off w ↦ walk_off alike turns cells n x f at d to (item_is at false lt no_item) (child_is at d (Some to) lt some) off ∙ sym w
        ]

-- among n cells the walk is not cut off
pub reached_is : {R : Type 0} (alike : R → R → Bool) (turns : R → ℕ → Bool) (cells : List (Cell R)) (n : ℕ) (r : R)
    → n ≤ length cells → reached alike turns cells n r ≡ walk alike turns cells n r n 0 0
reached_is alike turns cells n r len = cond-true _ _ _ (le-leb n (length cells) len)
