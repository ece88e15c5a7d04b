-- Indexed cells stay indexed when a record is added where its walk ended.
use Rattle.std.proofs.Common.{◌≡◌, ℕ, zero, suc, ◌+◌, ◌<◌, ◌≤◌, Bool, true, false, ◌≢◌, ◌⊎◌, List, ◌∷◌, length, get_or, set, Some, None, Ok, sym, refl, ap, ◌∙◌, subst, inl, inr, ⊎_elim, add-one, arith}
use Rattle.std.proofs.lemmas.List.{length-set, get_or-set_same, get_or-set_other, get_or_default}
use Rattle.std.proofs.lemmas.Bool.{cases_eq}
use Rattle.intern.specs.declared.cell.Cell.{Cell}
use Rattle.intern.specs.declared.descent.End.TheVariants.{Here, Gap}
use Rattle.intern.specs.Entry.{hung}
use Rattle.intern.specs.Index.{Indexed}
use Rattle.intern.specs.Links.{leaf, child_of, linked}
use Rattle.intern.specs.Walk.{walk, walked_to, lookup}
use Rattle.intern.proofs.Ends.{here_gap, here_broken, gap_broken, same_gap, gap_found, reached_is}
use Rattle.intern.proofs.Index.{Index, from_index}
use Rattle.intern.proofs.Indexes.{some_none, found_here, started}
use Rattle.intern.proofs.Walks.{at_item, at_gap, along, astray, step, walk_here, walk_next}

child_linked : {R : Type 0} (h : Cell R) (s u : Bool) (n a : ℕ) → child_of (linked h s n) u ≡ Some a → (a ≡ n) ⊎ (child_of h u ≡ Some a)
child_linked h true true n a e = inl (cc)
child_linked h true false n a e = inr e
child_linked h false true n a e = inr e
child_linked h false false n a e = inl (cc)

linked_keeps : {R : Type 0} (h : Cell R) (s u : Bool) (n a : ℕ) → child_of h s ≡ None → child_of h u ≡ Some a → child_of (linked h s n) u ≡ Some a
linked_keeps h true true n a z e = absurd (some_none _ _ e z)
linked_keeps h true false n a z e = e
linked_keeps h false true n a z e = e
linked_keeps h false false n a z e = absurd (some_none _ _ e z)

linked_has : {R : Type 0} (h : Cell R) (s : Bool) (n : ℕ) → child_of (linked h s n) s ≡ Some n
linked_has h true n = refl
linked_has h false n = refl

pub linked_item : {R : Type 0} (h : Cell R) (s : Bool) (n : ℕ) → (linked h s n).item ≡ h.item
linked_item h true n = refl
linked_item h false n = refl

leaf_none : {R : Type 0} (r : R) (s : Bool) (a : ℕ) → child_of (leaf r) s ≡ Some a → ⊥
leaf_none r true a e = some_none _ _ e refl
leaf_none r false a e = some_none _ _ e refl

-- cells that keep the items and the links of the first n of others
module _ {R : Type 0} (alike : R → R → Bool) (turns : R → ℕ → Bool) (cells ds : List (Cell R)) (n : ℕ)
    (same_item : (j : ℕ) (e : Cell R) → j < n → (get_or ds j e).item ≡ (get_or cells j e).item)
    (kept : (j to : ℕ) (s : Bool) (e : Cell R) → j < n → child_of (get_or cells j e) s ≡ Some to → child_of (get_or ds j e) s ≡ Some to) where
  item_is : (x : R) (at : ℕ) (b : Bool) → at < n → alike (get_or cells at (leaf x)).item x ≡ b → alike (get_or ds at (leaf x)).item x ≡ b
  item_is x at b lt e = ap (λ (y : R). alike y x) (same_item at (leaf x) lt) ∙ e

  pub walk_kept : (x : R) (f at d k : ℕ) → at < n → walk alike turns cells n x f at d ≡ Ok (Here k) → walk alike turns ds (suc n) x (suc f) at d ≡ Ok (Here k)
  walk_kept x zero at d k lt e = absurd (here_broken _ k _ e refl)
  walk_kept x (suc f) at d k lt e =
      elim (step alike turns cells n x f at d) [
        | at_item yes-item w ↦ walk_here alike turns ds (suc n) x (suc f) at d (item_is x at true lt yes-item) ∙ sym w ∙ e
        | at_gap no_item none w ↦ absurd (here_gap _ k at (turns x d) e w)
        | along to no_item some up below w ↦
            walk_next alike turns ds (suc n) x (suc f) at d to (item_is x at false lt no_item) (kept at to (turns x d) (leaf x) lt some) up (omega arith)
            ∙ walk_kept x f to (suc d) k below (sym w ∙ e)
        | astray to no_item some off w ↦ absurd (here_broken _ k _ e w)
      ]

  module _ (r : R) (a : ℕ) (s : Bool) (own : alike r r ≡ true) (joined : child_of (get_or ds a (leaf r)) s ≡ Some n) (new : (get_or ds n (leaf r)).item ≡ r) where
    pub walk_grown : (f at d : ℕ) → at < n → walk alike turns cells n r f at d ≡ Ok (Gap a s) → walk alike turns ds (suc n) r (suc f) at d ≡ Ok (Here n)
    walk_grown zero at d lt e = absurd (gap_broken _ a s _ e refl)
    walk_grown (suc f) at d lt e =
        elim (step alike turns cells n r f at d) [
          | at_item yes-item w ↦ absurd (here_gap _ at a s w e)
          | at_gap no_item none w ↦
              let same = same_gap _ at a (turns r d) s w e in
              let some : child_of (get_or ds at (leaf r)) (turns r d) ≡ Some n =
              ap (λ (x : ℕ). child_of (get_or ds x (leaf r)) (turns r d)) same.0 ∙ ap (child_of (get_or ds a (leaf r))) same.1 ∙ joined in
              walk_next alike turns ds (suc n) r (suc f) at d n (item_is r at false lt no_item) some lt (omega arith)
              ∙ walk_here alike turns ds (suc n) r f n (suc d) (ap (λ (x : R). alike x r) new ∙ own)
          | along to no_item some up below w ↦
              walk_next alike turns ds (suc n) r (suc f) at d to (item_is r at false lt no_item) (kept at to (turns r d) (leaf r) lt some) up (omega arith)
              ∙ walk_grown f to (suc d) below (sym w ∙ e)
          | astray to no_item some off w ↦ absurd (gap_broken _ a s _ e w)
        ]

lookup_from : {R : Type 0} (alike : R → R → Bool) (turns : R → ℕ → Bool) (ds : List (Cell R)) (n : ℕ) (x : R) (k : ℕ)
    → n + 1 ≤ length ds → walk alike turns ds (suc n) x (suc n) 0 0 ≡ Ok (Here k) → lookup alike turns ds (n + 1) x ≡ Some k
lookup_from alike turns ds n x k len w =
    ap walked_to (reached_is alike turns ds (n + 1) x len ∙ subst (λ (m : ℕ). walk alike turns ds m x m 0 0 ≡ Ok (Here k)) (sym (add-one n)) w)

module _ {R : Type 0} (alike : R → R → Bool) (turns : R → ℕ → Bool) (own : (x : R) → alike x x ≡ true) (cells : List (Cell R)) (n : ℕ) (r : R) where
  module _ (a : ℕ) (s : Bool) (ix : Index alike turns cells n) (w : walk alike turns cells n r n 0 0 ≡ Ok (Gap a s)) (space : n < length cells) where
    abbrev ds : List (Cell R)
    ds = hung cells n r a s

    filled : 0 < n
    filled = started alike turns cells n r n 0 0 (gap_broken _ a s _ w)

    gap : (a < n) × (child_of (get_or cells a (leaf r)) s ≡ None)
    gap = gap_found alike turns cells n r n 0 0 a s filled w

    length_ds : length ds ≡ length cells
    length_ds = length-set (set cells n (leaf r)) a _ ∙ length-set cells n (leaf r)

    -- the cell that was linked, at any default
    linked_cell : (e : Cell R) → get_or ds a e ≡ linked (get_or cells a e) s n
    linked_cell e =
        let lt : a < length (set cells n (leaf r)) = omega (arith, gap.0, length-set cells n (leaf r)) in
        get_or-set_same (set cells n (leaf r)) a _ e lt ∙ ap (λ (c : Cell R). linked c s n) (get_or_default cells a (leaf r) e (omega (arith, gap.0)))

    new_cell : (e : Cell R) → get_or ds n e ≡ leaf r
    new_cell e =
        let ne : n ≢ a = omega (arith, gap.0) in
        get_or-set_other (set cells n (leaf r)) a n _ e ne ∙ get_or-set_same cells n (leaf r) e space

    other_cell : (j : ℕ) (e : Cell R) → j < n → (j ≡ a → ⊥) → get_or ds j e ≡ get_or cells j e
    other_cell j e lt na =
        let ne : j ≢ n = omega (arith, lt) in
        get_or-set_other (set cells n (leaf r)) a j _ e na ∙ get_or-set_other cells n j (leaf r) e ne

    -- a cell is as it was, or it is the one that was linked
    cell_ways : (j : ℕ) (e : Cell R) → j < n → (get_or ds j e ≡ get_or cells j e) ⊎ ((j ≡ a) × (get_or ds j e ≡ linked (get_or cells j e) s n))
    cell_ways j e lt =
        ⊎_elim
        (λ (eq : j ≡ a). inr (eq, subst (λ (x : ℕ). get_or ds x e ≡ linked (get_or cells x e) s n) (sym eq) (linked_cell e)))
        (λ (ne : j ≡ a → ⊥). inl (other_cell j e lt ne))
        (cases_eq j a)

    pub same_item : (j : ℕ) (e : Cell R) → j < n → (get_or ds j e).item ≡ (get_or cells j e).item
    same_item j e lt =
        ⊎_elim
        (λ is. ap (λ (c : Cell R). c.item) is)
        (λ p. ap (λ (c : Cell R). c.item) p.1 ∙ linked_item (get_or cells j e) s n)
        (cell_ways j e lt)

    kept : (j to : ℕ) (u : Bool) (e : Cell R) → j < n → child_of (get_or cells j e) u ≡ Some to → child_of (get_or ds j e) u ≡ Some to
    kept j to u e lt c =
        ⊎_elim
        (λ is. ap (λ (x : Cell R). child_of x u) is ∙ c)
        (λ p.
        let none : child_of (get_or cells j e) s ≡ None =
        ap (λ (x : ℕ). child_of (get_or cells x e) s) p.0 ∙ ap (λ (x : Cell R). child_of x s) (get_or_default cells a e (leaf r) (omega (arith, gap.0))) ∙ gap.1 in
        ap (λ (x : Cell R). child_of x u) p.1 ∙ linked_keeps (get_or cells j e) s u n to none c)
        (cell_ways j e lt)

    links : (k to : ℕ) (u : Bool) (e : Cell R) → k < n → child_of (get_or ds k e) u ≡ Some to → (k < to) × (to < n + 1)
    links k to u e lt c =
        let old : child_of (get_or cells k e) u ≡ Some to → (k < to) × (to < n + 1) =
        λ c'. let p = ix.links k to u e lt c' in (p.0, omega (arith, p.1)) in
        ⊎_elim
        (λ is. old (sym (ap (λ (x : Cell R). child_of x u) is) ∙ c))
        (λ p.
        ⊎_elim
        (λ (eq : to ≡ n). (omega arith, omega arith))
        old
        (child_linked (get_or cells k e) s u n to (sym (ap (λ (x : Cell R). child_of x u) p.1) ∙ c)))
        (cell_ways k e lt)

    fits : n + 1 ≤ length ds
    fits = omega (arith, length_ds)

    placed_old : (k : ℕ) (e : Cell R) → k < n → lookup alike turns ds (n + 1) (get_or ds k e).item ≡ Some k
    placed_old k e lt =
        let x : R = (get_or cells k e).item in
        let here : walk alike turns cells n x n 0 0 ≡ Ok (Here k) =
        sym (reached_is alike turns cells n x ix.within) ∙ found_here _ k (ix.placed k e lt) in
        ap (lookup alike turns ds (n + 1)) (same_item k e lt)
        ∙ lookup_from alike turns ds n x k fits (walk_kept alike turns cells ds n same_item kept x n 0 0 k filled here)

    placed_new : lookup alike turns ds (n + 1) r ≡ Some n
    placed_new =
        let joined : child_of (get_or ds a (leaf r)) s ≡ Some n =
        ap (λ (x : Cell R). child_of x s) (linked_cell (leaf r)) ∙ linked_has (get_or cells a (leaf r)) s n in
        lookup_from alike turns ds n r n fits
        (walk_grown alike turns cells ds n same_item kept r a s (own r) joined (ap (λ (c : Cell R). c.item) (new_cell (leaf r))) n 0 0 filled w)

    pub indexed_hung : Index alike turns (hung cells n r a s) (n + 1)
    indexed_hung =
        record {
          within = fits;
          links = λ k to u e lt c.
              ⊎_elim
              (λ (eq : k ≡ n).
              absurd (leaf_none r u to (sym (ap (λ (x : ℕ). child_of (get_or ds x e) u) eq ∙ ap (λ (x : Cell R). child_of x u) (new_cell e)) ∙ c)))
              (λ (ne : k ≡ n → ⊥). links k to u e (omega arith) c)
              (cases_eq k n);
          placed = λ k e lt.
              ⊎_elim
              (λ (eq : k ≡ n).
              ap (λ (x : ℕ). lookup alike turns ds (n + 1) (get_or ds x e).item) eq
              ∙ ap (λ (c : Cell R). lookup alike turns ds (n + 1) c.item) (new_cell e) ∙ placed_new ∙ ap (λ (x : ℕ). Some x) (sym eq))
              (λ (ne : k ≡ n → ⊥). placed_old k e (omega arith))
              (cases_eq k n);
        }

  -- the first record of all
  pub indexed_first : n ≡ 0 → n < length cells → Index alike turns (set cells n (leaf r)) (n + 1)
  indexed_first z space =
      let ds : List (Cell R) = set cells n (leaf r) in
      let new : (e : Cell R) → get_or ds n e ≡ leaf r = λ e. get_or-set_same cells n (leaf r) e space in
      let fits : n + 1 ≤ length ds = omega (arith, length-set cells n (leaf r)) in
      let at_zero : (e : Cell R) → get_or ds 0 e ≡ leaf r = λ e. ap (λ (x : ℕ). get_or ds x e) (sym z) ∙ new e in
      record {
        within = fits;
        links = λ k to u e lt c.
            let k0 : k ≡ 0 = omega arith in
            absurd (leaf_none r u to (sym (ap (λ (x : ℕ). child_of (get_or ds x e) u) k0 ∙ ap (λ (x : Cell R). child_of x u) (at_zero e)) ∙ c));
        placed = λ k e lt.
            let k0 : k ≡ 0 = omega arith in
            ap (λ (x : ℕ). lookup alike turns ds (n + 1) (get_or ds x e).item) k0
            ∙ ap (λ (c : Cell R). lookup alike turns ds (n + 1) c.item) (at_zero e)
            ∙ lookup_from alike turns ds n r 0 fits (walk_here alike turns ds (suc n) r n 0 0 (ap (λ (c : Cell R). alike c.item r) (at_zero (leaf r)) ∙ own r))
            ∙ ap (λ (x : ℕ). Some x) (sym k0);
      }

-- one record in the first cell is indexed
pub indexed_one : {R : Type 0} (alike : R → R → Bool) (turns : R → ℕ → Bool) → ((x : R) → alike x x ≡ true)
    → (r : R) (rest : List (Cell R)) → Indexed alike turns (leaf r ∷ rest) 1
indexed_one alike turns own r rest = from_index alike turns (leaf r ∷ rest) 1 (indexed_first alike turns own (leaf r ∷ rest) 0 r refl (omega arith))
