-- What it is for cells to be indexed, cell by cell.
use Rattle.std.proofs.Common.{◌≡◌, ℕ, zero, suc, ◌+◌, ◌<◌, ◌≤◌, Bool, true, false, List, [], ◌∷◌, length, get_or, take, Some, None, Option, sym, refl, ap, ◌∙◌, subst, arith}
use Rattle.std.proofs.lemmas.List.{get_or-take, length-take-le}
use Rattle.std.proofs.lemmas.Bool.{and_parts, and_from, ltb-true, lt-ltb, leb-true, le-leb, eqb-true, eq-eqb, both_ways}
use Rattle.intern.specs.declared.cell.Cell.{Cell}
use Rattle.intern.specs.Links.{child_of}
use Rattle.intern.specs.Walk.{lookup}
use Rattle.intern.specs.Index.{leads_on, is_cell, cell_indexed, indexed_from, Indexed}

-- every link leads to a later cell among the first n, and the walk for an item comes to its cell
pub record Index {R : Type 0} (alike : R → R → Bool) (turns : R → ℕ → Bool) (cells : List (Cell R)) (n : ℕ) : Type 0 where
  pub within : n ≤ length cells
  pub links : (k to : ℕ) (side : Bool) (e : Cell R) → k < n → child_of (get_or cells k e) side ≡ Some to → (k < to) × (to < n)
  pub placed : (k : ℕ) (e : Cell R) → k < n → lookup alike turns cells n (get_or cells k e).item ≡ Some k

leads : (n k to : ℕ) (o : Option ℕ) → leads_on n k o ≡ true → o ≡ Some to → (k < to) × (to < n)
leads n k to o on is =
    let both = and_parts _ _ (ap (leads_on n k) (sym is) ∙ on) in
    (ltb-true k to both.0, ltb-true to n both.1)

leads_from : (n k : ℕ) (o : Option ℕ) → ((to : ℕ) → o ≡ Some to → (k < to) × (to < n)) → leads_on n k o ≡ true
leads_from n k (Some to) h = let p = h to refl in and_from _ _ (lt-ltb k to p.0) (lt-ltb to n p.1)
leads_from n k None h = refl

is_cell_some : (k : ℕ) (o : Option ℕ) → is_cell k o ≡ true → o ≡ Some k
is_cell_some k (Some j) e = ap (λ (x : ℕ). Some x) (eqb-true j k e)
is_cell_some k None e = absurd (both_ways false refl e)

module _ {R : Type 0} (alike : R → R → Bool) (turns : R → ℕ → Bool) (cells : List (Cell R)) (n : ℕ) where
  each : (k : ℕ) (cs : List (Cell R)) → indexed_from alike turns cells n k cs ≡ true
      → (j : ℕ) (e : Cell R) → j < length cs → cell_indexed alike turns cells n (k + j) (get_or cs j e) ≡ true
  unfolding indexed_from
  each k [] h j e lt = absurd (omega arith)
  each k (c ∷ cs) h zero e lt =
      subst (λ (x : ℕ). cell_indexed alike turns cells n x c ≡ true) (let z : k ≡ k + 0 = omega arith in z) (and_parts _ _ h).0
  each k (c ∷ cs) h (suc j) e lt =
      subst (λ (x : ℕ). cell_indexed alike turns cells n x (get_or cs j e) ≡ true) (let z : suc k + j ≡ k + suc j = omega arith in z)
      (each (suc k) cs (and_parts _ _ h).1 j e (omega arith))

  from_each : (k : ℕ) (cs : List (Cell R)) → ((j : ℕ) (e : Cell R) → j < length cs → cell_indexed alike turns cells n (k + j) (get_or cs j e) ≡ true)
      → indexed_from alike turns cells n k cs ≡ true
  unfolding indexed_from
  from_each k [] h = refl
  from_each k (c ∷ cs) h =
      and_from _ _
      (subst (λ (x : ℕ). cell_indexed alike turns cells n x c ≡ true) (let z : k + 0 ≡ k = omega arith in z) (h 0 c (omega arith)))
      (from_each (suc k) cs (λ j e lt.
      subst (λ (x : ℕ). cell_indexed alike turns cells n x (get_or cs j e) ≡ true) (let z : k + suc j ≡ suc k + j = omega arith in z) (h (suc j) e (omega arith))))

  own : (k : ℕ) (c : Cell R) → cell_indexed alike turns cells n k c ≡ true → lookup alike turns cells n c.item ≡ Some k
  own k c h =
      is_cell_some k (lookup alike turns cells n c.item)
      (and_parts (leads_on n k c.right) _ (and_parts (leads_on n k c.left) _ h).1).1

  both : (k to : ℕ) (side : Bool) (c : Cell R) → cell_indexed alike turns cells n k c ≡ true → child_of c side ≡ Some to → (k < to) × (to < n)
  both k to true c h e = leads n k to c.right (and_parts (leads_on n k c.right) _ (and_parts (leads_on n k c.left) _ h).1).0 e
  both k to false c h e = leads n k to c.left (and_parts (leads_on n k c.left) _ h).0 e

  pub to_index : Indexed alike turns cells n → Index alike turns cells n
  to_index h =
      let len : n ≤ length cells = leb-true n (length cells) (and_parts _ _ h).0 in
      let at : (k : ℕ) (e : Cell R) → k < n → cell_indexed alike turns cells n k (get_or cells k e) ≡ true =
      λ k e lt.
      subst (λ (c : Cell R). cell_indexed alike turns cells n k c ≡ true) (get_or-take n cells k e lt)
      (subst (λ (x : ℕ). cell_indexed alike turns cells n x (get_or (take n cells) k e) ≡ true) (let z : 0 + k ≡ k = omega arith in z)
      (each 0 (take n cells) (and_parts _ _ h).1 k e (omega (arith, length-take-le n cells len)))) in
      record {
        within = len;
        links = λ k to side e lt c. both k to side (get_or cells k e) (at k e lt) c;
        placed = λ k e lt. own k (get_or cells k e) (at k e lt);
      }

  pub from_index : Index alike turns cells n → Indexed alike turns cells n
  from_index ix =
      and_from _ _ (le-leb n (length cells) ix.within)
      (from_each 0 (take n cells) (λ j e lt.
      let below : j < n = omega (arith, length-take-le n cells ix.within) in
      let test : cell_indexed alike turns cells n j (get_or cells j e) ≡ true =
      and_from _ _ (leads_from n j _ (λ to c. ix.links j to false e below c))
      (and_from _ _ (leads_from n j _ (λ to c. ix.links j to true e below c))
      (ap (is_cell j) (ix.placed j e below) ∙ eq-eqb j j refl)) in
      subst (λ (c : Cell R). cell_indexed alike turns cells n (0 + j) c ≡ true) (sym (get_or-take n cells j e below))
      (subst (λ (x : ℕ). cell_indexed alike turns cells n x (get_or cells j e) ≡ true) (let z : j ≡ 0 + j = omega arith in z) test)))

-- no cells are indexed
pub indexed_none : {R : Type 0} (alike : R → R → Bool) (turns : R → ℕ → Bool) (cells : List (Cell R)) → Indexed alike turns cells 0
unfolding indexed_from
indexed_none alike turns cells = and_from _ _ (le-leb 0 (length cells) (omega arith)) refl
