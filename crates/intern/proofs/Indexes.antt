-- What a walk over indexed cells finds.
use Rattle.std.proofs.Common.{◌≡◌, ℕ, zero, suc, ◌<◌, ◌≤◌, Bool, true, false, List, length, get_or, Some, None, Ok, Err, Option, sym, refl, ap, ◌∙◌, ap₂, ⊎_elim, arith}
use Rattle.std.proofs.lemmas.Bool.{cases_lt, cond-false, lt-leb}
use Rattle.intern.specs.declared.cell.Cell.{Cell}
use Rattle.intern.specs.declared.descent.End.TheVariants.{Here, Gap}
use Rattle.intern.specs.declared.EntryError.{EntryError}
use Rattle.intern.specs.declared.EntryError.TheVariants.{Broken}
use Rattle.intern.specs.Links.{leaf}
use Rattle.intern.specs.Walk.{Walked, walk, reached, walked_to, lookup}
use Rattle.intern.specs.Index.{items, place}
use Rattle.intern.proofs.Index.{Index}
use Rattle.intern.proofs.Ends.{here_broken, gap_broken, here_found, gap_found, never_broken, walk_alike, reached_is}
use Rattle.intern.proofs.Places.{place_at, place_none, length_items, items_at}

pub some_none : {X : Type 0} (o : Option X) (x : X) → o ≡ Some x → o ≡ None → ⊥
some_none o x p q = let z : ◌≡◌ {A = ℕ} 0 1 = cc in omega arith

same_some : {X : Type 0} (o : Option X) (x y : X) → o ≡ Some x → o ≡ Some y → x ≡ y
same_some o x y p q = cc

same_tests : (b c : Bool) → (b ≡ true → c ≡ true) → (c ≡ true → b ≡ true) → b ≡ c
same_tests true c to from = sym (to refl)
same_tests false true to from = from refl
same_tests false false to from = refl

pub false_from : (b : Bool) → (b ≡ true → ⊥) → b ≡ false
false_from true no_way = absurd (no_way refl)
false_from false no_way = refl

pub found_here : (e : Walked) (k : ℕ) → walked_to e ≡ Some k → e ≡ Ok (Here k)
found_here (Ok (Here j)) k e = ap (λ (x : ℕ). Ok (Here x)) (same_some _ j k refl e)
found_here (Ok (Gap at side)) k e = absurd (some_none _ k e refl)
found_here (Err b) k e = absurd (some_none _ k e refl)

-- with no fuel a walk breaks off
pub started : {R : Type 0} (alike : R → R → Bool) (turns : R → ℕ → Bool) (cells : List (Cell R)) (n : ℕ) (r : R) (f at d : ℕ)
    → (walk alike turns cells n r f at d ≡ Err Broken → ⊥) → 0 < f
started alike turns cells n r zero at d h = absurd (h refl)
started alike turns cells n r (suc f) at d h = omega arith

module _ {R : Type 0} (alike : R → R → Bool) (turns : R → ℕ → Bool)
    (symmetric : (x y : R) → alike x y ≡ true → alike y x ≡ true)
    (transitive : (x y z : R) → alike x y ≡ true → alike y z ≡ true → alike x z ≡ true)
    (agree : (x y : R) → alike x y ≡ true → (d : ℕ) → turns x d ≡ turns y d)
    (cells : List (Cell R)) (n : ℕ) where
  -- equal records are found in the same cell
  pub lookup_alike : (x r : R) → n ≤ length cells → alike x r ≡ true → lookup alike turns cells n x ≡ lookup alike turns cells n r
  lookup_alike x r len same =
      let same-items : (y : R) → alike y x ≡ alike y r =
      λ y. same_tests _ _ (λ e. transitive y x r e same) (λ e. transitive y r x e (symmetric x r same)) in
      let walks : walk alike turns cells n x n 0 0 ≡ walk alike turns cells n r n 0 0 =
      ⊎_elim
      (λ (pos : 0 < n). walk_alike alike turns cells n r x same-items (agree x r same) len n 0 0 pos)
      (λ (none : n ≤ 0).
      let z : n ≡ 0 = omega arith in
      ap (λ (f : ℕ). walk alike turns cells n x f 0 0) z ∙ sym (ap (λ (f : ℕ). walk alike turns cells n r f 0 0) z))
      (cases_lt 0 n) in
      ap walked_to (reached_is alike turns cells n x len ∙ walks ∙ sym (reached_is alike turns cells n r len))

  module _ (r : R) (ix : Index alike turns cells n) where
    item_at : (k : ℕ) → k < n → get_or (items cells n) k r ≡ (get_or cells k (leaf r)).item
    item_at k lt = items_at cells n ix.within k (leaf r) lt

    -- the walk of a record that equals an item comes to the item's cell
    pub finds : (k : ℕ) → k < n → alike (get_or cells k (leaf r)).item r ≡ true → lookup alike turns cells n r ≡ Some k
    finds k lt same = sym (lookup_alike _ r ix.within same) ∙ ix.placed k (leaf r) lt

    pub found_item : (k : ℕ) → lookup alike turns cells n r ≡ Some k → (k < n) × (alike (get_or cells k (leaf r)).item r ≡ true)
    found_item k e =
        let w : walk alike turns cells n r n 0 0 ≡ Ok (Here k) = sym (reached_is alike turns cells n r ix.within) ∙ found_here _ k e in
        here_found alike turns cells n r n 0 0 k (started alike turns cells n r n 0 0 (here_broken _ k _ w)) w

    -- no two items of indexed cells are equal
    pub items_apart : (j k : ℕ) → j < n → k < n → alike (get_or (items cells n) j r) (get_or (items cells n) k r) ≡ true → j ≡ k
    items_apart j k below-j below-k same =
        let x : R = (get_or cells j (leaf r)).item in
        let y : R = (get_or cells k (leaf r)).item in
        let same-items : alike x y ≡ true = sym (ap₂ alike (item_at j below-j) (item_at k below-k)) ∙ same in
        same_some _ j k (sym (lookup_alike x y ix.within same-items) ∙ ix.placed j (leaf r) below-j) (ix.placed k (leaf r) below-k)

    place_by : (o : Option ℕ) → lookup alike turns cells n r ≡ o → place alike r (items cells n) ≡ o
    place_by (Some k) e =
        let f = found_item k e in
        place_at alike r r (items cells n) k
        (omega (arith, length_items cells n ix.within, f.0))
        (ap (λ (x : R). alike x r) (item_at k f.0) ∙ f.1)
        (λ j below. false_from _ (λ same.
        let lt : j < n = omega (arith, f.0) in
        let jk : j ≡ k = same_some _ j k (finds j lt (sym (ap (λ (x : R). alike x r) (item_at j lt)) ∙ same)) e in
        omega arith))
    place_by None e =
        place_none alike r r (items cells n)
        (λ j below. false_from _ (λ same.
        let lt : j < n = omega (arith, length_items cells n ix.within) in
        some_none _ j (finds j lt (sym (ap (λ (x : R). alike x r) (item_at j lt)) ∙ same)) e))

    -- the walk finds what a scan finds
    pub lookup_place : lookup alike turns cells n r ≡ place alike r (items cells n)
    lookup_place = sym (place_by (lookup alike turns cells n r) refl)

    pub walks_whole : 0 < n → (why : EntryError) → reached alike turns cells n r ≡ Err why → ⊥
    walks_whole pos why e =
        never_broken alike turns cells n r ix.links n 0 0 why pos (omega arith) (sym (reached_is alike turns cells n r ix.within) ∙ e)

-- a gap that was reached is at a filled cell, and the cells go as far
pub gap_within : {R : Type 0} (alike : R → R → Bool) (turns : R → ℕ → Bool) (cells : List (Cell R)) (n : ℕ) (r : R) (a : ℕ) (s : Bool)
    → 0 < n → Ok (Gap a s) ≡ reached alike turns cells n r → (a < n) × (n ≤ length cells)
gap_within alike turns cells n r a s pos e =
    ⊎_elim
    (λ (past : length cells < n). absurd (gap_broken _ a s _ (sym e) (cond-false _ _ _ (lt-leb n (length cells) past))))
    (λ (len : n ≤ length cells).
    ((gap_found alike turns cells n r n 0 0 a s pos (sym (reached_is alike turns cells n r len) ∙ sym e)).0, len))
    (cases_lt (length cells) n)
