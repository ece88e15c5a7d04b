-- What finding a record or adding it does to indexed cells.
use Rattle.std.proofs.Common.{◌≡◌, ℕ, ◌+◌, ◌<◌, ◌≤◌, Bool, true, false, eqb, ◌≢◌, List, [], ◌∷◌, ◌++◌, map, length, get_or, take, drop, set, Some, None, Ok, Err, Option, Result, sym, refl, ap, ◌∙◌, subst, arith}
use Rattle.std.proofs.lemmas.List.{length-set, get_or-set_other, get_or-map, set-get_or, map-set, take-map, map_push, take_more_set, drop-set-lt}
use Rattle.std.proofs.lemmas.Bool.{and_parts, ltb-true, eqb-true, eqb-false, cond-true, cond-false}
use Rattle.intern.specs.declared.cell.Cell.{Cell}
use Rattle.intern.specs.declared.descent.End.TheVariants as ends
use Rattle.intern.specs.declared.EntryError.{EntryError}
use Rattle.intern.specs.declared.EntryError.TheVariants.{Full}
use Rattle.intern.specs.declared.Slot.{Slot}
use Rattle.intern.specs.declared.Slot.TheVariants.{Found, Added}
use Rattle.intern.specs.Entry.{room, new_slot, hung, with_first, with_hung, slot_at, cells_at, slot_answer, cells_after}
use Rattle.intern.specs.Links.{leaf, linked}
use Rattle.intern.specs.Walk.{Walked, walk, reached, walked_to}
use Rattle.intern.specs.Index.{items, place, Indexed}
use Rattle.intern.specs.Settled.{slot_of, Settled}
use Rattle.intern.proofs.Ends.{gap_found, reached_is}
use Rattle.intern.proofs.Growth.{linked_item, indexed_hung, indexed_first}
use Rattle.intern.proofs.Index.{Index, to_index, from_index}
use Rattle.intern.proofs.Indexes.{lookup_place, walks_whole}

module _ {R : Type 0} (cells : List (Cell R)) (n : ℕ) (r : R) where
  abbrev item_of : Cell R → R
  item_of c = c.item

  -- the items after r was put into the cell n
  pub items_put : n < length cells → items (set cells n (leaf r)) (n + 1) ≡ items cells n ++ r ∷ []
  items_put lt = ap (map item_of) (take_more_set cells n (leaf r) lt) ∙ map_push item_of (take n cells) (leaf r)

  -- a link changes no item
  items_linked : (a : ℕ) (s : Bool) → a < n → n ≤ length cells → map item_of (hung cells n r a s) ≡ map item_of (set cells n (leaf r))
  items_linked a s lt len =
      let ys : List (Cell R) = set cells n (leaf r) in
      let ne : a ≢ n = omega arith in
      let same : (linked (get_or cells a (leaf r)) s n).item ≡ get_or (map item_of ys) a r =
      linked_item (get_or cells a (leaf r)) s n
      ∙ ap item_of (sym (get_or-set_other cells n a (leaf r) (leaf r) ne))
      ∙ sym (get_or-map item_of ys a (leaf r) r (omega (arith, length-set cells n (leaf r)))) in
      map-set item_of ys a (linked (get_or cells a (leaf r)) s n) ∙ ap (set (map item_of ys) a) same ∙ set-get_or (map item_of ys) a r

  pub items_hung : (a : ℕ) (s : Bool) → a < n → n < length cells → items (hung cells n r a s) (n + 1) ≡ items cells n ++ r ∷ []
  items_hung a s lt space =
      sym (take-map item_of (n + 1) (hung cells n r a s))
      ∙ ap (take (n + 1)) (items_linked a s lt (omega arith))
      ∙ take-map item_of (n + 1) (set cells n (leaf r))
      ∙ items_put space

module _ {R : Type 0} (alike : R → R → Bool) (turns : R → ℕ → Bool)
    (own : (x : R) → alike x x ≡ true)
    (symmetric : (x y : R) → alike x y ≡ true → alike y x ≡ true)
    (transitive : (x y z : R) → alike x y ≡ true → alike y z ≡ true → alike x z ≡ true)
    (agree : (x y : R) → alike x y ≡ true → (d : ℕ) → turns x d ≡ turns y d)
    (cells : List (Cell R)) (n : ℕ) (r : R) (indexed-cells : Indexed alike turns cells n) where
  ix : Index alike turns cells n
  ix = to_index alike turns cells n indexed-cells

  abbrev Done : Result Slot EntryError → List (Cell R) → Type 0
  Done s ds = Settled alike turns cells n r s ds

  done_at : (s t : Result Slot EntryError) (cs ds : List (Cell R)) → s ≡ t → cs ≡ ds → Done t ds → Done s cs
  done_at s t cs ds es ec h = subst (λ (x : Result Slot EntryError). Done x cs) (sym es) (subst (Done t) (sym ec) h)

  abbrev at_place : Option ℕ
  at_place = place alike r (items cells n)

  found : (k : ℕ) → at_place ≡ Some k → Done (Ok (Found k)) cells
  found k e =
      record {
        slot_is = ap (λ (o : Option ℕ). slot_of o n (length cells)) (sym e);
        items_are = refl;
        indexed = indexed-cells;
        same_length = refl;
        kept = refl;
        rest_kept = refl;
      }

  full : at_place ≡ None → room n (length cells) ≡ false → Done (Err Full) cells
  full e no_room =
      record {
        slot_is = sym (ap (λ (o : Option ℕ). slot_of o n (length cells)) e ∙ cond-false _ _ _ no_room);
        items_are = refl;
        indexed = indexed-cells;
        same_length = refl;
        kept = refl;
        rest_kept = refl;
      }

  added : (ds : List (Cell R)) → at_place ≡ None → room n (length cells) ≡ true → items ds (n + 1) ≡ items cells n ++ r ∷ []
      → Indexed alike turns ds (n + 1) → length ds ≡ length cells → drop (n + 1) ds ≡ drop (n + 1) cells → Done (Ok (Added n)) ds
  added ds e has_room is idx len rest =
      record {
        slot_is = sym (ap (λ (o : Option ℕ). slot_of o n (length cells)) e ∙ cond-true _ _ _ has_room);
        items_are = is;
        indexed = idx;
        same_length = len;
        kept = tt;
        rest_kept = rest;
      }

  space : room n (length cells) ≡ true → n < length cells
  space e = ltb-true n (length cells) (and_parts _ _ e).0

  -- no cell is filled yet
  done_first : n ≡ 0 → (b : Bool) → room n (length cells) ≡ b → Done (new_slot n (length cells)) (with_first cells n r)
  done_first z true e =
      done_at _ (Ok (Added n)) _ (set cells n (leaf r)) (cond-true _ _ _ e) (cond-true _ _ _ e)
      (added (set cells n (leaf r)) (ap (λ (m : ℕ). place alike r (items cells m)) z) e (items_put cells n r (space e))
      (from_index alike turns _ _ (indexed_first alike turns own cells n r z (space e))) (length-set cells n (leaf r))
      (drop-set-lt (n + 1) cells n (leaf r) (omega arith)))
  done_first z false e =
      done_at _ (Err Full) _ cells (cond-false _ _ _ e) (cond-false _ _ _ e) (full (ap (λ (m : ℕ). place alike r (items cells m)) z) e)

  none_there : (a : ℕ) (s : Bool) → reached alike turns cells n r ≡ Ok (ends.Gap a s) → at_place ≡ None
  none_there a s e = sym (lookup_place alike turns symmetric transitive agree cells n r ix) ∙ ap walked_to e

  done_gap : 0 < n → (a : ℕ) (s : Bool) → reached alike turns cells n r ≡ Ok (ends.Gap a s) → (b : Bool) → room n (length cells) ≡ b
      → Done (new_slot n (length cells)) (with_hung cells n r a s)
  done_gap pos a s e true has_room =
      let w : walk alike turns cells n r n 0 0 ≡ Ok (ends.Gap a s) = sym (reached_is alike turns cells n r ix.within) ∙ e in
      let gap = gap_found alike turns cells n r n 0 0 a s pos w in
      done_at _ (Ok (Added n)) _ (hung cells n r a s) (cond-true _ _ _ has_room) (cond-true _ _ _ has_room)
      (added (hung cells n r a s) (none_there a s e) has_room (items_hung cells n r a s gap.0 (space has_room))
      (from_index alike turns _ _ (indexed_hung alike turns own cells n r a s ix w (space has_room)))
      (length-set (set cells n (leaf r)) a _ ∙ length-set cells n (leaf r))
      (drop-set-lt (n + 1) (set cells n (leaf r)) a _ (omega (arith, gap.0)) ∙ drop-set-lt (n + 1) cells n (leaf r) (omega arith)))
  done_gap pos a s e false no_room =
      done_at _ (Err Full) _ cells (cond-false _ _ _ no_room) (cond-false _ _ _ no_room) (full (none_there a s e) no_room)

  done_end : 0 < n → (e : Walked) → reached alike turns cells n r ≡ e → Done (slot_at n (length cells) e) (cells_at cells n r e)
  done_end pos (Ok (ends.Here k)) e = found k (sym (lookup_place alike turns symmetric transitive agree cells n r ix) ∙ ap walked_to e)
  done_end pos (Ok (ends.Gap a s)) e = done_gap pos a s e (room n (length cells)) refl
  done_end pos (Err why) e = absurd (walks_whole alike turns symmetric transitive agree cells n r ix pos why e)

  done_by : (b : Bool) → eqb n 0 ≡ b → Done (slot_answer alike turns cells n r) (cells_after alike turns cells n r)
  done_by true e = done_at _ _ _ _ (cond-true _ _ _ e) (cond-true _ _ _ e) (done_first (eqb-true n 0 e) (room n (length cells)) refl)
  done_by false e =
      let ne : n ≡ 0 → ⊥ = eqb-false n 0 e in
      done_at _ _ _ _ (cond-false _ _ _ e) (cond-false _ _ _ e) (done_end (omega arith) (reached alike turns cells n r) refl)

  pub settles : (s : Result Slot EntryError) (ds : List (Cell R)) → s ≡ slot_answer alike turns cells n r → ds ≡ cells_after alike turns cells n r → Done s ds
  settles s ds es ec = done_at s _ ds _ es ec (done_by (eqb n 0) refl)
