-- A row found among the filled cells, or entered behind them.
use Rattle.std.proofs.Common.{◌≡◌, ℕ, zero, suc, ◌+◌, ◌-◌, ◌^◌, ◌<◌, ◌≤◌, Bool, true, ltb, List, [], ◌∷◌, length, get_or, drop, Some, None, Ok, Err, Option, Result, sym, refl, ap, ◌∙◌, subst, inl, inr, arith}
use Rattle.std.proofs.lemmas.List.{get_or_default, get_or_append_left, get_or-append_right, get_or-drop}
use Rattle.std.proofs.lemmas.Bool.{cond-true, cond-false, cases_Bool, and_cases, ltb-false}
use Rattle.intern.specs.declared.cell.Cell.{Cell}
use Rattle.intern.specs.declared.EntryError.{EntryError}
use Rattle.intern.specs.declared.Slot.{Slot}
use Rattle.intern.specs.declared.Slot.TheVariants as slot
use Rattle.intern.specs.Index.{items, place, further}
use Rattle.intern.specs.Links.{leaf}
use Rattle.intern.specs.Settled.{Settled}
use Rattle.intern.proofs.Index.{to_index}
use Rattle.intern.proofs.Indexes.{items_apart}
use Rattle.intern.proofs.Places.{length_items, items_at}
use Rattle.intern.proofs.Slots.{slot_found, slot_refused, place_below}
use Rattle.search.specs.declared.row.Row.{Row}
use Rattle.search.specs.Rows.{position, same_position, row_turn}
use Rattle.search.specs.Layers.{held, Apart, IndexedRows, Spread}
use Rattle.search.proofs.Same.{same_is, is_same, same_back, same_through, same_turns}

-- WHAT A PLACE SAYS

further_some : (o : Option ℕ) (k : ℕ) → further o ≡ Some k → (j : ℕ) × (o ≡ Some j) × (k ≡ suc j)
further_some (Some j) k e = (j, refl, cc)
further_some None k e = let z : ◌≡◌ {A = ℕ} 0 1 = cc in absurd (omega arith)

further_none : (o : Option ℕ) → further o ≡ None → o ≡ None
further_none (Some j) e = let z : ◌≡◌ {A = ℕ} 0 1 = cc in absurd (omega arith)
further_none None e = refl

module _ {R : Type 0} (alike : R → R → Bool) (r e : R) where
  pub place_found : (xs : List R) (k : ℕ) → place alike r xs ≡ Some k → alike (get_or xs k e) r ≡ true
  place_found [] k p = let z : ◌≡◌ {A = ℕ} 0 1 = cc in absurd (omega arith)
  place_found (x ∷ xs) k p = elim (cases_Bool (alike x r)) [
    | inl is ↦
        (let here : Some 0 ≡ Some k = sym (cond-true _ _ _ is) ∙ p in
        let z : 0 ≡ k = cc in
        subst (λ (i : ℕ). alike (get_or (x ∷ xs) i e) r ≡ true) z is)
    | inr isnt ↦
        (let f = further_some (place alike r xs) k (sym (cond-false _ _ _ isnt) ∙ p) in
        subst (λ (i : ℕ). alike (get_or (x ∷ xs) i e) r ≡ true) (sym f.2) (place_found xs f.0 f.1))
  ]

  pub place_missing : (xs : List R) → place alike r xs ≡ None → (j : ℕ) → j < length xs → alike (get_or xs j e) r ≡ true → ⊥
  place_missing [] p j lt same = omega arith
  place_missing (x ∷ xs) p zero lt same =
      let here : ◌≡◌ {A = Option ℕ} (Some 0) None = sym (cond-true _ _ _ same) ∙ p in let z : ◌≡◌ {A = ℕ} 0 1 = cc in omega arith
  place_missing (x ∷ xs) p (suc j) lt same = elim (cases_Bool (alike x r)) [
    | inl is ↦ (let here : ◌≡◌ {A = Option ℕ} (Some 0) None = sym (cond-true _ _ _ is) ∙ p in let z : ◌≡◌ {A = ℕ} 0 1 = cc in omega arith)
    | inr isnt ↦ place_missing xs (further_none _ (sym (cond-false _ _ _ isnt) ∙ p)) j (omega arith) same
  ]

-- INDEXED ROWS

pub rows_within : (xs : List (Cell Row)) (n : ℕ) → IndexedRows xs n → n ≤ length xs
rows_within xs n ix = (to_index same_position row_turn xs n ix).within

pub row_read : (xs : List (Cell Row)) (n : ℕ) → n ≤ length xs → (k : ℕ) (d : Cell Row) (e : Row) → k < n → get_or (items xs n) k e ≡ (get_or xs k d).item
row_read xs n len k d e lt =
    get_or_default (items xs n) k e d.item (omega (arith, length_items xs n len)) ∙ items_at xs n len k d lt

pub indexed_apart : (xs : List (Cell Row)) (n : ℕ) → IndexedRows xs n → Apart xs n
indexed_apart xs n ix i j d lij ljn same =
    let x = to_index same_position row_turn xs n ix in
    let r = d.item in
    let ri = row_read xs n x.within i d r (omega arith) in
    let rj = row_read xs n x.within j d r ljn in
    let alike : same_position (get_or (items xs n) i r) (get_or (items xs n) j r) ≡ true =
    is_same (get_or (items xs n) i r) (get_or (items xs n) j r) (ap position ri ∙ same ∙ ap position (sym rj)) in
    let z : i ≡ j = items_apart same_position row_turn same_back same_through same_turns xs n r x i j (omega arith) ljn alike in
    omega arith

module _ (xs ys : List (Cell Row)) (n m : ℕ) (len : n ≤ length xs) (up : n ≤ m) (drops : drop m ys ≡ drop m xs) (ix : IndexedRows ys m) where
  row_kept : ((k : ℕ) (e : Row) → k < n → get_or (items ys m) k e ≡ get_or (items xs n) k e)
      → (k : ℕ) (d : Cell Row) → k < n → (get_or ys k d).item ≡ (get_or xs k d).item
  row_kept same k d lt =
      sym (row_read ys m (rows_within ys m ix) k d d.item (omega arith)) ∙ same k d.item lt ∙ row_read xs n len k d d.item lt

  cell_kept : (k : ℕ) (d : Cell Row) → m ≤ k → get_or ys k d ≡ get_or xs k d
  cell_kept k d ge =
      let e : k ≡ m + (k - m) = omega arith in
      ap (λ (i : ℕ). get_or ys i d) e ∙ sym (get_or-drop m ys (k - m) d) ∙ ap (λ (l : List (Cell Row)). get_or l (k - m) d) drops
      ∙ get_or-drop m xs (k - m) d ∙ ap (λ (i : ℕ). get_or xs i d) (sym e)

-- ENTERING A ROW

module _ (xs ys : List (Cell Row)) (n : ℕ) (r : Row) (few : length xs ≤ 2 ^ 32) (before : IndexedRows xs n) where
  abbrev Entered : Row → Type 0
  Entered e = (e.from ≡ r.from) × (position e ≡ position r)

  -- the position of r stands in no cell
  missing : place same_position r (items xs n) ≡ None → (k : ℕ) (d : Cell Row) → k < n → held xs k d ≡ position r → ⊥
  missing none k d lt same =
      let len = rows_within xs n before in
      place_missing same_position r r (items xs n) none k (omega (arith, length_items xs n len))
      (is_same (get_or (items xs n) k r) r (ap position (row_read xs n len k d r lt) ∙ same))

  abbrev Done : Result Slot EntryError → Type 0
  Done s = Settled same_position row_turn xs n r s ys

  pub enter_found : (k : ℕ) → Done (Ok (slot.Found k)) → Spread (λ e. e.from ≡ r.from) (λ p. p ≡ position r) xs ys n (Some n)
  enter_found k s =
      let len = rows_within xs n before in
      let at = slot_found (place same_position r (items xs n)) k n (length xs) s.slot_is in
      let lt : k < n = omega (arith, place_below same_position r (items xs n) k at, length_items xs n len) in
      let same : position (get_or (items xs n) k r) ≡ position r = same_is (get_or (items xs n) k r) r (place_found same_position r r (items xs n) k at) in
      let kept = row_kept xs ys n n len (omega arith) s.rest_kept s.indexed (λ i e _. ap (λ (l : List Row). get_or l i e) s.items_are) in (
        record {
          rises = omega arith;
          room = rows_within ys n s.indexed;
          size = s.same_length;
          kept = kept;
          rest = cell_kept xs ys n n len (omega arith) s.rest_kept s.indexed;
          new = λ i d ge less. absurd (omega arith);
          indexed = s.indexed;
        },
        λ p e. (k, omega arith, lt, λ d. ap position (kept k d lt ∙ sym (row_read xs n len k d r lt)) ∙ same ∙ sym e),
      )

  pub enter_full : (why : EntryError) → Done (Err why) → Spread (λ e. e.from ≡ r.from) (λ p. p ≡ position r) xs ys n None
  enter_full why s =
      let len = rows_within xs n before in
      let at = slot_refused (place same_position r (items xs n)) why n (length xs) s.slot_is in
      let size = s.same_length in
      let over : n ≡ length xs = elim (and_cases (ltb n (length xs)) (ltb n (2 ^ 32)) at.1) [
        | inl a ↦ (let h = ltb-false n (length xs) a in omega arith)
        | inr a ↦ (let h = ltb-false n (2 ^ 32) a in omega arith)
      ] in
      let kept = row_kept xs ys n n len (omega arith) s.rest_kept s.indexed (λ i e _. ap (λ (l : List Row). get_or l i e) s.items_are) in (
        record {
          rises = len;
          room = omega arith;
          size = s.same_length;
          kept = kept;
          rest = λ i d ge. cell_kept xs ys n n len (omega arith) s.rest_kept s.indexed i d (omega arith);
          new = λ i d ge less. absurd (omega arith);
          indexed = subst (IndexedRows ys) over s.indexed;
        },
        (
          position r,
          refl,
          λ l.
              let lt : l.0 < n = omega (arith, l.2) in
              missing at.0 l.0 (leaf r) lt (ap position (sym (kept l.0 (leaf r) lt)) ∙ l.3 (leaf r)),
        ),
      )

  pub enter_added : (k : ℕ) → Done (Ok (slot.Added k)) → Spread (λ e. e.from ≡ r.from) (λ p. p ≡ position r) xs ys n (Some (n + 1))
  enter_added k s =
      let len = rows_within xs n before in
      let within = rows_within ys (n + 1) s.indexed in
      let size = length_items xs n len in
      let kept = row_kept xs ys n (n + 1) len (omega arith) s.rest_kept s.indexed
      (λ i e lt. ap (λ (l : List Row). get_or l i e) s.items_are ∙ get_or_append_left (items xs n) (r ∷ []) e i (omega arith)) in
      let newest : (d : Cell Row) → (get_or ys n d).item ≡ r = λ d.
      sym (row_read ys (n + 1) within n d r (omega arith)) ∙ ap (λ (l : List Row). get_or l n r) s.items_are
      ∙ get_or-append_right (items xs n) (r ∷ []) n n r size (omega arith)
      ∙ ap (λ (i : ℕ). get_or (r ∷ []) i r) (let z : n - n ≡ 0 = omega arith in z) in (
        record {
          rises = omega arith;
          room = within;
          size = s.same_length;
          kept = kept;
          rest = cell_kept xs ys n (n + 1) len (omega arith) s.rest_kept s.indexed;
          new = λ i d ge less.
              let z : n ≡ i = omega arith in
              subst (λ (j : ℕ). Entered (get_or ys j d).item) z
              (ap (λ (x : Row). x.from) (newest d), ap position (newest d));
          indexed = s.indexed;
        },
        λ p e. (n, omega arith, omega arith, λ d. ap position (newest d) ∙ sym e),
      )
