-- Cells to which labels are added.
use Rattle.std.proofs.Common.{◌≡◌, ℕ, suc, ◌+◌, ◌-◌, ◌^◌, ◌<◌, ◌≤◌, min, true, false, ltb, ◌⊎◌, List, [], ◌∷◌, ◌++◌, map, length, get_or, drop, Some, None, Ok, Err, Option, sym, refl, ap, ◌∙◌, subst, inl, inr, arith}
use mathlib.Core.Path.{subst⁻¹}
use Rattle.std.proofs.lemmas.List.{drop-drop, length-map, get_or-map}
use Rattle.std.proofs.lemmas.Bool.{cases_Bool, cond-true, cond-false, eqb-true, eq-eqb, and_parts, and_cases, ltb-true, ltb-false}
use Rattle.intern.specs.declared.cell.Cell.{Cell}
use Rattle.intern.specs.declared.EntryError.{EntryError}
use Rattle.intern.specs.declared.Slot.TheVariants.{Found, Added}
use Rattle.intern.specs.Entry.{room}
use Rattle.intern.specs.Index.{items, place, further}
use Rattle.intern.specs.Settled.{Settled}
use Rattle.intern.proofs.Index.{to_index, indexed_none}
use Rattle.intern.proofs.Indexes.{items_apart}
use Rattle.intern.proofs.Places.{length_items}
use Rattle.intern.proofs.Slots.{slot_found, slot_added, slot_refused}
use Rattle.tableau.specs.Labels.{Label}
use Rattle.tableau.specs.Positions.{In, Distinct}
use Rattle.tableau.proofs.Tests.{in_append}
use Rattle.successors.specs.declared.label.NextLabel.{NextLabel}
use Rattle.successors.specs.Cells.{same_label, label_turn, labels, capacity, Taken, Grown, Filled, Entered, Lists}

abbrev Cells : Type 0
Cells = List (Cell NextLabel)

-- FILLING

pub grown_like : (P Q : Label → Type 0) (xs ys : Cells) (n m : ℕ) → ((p : Label) → P p → Q p) → Grown P xs ys n m → Grown Q xs ys n m
grown_like P Q xs ys n m f g = record {
  rises = g.rises;
  kept = g.kept;
  new = λ q i. elim (g.new q i) [ inl x ↦ inl x | inr x ↦ inr (f q x) ];
  taken = g.taken;
  same_length = g.same_length;
  rest_kept = g.rest_kept;
}

pub filled_like : (P Q : Label → Type 0) (xs ys : Cells) (n : ℕ) (r : Option ℕ) → ((p : Label) → P p → Q p) → ((p : Label) → Q p → P p)
    → Filled P xs ys n r → Filled Q xs ys n r
filled_like P Q xs ys n (Some m) f b (g, all) = (grown_like P Q xs ys n m f g, λ p q. all p (b p q))
filled_like P Q xs ys n None f b (g, (p, h, out)) = (grown_like P Q xs ys n (capacity xs) f g, (p, f p h, out))

-- a part of Q overfills the cells
pub filled_short : (P R : Label → Type 0) (xs ys : Cells) (n : ℕ) → ((p : Label) → P p → R p) → Filled P xs ys n None → Filled R xs ys n None
filled_short P R xs ys n f (g, (p, h, out)) = (grown_like P R xs ys n (capacity xs) f g, (p, f p h, out))

-- all is there already
pub filled_there : (P : Label → Type 0) (xs : Cells) (n : ℕ) → Taken xs n → ((q : Label) → P q → In q (labels xs n)) → Filled P xs xs n (Some n)
filled_there P xs n t all = (
  record { rises = omega arith; kept = λ q i. i; new = λ q i. inl i; taken = t; same_length = refl; rest_kept = refl },
  all,
)

drop_later : (xs ys : Cells) (n m : ℕ) → n ≤ m → drop n ys ≡ drop n xs → drop m ys ≡ drop m xs
drop_later xs ys n m le e =
    let z : m ≡ n + (m - n) = omega arith in
    ap (λ (k : ℕ). drop k ys) z ∙ sym (drop-drop (m - n) n ys) ∙ ap (drop (m - n)) e ∙ drop-drop (m - n) n xs ∙ ap (λ (k : ℕ). drop k xs) (sym z)

pub grown_twice : (P Q R : Label → Type 0) (xs ys zs : Cells) (a n m : ℕ) → ((p : Label) → P p → R p) → ((p : Label) → Q p → R p)
    → Grown P xs ys a n → Grown Q ys zs n m → Grown R xs zs a m
grown_twice P Q R xs ys zs a n m pr qr g h = record {
  rises = omega (arith, g.rises, h.rises);
  kept = λ q i. h.kept q (g.kept q i);
  new = λ q i. elim (h.new q i) [ inl x ↦ elim (g.new q x) [ inl y ↦ inl y | inr y ↦ inr (pr q y) ] | inr x ↦ inr (qr q x) ];
  taken = h.taken;
  same_length = h.same_length ∙ g.same_length;
  rest_kept = h.rest_kept ∙ drop_later xs ys n m h.rises g.rest_kept;
}

pub filled_twice : (P Q R : Label → Type 0) (xs ys zs : Cells) (n m : ℕ) (r : Option ℕ) → ((p : Label) → P p → R p) → ((p : Label) → Q p → R p)
    → ((p : Label) → R p → P p ⊎ Q p) → Filled P xs ys n (Some m) → Filled Q ys zs m r → Filled R xs zs n r
filled_twice P Q R xs ys zs n m (Some k) pr qr rpq (g, v) (h, u) = (
  grown_twice P Q R xs ys zs n m k pr qr g h,
  λ p x. elim (rpq p x) [ inl y ↦ h.kept p (v p y) | inr y ↦ u p y ],
)
filled_twice P Q R xs ys zs n m None pr qr rpq (g, v) (h, (p, q, out)) =
    let e : capacity ys ≡ capacity xs = ap (λ (l : ℕ). min l (2 ^ 32)) g.same_length in (
      subst (Grown R xs zs n) e (grown_twice P Q R xs ys zs n m (capacity ys) pr qr g h),
      (p, qr p q, subst (λ (z : ℕ). In p (labels zs z) → ⊥) e out),
    )

-- ENTERING ONE LABEL

further_some : (o : Option ℕ) (k : ℕ) → further o ≡ Some k → (j : ℕ) × (o ≡ Some j)
further_some (Some j) k e = (j, refl)
further_some None k e = let z : ◌≡◌ {A = ℕ} 0 1 = cc in absurd (omega arith)

further_none : (o : Option ℕ) → further o ≡ None → o ≡ None
further_none (Some j) e = let z : ◌≡◌ {A = ℕ} 0 1 = cc in absurd (omega arith)
further_none None e = refl

module _ (r : NextLabel) where
  abbrev formulas_of : List NextLabel → List Label
  formulas_of xs = map (λ x. x.formulas) xs

  place_in : (xs : List NextLabel) (k : ℕ) → place same_label r xs ≡ Some k → In r.formulas (formulas_of xs)
  place_in [] k e = let z : ◌≡◌ {A = ℕ} 0 1 = cc in absurd (omega arith)
  place_in (x ∷ xs) k e = elim (cases_Bool (same_label x r)) [
    | inl is ↦ inl (sym (eqb-true x.formulas r.formulas is))
    | inr isnt ↦ (let j = further_some (place same_label r xs) k (sym (cond-false _ _ _ isnt) ∙ e) in inr (place_in xs j.0 j.1))
  ]

  place_out : (xs : List NextLabel) → place same_label r xs ≡ None → In r.formulas (formulas_of xs) → ⊥
  place_out [] e i = i
  place_out (x ∷ xs) e (inl is) =
      let here : ◌≡◌ {A = Option ℕ} (Some 0) None = sym (cond-true (same_label x r) (Some 0) (further (place same_label r xs)) (eq-eqb _ _ (sym is))) ∙ e in
      let z : ◌≡◌ {A = ℕ} 0 1 = cc in omega arith
  place_out (x ∷ xs) e (inr i) = elim (cases_Bool (same_label x r)) [
    | inl is ↦
        (let here : ◌≡◌ {A = Option ℕ} (Some 0) None = sym (cond-true (same_label x r) (Some 0) (further (place same_label r xs)) is) ∙ e in
        let z : ◌≡◌ {A = ℕ} 0 1 = cc in omega arith)
    | inr isnt ↦ place_out xs (further_none (place same_label r xs) (sym (cond-false _ _ _ isnt) ∙ e)) i
  ]

map_append : (xs ys : List NextLabel) → map (λ (x : NextLabel). x.formulas) (xs ++ ys) ≡ map (λ (x : NextLabel). x.formulas) xs ++ map (λ (x : NextLabel). x.formulas) ys
map_append [] ys = refl
map_append (x ∷ xs) ys = ap (λ l. x.formulas ∷ l) (map_append xs ys)

no_room : (cells : Cells) (n : ℕ) → n ≤ capacity cells → room n (length cells) ≡ false → n ≡ capacity cells
no_room cells n le h = elim (and_cases (ltb n (length cells)) (ltb n (2 ^ 32)) h) [
  | inl e ↦ (let l = ltb-false n (length cells) e in omega (arith, l))
  | inr e ↦ (let l = ltb-false n (2 ^ 32) e in omega (arith, l))
]

module _ (cells after : Cells) (n q : ℕ) (t : Taken cells n) where
  abbrev item : NextLabel
  item = record { formulas = q }

  pub enter_found : (k : ℕ) → Settled same_label label_turn cells n item (Ok (Found k)) after → Filled (λ p. p ≡ q) cells after n (Some n)
  enter_found k s =
      let same : labels after n ≡ labels cells n = ap (λ xs. map (λ (x : NextLabel). x.formulas) xs) s.items_are in (
        record {
          rises = omega arith;
          kept = λ p i. subst⁻¹ (In p) same i;
          new = λ p i. inl (subst (In p) same i);
          taken = record { room = subst⁻¹ (λ (l : ℕ). n ≤ min l (2 ^ 32)) s.same_length t.room; indexed = s.indexed };
          same_length = s.same_length;
          rest_kept = s.rest_kept;
        },
        λ p e. subst⁻¹ (In p) same (subst⁻¹ (λ (x : ℕ). In x (labels cells n)) e (place_in item (items cells n) k (slot_found _ k n (length cells) s.slot_is))),
      )

  pub enter_added : (k : ℕ) → Settled same_label label_turn cells n item (Ok (Added k)) after → Filled (λ p. p ≡ q) cells after n (Some (n + 1))
  enter_added k s =
      let a = slot_added _ k n (length cells) s.slot_is in
      let more : labels after (n + 1) ≡ labels cells n ++ q ∷ [] = ap (λ xs. map (λ (x : NextLabel). x.formulas) xs) s.items_are ∙ map_append (items cells n) (item ∷ []) in
      let lt : n < length cells = ltb-true n (length cells) (and_parts (ltb n (length cells)) (ltb n (2 ^ 32)) a.2).0 in
      let lt' : n < 2 ^ 32 = ltb-true n (2 ^ 32) (and_parts (ltb n (length cells)) (ltb n (2 ^ 32)) a.2).1 in (
        record {
          rises = omega arith;
          kept = λ p i. subst⁻¹ (In p) more ((in_append p (labels cells n) (q ∷ [])).1 (inl i));
          new = λ p i. elim ((in_append p (labels cells n) (q ∷ [])).0 (subst (In p) more i)) [ inl x ↦ inl x | inr x ↦ inr (only p x) ];
          taken = record { room = subst⁻¹ (λ (l : ℕ). n + 1 ≤ min l (2 ^ 32)) s.same_length (omega (arith, lt, lt')); indexed = s.indexed };
          same_length = s.same_length;
          rest_kept = s.rest_kept;
        },
        λ p e. subst⁻¹ (In p) more ((in_append p (labels cells n) (q ∷ [])).1 (inr (inl e))),
      )
    where
      only : (p : ℕ) → In p (q ∷ []) → p ≡ q
      only p (inl e) = e
      only p (inr z) = absurd z

  pub enter_full : (why : EntryError) → Settled same_label label_turn cells n item (Err why) after → Filled (λ p. p ≡ q) cells after n None
  enter_full why s =
      let a = slot_refused _ why n (length cells) s.slot_is in
      let e : n ≡ capacity cells = no_room cells n t.room a.1 in
      let same : labels after n ≡ labels cells n = ap (λ xs. map (λ (x : NextLabel). x.formulas) xs) s.items_are in (
        subst (Grown (λ p. p ≡ q) cells after n) e (record {
          rises = omega arith;
          kept = λ p i. subst⁻¹ (In p) same i;
          new = λ p i. inl (subst (In p) same i);
          taken = record { room = subst⁻¹ (λ (l : ℕ). n ≤ min l (2 ^ 32)) s.same_length t.room; indexed = s.indexed };
          same_length = s.same_length;
          rest_kept = s.rest_kept;
        }),
        (q, refl, λ i. place_out item (items cells n) a.0 (subst (In q) same (subst⁻¹ (λ (z : ℕ). In q (labels after z)) e i))),
      )

pub taken_none : (cells : Cells) → Taken cells 0
taken_none cells = record { room = omega arith; indexed = indexed_none same_label label_turn cells }

-- EACH ONCE

in_place : (xs : List ℕ) (q : ℕ) → In q xs → (k : ℕ) × (k < length xs) × (get_or xs k 0 ≡ q)
in_place [] q i = absurd i
in_place (x ∷ xs) q (inl e) = (0, omega arith, sym e)
in_place (x ∷ xs) q (inr i) = let p = in_place xs q i in (suc p.0, omega (arith, p.1), p.2)

distinct_from : (xs : List ℕ) → ((j k : ℕ) → j < length xs → k < length xs → get_or xs j 0 ≡ get_or xs k 0 → j ≡ k) → Distinct xs
distinct_from [] h = tt
distinct_from (x ∷ xs) h = (
  (λ i. let p = in_place xs x i in let e = h 0 (suc p.0) (omega arith) (omega (arith, p.1)) (sym p.2) in omega (arith, e)),
  distinct_from xs (λ j k lj lk e. let z = h (suc j) (suc k) (omega arith) (omega arith) e in omega (arith, z)),
)

symmetric : (x y : NextLabel) → same_label x y ≡ true → same_label y x ≡ true
symmetric x y e = eq-eqb _ _ (sym (eqb-true _ _ e))

transitive : (x y z : NextLabel) → same_label x y ≡ true → same_label y z ≡ true → same_label x z ≡ true
transitive x y z e f = eq-eqb _ _ (eqb-true x.formulas y.formulas e ∙ eqb-true y.formulas z.formulas f)

same_turns : (x y : NextLabel) (d : ℕ) → x.formulas ≡ y.formulas → label_turn x d ≡ label_turn y d
same_turns x y d e = ap (λ (l : ℕ). label_turn (record { formulas = l }) d) e

pub labels_apart : (cells : Cells) (n : ℕ) → Taken cells n → Distinct (labels cells n)
labels_apart cells n t =
    let ix = to_index same_label label_turn cells n t.indexed in
    let size : length (labels cells n) ≡ n = length-map (items cells n) (λ x. x.formulas) ∙ length_items cells n ix.within in
    let d : NextLabel = record { formulas = 0 } in
    let at : (k : ℕ) → k < n → get_or (labels cells n) k 0 ≡ (get_or (items cells n) k d).formulas =
    λ k lt. get_or-map (λ x. x.formulas) (items cells n) k d 0 (omega (arith, length_items cells n ix.within)) in
    distinct_from (labels cells n) (λ j k lj lk e.
    let a : j < n = omega (arith, size) in
    let c : k < n = omega (arith, size) in
    items_apart same_label label_turn symmetric transitive (λ x y s depth. same_turns x y depth (eqb-true _ _ s)) cells n d ix j k a c
    (eq-eqb _ _ (sym (at j a) ∙ e ∙ at k c)))

-- THE LIST

in_none : (cells : Cells) (q : ℕ) → In q (labels cells 0) → ⊥
in_none [] q i = i
in_none (c ∷ cells) q i = i

entered : (P : Label → Type 0) (xs ys : Cells) (m : ℕ) → Grown P xs ys 0 m → Entered P xs ys m
entered P xs ys m g = record {
  only = λ q i. elim (g.new q i) [ inl x ↦ absurd (in_none xs q x) | inr x ↦ x ];
  apart = labels_apart ys m g.taken;
  indexed = g.taken.indexed;
  same_length = g.same_length;
  rest_kept = g.rest_kept;
}

pub lists : (P : Label → Type 0) (xs ys : Cells) (r : Option ℕ) → Filled P xs ys 0 r → Lists P xs ys r
lists P xs ys (Some m) (g, all) = (entered P xs ys m g, all)
lists P xs ys None (g, more) = (entered P xs ys (capacity xs) g, more)
