-- The next labels in the cells, and the positions that they make.
use Rattle.std.proofs.Common.{◌≡◌, ℕ, ◌^◌, ◌<◌, ◌≤◌, false, List, [], ◌∷◌, map, length, get_or, take, Some, None, Option, sym, refl, ap, ◌∙◌, subst, inl, inr, arith}
use Rattle.std.proofs.lemmas.List.{get_or-map, length-map, take_all}
use Rattle.intern.specs.declared.cell.Cell.{Cell}
use Rattle.intern.specs.Index.{items}
use Rattle.intern.specs.Links.{leaf}
use Rattle.intern.proofs.Index.{to_index}
use Rattle.intern.proofs.Places.{length_items, items_at}
use Rattle.ltlf.specs.Contents.{Contents}
use Rattle.tableau.specs.Labels.{Label}
use Rattle.tableau.specs.Positions.{Position, In, Distinct}
use Rattle.tableau.proofs.Counting.{no_longer}
use Rattle.viability.specs.Moments.{moment}
use Rattle.viability.proofs.Shown.{shows_moment}
use Rattle.successors.specs.declared.label.NextLabel.{NextLabel}
use Rattle.successors.specs.Cells.{same_label, label_turn, labels, capacity}
use Rattle.successors.specs.Handing.{ListsNext}
use Rattle.search.specs.declared.row.Row.{Row}
use Rattle.search.specs.Rows.{position}
use Rattle.search.specs.Layers.{Listed, Grown, Spread}
use Rattle.search.specs.Outcomes.{positions}
use Rattle.search.specs.Questions.{at_place, SomeOf, Labelled, LabelledOr, Patterned}
use Rattle.search.proofs.Answering.{length_positions, listed_in}
use Rattle.search.proofs.Lists.{grown_like, grown_to, listed_to}
use Rattle.search.proofs.Members.{in_at, at_in}

-- a position is given by its parts
pub by_parts : (p : Position) (place : ℕ) (L : Label) (code : ℕ) → p.place ≡ place → p.label ≡ L → p.code ≡ code → p ≡ at_place place L code
by_parts p place L code e f g =
    ap (λ (x : ℕ). at_place x p.label p.code) e ∙ ap (λ (x : ℕ). at_place place x p.code) f ∙ ap (λ (x : ℕ). at_place place L x) g

-- any cell of a label
abbrev pub no_label : Cell NextLabel
no_label = leaf (record { formulas = 0 })

-- the label in cell i
abbrev pub label_in : List (Cell NextLabel) → ℕ → Label
label_in cells i = (get_or cells i no_label).item.formulas

module _ (cells : List (Cell NextLabel)) (n : ℕ) (room : n ≤ length cells) where
  pub length_labels : length (labels cells n) ≡ n
  length_labels = length-map (items cells n) (λ x. x.formulas) ∙ length_items cells n room

  label_at : (i d : ℕ) → i < n → get_or (labels cells n) i d ≡ label_in cells i
  label_at i d lt =
      get_or-map (λ (x : NextLabel). x.formulas) (items cells n) i (record { formulas = 0 }) d (omega (arith, length_items cells n room))
      ∙ ap (λ (x : NextLabel). x.formulas) (items_at cells n room i no_label lt)

  -- the positions with the labels, one after another
  pub some_labelled : (place code : ℕ) (p : Position) → SomeOf (λ i e. e ≡ at_place place (label_in cells i) code) 0 n p → Labelled place code cells n p
  some_labelled place code p (i, lo, hi, e) = (
    ap (λ (x : Position). x.place) e,
    ap (λ (x : Position). x.code) e,
    subst (λ (L : Label). In L (labels cells n)) (label_at i 0 hi ∙ sym (ap (λ (x : Position). x.label) e))
        (in_at (labels cells n) i 0 (omega (arith, length_labels))),
  )

  pub labelled_some : (place code : ℕ) (p : Position) → Labelled place code cells n p → SomeOf (λ i e. e ≡ at_place place (label_in cells i) code) 0 n p
  labelled_some place code p (at, is, i) =
      let r = at_in p.label (labels cells n) i in
      let lt : r.0 < n = omega (arith, length_labels, r.1) in
      let named : p.label ≡ label_in cells r.0 = sym (r.2 0) ∙ label_at r.0 0 lt in
      (r.0, omega arith, lt, by_parts p place (label_in cells r.0) code at named is)

-- the labels of the first n cells alone
pub labels_front : (cells : List (Cell NextLabel)) (n : ℕ) → n ≤ length cells → labels (take n cells) (length (take n cells)) ≡ labels cells n
labels_front cells n room =
    ap (λ (l : List (Cell NextLabel)). map (λ (x : NextLabel). x.formulas) (map (λ (c : Cell NextLabel). c.item) l))
    (take_all (length (take n cells)) (take n cells) (omega arith))

-- WHAT THE EXPANSION HAS LEFT IN THE CELLS

module _ (b : Contents) (L : Label) (truth : ℕ) (cells after : List (Cell NextLabel)) where
  pub patterned_some : (count : ℕ) → ListsNext b truth false L cells after (Some count)
      → Patterned b L truth after (Some (record { truth = truth; count = count }))
  patterned_some count lists =
      let e = lists (moment truth false) (shows_moment b.atoms truth false) in (
        refl,
        (
          (to_index same_label label_turn after count e.0.indexed).within,
          λ w sh q. ((λ i. (lists w sh).0.only q i), (λ h. (lists w sh).1 q h)),
        ),
      )

  pub patterned_none : length cells ≤ 2 ^ 32 → length after ≡ length cells → ListsNext b truth false L cells after None → Patterned b L truth after None
  patterned_none few size lists =
      let full : capacity cells ≡ length after = omega arith in
      let e = lists (moment truth false) (shows_moment b.atoms truth false) in
      record {
        apart = subst (λ (n : ℕ). Distinct (labels after n)) full e.0.apart;
        only = λ w sh q i. (lists w sh).0.only q (subst (λ (n : ℕ). In q (labels after n)) (sym full) i);
        another = λ w sh.
            let x = (lists w sh).1 in
            (x.0, x.1, λ i. x.2 (subst (λ (n : ℕ). In x.0 (labels after n)) (sym full) i));
      }

-- MORE LABELS THAN ROWS

placed_in : (place code : ℕ) (ls : List Label) (p : Position) → In p (map (λ L. at_place place L code) ls) → (L : Label) × In L ls × (p ≡ at_place place L code)
placed_in place code [] p i = absurd i
placed_in place code (L ∷ ls) p (inl e) = (L, inl refl, e)
placed_in place code (L ∷ ls) p (inr i) = let r = placed_in place code ls p i in (r.0, inr r.1, r.2)

placed_apart : (place code : ℕ) (ls : List Label) → Distinct ls → Distinct (map (λ L. at_place place L code) ls)
placed_apart place code [] d = tt
placed_apart place code (L ∷ ls) d = (
  (λ i.
      let r = placed_in place code ls (at_place place L code) i in
      d.0 (subst (λ (x : Label). In x ls) (sym (ap (λ (p : Position). p.label) r.2)) r.1)),
  placed_apart place code ls d.1,
)

module _ (xs ys : List (Cell Row)) (n : ℕ) (from place code : ℕ) (cells : List (Cell NextLabel))
    (more : length xs ≤ length cells) (apart : Distinct (labels cells (length cells)))
    (L : Label) (absent : In L (labels cells (length cells)) → ⊥) where
  abbrev F : Row → Type 0
  F e = e.from ≡ from

  abbrev count : ℕ
  count = length cells

  abbrev made : List Position
  made = map (λ M. at_place place M code) (labels cells count)

  wider : (m : ℕ) → Grown (λ r. F r × Labelled place code cells count (position r)) xs ys n m
      → Grown (λ r. F r × LabelledOr L place code cells count (position r)) xs ys n m
  wider m g =
      grown_like (λ r. F r × Labelled place code cells count (position r)) (λ r. F r × LabelledOr L place code cells count (position r)) xs ys n m
      (λ r x. (x.0, inl x.1)) g

  made_listed : (m : ℕ) → m ≤ length ys → ((p : Position) → Labelled place code cells count p → Listed ys 0 m p) → (p : Position) → In p made → In p (positions ys m)
  made_listed m room all p i =
      let r = placed_in place code (labels cells count) p i in
      let e = r.2 in
      listed_in ys m room p (all p (
        ap (λ (x : Position). x.place) e,
        ap (λ (x : Position). x.code) e,
        subst (λ (M : Label). In M (labels cells count)) (sym (ap (λ (x : Position). x.label) e)) r.1,
      ))

  overfull_some : (m : ℕ) → Spread F (Labelled place code cells count) xs ys n (Some m) → Spread F (LabelledOr L place code cells count) xs ys n None
  overfull_some m (g, all) =
      let room = g.room in
      let size = g.size in
      let many = length_positions ys m room in
      let long : length made ≡ count = length-map (labels cells count) (λ M. at_place place M code) ∙ length_labels cells count (omega arith) in
      let fit = no_longer made (positions ys m) (placed_apart place code (labels cells count) apart) (made_listed m room all) in
      let full : m ≡ length xs = omega arith in
      let p : Position = at_place place L code in (
        grown_to (λ r. F r × LabelledOr L place code cells count (position r)) xs ys n m (length xs) full (wider m g),
        (
          p,
          inr refl,
          λ l.
              let over = no_longer (p ∷ made) (positions ys m) (
                (λ i.
                    let r = placed_in place code (labels cells count) p i in
                    absent (subst (λ (M : Label). In M (labels cells count)) (sym (ap (λ (x : Position). x.label) r.2)) r.1)),
                placed_apart place code (labels cells count) apart,
              )
              (λ e. elim [
                | inl z ↦ listed_in ys m room e (subst (Listed ys 0 m) (sym z) (listed_to ys 0 m (length xs) p full l))
                | inr i ↦ made_listed m room all e i
              ]) in
              omega arith,
        ),
      )

  overfull_none : Spread F (Labelled place code cells count) xs ys n None → Spread F (LabelledOr L place code cells count) xs ys n None
  overfull_none (g, (p, x, missing)) = (wider (length xs) g, (p, inl x, missing))

  pub overfull_any : (r : Option ℕ) → Spread F (Labelled place code cells count) xs ys n r → Spread F (LabelledOr L place code cells count) xs ys n None
  overfull_any (Some m) s = overfull_some m s
  overfull_any None s = overfull_none s
