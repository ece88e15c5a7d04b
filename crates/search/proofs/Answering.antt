-- What a search has found is the answer to the question.
use Rattle.std.proofs.Common.{◌≡◌, ℕ, zero, suc, ◌+◌, ◌<◌, ◌≤◌, List, [], ◌∷◌, ◌++◌, length, get_or, drop, Some, sym, refl, ap, ◌∙◌, subst, inl, inr, ⊎_elim, add-one, arith, length-append}
use Rattle.std.proofs.lemmas.List.{get_or-map, length-map}
use Rattle.std.proofs.lemmas.Bool.{cases_lt}
use Rattle.intern.specs.declared.cell.Cell.{Cell}
use Rattle.intern.specs.Index.{items}
use Rattle.intern.specs.Links.{leaf}
use Rattle.intern.proofs.Places.{length_items}
use Rattle.tableau.specs.Positions.{Position, Question, Starts, Step, Ends, Path, stay, go, codes_on, Reached, Distance, NoEnd, LeastEnd, Counted, In, Distinct, Rows}
use Rattle.tableau.specs.Continuations.{Continuation, Shortest, WellPosed}
use Rattle.tableau.specs.Search.{can, cannot, short, answer}
use Rattle.tableau.proofs.Counting.{no_longer}
use Rattle.tableau.proofs.Histories.{shortest_is_least, none_is_none, paths_are_histories}
use Rattle.tableau.proofs.Layers.{counted_if_ends, counted_if_none}
use Rattle.tableau.proofs.Searched.{counted_finite, answer_right}
use Rattle.search.specs.declared.row.Row.{Row}
use Rattle.search.specs.declared.layers.Found.TheVariants as found
use Rattle.search.specs.declared.outcome.Outcome.TheVariants.{Can, Cannot, Short}
use Rattle.search.specs.Rows.{position}
use Rattle.search.specs.Trails.{came_from, trail, Backed}
use Rattle.search.specs.Layers.{held, Listed, Apart, LedTo, Least, Within, Unended, Traced, Exactly, Outnumbered, Searched}
use Rattle.search.specs.Outcomes.{outcome_of, positions, HistoryLeft}
use Rattle.search.proofs.Bounds.{led_reached, reached_led}
use Rattle.search.proofs.Entering.{row_read}
use Rattle.search.proofs.Lists.{blank, here}
use Rattle.search.proofs.Members.{in_at, at_in, distinct_from}

-- THE POSITIONS IN THE ROWS

module _ (xs : List (Cell Row)) (n : ℕ) (room : n ≤ length xs) where
  pub length_positions : length (positions xs n) ≡ n
  length_positions = length-map (items xs n) position ∙ length_items xs n room

  position_at : (k : ℕ) (e : Cell Row) (d : Position) → k < n → get_or (positions xs n) k d ≡ held xs k e
  position_at k e d lt =
      get_or-map position (items xs n) k e.item d (omega (arith, length_items xs n room)) ∙ ap position (row_read xs n room k e e.item lt)

  pub in_listed : (p : Position) → In p (positions xs n) → Listed xs 0 n p
  in_listed p i =
      let r = at_in p (positions xs n) i in
      let lt : r.0 < n = omega (arith, length_positions, r.1) in
      (r.0, omega arith, lt, λ d. sym (position_at r.0 d p lt) ∙ r.2 p)

  pub listed_in : (p : Position) → Listed xs 0 n p → In p (positions xs n)
  listed_in p (k, lo, hi, is) =
      subst (λ (x : Position). In x (positions xs n)) (position_at k blank p hi ∙ is blank)
      (in_at (positions xs n) k p (omega (arith, length_positions)))

  pub apart_distinct : Apart xs n → Distinct (positions xs n)
  apart_distinct apart =
      distinct_from (positions xs n) (λ i j d lij ljn same.
      let lt : j < n = omega (arith, length_positions) in
      apart i j blank lij lt (sym (position_at i blank d (omega arith)) ∙ same ∙ position_at j blank d lt))

-- DISTANCES

module _ (q : Question) where
  distance : (n : ℕ) (p : Position) → Least (Starts q) (Step q) n p → Distance q p n
  distance n p (r, least) = (led_reached q n p r, λ m other. least m (reached_led q m p other))

  nearest : (n : ℕ) (p : Position) → Distance q p n → Least (Starts q) (Step q) n p
  nearest n p (r, least) = (reached_led q n p r, λ m other. least m (led_reached q m p other))

  -- a position that ends at distance d, and none that ends nearer
  least_end : (d : ℕ) (p : Position) → Ends q p → LedTo (Starts q) (Step q) d p → Unended (Starts q) (Step q) (Ends q) d → LeastEnd q d
  least_end d p e r none =
      let far : (x : Position) (m : ℕ) → Ends q x → Reached q m x → d ≤ m =
      λ x m ex rx.
      ⊎_elim (λ (h : m < d). absurd (none m x h (reached_led q m x rx) ex)) (λ (h : d ≤ m). h) (cases_lt m d) in
      ((p, e, (led_reached q d p r, λ m other. far p m e other)), λ x m ex dx. far x m ex dx.0)

  within_counted : (d : ℕ) (p : Position) → Unended (Starts q) (Step q) (Ends q) d → Within (Starts q) (Step q) d p → Counted q p
  within_counted d p none (j, h, l) = (
    j,
    distance j p l,
    λ d' le.
        ⊎_elim
        (λ (less : d' < d). absurd (none d' le.0.0 less (reached_led q d' le.0.0 le.0.2.0) le.0.1))
        (λ (more : d ≤ d'). omega arith)
        (cases_lt d' d),
  )

  -- THE ROWS

  can_rows : (d n : ℕ) (ys : List (Cell Row)) → LeastEnd q d → Exactly (Within (Starts q) (Step q) d) ys n → Rows q (positions ys n)
  can_rows d n ys le x =
      record {
        apart = apart_distinct ys n x.room x.apart;
        all = λ e. (
          (λ i.
              let w = x.sound e (in_listed ys n x.room e i) in
              (counted_if_ends q d le e).1 (w.0, distance w.0 e w.2, w.1)),
          (λ c.
              let w = (counted_if_ends q d le e).0 c in
              listed_in ys n x.room e (x.whole e (w.0, w.2, nearest w.0 e w.1))),
        );
      }

  cannot_rows : (n : ℕ) (ys : List (Cell Row)) → NoEnd q → Exactly (λ p. (j : ℕ) × Least (Starts q) (Step q) j p) ys n → Rows q (positions ys n)
  cannot_rows n ys none x =
      record {
        apart = apart_distinct ys n x.room x.apart;
        all = λ e. (
          (λ i. let w = x.sound e (in_listed ys n x.room e i) in (counted_if_none q none e).1 (w.0, distance w.0 e w.1)),
          (λ c.
              let w = (counted_if_none q none e).0 c in
              listed_in ys n x.room e (x.whole e (w.0, nearest w.0 e w.1))),
        );
      }

  -- THE HISTORY

  snoc : {n : ℕ} {s e e' : Position} → Path q n s e → Step q e e' → Path q (suc n) s e'
  snoc stay st = go st stay
  snoc (go h w) st = go h (snoc w st)

  codes_snoc : {n : ℕ} {s e e' : Position} (w : Path q n s e) (st : Step q e e') → codes_on (snoc w st) ≡ codes_on w ++ e'.code ∷ []
  unfolding snoc
  codes_snoc stay st = refl
  codes_snoc {s = s} (go h w) st = ap (λ (l : List ℕ). s.code ∷ l) (codes_snoc w st)

  traced_path : (xs : List (Cell Row)) (n k : ℕ) (d : Cell Row) → k < length xs → Traced (Starts q) (Step q) xs n k
      → (s : Position) × Starts q s × ((w : Path q n s (held xs k d)) × (codes_on w ≡ trail xs n (get_or xs k d).item))
  traced_path xs zero k d lt t = (held xs k d, t d, (stay, refl))
  traced_path xs (suc n) k d lt t =
      let r : Row = (get_or xs k d).item in
      let u = t d in
      let less : r.from < length xs = omega (arith, u.0) in
      let before = traced_path xs n r.from (leaf r) less u.2 in
      let st : Step q (held xs r.from (leaf r)) (held xs k d) =
      subst (λ (p : Position). Step q p (held xs k d)) (here xs r.from (leaf r) less d) u.1 in (
        before.0,
        before.1,
        (snoc before.2.0 st, codes_snoc before.2.0 st ∙ ap (λ (l : List ℕ). l ++ r.code ∷ []) before.2.1),
      )

  pub traced_backed : (xs : List (Cell Row)) (n k : ℕ) (d : Cell Row) → k < length xs → Traced (Starts q) (Step q) xs n k → Backed xs n (get_or xs k d).item
  traced_backed xs zero k d lt t = tt
  traced_backed xs (suc n) k d lt t =
      let r : Row = (get_or xs k d).item in
      let u = t d in
      let less : r.from < length xs = omega (arith, u.0) in
      (less, traced_backed xs n r.from (leaf r) less u.2)

  length_trail : (xs : List (Cell Row)) (n : ℕ) (r : Row) → length (trail xs n r) ≡ suc n
  length_trail xs zero r = refl
  length_trail xs (suc n) r =
      let h = length_trail xs n (came_from xs r) in
      let z = length-append (trail xs n (came_from xs r)) (r.code ∷ []) in
      omega arith

  -- THE ANSWER

  module _ (posed : WellPosed q) (xs ys : List (Cell Row)) where
    module _ (row count depth : ℕ) (x : Searched (Starts q) (Step q) (Ends q) xs ys (Some (found.Can row count depth))) where
      there : row < length ys
      there = omega (arith, x.0.room, x.2)

      abbrev end : Position
      end = held ys row blank

      ending : LeastEnd q depth
      ending =
          let w = traced_path ys depth row blank there x.3 in
          least_end depth end (x.4 blank) (reached_led q depth end (w.0, w.1, w.2.0)) x.1

      pub can_left : Rows q (positions ys count)
      can_left = can_rows depth count ys ending x.0

      shortest : Shortest q (suc depth)
      shortest = (shortest_is_least q posed depth).0 ending

      pub can_answer : Can (depth + 1) count ≡ outcome_of (answer q (length xs))
      can_answer =
          let room = x.0.room in
          let size = x.5.0 in
          let many = length_positions ys count room in
          let is : answer q (length xs) ≡ can (suc depth) count =
          (answer_right q posed (length xs) (positions ys count) can_left (can (suc depth) count)).1 (omega arith, shortest, sym many) in
          ap (λ (n : ℕ). Can n count) (add-one depth) ∙ ap outcome_of (sym is)

      pub can_backed : Backed ys depth (get_or ys row blank).item
      can_backed = traced_backed ys depth row blank there x.3

      pub can_history : (entry exit : List ℕ) → exit ≡ trail ys depth (get_or ys row blank).item ++ drop (suc depth) entry
          → HistoryLeft q entry exit (Can (depth + 1) count)
      can_history entry exit is =
          let w = traced_path ys depth row blank there x.3 in
          let σ : List ℕ = trail ys depth (get_or ys row blank).item in
          let long : length σ ≡ suc depth = length_trail ys depth (get_or ys row blank).item in
          let continues : Continuation q σ =
          (paths_are_histories q posed σ).1
          (record { steps = depth; from = w.0; to = end; path = w.2.0; starts = w.1; ends = x.4 blank; codes_are = w.2.1 }) in (
            σ,
            record { continues = continues; least = λ τ c. let h = shortest.1 (length τ) (τ, c, refl) in omega arith },
            omega arith,
            is ∙ ap (λ (n : ℕ). σ ++ drop n entry) (sym (add-one depth)),
          )

    module _ (count : ℕ) (x : Searched (Starts q) (Step q) (Ends q) xs ys (Some (found.Cannot count))) where
      none : NoEnd q
      none e n r en = x.1 n e (reached_led q n e r) en

      pub cannot_left : Rows q (positions ys count)
      cannot_left = cannot_rows count ys none x.0

      pub cannot_answer : Cannot count ≡ outcome_of (answer q (length xs))
      cannot_answer =
          let room = x.0.room in
          let size = x.2.0 in
          let many = length_positions ys count room in
          let is : answer q (length xs) ≡ cannot count =
          (answer_right q posed (length xs) (positions ys count) cannot_left (cannot count)).1 (omega arith, (none_is_none q posed).1 none, sym many) in
          ap outcome_of (sym is)

    module _ (depth : ℕ) (x : Outnumbered (Starts q) (Step q) (Ends q) xs ys depth) where
      abbrev all_positions : List Position
      all_positions = positions ys (length ys)

      whole : length ys ≤ length ys
      whole = omega arith

      pub short_distinct : Distinct all_positions
      short_distinct = apart_distinct ys (length ys) whole x.1

      pub short_counted : (e : Position) → In e all_positions → Counted q e
      short_counted e i = within_counted depth e x.3 (x.2 e (in_listed ys (length ys) whole e i))

      pub short_answer : Short (length ys) ≡ outcome_of (answer q (length xs))
      short_answer =
          let ps = counted_finite q posed in
          let p : Position = x.4.0 in
          let size = x.0 in
          let many = length_positions ys (length ys) whole in
          let more = no_longer (p ∷ all_positions) ps.0
          ((λ i. x.4.2 (in_listed ys (length ys) whole p i)), short_distinct)
          (λ e. elim [
            | inl z ↦ (ps.1.all e).1 (subst (Counted q) (sym z) (within_counted depth p x.3 x.4.1))
            | inr i ↦ (ps.1.all e).1 (short_counted e i)
          ]) in
          let is : answer q (length xs) ≡ short (length xs) =
          (answer_right q posed (length xs) ps.0 ps.1 (short (length xs))).1 (omega arith, refl) in
          ap (λ (n : ℕ). Short n) size ∙ ap outcome_of (sym is)
