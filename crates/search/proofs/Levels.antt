-- What holds where a layer begins.
use Rattle.std.proofs.Common.{◌≡◌, ℕ, zero, suc, ◌+◌, ◌<◌, ◌≤◌, List, length, get_or, Some, None, sym, refl, ap, ◌∙◌, subst, ⊎_elim, add-one, arith}
use Rattle.std.proofs.lemmas.Bool.{cases_lt}
use Rattle.intern.specs.declared.cell.Cell.{Cell}
use Rattle.tableau.specs.Positions.{Position}
use Rattle.search.specs.declared.row.Row.{Row}
use Rattle.search.specs.declared.layers.Found.TheVariants.{Can, Cannot}
use Rattle.search.specs.Rows.{position}
use Rattle.search.specs.Layers.{held, Listed, Apart, IndexedRows, Grown, After, Came, Spread, FoundIn, LedTo, Within, Unended, Traced, Searched}
use Rattle.search.proofs.Entering.{indexed_apart}
use Rattle.search.proofs.Lists.{blank, listed_split, listed_wider, listed_kept, listed_new, SameRows}

pub record Level (I : Position → Type 0) (S : Position → Position → Type 0) (E : Position → Type 0) (xs ys : List (Cell Row)) (start filled depth : ℕ) : Type 0 where
  pub order : start ≤ filled
  pub counted : depth ≤ start
  pub size : length ys ≡ length xs
  pub rest : (k : ℕ) (d : Cell Row) → filled ≤ k → get_or ys k d ≡ get_or xs k d
  pub room : filled ≤ length ys
  pub sound : (p : Position) → Listed ys 0 filled p → Within I S depth p
  pub whole : (j : ℕ) (q : Position) → j ≤ depth → LedTo I S j q → Listed ys 0 filled q
  pub before : (j : ℕ) (q : Position) → j < depth → LedTo I S j q → Listed ys 0 start q
  pub passed : (p : Position) → Listed ys 0 start p → E p → ⊥
  pub newest : (p : Position) → Listed ys start filled p → LedTo I S depth p
  pub expanded : (p q : Position) → Listed ys 0 start p → S p q → Listed ys 0 filled q
  pub indexed : IndexedRows ys filled
  pub traced : (k : ℕ) → start ≤ k → k < filled → Traced I S ys depth k

module _ (I : Position → Type 0) (S : Position → Position → Type 0) (E : Position → Type 0) where
  reached_zero : (j : ℕ) (q : Position) → j ≤ 0 → LedTo I S j q → I q
  reached_zero zero q h r = r
  reached_zero (suc j) q h r = absurd (omega arith)

  -- what was traced stays so while the rows below b are kept
  traced_kept : (xs ys : List (Cell Row)) (b : ℕ) → SameRows xs ys b → (n k : ℕ) → k < b → Traced I S xs n k → Traced I S ys n k
  traced_kept xs ys b same zero k lt t = λ d. subst I (sym (ap position (same k d lt))) (t d)
  traced_kept xs ys b same (suc n) k lt t = λ d.
      let from : ℕ = (get_or xs k d).item.from in
      let back : from < k = (t d).0 in
      let less : from < b = omega arith in
      subst (λ (r : Row). (r.from < k) × S (held ys r.from d) (position r) × Traced I S ys n r.from) (sym (same k d lt)) (
        back,
        subst (λ (p : Position). S p (held xs k d)) (sym (ap position (same from d less))) (t d).1,
        traced_kept xs ys b same n from less (t d).2,
      )

  pub level_first : (F : Row → Type 0) (xs ys : List (Cell Row)) (n : ℕ) → Spread F I xs ys 0 (Some n) → Level I S E ys ys 0 n 0
  level_first F xs ys n (g, whole) =
      record {
        order = omega arith;
        counted = omega arith;
        size = refl;
        rest = λ k d h. refl;
        room = g.room;
        sound = λ p l. (0, omega arith, (listed_new F I xs ys 0 n g p l, λ m r. omega arith));
        whole = λ j p h r. whole p (reached_zero j p h r);
        before = λ j q h r. absurd (omega (arith, h));
        passed = λ p l e. absurd (omega (arith, l.1, l.2));
        newest = λ p l. listed_new F I xs ys 0 n g p l;
        expanded = λ p q l s. absurd (omega (arith, l.1, l.2));
        indexed = g.indexed;
        traced = λ k lo hi d. (g.new k d lo hi).1;
      }

  -- what n + 1 steps lead to, from n
  reached_more : (n : ℕ) (p q : Position) → LedTo I S n p → S p q → LedTo I S (n + 1) q
  reached_more n p q r s = subst (λ (k : ℕ). LedTo I S k q) (sym (add-one n)) (p, r, s)

  -- n + 1 steps, taken apart
  reached_last : (n j : ℕ) (q : Position) → j ≡ n + 1 → LedTo I S j q → (p : Position) × LedTo I S n p × S p q
  reached_last n j q e r = subst (λ (k : ℕ). LedTo I S k q) (e ∙ add-one n) r

  -- a new row is traced to the layer from which it came
  traced_more : (ys zs : List (Cell Row)) (start filled depth k : ℕ) → SameRows ys zs filled → filled ≤ k
      → ((j : ℕ) → start ≤ j → j < filled → Traced I S ys depth j)
      → ((d : Cell Row) → Came S ys start filled (get_or zs k d).item) → Traced I S zs (depth + 1) k
  traced_more ys zs start filled depth k same hi old came =
      subst (λ (n : ℕ). Traced I S zs n k) (sym (add-one depth)) (λ d.
      let r = (get_or zs k d).item in
      let c = came d in
      let low : start ≤ r.from = c.0 in
      let less : r.from < filled = c.1 in (
        omega arith,
        subst (λ (p : Position). S p (position r)) (sym (ap position (same r.from d less))) (c.2 d),
        traced_kept ys zs filled same depth r.from less (old r.from low less),
      ))

  -- a position at the next distance that was not there before has that distance
  first_there : (xs ys : List (Cell Row)) (start filled depth : ℕ) → Level I S E xs ys start filled depth
      → (p : Position) → LedTo I S (depth + 1) p → (Listed ys 0 filled p → ⊥) → Within I S (depth + 1) p
  first_there xs ys start filled depth v p r absent = (
    depth + 1,
    omega arith,
    (
      r,
      λ m other.
          ⊎_elim
          (λ (h : m < depth + 1). absurd (absent (v.whole m p (omega arith) other)))
          (λ (h : depth + 1 ≤ m). h)
          (cases_lt m (depth + 1)),
    ),
  )

  -- no position stands in two ranges of indexed cells
  not_twice : (zs : List (Cell Row)) (n m : ℕ) (p : Position) → IndexedRows zs m → Listed zs 0 n p → Listed zs n m p → ⊥
  not_twice zs n m p ix (i, lo, hi, is) (j, from, to, at) =
      indexed_apart zs m ix i j blank (omega arith) to (is blank ∙ sym (at blank))

  pub level_next : (xs ys zs : List (Cell Row)) (start filled depth m : ℕ) → start < filled → Level I S E xs ys start filled depth → FoundIn E ys start filled None
      → Spread (Came S ys start filled) (After S ys start filled) ys zs filled (Some m) → Level I S E xs zs filled m (depth + 1)
  level_next xs ys zs start filled depth m lt v none (g, all) =
      let new : (p : Position) → Listed zs filled m p → LedTo I S (depth + 1) p =
      λ p l.
      let a = listed_new (Came S ys start filled) (After S ys start filled) ys zs filled m g p l in
      reached_more depth a.0 p (v.newest a.0 a.1) a.2 in
      let back : (p : Position) → Listed zs 0 filled p → Listed ys 0 filled p =
      λ p l. listed_kept zs ys 0 filled p (λ k d h. sym (g.kept k d h)) l in
      let on : (p : Position) → Listed ys 0 filled p → Listed zs 0 filled p =
      λ p l. listed_kept ys zs 0 filled p g.kept l in
      let wide : (p : Position) → Listed zs 0 filled p → Listed zs 0 m p =
      λ p l. listed_wider zs 0 filled 0 m p (omega arith) g.rises l in
      let follows : (p q : Position) → Listed ys 0 filled p → S p q → Listed zs 0 m q =
      λ p q l s.
      ⊎_elim
      (λ old. wide q (on q (v.expanded p q old s)))
      (λ now'. all q (p, now', s))
      (listed_split ys 0 start filled p l) in
      let unended : (p : Position) → Listed ys 0 filled p → E p → ⊥ =
      λ p l e. ⊎_elim (λ old. v.passed p old e) (λ now'. none p now' e) (listed_split ys 0 start filled p l) in
      record {
        order = g.rises;
        counted = omega (arith, v.counted);
        size = g.size ∙ v.size;
        rest = λ k d h. g.rest k d h ∙ v.rest k d (omega (arith, g.rises));
        room = g.room;
        sound = λ p l.
            ⊎_elim
            (λ old. let w = v.sound p (back p old) in (w.0, omega (arith, w.1), w.2))
            (λ now'. first_there xs ys start filled depth v p (new p now') (λ old. not_twice zs filled m p g.indexed (on p old) now'))
            (listed_split zs 0 filled m p l);
        whole = λ j q h r.
            ⊎_elim
            (λ (less : j < depth + 1). wide q (on q (v.whole j q (omega arith) r)))
            (λ (more : depth + 1 ≤ j).
            let a = reached_last depth j q (omega arith) r in
            follows a.0 q (v.whole depth a.0 (omega arith) a.1) a.2)
            (cases_lt j (depth + 1));
        before = λ j q h r. on q (v.whole j q (omega (arith, h)) r);
        passed = λ p l e. unended p (back p l) e;
        newest = new;
        expanded = λ p q l s. follows p q (back p l) s;
        indexed = g.indexed;
        traced = λ k lo hi. traced_more ys zs start filled depth k g.kept lo v.traced (λ d. (g.new k d lo hi).0);
      }

  -- no position nearer than the layer ends
  level_unended : (xs ys : List (Cell Row)) (start filled depth : ℕ) → Level I S E xs ys start filled depth → Unended I S E depth
  level_unended xs ys start filled depth v j q h r e = v.passed q (v.before j q h r) e

  pub level_can : (xs ys : List (Cell Row)) (start filled depth i : ℕ) → Level I S E xs ys start filled depth → FoundIn E ys start filled (Some i)
      → Searched I S E xs ys (Some (Can i filled depth))
  level_can xs ys start filled depth i v (lo, hi, e) = (
    record {
      room = v.room;
      sound = v.sound;
      whole = λ p w. v.whole w.0 p w.1 w.2.0;
      apart = indexed_apart ys filled v.indexed;
    },
    level_unended xs ys start filled depth v,
    hi,
    v.traced i lo hi,
    e,
    (v.size, v.rest),
    omega (arith, v.counted),
  )

  -- where the last layer is empty, what is listed is all
  all_listed : (xs ys : List (Cell Row)) (start filled depth : ℕ) → filled ≤ start → Level I S E xs ys start filled depth → (j : ℕ) (q : Position) → LedTo I S j q → Listed ys 0 filled q
  all_listed xs ys start filled depth h v zero q r = v.whole 0 q (omega arith) r
  all_listed xs ys start filled depth h v (suc j) q (p, r, s) =
      v.expanded p q (listed_wider ys 0 filled 0 start p (omega arith) h (all_listed xs ys start filled depth h v j p r)) s

  pub level_cannot : (xs ys : List (Cell Row)) (start filled depth : ℕ) → filled ≤ start → Level I S E xs ys start filled depth → Searched I S E xs ys (Some (Cannot filled))
  level_cannot xs ys start filled depth h v = (
    record {
      room = v.room;
      sound = λ p l. let w = v.sound p l in (w.0, w.2);
      whole = λ p w. all_listed xs ys start filled depth h v w.0 p w.1.0;
      apart = indexed_apart ys filled v.indexed;
    },
    (λ j q r e. v.passed q (listed_wider ys 0 filled 0 start q (omega arith) h (all_listed xs ys start filled depth h v j q r)) e),
    (v.size, v.rest),
  )

  pub level_short : (xs ys zs : List (Cell Row)) (start filled depth : ℕ) → start < filled → Level I S E xs ys start filled depth → FoundIn E ys start filled None
      → Spread (Came S ys start filled) (After S ys start filled) ys zs filled None → Searched I S E xs zs None
  level_short xs ys zs start filled depth lt v none (g, (q, a, absent)) =
      let e : length ys ≡ length zs = sym g.size in
      let new : (p : Position) → After S ys start filled p → LedTo I S (depth + 1) p =
      λ p b. reached_more depth b.0 p (v.newest b.0 b.1) b.2 in
      let on : (p : Position) → Listed ys 0 filled p → Listed zs 0 filled p =
      λ p l. listed_kept ys zs 0 filled p g.kept l in
      let up : filled ≤ length ys = g.rises in
      let to : (p : Position) → Listed zs filled (length zs) p → Listed zs filled (length ys) p =
      λ p l. listed_wider zs filled (length zs) filled (length ys) p (omega arith) (omega (arith, e)) l in (
        depth + 1,
        (
          g.size ∙ v.size,
          subst (Apart zs) e (indexed_apart zs (length ys) g.indexed),
          (λ p l.
              ⊎_elim
              (λ old. let w = v.sound p (listed_kept zs ys 0 filled p (λ k d h. sym (g.kept k d h)) old) in (w.0, omega (arith, w.1), w.2))
              (λ now'.
              first_there xs ys start filled depth v p
              (new p (listed_new (Came S ys start filled) (After S ys start filled) ys zs filled (length ys) g p (to p now')))
              (λ old. not_twice zs filled (length ys) p g.indexed (on p old) (to p now')))
              (listed_split zs 0 filled (length zs) p l)),
          (λ j q' h r x.
              ⊎_elim
              (λ old. v.passed q' old x)
              (λ now'. none q' now' x)
              (listed_split ys 0 start filled q' (v.whole j q' (omega (arith, h)) r))),
          (
            q,
            first_there xs ys start filled depth v q (new q a)
                (λ old. absent (listed_wider zs 0 filled 0 (length ys) q (omega arith) up (on q old))),
            λ l. absent (listed_wider zs 0 (length zs) 0 (length ys) q (omega arith) (omega (arith, e)) l),
          ),
        ),
      )

  pub begin_short : (F : Row → Type 0) (xs ys : List (Cell Row)) → Spread F I xs ys 0 None → Searched I S E xs ys None
  begin_short F xs ys (g, (q, a, absent)) =
      let e : length xs ≡ length ys = sym g.size in (
        0,
        (
          g.size,
          subst (Apart ys) e (indexed_apart ys (length xs) g.indexed),
          (λ p l.
              (0, omega arith, (listed_new F I xs ys 0 (length xs) g p (listed_wider ys 0 (length ys) 0 (length xs) p (omega arith) (omega (arith, e)) l), λ m r. omega arith))),
          (λ j q' h r x. absurd (omega (arith, h))),
          (q, (0, omega arith, (a, λ m r. omega arith)), λ l. absent (listed_wider ys 0 (length ys) 0 (length xs) q (omega arith) (omega (arith, e)) l)),
        ),
      )

  -- the rows before the starting positions were entered, in place of those after
  pub level_from : (F : Row → Type 0) (xs₀ xs ys : List (Cell Row)) (n start filled depth : ℕ) → Grown (λ r. F r × I (position r)) xs₀ xs 0 n → n ≤ filled
      → Level I S E xs ys start filled depth → Level I S E xs₀ ys start filled depth
  level_from F xs₀ xs ys n start filled depth g h v =
      record {
        order = v.order;
        counted = v.counted;
        size = v.size ∙ g.size;
        rest = λ k d ge. v.rest k d ge ∙ g.rest k d (omega arith);
        room = v.room;
        sound = v.sound;
        whole = v.whole;
        before = v.before;
        passed = v.passed;
        newest = v.newest;
        expanded = v.expanded;
        indexed = v.indexed;
        traced = v.traced;
      }
