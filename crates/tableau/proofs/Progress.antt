-- What a search knows once it has the layer at a distance, whatever lists it keeps.
use Rattle.std.proofs.Common.{◌≡◌, ℕ, zero, suc, ◌<◌, ◌≤◌, ◌⊎◌, ◌↔◌, List, [], subst, inl, inr, eq-or-lt_of_le, arith}
use native.Mathlib.Decide.{dec_le}
use Rattle.tableau.specs.Positions.{Position, Question, Starts, Step, Ends, Path, stay, Reached, Distance, NoEnd, LeastEnd, Counted, Rows, In, Distinct}
use Rattle.tableau.proofs.Layers.{closed_reached, reached_by_step, layer_by_layer, counted_if_ends, counted_if_none}
use Rattle.tableau.proofs.Computed.{in?}

-- seen: the positions up to distance d; layer: those at distance d; none before them ends
pub record Progress (q : Question) (d : ℕ) (seen layer : List Position) : Type 0 where
  pub seen_is : (e : Position) → In e seen ↔ ((n : ℕ) × (n ≤ d) × Distance q e n)
  pub layer_is : (e : Position) → In e layer ↔ Distance q e d
  pub no_end : (e : Position) (n : ℕ) → n < d → Distance q e n → ¬ Ends q e
  pub closed : (s e : Position) (n : ℕ) → n < d → Distance q s n → Step q s e → In e seen
  pub distinct : Distinct seen

no_path : (q : Question) {s e : Position} → Path q 0 s e → Starts q s → Starts q e
no_path q stay h = h

module _ (q : Question) where
  -- the starting positions are the first layer
  pub begin : (first : List Position) → Distinct first → ((e : Position) → In e first ↔ Starts q e) → Progress q 0 first first
  begin first apart all = record {
    seen_is = λ e. (
      (λ h. (0, omega arith, (at_start e).0 h)),
      (λ z. let w : z.0 ≡ 0 = omega (arith, z.1) in (at_start e).1 (subst (Distance q e) w z.2)),
    );
    layer_is = at_start;
    no_end = λ e n h di en. omega arith;
    closed = λ s e n h di st. absurd (omega arith);
    distinct = apart;
  }
    where
      at_start : (e : Position) → In e first ↔ Distance q e 0
      at_start e = (
        (λ h. ((e, (all e).0 h, stay), λ m r. omega arith)),
        (λ di. (all e).1 (no_path q di.0.2 di.0.1)),
      )

  reached_seen : (d : ℕ) (seen layer : List Position) → Progress q d seen layer → (n : ℕ) (e : Position) → n ≤ d → Reached q n e → In e seen
  reached_seen d seen layer k zero e h r = (k.seen_is e).1 (0, h, (r, λ m x. omega arith))
  reached_seen d seen layer k (suc n) e h r =
      let u = (reached_by_step q n e).0 r in
      let s = (k.seen_is u.0).0 (reached_seen d seen layer k n u.0 (omega arith) u.1) in
      let l : s.0 ≤ n = s.2.1 n u.1 in
      k.closed u.0 e s.0 (omega arith) s.2 u.2

  -- what is one step from the layer and was not seen is the next layer, where none of the layer ends
  pub advance : (d : ℕ) (seen layer : List Position) → Progress q d seen layer → ((e : Position) → In e layer → ¬ Ends q e)
      → (seen' new : List Position)
      → ((e : Position) → In e new ↔ (((s : Position) × In s layer × Step q s e) × (¬ In e seen)))
      → ((e : Position) → In e seen' ↔ (In e new ⊎ In e seen))
      → Distinct seen'
      → Progress q (suc d) seen' new
  advance d seen layer k none seen' new New-is all apart = record {
    seen_is = λ e. (
      (λ h. elim ((all e).0 h) [
        | inl a ↦ (suc d, omega arith, (at_next e).0 a)
        | inr c ↦ (let z = (k.seen_is e).0 c in (z.0, omega (arith, z.1), z.2))
      ]),
      (λ z. (all e).1 (elim (eq-or-lt_of_le z.1) [
        | inl w ↦ inl ((at_next e).1 (subst (Distance q e) w z.2))
        | inr l ↦ inr ((k.seen_is e).1 (z.0, omega arith, z.2))
      ])),
    );
    layer_is = at_next;
    no_end = λ e n h di en. elim (eq-or-lt_of_le h) [
      | inl w ↦ (let w' : n ≡ d = omega arith in none e ((k.layer_is e).1 (subst (Distance q e) w' di)) en)
      | inr l ↦ k.no_end e n (omega arith) di en
    ];
    closed = λ s e n h di st. (all e).1 (elim (in? e seen) [
      | yes a ↦ inr a
      | no a ↦ inl (elim (eq-or-lt_of_le h) [
        | inl w ↦ (let w' : n ≡ d = omega arith in (New-is e).1 ((s, (k.layer_is s).1 (subst (Distance q s) w' di), st), a))
        | inr l ↦ absurd (a (k.closed s e n (omega arith) di st))
      ])
    ]);
    distinct = apart;
  }
    where
      at_next : (e : Position) → In e new ↔ Distance q e (suc d)
      at_next e = (
        (λ h.
            let f = (New-is e).0 h in
            let g = f.0 in (
              (reached_by_step q d e).1 (g.0, ((k.layer_is g.0).0 g.1).0, g.2),
              λ m r. elim (dec_le (suc d) m) [ yes l ↦ l | no l ↦ absurd (f.1 (reached_seen d seen layer k m e (omega arith) r)) ],
            )),
        (λ di.
            let p = layer_by_layer q d e di in
            (New-is e).1 (
              (p.0, (k.layer_is p.0).1 p.1, p.2),
              λ h. let z = (k.seen_is e).0 h in omega (arith, z.1, di.1 z.0 z.2.0),
            )),
      )

  -- a layer with a position that ends is the last: what was seen is counted
  pub end_found : (d : ℕ) (seen layer : List Position) → Progress q d seen layer → (e : Position) → In e layer → Ends q e
      → LeastEnd q d × Rows q seen
  end_found d seen layer k e i en = (
    le,
    record {
      apart = k.distinct;
      all = λ x. (
        (λ h. let z = (k.seen_is x).0 h in (counted_if_ends q d le x).1 (z.0, z.2, z.1)),
        (λ c. let z = (counted_if_ends q d le x).0 c in (k.seen_is x).1 (z.0, z.2, z.1)),
      );
    },
  )
    where
      le : LeastEnd q d
      le = (
        (e, en, (k.layer_is e).0 i),
        λ x n en' di. elim (dec_le d n) [ yes l ↦ l | no l ↦ absurd (k.no_end x n (omega arith) di en') ],
      )

  -- an empty layer is the last: no position ends, and what was seen is counted
  pub exhausted : (d : ℕ) (seen : List Position) → Progress q d seen [] → NoEnd q × Rows q seen
  exhausted d seen k = (
    none,
    record {
      apart = k.distinct;
      all = λ x. (
        (λ h. let z = (k.seen_is x).0 h in (counted_if_none q none x).1 (z.0, z.2)),
        (λ c. all_seen c.0 x c.1.0),
      );
    },
  )
    where
      early : (s : Position) → In s seen → (n : ℕ) × (n < d) × Distance q s n
      early s h =
          let z = (k.seen_is s).0 h in (
            z.0,
            elim (eq-or-lt_of_le z.1) [
              | inl e ↦ absurd ((k.layer_is s).1 (subst (Distance q s) e z.2))
              | inr l ↦ l
            ],
            z.2,
          )

      all_seen : (n : ℕ) (e : Position) → Reached q n e → In e seen
      all_seen =
          closed_reached q (λ s. In s seen)
          (λ s st. reached_seen d seen [] k 0 s (omega arith) (s, st, stay))
          (λ s s' h st. let z = early s h in k.closed s s' z.0 z.1 z.2 st)

      none : NoEnd q
      none e n r en = let z = early e (all_seen n e r) in k.no_end e z.0 z.1 z.2 en

  -- what was seen is counted, though it may not be all
  pub seen_counted : (d : ℕ) (seen layer : List Position) → Progress q d seen layer → (e : Position) → In e seen → Counted q e
  seen_counted d seen layer k e i =
      let z = (k.seen_is e).0 i in (
        z.0,
        z.2,
        λ d' le. elim (dec_le d d') [
          | yes l ↦ omega (arith, z.1)
          | no l ↦ absurd (k.no_end le.0.0 d' (omega arith) le.0.2 le.0.1)
        ],
      )
