-- The ways on from a state.
use Rattle.std.proofs.Common.{◌≡◌, ℕ, suc, ◌^◌, ◌<◌, Bool, ◌⊎◌, List, length, get_or, Some, None, Option, refl, subst, inl, inr, arith}
use mathlib.Core.Path.{subst⁻¹}
use native.Mathlib.Decide.{ℕ_discrete}
use lib.Bits.{bit_or, or_zero_l}
use Rattle.ltlf.specs.Contents.{Contents, Proper}
use Rattle.intern.specs.declared.cell.Cell.{Cell}
use Rattle.judge.specs.Formulas.{node_at}
use Rattle.tableau.specs.Labels.{◌∈◌}
use Rattle.tableau.specs.Expansion.{Side, parts, handed_on, member, part}
use Rattle.tableau.proofs.Masks.{bit_has, zero_has}
use Rattle.tableau.proofs.Steps.{part_before}
use Rattle.viability.specs.declared.offer.Offer.{Offer}
use Rattle.viability.specs.Moments.{Moment, HandsOn, moment}
use Rattle.viability.specs.Offers.{Inside, Under, Without}
use Rattle.viability.specs.Viable.{Fits, known_part, Tells}
use Rattle.viability.proofs.Bits.{in_or, in_or_left, in_or_right, label_has}
use Rattle.viability.proofs.Shown.{hands_shown}
use Rattle.viability.proofs.Viability.{sound_inside}
use Rattle.successors.specs.declared.label.NextLabel.{NextLabel}
use Rattle.successors.specs.declared.guide.Guide.{Guide}
use Rattle.successors.specs.declared.ways.Ways.{Ways}
use Rattle.successors.specs.Guides.{no_guide, reach_at, must_at, Guided}
use Rattle.successors.specs.Cells.{Filled}
use Rattle.successors.specs.Handing.{Hands, Moves, Top, ListsNext}
use Rattle.successors.specs.Ways.{LikeSide, WayOn, WaysOn, Gathers}
use Rattle.successors.proofs.Handing.{under_moves, hands_down, hands_up, hands_none, hands_start}
use Rattle.successors.proofs.Dropping.{Union, Forced, hands_drop, hands_add, hands_force}
use Rattle.successors.proofs.Filling.{under_less, under_rest, same_offer, no_offer}
use Rattle.successors.proofs.Growing.{filled_like, filled_twice, filled_short, filled_there, taken_none, lists}

abbrev Cells : Type 0
Cells = List (Cell NextLabel)

module _ {w : Moment} {b : Contents} {V : ℕ} {gs : List Guide} (gd : Guided w b V gs) where
  -- viable members are formulas of the book
  pub under_all : (S : ℕ) → Inside S V → Under S (length b.nodes)
  under_all S ins f m = ((gd.viable f).0 (ins f m)).0

  -- nothing is open
  pub filled_zero : (S N : ℕ) → S ≡ 0 → (xs ys : Cells) (n : ℕ) (r : Option ℕ) → Filled (λ q. q ≡ N) xs ys n r → Filled (Hands w b S N) xs ys n r
  filled_zero S N e xs ys n r v =
      let un : Under S 0 = λ f m. absurd (zero_has f (subst (λ (x : ℕ). f ∈ x) e m)) in
      filled_like (λ q. q ≡ N) (Hands w b S N) xs ys n r
      (λ q. (hands_none w b gd.proper S N q un).1) (λ q. (hands_none w b gd.proper S N q un).0) v

  -- what the members P of S hand on whatever is chosen is put in
  filled_force : (S P N u : ℕ) → Inside S V → Inside P S → Gathers (must_at gs) P u → (xs ys : Cells) (n : ℕ) (r : Option ℕ)
      → Filled (Hands w b S (bit_or N u)) xs ys n r → Filled (Hands w b S N) xs ys n r
  filled_force S P N u ins part_of ga xs ys n r v =
      let un = under_all S ins in
      let fo : Forced (must_at gs) S N (bit_or N u) = record {
        kept = in_or_left N u;
        new = λ g m. elim (in_or N u g m) [ inl x ↦ inl x | inr x ↦ (let p = (ga g).0 x in inr (p.0, (part_of p.0 p.1.0, p.1.1))) ];
      } in
      filled_like (Hands w b S (bit_or N u)) (Hands w b S N) xs ys n r
      (λ q. (hands_force w b gd.proper V gd.viable (must_at gs) gd.guides_are.musts S N (bit_or N u) q un fo).1)
      (λ q. (hands_force w b gd.proper V gd.viable (must_at gs) gd.guides_are.musts S N (bit_or N u) q un fo).0)
      v

  -- from the start, with nothing handed on yet
  pub filled_begin : (S u : ℕ) → Inside S V → Gathers (must_at gs) S u → (xs ys : Cells) (n : ℕ) (r : Option ℕ)
      → Filled (Hands w b S u) xs ys n r → Filled (HandsOn w b S) xs ys n r
  filled_begin S u ins ga xs ys n r v =
      filled_like (Hands w b S 0) (HandsOn w b S) xs ys n r
      (λ q. (hands_start w b gd.proper S q).0) (λ q. (hands_start w b gd.proper S q).1)
      (filled_force S S 0 u ins (λ f m. m) ga xs ys n r (subst⁻¹ (λ (z : ℕ). Filled (Hands w b S z) xs ys n r) (or_zero_l u) v))

-- the greatest member of a viable label, taken off
pub record Opened (w : Moment) (b : Contents) (V : ℕ) (gs : List Guide) (S k rest : ℕ) : Type 0 where
  pub guided : Guided w b V gs
  pub viable : Inside S V
  pub top : Top S k
  pub off : Without S k rest

pub opened : {w : Moment} {b : Contents} {V : ℕ} {gs : List Guide} {S k : ℕ} → Guided w b V gs → Inside S V → Top S k → (rest : ℕ) → Without S k rest
    → Opened w b V gs S k rest
opened gd ins tp rest off = record { guided = gd; viable = ins; top = tp; off = off }

module _ {w : Moment} {b : Contents} {V : ℕ} {gs : List Guide} {S k rest : ℕ} (st : Opened w b V gs S k rest) where
  pub inside_rest : Inside rest V
  inside_rest f m = st.viable f ((st.off f).0 m).0

  pub less_rest : rest < S
  less_rest = under_less S k rest st.top (under_rest S k rest st.top st.off)

  pub below_all : k < length b.nodes
  below_all = under_all st.guided S st.viable k st.top.within

  -- the greatest member is dropped
  pub filled_drop : (N : ℕ) → Inside (reach_at gs k) N → (xs ys : Cells) (n : ℕ) (r : Option ℕ)
      → Filled (Hands w b rest N) xs ys n r → Filled (Hands w b S N) xs ys n r
  filled_drop N idle xs ys n r v =
      let un = under_all st.guided S st.viable in
      let u : Union rest (2 ^ k) S =
      λ f. (
        (λ m. elim (ℕ_discrete f k) [ yes z ↦ inr ((bit_has f k).1 z) | no ne ↦ inl ((st.off f).1 (m, ne)) ]),
        elim [ inl m ↦ ((st.off f).0 m).0 | inr m ↦ subst⁻¹ (λ (y : ℕ). y ∈ S) ((bit_has f k).0 m) st.top.within ],
      ) in
      let id : (f : ℕ) → f ∈ 2 ^ k → (g : ℕ) → g ∈ reach_at gs f → g ∈ N =
      λ f m g h. idle g (subst (λ (y : ℕ). g ∈ reach_at gs y) ((bit_has f k).0 m) h) in
      filled_like (Hands w b rest N) (Hands w b S N) xs ys n r
      (λ q. hands_add w b st.guided.proper V st.guided.viable (reach_at gs) st.guided.guides_are.reaches (length b.nodes) rest (2 ^ k) S N q (omega arith) un u
      (λ f m. subst⁻¹ (λ (y : ℕ). y ∈ V) ((bit_has f k).0 m) (st.viable k st.top.within)) id)
      (λ q. hands_drop w b st.guided.proper V st.guided.viable (reach_at gs) st.guided.guides_are.reaches rest (2 ^ k) S N q un u id)
      v

  moves : (N : ℕ) (s : Side) (o : Offer) → LikeSide b k s o → Moves b k s S N (bit_or rest o.parts) (bit_or N o.handed)
  moves N s o l = record {
    opened = λ f. (
      (λ m. elim (in_or rest o.parts f m) [
        | inl x ↦ inl ((st.off f).0 x)
        | inr x ↦ inr ((label_has f (parts (node_at b k) s)).0 (subst (λ (y : ℕ). f ∈ y) l.0 x))
      ]),
      elim [
        | inl p ↦ in_or_left rest o.parts f ((st.off f).1 p)
        | inr a ↦ in_or_right rest o.parts f (subst⁻¹ (λ (y : ℕ). f ∈ y) l.0 ((label_has f (parts (node_at b k) s)).1 a))
      ],
    );
    handed = λ g. (
      (λ m. elim (in_or N o.handed g m) [
        | inl x ↦ inl x
        | inr x ↦ inr ((label_has g (handed_on k (node_at b k) s)).0 (subst (λ (y : ℕ). g ∈ y) l.1 x))
      ]),
      elim [
        | inl x ↦ in_or_left N o.handed g x
        | inr a ↦ in_or_right N o.handed g (subst⁻¹ (λ (y : ℕ). g ∈ y) l.1 ((label_has g (handed_on k (node_at b k) s)).1 a))
      ],
    );
  }

  module _ (o : Offer) (way : WayOn w b V k o) where
    pub less_next : bit_or rest o.parts < S
    less_next =
        under_less S k (bit_or rest o.parts) st.top
        (under_moves w b st.guided.proper k way.0 S 0 (bit_or rest o.parts) (bit_or 0 o.handed) st.top.under (moves 0 way.0 o way.1.1))

    pub inside_next : Inside (bit_or rest o.parts) V
    inside_next f m = elim (in_or rest o.parts f m) [
      | inl x ↦ inside_rest f x
      | inr x ↦ way.1.0.1 f ((label_has f (parts (node_at b k) way.0)).0 (subst (λ (y : ℕ). f ∈ y) way.1.1.0 x))
    ]

    to : (N q : ℕ) → Hands w b (bit_or rest o.parts) (bit_or N o.handed) q → Hands w b S N q
    to N q h =
        hands_up w b st.guided.proper k way.0 S N (bit_or rest o.parts) (bit_or N o.handed) q st.top.under st.top.within
        (moves N way.0 o way.1.1) way.1.0.0 h

    -- a way on, with what its parts hand on whatever is chosen put in
    pub filled_way : (N u : ℕ) → Gathers (must_at gs) o.parts u → (xs ys : Cells) (n : ℕ) (r : Option ℕ)
        → Filled (Hands w b (bit_or rest o.parts) (bit_or (bit_or N o.handed) u)) xs ys n r
        → Filled (Hands w b (bit_or rest o.parts) (bit_or N o.handed)) xs ys n r
    filled_way N u ga xs ys n r v =
        filled_force st.guided (bit_or rest o.parts) o.parts (bit_or N o.handed) u inside_next (in_or_right rest o.parts) ga xs ys n r v

  -- the choice's side of the greatest member fits
  choice_fits : (N q : ℕ) (h : Hands w b S N q) → Fits w b V k (h.choice k)
  choice_fits N q h = (
    h.sound k (member st.top.within),
    λ g a.
        let l : g < k = part_before b st.guided.proper k (h.choice k) g a in
        let l' : k < length b.nodes = below_all in
        sound_inside w b st.guided.proper V st.guided.viable h.choice S h.sound (suc g) g (omega arith) (omega arith) (part (member st.top.within) a),
  )

  module _ (on : Ways) (is : WaysOn w b V k on) (N : ℕ) where
    abbrev After : Offer → ℕ → Type 0
    After o q = Hands w b (bit_or rest o.parts) (bit_or N o.handed) q

    from : (q : ℕ) → Hands w b S N q → After on.first q ⊎ ((o : Offer) × ((on.second ≡ Some o) × After o q))
    from q h = elim (is.no_third (h.choice k) (choice_fits N q h)) [
      | inl l ↦ inl (down on.first l)
      | inr p ↦ inr (p.0, (p.1.0, down p.0 p.1.1))
    ]
      where
        down : (o : Offer) → LikeSide b k (h.choice k) o → After o q
        down o l =
            (hands_down w b st.guided.proper k (h.choice k) S N (bit_or rest o.parts) (bit_or N o.handed) q h refl st.top.within
            (moves N (h.choice k) o l)).1

    pub filled_one : on.second ≡ None → (xs ys : Cells) (n : ℕ) (r : Option ℕ) → Filled (After on.first) xs ys n r → Filled (Hands w b S N) xs ys n r
    filled_one no-fork xs ys n r v =
        filled_like (After on.first) (Hands w b S N) xs ys n r
        (to on.first is.first_is N)
        (λ q h. elim (from q h) [ inl x ↦ x | inr p ↦ absurd (no_offer on.second p.0 no-fork p.1.0) ])
        v

    pub filled_both : (o : Offer) → on.second ≡ Some o → (xs ys zs : Cells) (n m : ℕ) (r : Option ℕ)
        → Filled (After on.first) xs ys n (Some m) → Filled (After o) ys zs m r → Filled (Hands w b S N) xs zs n r
    filled_both o fork xs ys zs n m r v u =
        filled_twice (After on.first) (After o) (Hands w b S N) xs ys zs n m r
        (to on.first is.first_is N) (to o (is.second_is o fork) N)
        (λ q h. elim (from q h) [ inl x ↦ inl x | inr p ↦ inr (subst (λ (x : Offer). After x q) (same_offer on.second p.0 o p.1.0 fork) p.1.1) ])
        v u

    pub filled_stop : (xs ys : Cells) (n : ℕ) → Filled (After on.first) xs ys n None → Filled (Hands w b S N) xs ys n None
    filled_stop xs ys n v = filled_short (After on.first) (Hands w b S N) xs ys n (to on.first is.first_is N) v

  -- the ways that stand in the guide
  pub ways_read : (g : Guide) → ((d : Guide) → get_or gs k d ≡ g) → WaysOn w b V k g.ways
  ways_read g e =
      let v = (st.guided.viable k).0 (st.viable k st.top.within) in
      subst (λ (x : Guide). WaysOn w b V k x.ways) (e g) (st.guided.guides_are.ways_are k v.0 v.1.0 v.1.1 g)

  -- what the guide can hand on is what its formula can
  pub idle_read : (g : Guide) (N : ℕ) → ((d : Guide) → get_or gs k d ≡ g) → Inside g.span.reach N → Inside (reach_at gs k) N
  idle_read g N e idle = subst⁻¹ (λ (x : Guide). Inside x.span.reach N) (e no_guide) idle

-- the empty label hands on the empty label alone
pub filled_empty : (w : Moment) (b : Contents) → Proper b → (S : ℕ) → S ≡ 0 → (xs ys : Cells) (n : ℕ) (r : Option ℕ)
    → Filled (λ q. q ≡ 0) xs ys n r → Filled (HandsOn w b S) xs ys n r
filled_empty w b pr S e xs ys n r v =
    let un : Under S 0 = λ f m. absurd (zero_has f (subst (λ (x : ℕ). f ∈ x) e m)) in
    filled_like (λ q. q ≡ 0) (HandsOn w b S) xs ys n r
    (λ q z. (hands_start w b pr S q).0 ((hands_none w b pr S 0 q un).1 z))
    (λ q h. (hands_none w b pr S 0 q un).0 ((hands_start w b pr S q).1 h))
    v

-- AT EVERY MOMENT THAT THE MASK SHOWS

module _ (b : Contents) (pr : Proper b) (truth : ℕ) (last : Bool) (L K : ℕ) (is : K ≡ known_part b L) (xs ys : Cells) (r : Option ℕ) where
  pub lists_next : Filled (HandsOn (moment truth last) b K) xs ys 0 r → ListsNext b truth last L xs ys r
  lists_next v w sh =
      let here : Filled (HandsOn (moment truth last) b (known_part b L)) xs ys 0 r =
      subst (λ (x : ℕ). Filled (HandsOn (moment truth last) b x) xs ys 0 r) is v in
      let shown = hands_shown b pr truth last w sh (known_part b L) in
      lists (HandsOn w b (known_part b L)) xs ys r
      (filled_like (HandsOn (moment truth last) b (known_part b L)) (HandsOn w b (known_part b L)) xs ys 0 r
      (λ q. (shown q).0) (λ q. (shown q).1) here)

-- no choice is sound
pub lists_never : (b : Contents) (truth : ℕ) (last : Bool) (V L K : ℕ) → Tells b truth last V → K ≡ known_part b L → (Inside K V → ⊥)
    → (xs : Cells) → ListsNext b truth last L xs xs (Some 0)
lists_never b truth last V L K te is out xs w sh =
    lists (HandsOn w b (known_part b L)) xs xs (Some 0)
    (filled_there (HandsOn w b (known_part b L)) xs 0 (taken_none xs)
    (λ q h. absurd (out (subst⁻¹ (λ (x : ℕ). Inside x V) is ((te.sound w sh L).0 (h.0, h.1.0))))))
