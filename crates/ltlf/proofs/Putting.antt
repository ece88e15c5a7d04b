-- Putting a formula, by the slot that it gets.
use Rattle.std.proofs.Common.{◌≡◌, ℕ, ◌+◌, ◌^◌, ◌<◌, ◌≤◌, true, false, cond, ltb, List, [], ◌∷◌, length, get_or, Some, None, Ok, Err, Option, sym, ap, ◌∙◌, inl, inr, arith}
use Rattle.std.proofs.lemmas.List.{get_or_append_left, get_or_push}
use Rattle.std.proofs.lemmas.Bool.{cond-true, cond-false, and_parts, and_cases, ltb-true, ltb-false, lt-ltb, le-ltb, cases_eq}
use Rattle.refusal.specs.declared.Refusal.TheVariants.{Unknown, TooManyFormulas}
use Rattle.intern.specs.declared.cell.Cell.{Cell}
use Rattle.intern.specs.declared.EntryError.{EntryError}
use Rattle.intern.specs.declared.EntryError.TheVariants.{Broken}
use Rattle.intern.specs.declared.Slot.TheVariants.{Found, Added}
use Rattle.intern.specs.Entry.{room}
use Rattle.intern.specs.Index.{items, place}
use Rattle.intern.specs.Settled.{Settled}
use Rattle.intern.proofs.Places.{length_items}
use Rattle.intern.proofs.Slots.{slot_found, slot_added, slot_refused, slot_broken, place_below}
use Rattle.ltlf.specs.Nodes.{known, same, node_turn}
use Rattle.ltlf.specs.Contents.{Contents, numbered, put_answer, with_new, put_leaves}
use Rattle.ltlf.specs.declared.node.Node.{Node}
use Rattle.ltlf.specs.declared.node.Node.TheVariants.{True}

room_left : (n : ℕ) (len : ℕ) → room n len ≡ true → n < len
room_left n len h = ltb-true n len (and_parts (ltb n len) (ltb n (2 ^ 32)) h).0

no_room : (n len : ℕ) → n ≤ 64 → room n len ≡ false → len ≤ n
no_room n len few h = elim (and_cases (ltb n len) (ltb n (2 ^ 32)) h) [
  | inl e ↦ ltb-false n len e
  | inr e ↦ absurd (omega (arith, ltb-false n (2 ^ 32) e))
]

module _ (codes atoms : ℕ) (rules : List ℕ) (cells : List (Cell Node)) (n : ℕ) (node : Node) (full : length cells ≡ 64) (few : n ≤ 64) where
  abbrev pub before : Contents
  before = record { codes = codes; atoms = atoms; nodes = items cells n; rules = rules }

  abbrev pub holding : List Node → Contents
  holding nodes = record { codes = codes; atoms = atoms; nodes = nodes; rules = rules }

  size : length (items cells n) ≡ n
  size = length_items cells n (omega arith)

  -- by what is known of the node
  unknown_answer : known atoms n node ≡ false → Err Unknown ≡ put_answer before node
  unknown_answer no_one = sym (ap (λ k. cond (known atoms k node) (numbered (items cells n) (place same node (items cells n))) (Err Unknown)) size ∙ cond-false _ _ _ no_one)

  unknown_leaves : known atoms n node ≡ false → before ≡ put_leaves before node
  unknown_leaves no_one = ap holding (sym (ap (λ k. cond (known atoms k node) (with_new node (items cells n) (place same node (items cells n))) (items cells n)) size ∙ cond-false _ _ _ no_one))

  pub put_unknown : false ≡ known atoms n node → (Err Unknown ≡ put_answer before node) × (before ≡ put_leaves before node)
  put_unknown e = (unknown_answer (sym e), unknown_leaves (sym e))

  module _ (there : true ≡ known atoms n node) where
    known_answer : (o : Option ℕ) → place same node (items cells n) ≡ o → numbered (items cells n) o ≡ put_answer before node
    known_answer o is =
        ap (numbered (items cells n)) (sym is)
        ∙ sym (ap (λ k. cond (known atoms k node) (numbered (items cells n) (place same node (items cells n))) (Err Unknown)) size ∙ cond-true _ _ _ (sym there))

    known_leaves : (o : Option ℕ) → place same node (items cells n) ≡ o → holding (with_new node (items cells n) o) ≡ put_leaves before node
    known_leaves o is =
        ap (λ p. holding (with_new node (items cells n) p)) (sym is)
        ∙ ap holding (sym (ap (λ k. cond (known atoms k node) (with_new node (items cells n) (place same node (items cells n))) (items cells n)) size ∙ cond-true _ _ _ (sym there)))

    -- the node was put before
    module _ (k : ℕ) (after : List (Cell Node)) (s : Settled same node_turn cells n node (Ok (Found k)) after) where
      stands : place same node (items cells n) ≡ Some k
      stands = slot_found (place same node (items cells n)) k n (length cells) s.slot_is

      pub found_below : k < n
      found_below = omega (arith, place_below same node (items cells n) k stands, size)

      pub put_found : (Ok k ≡ put_answer before node) × (holding (items after n) ≡ put_leaves before node)
      put_found = (known_answer (Some k) stands, ap holding s.items_are ∙ known_leaves (Some k) stands)

    -- the node is new
    module _ (k : ℕ) (after : List (Cell Node)) (s : Settled same node_turn cells n node (Ok (Added k)) after) where
      slot : (place same node (items cells n) ≡ None) × (k ≡ n) × (room n (length cells) ≡ true)
      slot = slot_added (place same node (items cells n)) k n (length cells) s.slot_is

      pub added_below : (k ≡ n) × (n < 64)
      added_below = (slot.1, omega (arith, room_left n (length cells) slot.2))

      fits : ltb (length (items cells n)) 64 ≡ true
      fits = lt-ltb _ 64 (omega (arith, size, added_below.1))

      pub put_added : (Ok k ≡ put_answer before node) × (holding (items after (n + 1)) ≡ put_leaves before node)
      put_added = (
        ap (λ i. Ok i) (slot.1 ∙ sym size) ∙ sym (cond-true _ _ _ fits) ∙ known_answer None slot.0,
        ap holding (s.items_are ∙ sym (cond-true _ _ _ fits)) ∙ known_leaves None slot.0,
      )

      -- the atom and the operands of every formula are there
      pub before_more : ((i : ℕ) → i < n → known atoms i (get_or (items cells n) i True) ≡ true)
          → (i : ℕ) → i < n + 1 → known atoms i (get_or (items after (n + 1)) i True) ≡ true
      before_more each i h = elim (cases_eq i n) [
        | inl e ↦ ap (λ xs. known atoms i (get_or xs i True)) s.items_are ∙ ap (known atoms i) (get_or_push (items cells n) node True i (size ∙ sym e)) ∙ ap (λ j. known atoms j node) e ∙ sym there
        | inr ne ↦ (let lt : i < n = omega arith in
            ap (λ xs. known atoms i (get_or xs i True)) s.items_are
            ∙ ap (known atoms i) (get_or_append_left (items cells n) (node ∷ []) True i (omega (arith, size)))
            ∙ each i lt)
      ]

    -- there is no room
    module _ (why : EntryError) (after : List (Cell Node)) (s : Settled same node_turn cells n node (Err why) after) where
      slot_none : (place same node (items cells n) ≡ None) × (room n (length cells) ≡ false)
      slot_none = slot_refused (place same node (items cells n)) why n (length cells) s.slot_is

      past : ltb (length (items cells n)) 64 ≡ false
      past = le-ltb _ 64 (omega (arith, size, no_room n (length cells) few slot_none.1))

      pub put_full : (Err TooManyFormulas ≡ put_answer before node) × (holding (items after n) ≡ put_leaves before node)
      put_full = (
        sym (cond-false _ _ _ past) ∙ known_answer None slot_none.0,
        ap holding (s.items_are ∙ sym (cond-false _ _ _ past)) ∙ known_leaves None slot_none.0,
      )

    -- the index never leads astray
    pub never_broken : (after : List (Cell Node)) → Settled same node_turn cells n node (Err Broken) after → ⊥
    never_broken after s = slot_broken (place same node (items cells n)) n (length cells) s.slot_is
