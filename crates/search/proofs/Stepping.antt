-- The labels in the cells are those to which the steps at a code lead.
use Rattle.std.proofs.Common.{◌≡◌, ℕ, suc, ◌+◌, ◌^◌, ◌<◌, ◌≤◌, min, Bool, true, false, List, length, take, Some, None, Decides, sym, refl, ap, ◌∙◌, subst, inl, inr, arith}
use Rattle.intern.specs.declared.cell.Cell.{Cell}
use Rattle.std.specs.declared.ops.Range.{Range}
use Rattle.theory.specs.Meaning.{Meaning}
use Rattle.ltlf.specs.Contents.{Contents}
use Rattle.tableau.specs.Labels.{Label}
use Rattle.tableau.specs.Expansion.{Sound}
use Rattle.tableau.specs.Positions.{Position, Question, Starts, Step, Ends, In, Visited, last_place}
use Rattle.tableau.proofs.Masks.{same_members}
use Rattle.viability.proofs.Bits.{low_all}
use Rattle.viability.specs.Moments.{Shows, SomeSound, HandsOn}
use Rattle.viability.specs.Viable.{known_part, DecidesSound}
use Rattle.successors.specs.declared.label.NextLabel.{NextLabel}
use Rattle.successors.specs.Cells.{labels}
use Rattle.search.specs.declared.row.Row.{Row}
use Rattle.search.specs.declared.labels.Pattern.{Pattern}
use Rattle.search.specs.Layers.{Spread}
use Rattle.search.specs.Questions.{facts_at, Shown, Allowed, HasRules, StartsAt, StepsFrom, SomeOf, Labelled, LabelledOr, HoldsNext, Overfull, Patterned}
use Rattle.search.proofs.Families.{spread_some, spread_none, Collected, collected_more, collected_short}
use Rattle.search.proofs.Listing.{by_parts, labels_front}
use Rattle.search.proofs.Masking.{shows}

-- a label of the book's formulas is its known part
known_whole : (b : Contents) (L : Label) → L < 2 ^ length b.nodes → L ≡ known_part b L
known_whole b L lt = low_all L (length b.nodes) (length b.nodes) lt (omega arith)

module _ (m : Meaning) (b : Contents) (s : Position) (place n truth : ℕ)
    (fits : s.label < 2 ^ length b.nodes) (shown : Shown m s.code (Some n) truth b.atoms) where
  here : Shows (facts_at m s.code (Some n)) b.atoms truth false
  here = shows m s.code (Some n) truth b.atoms shown

  hands : (q : Label) → HandsOn (facts_at m s.code (Some n)) b (known_part b s.label) q → HandsOn (facts_at m s.code (Some n)) b s.label q
  hands q h = subst (λ (L : Label). HandsOn (facts_at m s.code (Some n)) b L q) (sym (known_whole b s.label fits)) h

  unhands : (q : Label) → HandsOn (facts_at m s.code (Some n)) b s.label q → HandsOn (facts_at m s.code (Some n)) b (known_part b s.label) q
  unhands q h = subst (λ (L : Label). HandsOn (facts_at m s.code (Some n)) b L q) (known_whole b s.label fits) h

  module _ (cells : List (Cell NextLabel)) (count : ℕ) (next : HoldsNext b s.label truth cells count) where
    pub labelled_steps : (p : Position) → Labelled place n cells count p → StepsFrom m b s place n p
    labelled_steps p (at, is, i) = (at, is, hands p.label ((next (facts_at m s.code (Some n)) here p.label).0 i))

    pub steps_labelled : (p : Position) → StepsFrom m b s place n p → Labelled place n cells count p
    steps_labelled p (at, is, h) = (at, is, (next (facts_at m s.code (Some n)) here p.label).1 (unhands p.label h))

  module _ (cells : List (Cell NextLabel)) (full : Overfull b s.label truth cells) where
    pub other : Label
    other = (full.another (facts_at m s.code (Some n)) here).0

    pub other_missing : In other (labels cells (length cells)) → ⊥
    unfolding other
    other_missing = (full.another (facts_at m s.code (Some n)) here).2

    pub overfull_steps : (p : Position) → LabelledOr other place n cells (length cells) p → StepsFrom m b s place n p
    unfolding other
    overfull_steps p (inl (at, is, i)) = (at, is, hands p.label (full.only (facts_at m s.code (Some n)) here p.label i))
    overfull_steps p (inr e) = (
      ap (λ (x : Position). x.place) e,
      ap (λ (x : Position). x.code) e,
      subst (λ (L : Label). HandsOn (facts_at m s.code (Some n)) b s.label L) (sym (ap (λ (x : Position). x.label) e))
          (hands other (full.another (facts_at m s.code (Some n)) here).1),
    )

-- what a pattern says of the cells
pub pattern_next : (b : Contents) (L : Label) (truth : ℕ) (cells : List (Cell NextLabel)) (p : Pattern) → Patterned b L truth cells (Some p)
    → (p.count ≤ length cells) × HoldsNext b L truth cells p.count
pattern_next b L truth cells p (is, (room, next)) = (room, subst (λ (t : ℕ). HoldsNext b L t cells p.count) is next)

-- THE STEPS, CODE BY CODE

module _ (from : ℕ) (m : Meaning) (b : Contents) (s : Position) (place first n truth : ℕ)
    (fits : s.label < 2 ^ length b.nodes) (shown : Shown m s.code (Some n) truth b.atoms)
    (cells : List (Cell NextLabel)) (xs ys zs : List (Cell Row)) (start f : ℕ) (low : first ≤ n)
    (so_far : Collected (λ e. e.from ≡ from) (StepsFrom m b s place) first xs ys start f n) where
  -- one of the labels of the first cells
  abbrev pub Front : ℕ → Position → Type 0
  Front count = Labelled place n (take count cells) (length (take count cells))

  front_is : (count : ℕ) → count ≤ length cells → (p : Position) → Front count p → Labelled place n cells count p
  front_is count room p (at, is, i) = (at, is, subst (In p.label) (labels_front cells count room) i)

  is_front : (count : ℕ) → count ≤ length cells → (p : Position) → Labelled place n cells count p → Front count p
  is_front count room p (at, is, i) = (at, is, subst (In p.label) (sym (labels_front cells count room)) i)

  pub code_more : (p : Pattern) (k : ℕ) → Patterned b s.label truth cells (Some p)
      → Spread (λ e. e.from ≡ from) (Front p.count) ys zs f (Some k)
      → Collected (λ e. e.from ≡ from) (StepsFrom m b s place) first xs zs start k (n + 1)
  code_more p k patterned spread =
      let known = pattern_next b s.label truth cells p patterned in
      let next = known.1 in
      collected_more (λ e. e.from ≡ from) (StepsFrom m b s place) first xs ys zs start f k n low so_far
      (spread_some (λ e. e.from ≡ from) (Front p.count) (StepsFrom m b s place n)
      (λ e l. labelled_steps m b s place n truth fits shown cells p.count next e (front_is p.count known.0 e l))
      (λ e h. is_front p.count known.0 e (steps_labelled m b s place n truth fits shown cells p.count next e h)) ys zs f k spread)

  pub code_short : (p : Pattern) (end : ℕ) → n < end → Patterned b s.label truth cells (Some p)
      → Spread (λ e. e.from ≡ from) (Front p.count) ys zs f None
      → Spread (λ e. e.from ≡ from) (SomeOf (StepsFrom m b s place) first end) xs zs start None
  code_short p end less patterned spread =
      let known = pattern_next b s.label truth cells p patterned in
      let next = known.1 in
      collected_short (λ e. e.from ≡ from) (StepsFrom m b s place) first xs ys zs start f n end low less so_far
      (spread_none (λ e. e.from ≡ from) (Front p.count) (StepsFrom m b s place n)
      (λ e l. labelled_steps m b s place n truth fits shown cells p.count next e (front_is p.count known.0 e l)) ys zs f spread)

  pub code_full : (end : ℕ) → n < end → (full : Overfull b s.label truth cells)
      → ((L : Label) → (In L (labels cells (length cells)) → ⊥) → Spread (λ e. e.from ≡ from) (LabelledOr L place n cells (length cells)) ys zs f None)
      → Spread (λ e. e.from ≡ from) (SomeOf (StepsFrom m b s place) first end) xs zs start None
  code_full end less full spread =
      let L = other m b s place n truth fits shown cells full in
      collected_short (λ e. e.from ≡ from) (StepsFrom m b s place) first xs ys zs start f n end low less so_far
      (spread_none (λ e. e.from ≡ from) (LabelledOr L place n cells (length cells)) (StepsFrom m b s place n)
      (overfull_steps m b s place n truth fits shown cells full) ys zs f (spread L (other_missing m b s place n truth fits shown cells full)))

-- THE POSITIONS OF A QUESTION

module _ (q : Question) where
  pub some_starts : (L : Label) (v : Range ℕ) → HasRules q.book L → Allowed q.meaning.codes q.kept 0 v
      → (p : Position) → SomeOf (StartsAt L) v.start v.end p → Starts q p
  some_starts L v rules allowed p (c, lo, hi, e) =
      record {
        place_is = ap (λ (x : Position). x.place) e;
        label_is = subst (HasRules q.book) (sym (ap (λ (x : Position). x.label) e)) rules;
        code_is = subst (Visited q.meaning.codes q.kept 0) (sym (ap (λ (x : Position). x.code) e)) ((allowed.2 c).1 (lo, hi));
      }

  pub starts_some : (L : Label) (v : Range ℕ) → HasRules q.book L → Allowed q.meaning.codes q.kept 0 v
      → (p : Position) → Starts q p → SomeOf (StartsAt L) v.start v.end p
  starts_some L v rules allowed p s =
      let at = (allowed.2 p.code).0 s.code_is in
      let named : p.label ≡ L =
      same_members p.label L (λ f. ((λ i. (rules f).1 ((s.label_is f).0 i)), (λ i. (s.label_is f).1 ((rules f).0 i)))) in
      (p.code, at.0, at.1, by_parts p 0 L p.code s.place_is named refl)

  module _ (s : Position) (v : Range ℕ) (allowed : Allowed q.meaning.codes q.kept (suc s.place) v)
      (place : ℕ) (at : place ≡ min (suc s.place) (last_place q)) where
    pub some_steps : (p : Position) → SomeOf (StepsFrom q.meaning q.book s place) v.start v.end p → Step q s p
    some_steps p (n, lo, hi, (there, is, (choice, (sound, next)))) =
        record {
          choice = choice;
          sound = subst (λ (c : ℕ). Sound q.meaning q.book choice s.label s.code (Some c)) (sym is) sound;
          label_is = next;
          place_is = there ∙ at;
          code_is = (allowed.2 p.code).1 (omega (arith, lo), omega (arith, hi));
        }

    pub steps_some : (p : Position) → Step q s p → SomeOf (StepsFrom q.meaning q.book s place) v.start v.end p
    steps_some p st =
        let within = (allowed.2 p.code).0 st.code_is in
        (p.code, within.0, within.1, (st.place_is ∙ sym at, refl, (st.choice, (st.sound, st.label_is))))

  -- a position that ends
  pub ends_decided : (s : Position) (truth : ℕ) (r : Bool) → s.place ≡ last_place q → s.label < 2 ^ length q.book.nodes
      → Shown q.meaning s.code None truth q.book.atoms → DecidesSound q.book truth true s.label r → Decides r (Ends q s)
  ends_decided s truth r at fits shown decides =
      let w = facts_at q.meaning s.code None in
      let d = subst (λ (L : Label). Decides r (SomeSound w q.book L)) (sym (known_whole q.book s.label fits))
      (decides w (shows q.meaning s.code None truth q.book.atoms shown)) in (
        (λ e. let x = d.0 e in record { at_last_place = at; choice = x.0; sound = x.1 }),
        (λ x. d.1 (x.choice, x.sound)),
      )
