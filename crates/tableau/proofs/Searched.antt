-- The search layer by layer finds what the definitions say.
use Rattle.std.proofs.Common.{◌≡◌, ℕ, zero, suc, ◌+◌, ◌*◌, ◌^◌, ◌<◌, ◌≤◌, Bool, true, false, cond, ltb, ◌⊎◌, ◌↔◌, List, [], ◌∷◌, ◌++◌, length, sym, refl, ap, ◌∙◌, subst, ap₂, inl, inr, mul-one, arith, length-append}
use mathlib.Core.Path.{subst⁻¹}
use Rattle.std.proofs.lemmas.Bool.{ltb-true, ltb-false}
use Rattle.tableau.specs.Positions.{Position, Question, Step, NoEnd, LeastEnd, Counted, Rows, In, Distinct, last_place}
use Rattle.tableau.specs.Continuations.{WellPosed, Shortest, Impossible}
use Rattle.tableau.specs.Search.{any, gather, below, ends, steps, starts, fresh, Answer, can, cannot, short, layers, answer}
use Rattle.tableau.specs.Theorems.{Says, AnswerIsRight, CountedAreFinite, CountedAreBounded, QuestionsAreDecided}
use Rattle.tableau.proofs.Histories.{shortest_is_least, none_is_none, reached_bounded}
use Rattle.tableau.proofs.Progress.{Progress, begin, advance, end_found, exhausted, seen_counted}
use Rattle.tableau.proofs.Tests.{no_way, in_append, in_below, any_ok, gather_ok}
use Rattle.tableau.proofs.Computed.{ends_ok, steps_ok, starts_ok, fresh_ok, fresh_distinct}
use Rattle.tableau.proofs.Counting.{no_longer, distinct_append, same_count, length_below, length_gather}

-- what a search has found, with a list of counted positions
abbrev pub Found : Question → ℕ → Answer → Type 0
Found q rows (can n r) = (ps : List Position) × Rows q ps × (r ≡ length ps) × (length ps ≤ rows) × ((d : ℕ) × (n ≡ suc d) × LeastEnd q d)
Found q rows (cannot r) = (ps : List Position) × Rows q ps × (r ≡ length ps) × (length ps ≤ rows) × NoEnd q
Found q rows (short r) =
    (ps : List Position) × Distinct ps × ((e : Position) → In e ps → Counted q e) × (rows < length ps) × (r ≡ rows)

module _ (q : Question) (posed : WellPosed q) where
  ended : (rows d : ℕ) (seen layer : List Position) → Progress q d seen layer → length seen ≤ rows → any (ends q) layer ≡ true
      → Found q rows (can (suc d) (length seen))
  ended rows d seen layer k fit e =
      let r = (any_ok (ends q) layer).0 e in
      let f = end_found q d seen layer k r.0 r.1 ((ends_ok q posed r.0).0 r.2) in
      (seen, f.1, refl, fit, (d, refl, f.0))

  emptied : (rows d : ℕ) (seen : List Position) → Progress q d seen [] → length seen ≤ rows → Found q rows (cannot (length seen))
  emptied rows d seen k fit = let f = exhausted q d seen k in (seen, f.1, refl, fit, f.0)

  outnumbered : (rows d : ℕ) (seen layer : List Position) → Progress q d seen layer → rows < length seen → Found q rows (short rows)
  outnumbered rows d seen layer k h = (seen, k.distinct, seen_counted q d seen layer k, h, refl)

  more : (d : ℕ) (seen layer : List Position) → Progress q d seen layer → any (ends q) layer ≡ false
      → Progress q (suc d) (fresh seen (gather (steps q) layer) ++ seen) (fresh seen (gather (steps q) layer))
  more d seen layer k none =
      advance q d seen layer k (λ e i en. no_way (sym none ∙ (any_ok (ends q) layer).1 (e, i, (ends_ok q posed e).1 en))) (new ++ seen) new new_is
      (λ e. in_append e new seen)
      (distinct_append new seen (fresh_distinct seen (gather (steps q) layer)) k.distinct (λ e a c. ((new_is e).0 a).1 c))
    where
      new : List Position
      new = fresh seen (gather (steps q) layer)

      new_is : (e : Position) → In e new ↔ (((s : Position) × In s layer × Step q s e) × (¬ In e seen))
      new_is e =
          let f = fresh_ok seen (gather (steps q) layer) e in
          let g = gather_ok (steps q) layer e in (
            (λ h. let r = g.0 (f.0 h).0 in ((r.0, r.1, (steps_ok q posed r.0 e).0 r.2), (f.0 h).1)),
            (λ p. f.1 (g.1 (p.0.0, p.0.1, (steps_ok q posed p.0.0 e).1 p.0.2), p.1)),
          )

  -- every layer before d added a position, so that the fuel lasts until the rows are outnumbered
  layers_found : (rows c d : ℕ) (seen layer : List Position) → c + d ≡ suc rows → d + length layer ≤ length seen → Progress q d seen layer
      → Found q rows (layers c q rows d seen layer)
  layers_found rows zero d seen layer f h k = outnumbered rows d seen layer k (omega arith)
  layers_found rows (suc c) d seen [] f h k = go (ltb rows (length seen)) refl
    where
      go : (v : Bool) → ltb rows (length seen) ≡ v → Found q rows (cond v (short rows) (cannot (length seen)))
      go true e = outnumbered rows d seen [] k (ltb-true rows (length seen) e)
      go false e = emptied rows d seen k (ltb-false rows (length seen) e)
  layers_found rows (suc c) d seen (s ∷ ss) f h k =
      go (ltb rows (length seen)) refl (any (ends q) (s ∷ ss)) refl
      (λ k'. layers_found rows c (suc d) (new ++ seen) new (omega arith) (let z = length-append new seen in omega arith) k')
    where
      new : List Position
      new = fresh seen (gather (steps q) (s ∷ ss))

      go : (v : Bool) → ltb rows (length seen) ≡ v → (w : Bool) → any (ends q) (s ∷ ss) ≡ w
          → (Progress q (suc d) (new ++ seen) new → Found q rows (layers c q rows (suc d) (new ++ seen) new))
          → Found q rows (cond v (short rows) (cond w (can (suc d) (length seen)) (layers c q rows (suc d) (new ++ seen) new)))
      go true e w e' ih = outnumbered rows d seen (s ∷ ss) k (ltb-true rows (length seen) e)
      go false e true e' ih = ended rows d seen (s ∷ ss) k (ltb-false rows (length seen) e) e'
      go false e false e' ih = ih (more d seen (s ∷ ss) k e')

  pub answer_found : (rows : ℕ) → Found q rows (answer q rows)
  answer_found rows =
      layers_found rows (suc rows) 0 first first (omega arith) (omega arith) (begin q first (fresh_distinct [] (starts q)) (λ e. (
        (λ h. (starts_ok q posed e).0 ((fresh_ok [] (starts q) e).0 h).0),
        (λ st. (fresh_ok [] (starts q) e).1 ((starts_ok q posed e).1 st, λ z. z)),
      )))
    where
      first : List Position
      first = fresh [] (starts q)

-- THE COUNTED POSITIONS ARE FINITELY MANY

-- all positions within the bounds of book and theory
within : Question → List Position
within q =
    gather (λ (p : ℕ). gather (λ (L : ℕ). gather (λ (c : ℕ). record { place = p; label = L; code = c } ∷ []) (below q.meaning.codes))
    (below (2 ^ length q.book.nodes))) (below (suc (last_place q)))

counted_within : (q : Question) → WellPosed q → (e : Position) → Counted q e → In e (within q)
unfolding within
counted_within q posed e c =
    let b = reached_bounded q posed c.0 e c.1.0 in
    let codes : ℕ → ℕ → ℕ → List Position = λ p L c. record { place = p; label = L; code = c } ∷ [] in
    let labels : ℕ → ℕ → List Position = λ p L. gather (codes p L) (below q.meaning.codes) in
    (gather_ok (λ (p : ℕ). gather (labels p) (below (2 ^ length q.book.nodes))) (below (suc (last_place q))) e).1 (
      e.place,
      (in_below e.place (suc (last_place q))).1 (omega (arith, b.0)),
      (gather_ok (labels e.place) (below (2 ^ length q.book.nodes)) e).1 (
        e.label,
        (in_below e.label (2 ^ length q.book.nodes)).1 b.1,
        (gather_ok (codes e.place e.label) (below q.meaning.codes) e).1
            (e.code, (in_below e.code q.meaning.codes).1 b.2, inl refl),
      ),
    )

pub counted_finite : CountedAreFinite
counted_finite q posed = go (answer q (length (within q))) (answer_found q posed (length (within q)))
  where
    go : (a : Answer) → Found q (length (within q)) a → (ps : List Position) × Rows q ps
    go (can n r) f = (f.0, f.1)
    go (cannot r) f = (f.0, f.1)
    go (short r) f =
        let h = no_longer f.0 (within q) f.1 (λ e i. counted_within q posed e (f.2 e i)) in
        let l = f.3 in absurd (omega arith)

within_length : (q : Question) → length (within q) ≡ suc (last_place q) * (2 ^ length q.book.nodes * q.meaning.codes)
unfolding within
within_length q =
    let M = q.meaning.codes in
    let N = 2 ^ length q.book.nodes in
    let codes : ℕ → ℕ → ℕ → List Position = λ p L c. record { place = p; label = L; code = c } ∷ [] in
    let labels : ℕ → ℕ → List Position = λ p L. gather (codes p L) (below M) in
    let one : (p L : ℕ) → length (labels p L) ≡ M =
    λ p L. length_gather (codes p L) 1 (λ c. refl) (below M) ∙ mul-one (length (below M)) ∙ length_below M in
    let row : (p : ℕ) → length (gather (labels p) (below N)) ≡ N * M =
    λ p. length_gather (labels p) M (one p) (below N) ∙ ap (λ (x : ℕ). x * M) (length_below N) in
    length_gather (λ (p : ℕ). gather (labels p) (below N)) (N * M) row (below (suc (last_place q)))
    ∙ ap (λ (x : ℕ). x * (N * M)) (length_below (suc (last_place q)))

pub counted_bounded : CountedAreBounded
counted_bounded q posed ps r =
    subst (λ (x : ℕ). length ps ≤ x) (within_length q) (no_longer ps (within q) r.apart (λ e i. counted_within q posed e ((r.all e).0 i)))

pub questions_decided : QuestionsAreDecided
questions_decided q posed = go (answer q (length (within q))) (answer_found q posed (length (within q)))
  where
    go : (a : Answer) → Found q (length (within q)) a → ((n : ℕ) × Shortest q n) ⊎ Impossible q
    go (can n r) f = inl (suc f.4.0, (shortest_is_least q posed f.4.0).0 f.4.2)
    go (cannot r) f = inr ((none_is_none q posed).1 f.4)
    go (short r) f =
        let h = no_longer f.0 (within q) f.1 (λ e i. counted_within q posed e (f.2 e i)) in
        let l = f.3 in absurd (omega arith)

-- THE ANSWER

module _ (q : Question) (posed : WellPosed q) (rows : ℕ) (ps : List Position) (all : Rows q ps) where
  -- what was found is what the answer says
  pub found_says : (a : Answer) → Found q rows a → Says q rows ps a
  found_says (can n r) f =
      let z = same_count q f.0 ps f.1 all in (
        omega (arith, f.3),
        subst⁻¹ (Shortest q) f.4.1 ((shortest_is_least q posed f.4.0).0 f.4.2),
        f.2 ∙ z,
      )
  found_says (cannot r) f =
      let z = same_count q f.0 ps f.1 all in
      (omega (arith, f.3), (none_is_none q posed).1 f.4, f.2 ∙ z)
  found_says (short r) f =
      let h = no_longer f.0 ps f.1 (λ e i. (all.all e).1 (f.2 e i)) in
      (omega (arith, f.3), f.4)

  -- at most one answer says what is so
  one_answer : (a a' : Answer) → Says q rows ps a → Says q rows ps a' → a ≡ a'
  one_answer (can n r) (can n' r') x y =
      let le = x.1.1 n' y.1.0 in
      let ge = y.1.1 n x.1.0 in
      let e : n ≡ n' = omega arith in
      ap₂ can e (x.2 ∙ sym y.2)
  one_answer (can n r) (cannot r') x y = absurd (y.1 x.1.0.0 x.1.0.1)
  one_answer (can n r) (short r') x y = absurd (omega (arith, x.0, y.0))
  one_answer (cannot r) (can n r') x y = absurd (x.1 y.1.0.0 y.1.0.1)
  one_answer (cannot r) (cannot r') x y = ap cannot (x.2 ∙ sym y.2)
  one_answer (cannot r) (short r') x y = absurd (omega (arith, x.0, y.0))
  one_answer (short r) (can n r') x y = absurd (omega (arith, x.0, y.0))
  one_answer (short r) (cannot r') x y = absurd (omega (arith, x.0, y.0))
  one_answer (short r) (short r') x y = ap short (x.1 ∙ sym y.1)

pub answer_right : AnswerIsRight
answer_right q posed rows ps all a =
    let f = found_says q posed rows ps all (answer q rows) (answer_found q posed rows) in (
      (λ e. subst (Says q rows ps) e f),
      (λ s. one_answer q posed rows ps all (answer q rows) a f s),
    )

-- a search that found something has the answer
pub answer_from : (q : Question) → WellPosed q → (rows : ℕ) (a : Answer) → Found q rows a → answer q rows ≡ a
answer_from q posed rows a f =
    let c = counted_finite q posed in
    (answer_right q posed rows c.0 c.1 a).1 (found_says q posed rows c.0 c.1 a f)
