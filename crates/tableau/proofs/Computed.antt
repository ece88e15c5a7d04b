-- The computed ends, steps and starts are those of the definitions.
use Rattle.std.specs.Prelude.{Some, None}
use Rattle.std.proofs.Common.{◌≡◌, ℕ, zero, suc, min, Bool, true, false, cond, ◌&&◌, eqb, ◌↔◌, List, [], ◌∷◌, sym, refl, ap, ◌∙◌, subst, inl, inr, eq-eqb, eqb-true}
use mathlib.Core.Path.{subst⁻¹}
use native.Mathlib.Decide.{map_dec}
use Rattle.judge.specs.Formulas.{Among}
use Rattle.tableau.specs.Labels.{Label, ◌∈◌, adding}
use Rattle.tableau.specs.Positions.{Position, Question, Starts, Step, Ends, Visited, last_place, In, Distinct}
use Rattle.tableau.specs.Continuations.{WellPosed}
use Rattle.tableau.specs.Search.{any, gather, some, next_labels, visits_at, ends, steps, starts, alike, fresh}
use Rattle.tableau.specs.Theorems.{StepsAreDecided, EndsAreDecided}
use Rattle.tableau.proofs.Masks.{adding_has, zero_has, same_members}
use Rattle.tableau.proofs.Branches.{next_labels_ok, sound_choice_ok}
use Rattle.tableau.proofs.Tests.{no_way, true_or_not, and_ok, eqb_ok, in_below, any_ok, gather_ok, some_ok}

visits_ok : (codes : ℕ) (kept : List ℕ) (p c : ℕ) → In c (visits_at codes kept p) ↔ Visited codes kept p c
visits_ok codes [] p c = in_below c codes
visits_ok codes (v ∷ kept) zero c = (elim [ inl e ↦ e | inr z ↦ absurd z ], (λ e. inl e))
visits_ok codes (v ∷ kept) (suc p) c = visits_ok codes kept p c

same_position : (s e : Position) → s.place ≡ e.place → s.label ≡ e.label → s.code ≡ e.code → s ≡ e
same_position s e p l c = λ i. record { place = p i; label = l i; code = c i }

module _ (q : Question) (posed : WellPosed q) where
  pub ends_ok : (s : Position) → (ends q s ≡ true) ↔ Ends q s
  ends_ok s =
      let ls = next_labels q.meaning q.book s.label s.code None in
      let a = and_ok (eqb s.place (last_place q)) (some ls) in
      let o = some_ok ls in
      let k = sound_choice_ok q.meaning q.book posed.proper s.label s.code None in (
        (λ e. let r = k.0 (o.0 (a.0 e).1) in record {
          at_last_place = (eqb_ok s.place (last_place q)).0 (a.0 e).0;
          choice = r.0;
          sound = r.1;
        }),
        (λ e. a.1 ((eqb_ok s.place (last_place q)).1 e.at_last_place, o.1 (k.1 (e.choice, e.sound)))),
      )

  pub steps_ok : (s e : Position) → In e (steps q s) ↔ Step q s e
  steps_ok s e =
      let vs = visits_at q.meaning.codes q.kept (suc s.place) in
      let labels : ℕ → List Label = λ c. next_labels q.meaning q.book s.label s.code (Some c) in
      let one : ℕ → Label → List Position = λ c L. record { place = min (suc s.place) (last_place q); label = L; code = c } ∷ [] in
      let inner : ℕ → List Position = λ c. gather (one c) (labels c) in (
        (λ h.
            let r = (gather_ok inner vs e).0 h in
            let r' = (gather_ok (one r.0) (labels r.0) e).0 r.2 in
            let k = (next_labels_ok q.meaning q.book posed.proper s.label s.code (Some r.0) r'.0).0 r'.1 in
            let is : e ≡ record { place = min (suc s.place) (last_place q); label = r'.0; code = r.0 } = elim r'.2 [ inl z ↦ z | inr z ↦ absurd z ] in
            subst⁻¹ (Step q s) is (record {
              choice = k.0;
              sound = k.1;
              label_is = k.2;
              place_is = refl;
              code_is = (visits_ok q.meaning.codes q.kept (suc s.place) r.0).0 r.1;
            })),
        (λ st.
            (gather_ok inner vs e).1 (
              e.code,
              (visits_ok q.meaning.codes q.kept (suc s.place) e.code).1 st.code_is,
              (gather_ok (one e.code) (labels e.code) e).1 (
                e.label,
                (next_labels_ok q.meaning q.book posed.proper s.label s.code (Some e.code) e.label).1
                    (st.choice, st.sound, st.label_is),
                inl (same_position e (record { place = min (suc s.place) (last_place q); label = e.label; code = e.code }) st.place_is refl refl),
              ),
            )),
      )

  pub starts_ok : (s : Position) → In s (starts q) ↔ Starts q s
  starts_ok s =
      let made : ℕ → List Position = λ c. record { place = 0; label = adding q.book.rules 0; code = c } ∷ [] in
      let rules : (f : ℕ) → (f ∈ adding q.book.rules 0) ↔ Among f q.book.rules =
      λ f. (
        (λ m. elim ((adding_has f q.book.rules 0).0 m) [ inl a ↦ a | inr z ↦ absurd (zero_has f z) ]),
        (λ a. (adding_has f q.book.rules 0).1 (inl a)),
      ) in
      let g = gather_ok made (visits_at q.meaning.codes q.kept 0) s in (
        (λ h.
            let r = g.0 h in
            let is : s ≡ record { place = 0; label = adding q.book.rules 0; code = r.0 } = elim r.2 [ inl e ↦ e | inr z ↦ absurd z ] in
            subst⁻¹ (Starts q) is (record { place_is = refl; label_is = rules; code_is = (visits_ok q.meaning.codes q.kept 0 r.0).0 r.1 })),
        (λ st. g.1 (
          s.code,
          (visits_ok q.meaning.codes q.kept 0 s.code).1 st.code_is,
          inl (same_position s (record { place = 0; label = adding q.book.rules 0; code = s.code }) st.place_is
              (same_members s.label (adding q.book.rules 0) (λ f. ((λ m. (rules f).1 ((st.label_is f).0 m)), (λ m. (st.label_is f).1 ((rules f).0 m))))) refl),
        )),
      )

-- FRESH POSITIONS

alike_ok : (s e : Position) → (alike s e ≡ true) ↔ (s ≡ e)
alike_ok s e =
    let a = and_ok (eqb s.place e.place) (eqb s.label e.label && eqb s.code e.code) in
    let b = and_ok (eqb s.label e.label) (eqb s.code e.code) in (
      (λ h. same_position s e (eqb-true s.place e.place (a.0 h).0) (eqb-true s.label e.label (b.0 (a.0 h).1).0)
          (eqb-true s.code e.code (b.0 (a.0 h).1).1)),
      (λ z. a.1 (
        eq-eqb s.place e.place (ap (λ (x : Position). x.place) z),
        b.1 (eq-eqb s.label e.label (ap (λ (x : Position). x.label) z), eq-eqb s.code e.code (ap (λ (x : Position). x.code) z)),
      )),
    )

seen_ok : (s : Position) (seen : List Position) → (any (alike s) seen ≡ true) ↔ In s seen
seen_ok s seen =
    let o = any_ok (alike s) seen in (
      (λ h. let r = o.0 h in subst⁻¹ (λ (x : Position). In x seen) ((alike_ok s r.0).0 r.2) r.1),
      (λ h. o.1 (s, h, (alike_ok s s).1 refl)),
    )

pub in? : (s : Position) (seen : List Position) → Dec (In s seen)
in? s seen = elim (true_or_not (any (alike s) seen)) [
  | inl e ↦ yes ((seen_ok s seen).0 e)
  | inr e ↦ no (λ h. no_way (sym e ∙ (seen_ok s seen).1 h))
]

pub fresh_ok : (seen ss : List Position) (e : Position) → In e (fresh seen ss) ↔ (In e ss × (¬ In e seen))
fresh_ok seen [] e = ((λ h. absurd h), (λ p. absurd p.0))
fresh_ok seen (s ∷ ss) e = go (any (alike s) seen) refl (fresh_ok seen ss e) (fresh_ok (s ∷ seen) ss e)
  where
    go : (v : Bool) → any (alike s) seen ≡ v
        → In e (fresh seen ss) ↔ (In e ss × (¬ In e seen))
        → In e (fresh (s ∷ seen) ss) ↔ (In e ss × (¬ In e (s ∷ seen)))
        → In e (cond v (fresh seen ss) (s ∷ fresh (s ∷ seen) ss)) ↔ (In e (s ∷ ss) × (¬ In e seen))
    go true z i j = (
      (λ h. let r = i.0 h in (inr r.0, r.1)),
      (λ p. i.1 (elim p.0 [ inl w ↦ absurd (p.1 (subst⁻¹ (λ (x : Position). In x seen) w ((seen_ok s seen).0 z))) | inr a ↦ a ], p.1)),
    )
    go false z i j = (
      elim [
        | inl w ↦ (inl w, λ h. no_way (sym z ∙ (seen_ok s seen).1 (subst (λ (x : Position). In x seen) w h)))
        | inr h ↦ (let r = j.0 h in (inr r.0, λ y. r.1 (inr y)))
      ],
      (λ p. elim (true_or_not (alike e s)) [
        | inl w ↦ inl ((alike_ok e s).0 w)
        | inr w ↦ (elim p.0 [
          | inl y ↦ inl y
          | inr a ↦ inr (j.1 (a, elim [ inl y ↦ no_way (sym w ∙ (alike_ok e s).1 y) | inr y ↦ p.1 y ]))
        ])
      ]),
    )

pub fresh_distinct : (seen ss : List Position) → Distinct (fresh seen ss)
fresh_distinct seen [] = tt
fresh_distinct seen (s ∷ ss) = go (any (alike s) seen) (fresh_distinct seen ss) (fresh_distinct (s ∷ seen) ss)
  where
    go : (v : Bool) → Distinct (fresh seen ss) → Distinct (fresh (s ∷ seen) ss)
        → Distinct (cond v (fresh seen ss) (s ∷ fresh (s ∷ seen) ss))
    go true i j = i
    go false i j = ((λ h. ((fresh_ok (s ∷ seen) ss s).0 h).1 (inl refl)), j)

-- DECISIONS

pub steps_decided : StepsAreDecided
steps_decided q posed s e = map_dec (steps_ok q posed s e).0 (steps_ok q posed s e).1 (in? e (steps q s))

pub ends_decided : EndsAreDecided
ends_decided q posed s = elim (true_or_not (ends q s)) [
  | inl e ↦ yes ((ends_ok q posed s).0 e)
  | inr e ↦ no (λ en. no_way (sym e ∙ (ends_ok q posed s).1 en))
]
