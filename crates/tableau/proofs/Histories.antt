-- The paths of the positions are the histories.
use Rattle.std.specs.Prelude.{Some, None}
use Rattle.std.proofs.Common.{◌≡◌, ℕ, zero, suc, pred, ◌+◌, ◌^◌, ◌<◌, ◌≤◌, min, List, [], ◌∷◌, ◌++◌, length, drop, sym, refl, ap, ◌∙◌, subst, subst₂, le_of_suc-le-suc, arith, length-append, drop-cons}
use mathlib.Core.Path.{subst⁻¹}
use native.Mathlib.Decide.{dec_lt, dec_le}
use Rattle.judge.specs.Histories.{visit, after, first}
use Rattle.tableau.specs.Labels.{◌∈◌}
use Rattle.tableau.specs.Expansion.{GoesOn, Sound}
use Rattle.tableau.specs.Positions.{Position, Question, Starts, Step, Ends, Path, stay, go, codes_on, Reached, LeastEnd, Visited, last_place}
use Rattle.tableau.specs.Continuations.{AllCodes, Begins, Continuation, Possible, WellPosed, Leads}
use Rattle.tableau.specs.Masks.{next_of}
use Rattle.tableau.specs.Theorems.{AllHold, PathsAreHistories, ChainsAreHistories, LengthsAreReached, ShortestIsLeast, NoneIsNone, ReachedIsBounded}
use Rattle.tableau.proofs.Steps.{step_sound, step_complete, inside_code}
use Rattle.tableau.proofs.Masks.{next_ok, rules_label, small, handed_inside, rule_inside}

-- lists

drop_is : (σ : List ℕ) (i : ℕ) (c : ℕ) (r : List ℕ) → drop i σ ≡ c ∷ r → (i < length σ) × (visit σ i ≡ c) × (drop (suc i) σ ≡ r)
drop_is [] zero c r e = let z : ◌≡◌ {A = ℕ} 0 1 = cc in absurd (omega arith)
drop_is [] (suc i) c r e = let z : ◌≡◌ {A = ℕ} 0 1 = cc in absurd (omega arith)
drop_is (x ∷ σ) zero c r e = (omega arith, cc, cc)
drop_is (x ∷ σ) (suc i) c r e = let h = drop_is σ i c r e in (omega (arith, h.0), h.1, h.2)

drop_none : (σ : List ℕ) (i : ℕ) → length σ ≤ i → drop i σ ≡ []
drop_none [] zero h = refl
drop_none [] (suc i) h = refl
drop_none (x ∷ σ) zero h = absurd (omega arith)
drop_none (x ∷ σ) (suc i) h = drop_none σ i (omega arith)

visit_front : (k r : List ℕ) (i : ℕ) → i < length k → visit (k ++ r) i ≡ visit k i
visit_front [] r i h = absurd (omega arith)
visit_front (x ∷ k) r zero h = refl
visit_front (x ∷ k) r (suc i) h = visit_front k r i (omega arith)

visited_intro : (m : ℕ) (k : List ℕ) (p c : ℕ) → (p < length k → c ≡ visit k p) → c < m → Visited m k p c
visited_intro m [] p c e h = h
visited_intro m (v ∷ k) zero c e h = e (omega arith)
visited_intro m (v ∷ k) (suc p) c e h = visited_intro m k p c (λ l. e (omega arith)) h

visited_kept : (m : ℕ) (k : List ℕ) (p c : ℕ) → Visited m k p c → p < length k → c ≡ visit k p
visited_kept m [] p c h l = absurd (omega arith)
visited_kept m (v ∷ k) zero c h l = h
visited_kept m (v ∷ k) (suc p) c h l = visited_kept m k p c h (omega arith)

visited_code : (m : ℕ) (k : List ℕ) (p c : ℕ) → AllCodes m k → Visited m k p c → c < m
visited_code m [] p c a h = h
visited_code m (v ∷ k) zero c a h = subst⁻¹ (λ (x : ℕ). x < m) h (a 0 (omega arith))
visited_code m (v ∷ k) (suc p) c a h = visited_code m k p c (λ i l. a (suc i) (omega arith)) h

codes_cons : (m c : ℕ) (σ : List ℕ) → c < m → AllCodes m σ → AllCodes m (c ∷ σ)
codes_cons m c σ h a zero l = h
codes_cons m c σ h a (suc i) l = a i (omega arith)

-- FROM PATHS TO HISTORIES

module _ (q : Question) where
  codes_first : {n : ℕ} {s e : Position} (w : Path q n s e) → first (codes_on w) ≡ Some s.code
  codes_first stay = refl
  codes_first (go h w) = refl

  codes_length : {n : ℕ} {s e : Position} (w : Path q n s e) → length (codes_on w) ≡ suc n
  codes_length stay = refl
  codes_length (go h w) = ap suc (codes_length w)

  path_codes : (posed : WellPosed q) {n : ℕ} {s e : Position} (w : Path q n s e) → s.code < q.meaning.codes → AllCodes q.meaning.codes (codes_on w)
  path_codes posed {s = s} stay h = codes_cons q.meaning.codes s.code [] h (λ i l. absurd (omega arith))
  path_codes posed {s = s} (go {s' = s'} st w) h =
      codes_cons q.meaning.codes s.code (codes_on w) h
      (path_codes posed w (visited_code q.meaning.codes q.kept (suc s.place) s'.code posed.kept_codes st.code_is))

  -- from a position at place p on, the path shows what is kept from p + 1 on
  path_begins : {n : ℕ} {s e : Position} (w : Path q n s e) → Ends q e
      → (r : List ℕ) × (codes_on w ≡ s.code ∷ (drop (suc s.place) q.kept ++ r))
  path_begins {s = s} stay en =
      let t : s.place ≡ pred (length q.kept) = en.at_last_place in
      let z : drop (suc s.place) q.kept ≡ [] = drop_none q.kept (suc s.place) (omega arith) in
      ([], rw z)
  path_begins {s = s} (go {s' = s'} st w) en =
      let ih = path_begins w en in
      elim (dec_lt (suc s.place) (length q.kept)) [
        | yes l ↦ (
          ih.0,
          (let t : s'.place ≡ min (suc s.place) (pred (length q.kept)) = st.place_is in
              let p : s'.place ≡ suc s.place = omega arith in
              let v = visited_kept q.meaning.codes q.kept (suc s.place) s'.code st.code_is l in
              let d = drop-cons q.kept (suc s.place) 0 l in
              let i = ih.1 in
              let j = i ∙ ap (λ (x : ℕ). s'.code ∷ (drop (suc x) q.kept ++ ih.0)) p in
              ap (λ (x : List ℕ). s.code ∷ x) (rw (d, ← v) j)),
        )
        | no l ↦ (
          codes_on w,
          (let z : drop (suc s.place) q.kept ≡ [] = drop_none q.kept (suc s.place) (omega arith) in rw z),
        )
      ]

module _ (q : Question) (posed : WellPosed q) (σ : List ℕ) where
  -- along a path that shows the history from visit i on, the label's formulas hold
  path_holds : (i : ℕ) {n : ℕ} {s e : Position} (w : Path q n s e) → Ends q e → drop i σ ≡ codes_on w
      → AllHold q.meaning q.book σ i (λ f. f ∈ s.label)
  path_holds i {s = s} stay en e =
      let d = drop_is σ i s.code [] e in
      let a : after σ i ≡ None = ap first d.2 in
      step_sound q.meaning q.book posed.proper σ i d.0 en.choice s.label
      (rw (d.1, a) en.sound)
      (λ l. absurd (subst GoesOn a (inside_code σ i l)))
  path_holds i {s = s} (go {s' = s'} st w) en e =
      let d = drop_is σ i s.code (codes_on w) e in
      let a : after σ i ≡ Some s'.code = ap first d.2 ∙ codes_first q w in
      step_sound q.meaning q.book posed.proper σ i d.0 st.choice s.label
      (rw (d.1, a) st.sound)
      (λ l g k. path_holds (suc i) w en d.2 g ((st.label_is g).1 k))

start_begins : (m : ℕ) (k : List ℕ) (c p : ℕ) (τ : List ℕ) → p ≡ 0 → Visited m k 0 c → (r : List ℕ) × (τ ≡ c ∷ (drop (suc p) k ++ r)) → Begins k τ
start_begins m [] c p τ e h b = (τ, refl)
start_begins m (v ∷ k) c p τ e h b = (b.0, b.1 ∙ rw (e, h))

pub leads_continuation : (q : Question) → WellPosed q → (σ : List ℕ) → Leads q σ → Continuation q σ
leads_continuation q posed σ l =
    let long : length σ ≡ suc l.steps = ap length (sym l.codes_are) ∙ codes_length q l.path in
    record {
      nonempty = omega arith;
      codes = subst (AllCodes q.meaning.codes) l.codes_are
          (path_codes q posed l.path (visited_code q.meaning.codes q.kept 0 l.from.code posed.kept_codes l.starts.code_is));
      begins = subst (Begins q.kept) l.codes_are
          (start_begins q.meaning.codes q.kept l.from.code l.from.place (codes_on l.path) l.starts.place_is l.starts.code_is
          (path_begins q l.path l.ends));
      meets = λ f m. path_holds q posed σ 0 l.path l.ends (sym l.codes_are) f ((l.starts.label_is f).1 m);
    }

-- FROM HISTORIES TO PATHS

module _ (q : Question) (posed : WellPosed q) (σ : List ℕ) (cs : AllCodes q.meaning.codes σ) (bg : Begins q.kept σ) where
  kept_short : length q.kept ≤ length σ
  kept_short = let e = ap length bg.1 in omega (arith, e, length-append q.kept bg.0)

  kept_visit : (i : ℕ) → i < length q.kept → visit σ i ≡ visit q.kept i
  kept_visit i h = ap (λ (τ : List ℕ). visit τ i) bg.1 ∙ visit_front q.kept bg.0 i h

  visited : (p i : ℕ) → p ≡ min i (pred (length q.kept)) → suc i < length σ → Visited q.meaning.codes q.kept (suc p) (visit σ (suc i))
  visited p i e h =
      visited_intro q.meaning.codes q.kept (suc p) (visit σ (suc i))
      (λ l. let z : p ≡ i = omega arith in rw z (kept_visit (suc i) (omega arith)))
      (cs (suc i) h)

  build : (n i : ℕ) (s : Position) → length σ ≡ suc (i + n) → s.place ≡ min i (last_place q) → s.code ≡ visit σ i
      → AllHold q.meaning q.book σ i (λ f. f ∈ s.label)
      → (e : Position) × (w : Path q n s e) × Ends q e × (codes_on w ≡ drop i σ)
  build zero i s le pl nw al =
      let h : i < length σ = omega arith in
      let c = step_complete q.meaning q.book posed.proper σ i h s.label al in
      let z : drop (suc i) σ ≡ [] = drop_none σ (suc i) (omega arith) in
      let p : s.place ≡ min i (pred (length q.kept)) = pl in
      let top_is : s.place ≡ pred (length q.kept) = omega (arith, kept_short) in (
        s,
        stay,
        record {
          at_last_place = top_is;
          choice = c.0;
          sound = subst₂ (Sound q.meaning q.book c.0 s.label) (sym nw) (ap first z) c.1;
        },
        rw (drop-cons σ i 0 h, z, nw),
      )
  build (suc n) i s le pl nw al =
      let h : i < length σ = omega arith in
      let h' : suc i < length σ = omega arith in
      let c = step_complete q.meaning q.book posed.proper σ i h s.label al in
      let nl = next_ok q.book posed.proper c.0 s.label in
      let p : s.place ≡ min i (pred (length q.kept)) = pl in
      let s' : Position = record { place = min (suc s.place) (pred (length q.kept)); label = next_of q.book c.0 s.label; code = visit σ (suc i) } in
      let a : after σ i ≡ Some (visit σ (suc i)) = ap first (drop-cons σ (suc i) 0 h') in
      let pl' : min (suc s.place) (pred (length q.kept)) ≡ min (suc i) (pred (length q.kept)) = omega arith in
      let r = build n (suc i) s' (omega arith) pl' refl (λ f m. c.2 h' f ((nl f).0 m)) in
      let st : Step q s s' = record {
        choice = c.0;
        sound = subst₂ (Sound q.meaning q.book c.0 s.label) (sym nw) a c.1;
        label_is = nl;
        place_is = refl;
        code_is = visited s.place i p h';
      } in (
        r.0,
        go st r.1,
        r.2,
        (let e = r.3 in rw (drop-cons σ i 0 h, nw, e)),
      )

continuation_leads : (q : Question) → WellPosed q → (n : ℕ) (σ : List ℕ) → length σ ≡ suc n → Continuation q σ
    → (from to : Position) × (w : Path q n from to) × Starts q from × Ends q to × (codes_on w ≡ σ)
continuation_leads q posed n σ le a =
    let rl = rules_label q.book in
    let s : Position = record { place = 0; label = rl.0; code = visit σ 0 } in
    let h : 0 < length σ = omega arith in
    let r = build q posed σ a.codes a.begins n 0 s (omega arith) (omega arith) refl (λ f m. a.meets f ((rl.1 f).0 m)) in
    let st : Starts q s = record {
      place_is = refl;
      label_is = rl.1;
      code_is = visited_intro q.meaning.codes q.kept 0 (visit σ 0) (λ l. kept_visit q posed σ a.codes a.begins 0 l) (a.codes 0 h);
    } in
    (s, r.0, r.1, st, r.2, r.3)

pub paths_are_histories : PathsAreHistories
paths_are_histories q posed σ = (there, leads_continuation q posed σ)
  where
    there : Continuation q σ → Leads q σ
    there a =
        let h = a.nonempty in
        let r = continuation_leads q posed (pred (length σ)) σ (omega arith) a in
        record { steps = pred (length σ); from = r.0; to = r.1; path = r.2; starts = r.3; ends = r.4; codes_are = r.5 }

-- FROM A SEQUENCE OF POSITIONS TO A HISTORY

module _ (q : Question) (n : ℕ) (at : ℕ → Position) (σ : List ℕ) (long : length σ ≡ suc n)
    (shows : (i : ℕ) → i ≤ n → visit σ i ≡ (at i).code) (step : (i : ℕ) → i < n → Step q (at i) (at (suc i))) where
  walk : (k i : ℕ) → i + k ≡ n → (e : Position) × (w : Path q k (at i) e) × (e ≡ at n) × (codes_on w ≡ drop i σ)
  walk zero i z =
      let h : i < length σ = omega arith in
      let last : i ≡ n = omega arith in
      let none : drop (suc i) σ ≡ [] = drop_none σ (suc i) (omega arith) in
      let v = sym (shows i (omega arith)) in
      (at i, stay, ap at last, rw (drop-cons σ i 0 h, none, v))
  walk (suc k) i z =
      let h : i < length σ = omega arith in
      let v = sym (shows i (omega arith)) in
      let r = walk k (suc i) (omega arith) in
      let e = r.3 in
      (r.0, go (step i (omega arith)) r.1, r.2, rw (drop-cons σ i 0 h, v, e))

pub chains_are_histories : ChainsAreHistories
chains_are_histories q posed n at σ long shows starts step ends =
    let r = walk q n at σ long shows step n 0 (omega arith) in
    leads_continuation q posed σ (record {
      steps = n;
      from = at 0;
      to = r.0;
      path = r.1;
      starts = starts;
      ends = subst⁻¹ (Ends q) r.2 ends;
      codes_are = r.3;
    })

-- CONSEQUENCES

pub lengths_are_reached : LengthsAreReached
lengths_are_reached q posed n = (
  (λ c. let r = continuation_leads q posed n c.0 c.2 c.1 in (r.1, r.4, (r.0, r.3, r.2))),
  (λ r. (
    codes_on r.2.2,
    leads_continuation q posed (codes_on r.2.2)
        (record { steps = n; from = r.2.0; to = r.0; path = r.2.2; starts = r.2.1; ends = r.1; codes_are = refl }),
    codes_length q r.2.2,
  )),
)

-- a continuation has at least one visit
pub possible_visits : (q : Question) (n : ℕ) → Possible q n → suc (pred n) ≡ n
possible_visits q n c = omega (arith, c.1.nonempty, c.2)

-- the least distance of a position that ends is at most any number of steps to one
pub least_reached : (q : Question) (d : ℕ) → LeastEnd q d → (e : Position) (m : ℕ) → Ends q e → Reached q m e → d ≤ m
least_reached q d le e m en r = elim (dec_le d m) [
  | yes l ↦ l
  | no l ↦ absurd (below e m en r (omega arith))
]
  where
    below : (e' : Position) (k : ℕ) → Ends q e' → Reached q k e' → k < d → ⊥
    below e' k en' r' h = no_small k k (omega arith) r' h
      where
        -- by induction: no number of steps up to k that is below d reaches it
        no_small : (j i : ℕ) → i ≤ j → Reached q i e' → i < d → ⊥
        no_small zero i l x h' = absurd (omega (arith, le.1 e' i en' (x, λ m' r''. omega arith)))
        no_small (suc j) i l x h' =
            absurd (omega (arith, le.1 e' i en' (x, λ m' r''. elim (dec_le i m') [ yes y ↦ y | no y ↦ absurd (no_small j m' (omega arith) r'' (omega arith)) ])))

pub shortest_is_least : ShortestIsLeast
shortest_is_least q posed d = (
  (λ le. (
    (lengths_are_reached q posed d).1 (le.0.0, le.0.1, le.0.2.0),
    (λ n c.
        let e = possible_visits q n c in
        let r = (lengths_are_reached q posed (pred n)).0 (subst⁻¹ (Possible q) e c) in
        let l : d ≤ pred n = least_reached q d le r.0 (pred n) r.1 r.2 in omega arith),
  )),
  (λ c.
      let r = (lengths_are_reached q posed d).0 c.0 in (
        (r.0, r.1, (r.2, λ m x. le_of_suc-le-suc (c.1 (suc m) ((lengths_are_reached q posed m).1 (r.0, r.1, x))))),
        (λ e n en di. le_of_suc-le-suc (c.1 (suc n) ((lengths_are_reached q posed n).1 (e, en, di.0)))),
      )),
)

pub none_is_none : NoneIsNone
none_is_none q posed = (
  (λ none e n r en. let c = (lengths_are_reached q posed n).1 (e, en, r) in none c.0 c.1),
  (λ none σ c.
      let h = c.nonempty in
      let r = (lengths_are_reached q posed (pred (length σ))).0 (σ, c, omega arith) in none r.0 (pred (length σ)) r.2 r.1),
)

-- THE REACHED POSITIONS ARE FINITELY MANY

abbrev Bounded : Question → Position → Type 0
Bounded q e = (e.place ≤ last_place q) × (e.label < 2 ^ length q.book.nodes) × (e.code < q.meaning.codes)

starts_bounded : (q : Question) → WellPosed q → (s : Position) → Starts q s → Bounded q s
starts_bounded q posed s st = (
  omega (arith, st.place_is),
  small (length q.book.nodes) s.label (λ f m. rule_inside q.book posed.proper f ((st.label_is f).0 m)),
  visited_code q.meaning.codes q.kept 0 s.code posed.kept_codes st.code_is,
)

step_bounded : (q : Question) → WellPosed q → (s s' : Position) → Step q s s' → Bounded q s'
step_bounded q posed s s' st = (
  omega (arith, st.place_is),
  small (length q.book.nodes) s'.label
      (λ g m. let l = (st.label_is g).0 m in (handed_inside q.book posed.proper st.choice l.0 g l.2).1),
  visited_code q.meaning.codes q.kept (suc s.place) s'.code posed.kept_codes st.code_is,
)

path_bounded : (q : Question) → WellPosed q → {n : ℕ} {s e : Position} → Path q n s e → Bounded q s → Bounded q e
path_bounded q posed stay h = h
path_bounded q posed (go {s = s} {s' = s'} st w) h = path_bounded q posed w (step_bounded q posed s s' st)

pub reached_bounded : ReachedIsBounded
reached_bounded q posed n e r = path_bounded q posed r.2 (starts_bounded q posed r.0 r.1)
