-- Lines of rules, read one after the other, and the book that they leave.
use Rattle.std.proofs.Common.{◌≡◌, ℕ, ◌+◌, ◌<◌, ◌≤◌, true, false, not, eqb, ltb, ◌⊎◌, List, [], ◌∷◌, ◌++◌, map, length, Some, None, Ok, Err, Option, Result, sym, refl, ap, ◌∙◌, subst, inl, inr, ⊎_elim, append-nil}
use Rattle.std.proofs.lemmas.Bool.{cond-true, cond-false, cases_Bool, eqb-true, and_from, and_right, not_from_true, not_from_false, false≢true}
use Rattle.refusal.specs.declared.Refusal.{Refusal}
use Rattle.refusal.specs.declared.Refusal.TheVariants.{Unknown}
use Rattle.theory.specs.Meaning.{Meaning}
use Rattle.ltlf.specs.Contents.{Contents, Proper, among, rule_answer, rule_leaves}
use Rattle.judge.specs.Formulas.{Among}
use Rattle.judge.specs.Holding.{Meets}
use Rattle.judge.proofs.Checking.{some_visit}
use Rattle.items.specs.Lines.{behind}
use Rattle.items.specs.Reads.{and_text}
use Rattle.formula_text.specs.Formulas.{Outcome, stopped, found, formula_read}
use Rattle.formula_text.specs.Grammar.{Written, write, depth, AtomsBelow}
use Rattle.formula_text.specs.Trees.{Tree, pushed, Stands}
use Rattle.formula_text.proofs.Accepting.{read_is_written}
use Rattle.formula_text.proofs.Standing.{built_stands, stands_more}
use Rattle.sheet_text.specs.Lines.{go_on, lines_read}
use Rattle.sheet_text.specs.Rules.{unless_refused, as_rule, rule_text, rule_read}
use Rattle.rule_meaning.specs.Written.{WrittenHolds, AllHold}
use Rattle.rule_meaning.specs.Theorems.{rule_line, AllReadable, Rulebook}
use Rattle.rule_meaning.proofs.Properness.{rule_proper}
use Rattle.rule_meaning.proofs.Saying.{stands_says, read_says}

never_some : {A P : Type 0} (a : A) → ◌≡◌ {A = Option A} None (Some a) → P
never_some a e = cc

-- what stands behind a word
behind_word : (word text rest : List ℕ) → behind word text ≡ Some rest → text ≡ word ++ rest
behind_word [] text rest e = cc
behind_word (w ∷ ws) [] rest e = never_some rest e
behind_word (w ∷ ws) (b ∷ bs) rest e =
    ⊎_elim
    (λ is. let tail : bs ≡ ws ++ rest = behind_word ws bs rest (sym (cond-true (eqb b w) (behind ws bs) None is) ∙ e) in λ i. eqb-true b w is i ∷ tail i)
    (λ isnt. never_some rest (sym (cond-false (eqb b w) (behind ws bs) None isnt) ∙ e))
    (cases_Bool (eqb b w))

among_before : (f : ℕ) (xs ys : List ℕ) → Among f xs → Among f (xs ++ ys)
among_before f [] ys w = absurd w
among_before f (x ∷ xs) ys (inl is) = inl is
among_before f (x ∷ xs) ys (inr w) = inr (among_before f xs ys w)

among_last : (f : ℕ) (xs : List ℕ) → Among f (xs ++ f ∷ [])
among_last f [] = inl refl
among_last f (x ∷ xs) = inr (among_last f xs)

among_either : (f k : ℕ) (xs : List ℕ) → Among f (xs ++ k ∷ []) → Among f xs ⊎ (f ≡ k)
among_either f k [] (inl is) = inr is
among_either f k [] (inr none) = absurd none
among_either f k (x ∷ xs) (inl is) = inl (inl is)
among_either f k (x ∷ xs) (inr w) = ⊎_elim (λ v. inl (inr v)) (λ is. inr is) (among_either f k xs w)

among_found : (f : ℕ) (xs : List ℕ) → among f xs ≡ true → Among f xs
among_found f [] e = absurd (false≢true e)
among_found f (x ∷ xs) e =
    ⊎_elim
    (λ is. inl (sym (eqb-true x f is)))
    (λ isnt. inr (among_found f xs (sym (cond-false (eqb x f) true (among f xs) isnt) ∙ e)))
    (cases_Bool (eqb x f))

-- w stands in the list
abbrev In : Written → List Written → Type 0
In w [] = ⊥
In w (v ∷ vs) = (w ≡ v) ⊎ In w vs

-- What reading some rules adds to a draft: each rule has a number among the rules, and each number that is new there stands for one of them.
pub record Added (b after : Contents) (ws : List Written) : Type 0 where
  pub proper : Proper b → Proper after
  pub stay : (t : Tree) (k : ℕ) → Stands b.nodes t k → Stands after.nodes t k
  pub keeps : (f : ℕ) → Among f b.rules → Among f after.rules
  pub numbers : (w : Written) → In w ws → (f : ℕ) × Among f after.rules × Stands after.nodes (pushed false w) f
  pub stand : (f : ℕ) → Among f after.rules → Among f b.rules ⊎ ((w : Written) × In w ws × Stands after.nodes (pushed false w) f)

nothing_added : (b : Contents) → Added b b []
nothing_added b = record { proper = λ p. p; stay = λ t k s. s; keeps = λ f w. w; numbers = λ w none. absurd none; stand = λ f w. inl w }

added_then : (b c d : Contents) (w : Written) (ws : List Written) → Added b c (w ∷ []) → Added c d ws → Added b d (w ∷ ws)
added_then b c d w ws s t = record {
  proper = λ p. t.proper (s.proper p);
  stay = λ u k h. t.stay u k (s.stay u k h);
  keeps = λ f a. t.keeps f (s.keeps f a);
  numbers = λ v. elim [
    | inl is ↦ (let n = s.numbers v (inl is) in (n.0, t.keeps n.0 n.1, t.stay (pushed false v) n.0 n.2))
    | inr later ↦ t.numbers v later
  ];
  stand = λ f a. elim (t.stand f a) [
    | inl early ↦ elim (s.stand f early) [
      | inl old ↦ inl old
      | inr (v, here, h) ↦ inr (v, ⊎_elim (λ is. inl is) (λ none. absurd none) here, t.stay (pushed false v) f h)
    ]
    | inr (v, later, h) ↦ inr (v, inr later, h)
  ];
}

-- a formula that stands for a rule is named
module _ (b c : Contents) (k : ℕ) (w : Written) (proper : Proper b → Proper c)
    (stay : (t : Tree) (k : ℕ) → Stands b.nodes t k → Stands c.nodes t k) (same-rules : c.rules ≡ b.rules)
    (here : Stands c.nodes (pushed false w) k) (put : ltb k (length c.nodes) ≡ true) where
  abbrev leaves : List ℕ
  leaves = (rule_leaves c k).rules

  old_rules : among k c.rules ≡ true → leaves ≡ c.rules
  old_rules is = cond-false _ _ _ (and_right (ltb k (length c.nodes)) (not (among k c.rules)) (not_from_true (among k c.rules) is))

  new_rules : among k c.rules ≡ false → leaves ≡ c.rules ++ k ∷ []
  new_rules isnt = cond-true _ _ _ (and_from (ltb k (length c.nodes)) (not (among k c.rules)) put (not_from_false (among k c.rules) isnt))

  keeps : (f : ℕ) → Among f b.rules → Among f leaves
  keeps f a =
      let a' : Among f c.rules = subst (Among f) (sym same-rules) a in
      ⊎_elim
      (λ is. subst (Among f) (sym (old_rules is)) a')
      (λ isnt. subst (Among f) (sym (new_rules isnt)) (among_before f c.rules (k ∷ []) a'))
      (cases_Bool (among k c.rules))

  named : Among k leaves
  named =
      ⊎_elim
      (λ is. subst (Among k) (sym (old_rules is)) (among_found k c.rules is))
      (λ isnt. subst (Among k) (sym (new_rules isnt)) (among_last k c.rules))
      (cases_Bool (among k c.rules))

  only : (f : ℕ) → Among f leaves → Among f b.rules ⊎ (f ≡ k)
  only f a =
      ⊎_elim
      (λ is. inl (subst (Among f) (old_rules is ∙ same-rules) a))
      (λ isnt. ⊎_elim (λ v. inl (subst (Among f) same-rules v)) (λ e. inr e) (among_either f k c.rules (subst (Among f) (new_rules isnt) a)))
      (cases_Bool (among k c.rules))

  pub named_added : Added b (rule_leaves c k) (w ∷ [])
  named_added = record {
    proper = λ p. rule_proper c (proper p) k;
    stay = stay;
    keeps = keeps;
    numbers = λ v. elim [
      | inl is ↦ (k, named, subst (λ u. Stands c.nodes (pushed false u) k) (sym is) here)
      | inr none ↦ absurd none
    ];
    stand = λ f a. ⊎_elim (λ old. inl old) (λ is. inr (w, inl refl, subst (Stands c.nodes (pushed false w)) (sym is) here)) (only f a);
  }

-- a line that was read as a rule
pub record Line (line : List ℕ) (b after : Contents) : Type 0 where
  pub rule : Written
  pub written : line ≡ rule_line rule
  pub deep : depth rule ≤ 32
  pub below : AtomsBelow 256 rule
  pub added : Added b after (rule ∷ [])

module _ (b after : Contents) (line text : List ℕ) (is : line ≡ 114 ∷ 32 ∷ text) where
  put_line : (c : Contents) (k : ℕ) → formula_read 32 false text b ≡ found c k [] → (o : Result (Unit {0}) Refusal) → rule_answer c k ≡ o → unless_refused o (rule_leaves c k) ≡ Some after → Line line b after
  put_line c k e (Err r) answer so = never_some after so
  put_line c k e (Ok u) answer so =
      let a = read_is_written 32 false text b c k [] e in
      let s = built_stands false a.formula b c k a.result in
      let leaves : rule_leaves c k ≡ after = cc in
      let put : ltb k (length c.nodes) ≡ true = ⊎_elim
      (λ t. t)
      (λ f. let w : ◌≡◌ {A = Result (Unit {0}) Refusal} (Err Unknown) (Ok u) = sym (cond-false (ltb k (length c.nodes)) (Ok tt) (Err Unknown) f) ∙ answer in cc)
      (cases_Bool (ltb k (length c.nodes))) in
      record {
        rule = a.formula;
        written = is ∙ ap (λ t. 114 ∷ 32 ∷ t) (a.written ∙ append-nil (write a.formula));
        deep = a.deep;
        below = a.below;
        added = subst (λ x. Added b x (a.formula ∷ [])) leaves
            (named_added b c k a.formula (λ p. (read_says 32 text b c k [] p e).0) (λ t j. stands_more b c t j s.0) s.0.rules s.1 put);
      }

  by_outcome : (o : Outcome) → formula_read 32 false text b ≡ o → as_rule o ≡ Some after → Line line b after
  by_outcome (stopped c) e so = never_some after so
  by_outcome (found c k []) e so = put_line c k e (rule_answer c k) refl so
  by_outcome (found c k (x ∷ xs)) e so = never_some after so

line_read : (b after : Contents) (line : List ℕ) → rule_read b line ≡ Some after → Line line b after
line_read b after line e = go (behind (114 ∷ 32 ∷ []) line) refl
  where
    go : (o : Option (List ℕ)) → behind (114 ∷ 32 ∷ []) line ≡ o → Line line b after
    go None is = never_some after (ap (λ o. and_text o (rule_text b)) (sym is) ∙ e)
    go (Some text) is =
        by_outcome b after line text (behind_word (114 ∷ 32 ∷ []) line text is) (formula_read 32 false text b) refl
        (ap (λ o. and_text o (rule_text b)) (sym is) ∙ e)

-- lines that were read as rules
pub record Lines (lines : List (List ℕ)) (b after : Contents) : Type 0 where
  pub rules : List Written
  pub written : lines ≡ map rule_line rules
  pub readable : AllReadable rules
  pub added : Added b after rules

pub lines_added : (place : ℕ) (lines : List (List ℕ)) (b after : Contents) → lines_read rule_read place lines b ≡ Ok after → Lines lines b after
lines_added place [] b after e = let is : b ≡ after = cc in record { rules = []; written = refl; readable = tt; added = subst (λ x. Added b x []) is (nothing_added b) }
lines_added place (l ∷ ls) b after e = go (λ c. lines_added (place + length l + 1) ls c after) (rule_read b l) refl
  where
    go : ((c : Contents) → lines_read rule_read (place + length l + 1) ls c ≡ Ok after → Lines ls c after) → (o : Option Contents) → rule_read b l ≡ o → Lines (l ∷ ls) b after
    go later None is =
        let z : ◌≡◌ {A = Result Contents ℕ} (Err place) (Ok after) = ap (λ o. go_on place o (λ s. lines_read rule_read (place + length l + 1) ls s)) (sym is) ∙ e in
        cc
    go later (Some c) is =
        let one = line_read b c l is in
        let more = later c (ap (λ o. go_on place o (λ s. lines_read rule_read (place + length l + 1) ls s)) (sym is) ∙ e) in
        record {
          rules = one.rule ∷ more.rules;
          written = λ i. one.written i ∷ more.written i;
          readable = (one.deep, one.below, more.readable);
          added = added_then b c after one.rule more.rules one.added more.added;
        }

module _ (m : Meaning) (σ : List ℕ) where
  all_each : (ws : List Written) → AllHold m σ ws → (w : Written) → In w ws → WrittenHolds m σ 0 w
  all_each [] h w none = absurd none
  all_each (v ∷ vs) h w (inl is) = subst (WrittenHolds m σ 0) (sym is) h.0
  all_each (v ∷ vs) h w (inr later) = all_each vs h.1 w later

  each_all : (ws : List Written) → ((w : Written) → In w ws → WrittenHolds m σ 0 w) → AllHold m σ ws
  each_all [] h = tt
  each_all (v ∷ vs) h = (h v (inl refl), each_all vs (λ w later. h w (inr later)))

-- rules that are read into a draft without rules
pub book_says : (lines : List (List ℕ)) (b after : Contents) → Proper b → b.rules ≡ [] → Lines lines b after → Proper after × Rulebook lines after
book_says lines b after pr none l = (
  proper,
  record {
    rules = l.rules;
    written = l.written;
    readable = l.readable;
    says = λ m σ some. (to m σ some, from m σ some);
    judged = λ m σ r j passed.
        let some : 0 < length σ = some_visit m after σ passed in
        (λ met. to m σ some ((j.met passed).0 met), λ all. (j.met passed).1 (from m σ some all));
  },
)
  where
    proper : Proper after
    proper = l.added.proper pr

    to : (m : Meaning) (σ : List ℕ) → 0 < length σ → Meets m after σ → AllHold m σ l.rules
    to m σ some meets = each_all m σ l.rules (λ w here. let n = l.added.numbers w here in (stands_says after proper w n.0 n.2 m σ 0 some).0 (meets n.0 n.1))

    from : (m : Meaning) (σ : List ℕ) → 0 < length σ → AllHold m σ l.rules → Meets m after σ
    from m σ some all f a = elim (l.added.stand f a) [
      | inl old ↦ absurd (subst (Among f) none old)
      | inr (w, here, h) ↦ (stands_says after proper w f h m σ 0 some).1 (all_each m σ l.rules all w here)
    ]
