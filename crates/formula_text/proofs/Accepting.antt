-- What is read is a written formula.
use Rattle.std.proofs.Common.{◌≡◌, ℕ, zero, suc, ◌≤◌, Bool, true, false, not, eqb, List, [], ◌∷◌, ◌++◌, Some, None, Ok, Err, decimal, Result, sym, refl, ap, ◌∙◌, ⊎_elim, append_assoc, arith}
use Rattle.std.proofs.lemmas.Bool.{cond-true, cond-false, cond_both, eqb-true, cases_Bool}
use Rattle.refusal.specs.declared.Refusal.{Refusal}
use Rattle.ltlf.specs.Contents.{Contents, put_answer, put_leaves}
use Rattle.ltlf.specs.declared.node.Node.{Node}
use Rattle.items.specs.Numbers.{Reading, natural_read}
use Rattle.items.proofs.Decimal.{natural_law}
use Rattle.formula_text.specs.Operators.{operator_of, constant_node, atom_node, one_node, two_node}
use Rattle.formula_text.specs.Formulas.{Outcome, stopped, found, Reader, placed, put_read, and_then, inside, operand, paired, atom_read, atom_put, by_operator, formula_read}
use Rattle.formula_text.specs.declared.operator.Operator.{Operator}
use Rattle.formula_text.specs.declared.operator.Operator.TheVariants.{Constant, Not, Single, Fixed, Pair, Other}
use Rattle.formula_text.specs.declared.operator.Two.{Two}
use Rattle.formula_text.specs.declared.operator.Two.TheVariants as two
use Rattle.formula_text.specs.Grammar.{Written, made, constant, atom, negation, single, finally, globally, pair, one_sign, two_sign, constant_sign, write, depth, AtomsBelow, then, numbered, put_in, built, Accepted, ReadIsWritten}

-- what a draft holds, a number in it, and what is left of a text
abbrev Triple : Type 0
Triple = Contents × ℕ × List ℕ

abbrev gives : Triple → Outcome
gives p = found p.0 p.1 p.2

never : {P : Type 0} (b : Contents) (p : Triple) → ◌≡◌ {A = Outcome} (stopped b) (gives p) → P
never b p e = let z : ◌≡◌ {A = ℕ} 0 1 = cc in absurd (omega arith)

-- which byte an operator is
abbrev SignOf : ℕ → Operator → Type 0
SignOf b (Constant v) = b ≡ constant_sign v
SignOf b Not = b ≡ 33
SignOf b (Single op) = b ≡ one_sign op
SignOf b (Fixed true two.Until) = b ≡ 70
SignOf b (Fixed true two.And) = ⊥
SignOf b (Fixed true two.Or) = ⊥
SignOf b (Fixed true two.Release) = ⊥
SignOf b (Fixed false two.Release) = b ≡ 71
SignOf b (Fixed false two.And) = ⊥
SignOf b (Fixed false two.Or) = ⊥
SignOf b (Fixed false two.Until) = ⊥
SignOf b (Pair op) = b ≡ two_sign op
SignOf b Other = Unit {0}

sign_of : (b : ℕ) → SignOf b (operator_of b)
sign_of b =
    cond_both (eqb b 84) _ _ (SignOf b) (eqb-true b 84) (λ _.
    cond_both (eqb b 76) _ _ (SignOf b) (eqb-true b 76) (λ _.
    cond_both (eqb b 33) _ _ (SignOf b) (eqb-true b 33) (λ _.
    cond_both (eqb b 88) _ _ (SignOf b) (eqb-true b 88) (λ _.
    cond_both (eqb b 87) _ _ (SignOf b) (eqb-true b 87) (λ _.
    cond_both (eqb b 70) _ _ (SignOf b) (eqb-true b 70) (λ _.
    cond_both (eqb b 71) _ _ (SignOf b) (eqb-true b 71) (λ _.
    cond_both (eqb b 38) _ _ (SignOf b) (eqb-true b 38) (λ _.
    cond_both (eqb b 124) _ _ (SignOf b) (eqb-true b 124) (λ _.
    cond_both (eqb b 85) _ _ (SignOf b) (eqb-true b 85) (λ _.
    cond_both (eqb b 82) _ _ (SignOf b) (eqb-true b 82) (λ _. tt)))))))))))

pub record Put (node : Node) (rest : List ℕ) (b : Contents) (p : Triple) : Type 0 where
  pub result : put_in node b ≡ made p.0 p.1
  pub same : rest ≡ p.2

put_gives : (node : Node) (rest : List ℕ) (b : Contents) (p : Triple) → put_read node rest b ≡ gives p → Put node rest b p
unfolding put_read
put_gives node rest b p e = go (put_answer b node) refl
  where
    go : (o : Result ℕ Refusal) → put_answer b node ≡ o → Put node rest b p
    go (Err r) is = never (put_leaves b node) p (ap (λ o. placed o rest (put_leaves b node)) (sym is) ∙ e)
    go (Ok k) is =
        let whole : ◌≡◌ {A = Outcome} (found (put_leaves b node) k rest) (gives p) = ap (λ o. placed o rest (put_leaves b node)) (sym is) ∙ e in
        let held : put_leaves b node ≡ p.0 = cc in
        let number : k ≡ p.1 = cc in
        let left : rest ≡ p.2 = cc in
        record { result = ap (λ o. numbered o (put_leaves b node)) is ∙ (λ i. made (held i) (number i)); same = left }

pub record Ran (read : Reader) (negated : Bool) (text : List ℕ) (b : Contents) (p : Triple) : Type 0 where
  pub inner : List ℕ
  pub spaced : text ≡ 32 ∷ inner
  pub result : read negated inner b ≡ gives p

ran_gives : (read : Reader) (negated : Bool) (text : List ℕ) (b : Contents) (p : Triple) → operand read negated text b ≡ gives p → Ran read negated text b p
ran_gives read negated [] b p e = never b p e
ran_gives read negated (x ∷ xs) b p e =
    ⊎_elim
    (λ is. record { inner = xs; spaced = ap (λ y. y ∷ xs) (eqb-true x 32 is); result = ap (λ o. inside read negated o b) (sym (cond-true _ _ _ is)) ∙ e })
    (λ is. never b p (ap (λ o. inside read negated o b) (sym (cond-false (eqb x 32) (Some xs) None is)) ∙ e))
    (cases_Bool (eqb x 32))

pub record Then (o : Outcome) (f : Contents → ℕ → List ℕ → Outcome) (p : Triple) : Type 0 where
  pub first : Triple
  pub was : o ≡ gives first
  pub next : f first.0 first.1 first.2 ≡ gives p

then_gives : (o : Outcome) (f : Contents → ℕ → List ℕ → Outcome) (p : Triple) → and_then o f ≡ gives p → Then o f p
then_gives (stopped b) f p e = never b p e
then_gives (found b k rest) f p e = record { first = (b, k, rest); was = refl; next = e }

abbrev Before : ℕ → Type 0
Before d = (negated : Bool) (text : List ℕ) (b after : Contents) (number : ℕ) (rest : List ℕ) → formula_read d negated text b ≡ found after number rest → Accepted d negated text b after number rest

-- the right operand and its node, after a left one that was built
pub record Right (d : ℕ) (negated : Bool) (op : Two) (text : List ℕ) (b : Contents) (l : ℕ) (p : Triple) : Type 0 where
  pub formula : Written
  pub written : text ≡ 32 ∷ (write formula ++ p.2)
  pub deep : depth formula ≤ d
  pub below : AtomsBelow 256 formula
  pub result : then (built negated formula b) (λ b r. put_in (two_node op negated l r) b) ≡ made p.0 p.1

right_gives : (d : ℕ) (ih : Before d) (negated : Bool) (op : Two) (text : List ℕ) (b : Contents) (l : ℕ) (p : Triple) → and_then (operand (formula_read d) negated text b) (λ b r rest. put_read (two_node op negated l r) rest b) ≡ gives p → Right d negated op text b l p
right_gives d ih negated op text b l p e =
    let t = then_gives (operand (formula_read d) negated text b) (λ b r rest. put_read (two_node op negated l r) rest b) p e in
    let g = ran_gives (formula_read d) negated text b t.first t.was in
    let a = ih negated g.inner b t.first.0 t.first.1 t.first.2 g.result in
    let u = put_gives (two_node op negated l t.first.1) t.first.2 t.first.0 p t.next in
    record {
      formula = a.formula;
      written = g.spaced ∙ ap (λ x. 32 ∷ x) (a.written ∙ ap (λ x. write a.formula ++ x) u.same);
      deep = a.deep;
      below = a.below;
      result = ap (λ m. then m (λ b r. put_in (two_node op negated l r) b)) a.result ∙ u.result;
    }

atom_gives : (d : ℕ) (negated : Bool) (text : List ℕ) (b : Contents) (p : Triple) → atom_read negated text b ≡ gives p → Accepted (suc d) negated text b p.0 p.1 p.2
unfolding built
atom_gives d negated text b p e = go (natural_read 255 text) refl
  where
    go : (r : Reading) → natural_read 255 text ≡ r → Accepted (suc d) negated text b p.0 p.1 p.2
    go None is = never b p (ap (λ r. atom_put negated r b) (sym is) ∙ e)
    go (Some r) is =
        let u = put_gives (atom_node negated r.0) r.1 b p (ap (λ r. atom_put negated r b) (sym is) ∙ e) in
        let w = (natural_law 255 (omega arith) text r.0 r.1).0 is in
        record {
          formula = atom r.0;
          written = w.text ∙ ap (λ x. decimal r.0 ++ x) u.same;
          deep = omega arith;
          below = omega (arith, w.within);
          result = u.result;
        }

module _ (d : ℕ) (ih : Before d) (negated : Bool) (x : ℕ) (xs : List ℕ) (b : Contents) (p : Triple) where
  fixed_gives : (v : Bool) (op : Two) (whole : Written → Written) → (sign : ℕ) → x ≡ sign → ((w : Written) → write (whole w) ≡ sign ∷ 32 ∷ write w) → ((w : Written) → depth (whole w) ≡ suc (depth w)) → ((w : Written) → AtomsBelow 256 w → AtomsBelow 256 (whole w)) → ((w : Written) → built negated (whole w) b ≡ then (put_in (constant_node v negated) b) (λ b l. then (built negated w b) (λ b r. put_in (two_node op negated l r) b))) → paired (formula_read d) negated op (put_read (constant_node v negated) xs b) ≡ gives p → Accepted (suc d) negated (x ∷ xs) b p.0 p.1 p.2
  fixed_gives v op whole sign is writes deeper belows builds e =
      let t = then_gives (put_read (constant_node v negated) xs b) (λ b l rest. and_then (operand (formula_read d) negated rest b) (λ b r rest. put_read (two_node op negated l r) rest b)) p e in
      let g = put_gives (constant_node v negated) xs b t.first t.was in
      let a = right_gives d ih negated op t.first.2 t.first.0 t.first.1 p t.next in
      record {
        formula = whole a.formula;
        written = (λ i. is i ∷ (g.same ∙ a.written) i) ∙ ap (λ y. y ++ p.2) (sym (writes a.formula));
        deep = omega (arith, deeper a.formula, a.deep);
        below = belows a.formula a.below;
        result = builds a.formula ∙ ap (λ m. then m (λ b l. then (built negated a.formula b) (λ b r. put_in (two_node op negated l r) b))) g.result ∙ a.result;
      }

  by_sign : (op : Operator) → SignOf x op → by_operator (formula_read d) negated (x ∷ xs) xs b op ≡ gives p → Accepted (suc d) negated (x ∷ xs) b p.0 p.1 p.2
  unfolding built
  by_sign (Constant v) is e =
      let g = put_gives (constant_node v negated) xs b p e in
      record { formula = constant v; written = λ i. is i ∷ g.same i; deep = omega arith; below = tt; result = g.result }
  by_sign Not is e =
      let g = ran_gives (formula_read d) (not negated) xs b p e in
      let a = ih (not negated) g.inner b p.0 p.1 p.2 g.result in
      record { formula = negation a.formula; written = λ i. is i ∷ (g.spaced ∙ ap (λ y. 32 ∷ y) a.written) i; deep = omega (arith, a.deep); below = a.below; result = a.result }
  by_sign (Single op) is e =
      let t = then_gives (operand (formula_read d) negated xs b) (λ b k rest. put_read (one_node op negated k) rest b) p e in
      let g = ran_gives (formula_read d) negated xs b t.first t.was in
      let a = ih negated g.inner b t.first.0 t.first.1 t.first.2 g.result in
      let u = put_gives (one_node op negated t.first.1) t.first.2 t.first.0 p t.next in
      record {
        formula = single op a.formula;
        written = λ i. is i ∷ (g.spaced ∙ ap (λ y. 32 ∷ y) (a.written ∙ ap (λ y. write a.formula ++ y) u.same)) i;
        deep = omega (arith, a.deep);
        below = a.below;
        result = ap (λ m. then m (λ b k. put_in (one_node op negated k) b)) a.result ∙ u.result;
      }
  by_sign (Fixed true two.Until) is e = fixed_gives true two.Until finally 70 is (λ w. refl) (λ w. refl) (λ w h. h) (λ w. refl) e
  by_sign (Fixed true two.And) is e = absurd is
  by_sign (Fixed true two.Or) is e = absurd is
  by_sign (Fixed true two.Release) is e = absurd is
  by_sign (Fixed false two.Release) is e = fixed_gives false two.Release globally 71 is (λ w. refl) (λ w. refl) (λ w h. h) (λ w. refl) e
  by_sign (Fixed false two.And) is e = absurd is
  by_sign (Fixed false two.Or) is e = absurd is
  by_sign (Fixed false two.Until) is e = absurd is
  by_sign (Pair op) is e =
      let t = then_gives (operand (formula_read d) negated xs b) (λ b l rest. and_then (operand (formula_read d) negated rest b) (λ b r rest. put_read (two_node op negated l r) rest b)) p e in
      let g = ran_gives (formula_read d) negated xs b t.first t.was in
      let l = ih negated g.inner b t.first.0 t.first.1 t.first.2 g.result in
      let r = right_gives d ih negated op t.first.2 t.first.0 t.first.1 p t.next in
      record {
        formula = pair op l.formula r.formula;
        written = λ i. is i ∷ (g.spaced ∙ ap (λ y. 32 ∷ y) (l.written ∙ ap (λ y. write l.formula ++ y) r.written ∙ sym (append_assoc (write l.formula) (32 ∷ write r.formula) p.2))) i;
        deep = omega (arith, l.deep, r.deep);
        below = (l.below, r.below);
        result = ap (λ m. then m (λ b l. then (built negated r.formula b) (λ b r. put_in (two_node op negated l r) b))) l.result ∙ r.result;
      }
  by_sign Other is e = atom_gives d negated (x ∷ xs) b p e

pub read_is_written : ReadIsWritten
unfolding formula_read
read_is_written zero negated text b after number rest e = never b (after, number, rest) e
read_is_written (suc d) negated [] b after number rest e = never b (after, number, rest) e
read_is_written (suc d) negated (x ∷ xs) b after number rest e =
    by_sign d (read_is_written d) negated x xs b (after, number, rest) (operator_of x) (sign_of x) e
