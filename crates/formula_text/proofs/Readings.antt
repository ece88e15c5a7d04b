-- How a reading goes on with what stands in front.
use Rattle.std.proofs.Common.{◌≡◌, ℕ, zero, suc, ◌-◌, ◌<◌, Bool, not, List, [], ◌∷◌, length, get_or, take, drop, Some, None, Ok, Err, Result, sym, refl, ap, ◌∙◌, arith}
use Rattle.std.specs.Result.{result_ok}
use Rattle.std.proofs.lemmas.List.{take_rest}
use Rattle.refusal.specs.declared.Refusal.{Refusal}
use Rattle.ltlf.specs.declared.node.Node.{Node}
use Rattle.ltlf.specs.Contents.{Contents, put_answer, put_leaves}
use Rattle.formula_text.specs.declared.operator.Operator.{Operator}
use Rattle.formula_text.specs.declared.operator.Operator.TheVariants.{Constant, Not, Single, Other}
use Rattle.formula_text.specs.declared.operator.One.{One}
use Rattle.formula_text.specs.declared.operator.Two.{Two}
use Rattle.formula_text.specs.Formulas.{Outcome, stopped, found, Reader, spaced, inside, operand, and_then, placed, put_read, paired, atom_read, by_operator, formula_read}
use Rattle.formula_text.specs.Operators.{operator_of, constant_node, one_node, two_node}

-- a node that was put, and one that was not
module _ (b after : Contents) (node : Node) (rest : List ℕ) (left : after ≡ put_leaves b node) where
  pub was_put : (r : Result ℕ Refusal) → r ≡ put_answer b node → (k : ℕ) → Some k ≡ result_ok r → found after k rest ≡ put_read node rest b
  unfolding put_read
  was_put (Ok k) is n e = (λ i. found (left i) (number i) rest) ∙ ap (λ o. placed o rest (put_leaves b node)) is
    where
      number : n ≡ k
      number = cc
  was_put (Err r) is n e = let z : ◌≡◌ {A = ℕ} 0 1 = cc in absurd (omega arith)

  pub was_refused : (r : Result ℕ Refusal) → r ≡ put_answer b node → None ≡ result_ok r → stopped after ≡ put_read node rest b
  unfolding put_read
  was_refused (Ok k) is e = let z : ◌≡◌ {A = ℕ} 0 1 = cc in absurd (omega arith)
  was_refused (Err r) is e = ap stopped left ∙ ap (λ o. placed o rest (put_leaves b node)) is

pub too_deep : (depth : ℕ) (negated : Bool) (text : List ℕ) (b : Contents) → depth ≡ 0 → stopped b ≡ formula_read depth negated text b
unfolding formula_read
too_deep zero negated text b none = refl
too_deep (suc depth) negated text b none = absurd (omega arith)

pub nothing_read : (depth : ℕ) (negated : Bool) (text : List ℕ) (b : Contents) → length text ≡ 0 → stopped b ≡ formula_read depth negated text b
unfolding formula_read
nothing_read zero negated text b none = refl
nothing_read (suc depth) negated [] b none = refl
nothing_read (suc depth) negated (x ∷ xs) b none = absurd (omega arith)

-- the operator decides
pub by : (depth : ℕ) (negated : Bool) (text : List ℕ) (b : Contents) → 0 < depth → 0 < length text → formula_read depth negated text b ≡ by_operator (formula_read (depth - 1)) negated text (take (length text - 1) (drop 1 text)) b (operator_of (get_or text 0 0))
unfolding formula_read
by zero negated text b deep some = absurd (omega arith)
by (suc depth) negated [] b deep some = absurd (omega arith)
by (suc depth) negated (x ∷ xs) b deep some =
    let less : depth ≡ suc depth - 1 = omega arith in
    (λ i. by_operator (formula_read (less i)) negated (x ∷ xs) (sym (take_rest (x ∷ xs) 1) i) b (operator_of x))

-- a space and a formula, as a reader reads them
module _ (read : Reader) (negated : Bool) (text : List ℕ) (b : Contents) where
  pub ran_none : None ≡ spaced text → stopped b ≡ operand read negated text b
  ran_none e = ap (λ o. inside read negated o b) e

  pub ran : (bs : List ℕ) (o : Outcome) → Some bs ≡ spaced text → o ≡ read negated bs b → o ≡ operand read negated text b
  ran bs o e is = is ∙ ap (λ o. inside read negated o b) e

-- two operands, the left one as it came out
module _ (read : Reader) (negated : Bool) (op : Two) (left : Outcome) where
  pub no_left : (b : Contents) → stopped b ≡ left → stopped b ≡ paired read negated op left
  no_left b e = ap (paired read negated op) e

  module _ (b : Contents) (l : ℕ) (rest : List ℕ) (e : found b l rest ≡ left) where
    pub no_right : (b₁ : Contents) → stopped b₁ ≡ operand read negated rest b → stopped b₁ ≡ paired read negated op left
    no_right b₁ none = ap (λ o. and_then o (λ b r rest. put_read (two_node op negated l r) rest b)) none ∙ ap (paired read negated op) e

    pub both : (b₁ : Contents) (r : ℕ) (end : List ℕ) (node : Node) (o : Outcome) → found b₁ r end ≡ operand read negated rest b → node ≡ two_node op negated l r → o ≡ put_read node end b₁ → o ≡ paired read negated op left
    both b₁ r end node o right is so =
        so ∙ ap (λ n. put_read n end b₁) is ∙ ap (λ o. and_then o (λ b r rest. put_read (two_node op negated l r) rest b)) right ∙ ap (paired read negated op) e

-- by the operator in front
module _ (depth : ℕ) (negated : Bool) (text : List ℕ) (b : Contents) (deep : 0 < depth) (some : 0 < length text) where
  via : (op : Operator) (o : Outcome) → op ≡ operator_of (get_or text 0 0) → o ≡ by_operator (formula_read (depth - 1)) negated text (take (length text - 1) (drop 1 text)) b op → o ≡ formula_read depth negated text b
  via op o is so = so ∙ ap (by_operator (formula_read (depth - 1)) negated text (take (length text - 1) (drop 1 text)) b) is ∙ sym (by depth negated text b deep some)

  pub at_constant : (v : Bool) (node : Node) (o : Outcome) → Constant v ≡ operator_of (get_or text 0 0) → node ≡ constant_node v negated → o ≡ put_read node (take (length text - 1) (drop 1 text)) b → o ≡ formula_read depth negated text b
  at_constant v node o is made so = via (Constant v) o is (so ∙ ap (λ n. put_read n (take (length text - 1) (drop 1 text)) b) made)

  pub not_space : Not ≡ operator_of (get_or text 0 0) → None ≡ spaced (take (length text - 1) (drop 1 text)) → stopped b ≡ formula_read depth negated text b
  not_space is e = via Not (stopped b) is (ran_none (formula_read (depth - 1)) (not negated) (take (length text - 1) (drop 1 text)) b e)

  pub not_inner : (bs : List ℕ) (o : Outcome) → Not ≡ operator_of (get_or text 0 0) → Some bs ≡ spaced (take (length text - 1) (drop 1 text)) → o ≡ formula_read (depth - 1) (not negated) bs b → o ≡ formula_read depth negated text b
  not_inner bs o is e so = via Not o is (ran (formula_read (depth - 1)) (not negated) (take (length text - 1) (drop 1 text)) b bs o e so)

  single_none : (op : One) (b₁ : Contents) → Single op ≡ operator_of (get_or text 0 0) → stopped b₁ ≡ operand (formula_read (depth - 1)) negated (take (length text - 1) (drop 1 text)) b → stopped b₁ ≡ formula_read depth negated text b
  single_none op b₁ is none = via (Single op) (stopped b₁) is (ap (λ o. and_then o (λ b k rest. put_read (one_node op negated k) rest b)) none)

  pub single_space : (op : One) → Single op ≡ operator_of (get_or text 0 0) → None ≡ spaced (take (length text - 1) (drop 1 text)) → stopped b ≡ formula_read depth negated text b
  single_space op is e = single_none op b is (ran_none (formula_read (depth - 1)) negated (take (length text - 1) (drop 1 text)) b e)

  pub single_inner : (op : One) (bs : List ℕ) (b₁ : Contents) → Single op ≡ operator_of (get_or text 0 0) → Some bs ≡ spaced (take (length text - 1) (drop 1 text)) → stopped b₁ ≡ formula_read (depth - 1) negated bs b → stopped b₁ ≡ formula_read depth negated text b
  single_inner op bs b₁ is e none = single_none op b₁ is (ran (formula_read (depth - 1)) negated (take (length text - 1) (drop 1 text)) b bs (stopped b₁) e none)

  pub single : (op : One) (bs : List ℕ) (b₁ : Contents) (k : ℕ) (rest : List ℕ) (node : Node) (o : Outcome) → Single op ≡ operator_of (get_or text 0 0) → Some bs ≡ spaced (take (length text - 1) (drop 1 text)) → found b₁ k rest ≡ formula_read (depth - 1) negated bs b → node ≡ one_node op negated k → o ≡ put_read node rest b₁ → o ≡ formula_read depth negated text b
  single op bs b₁ k rest node o is e inner made so =
      via (Single op) o is (so ∙ ap (λ n. put_read n rest b₁) made ∙ ap (λ o. and_then o (λ b k rest. put_read (one_node op negated k) rest b)) (ran (formula_read (depth - 1)) negated (take (length text - 1) (drop 1 text)) b bs _ e inner))

  -- the operators with two operands, after the left one
  module _ (op : Two) (whole : Operator) (left : Outcome) (is : whole ≡ operator_of (get_or text 0 0)) (so : paired (formula_read (depth - 1)) negated op left ≡ by_operator (formula_read (depth - 1)) negated text (take (length text - 1) (drop 1 text)) b whole) where
    pub left_none : (b₁ : Contents) → stopped b₁ ≡ left → stopped b₁ ≡ formula_read depth negated text b
    left_none b₁ none = via whole (stopped b₁) is (no_left (formula_read (depth - 1)) negated op left b₁ none ∙ so)

    module _ (b₁ : Contents) (l : ℕ) (rest : List ℕ) (was : found b₁ l rest ≡ left) where
      pub right_space : None ≡ spaced rest → stopped b₁ ≡ formula_read depth negated text b
      right_space e = via whole (stopped b₁) is (no_right (formula_read (depth - 1)) negated op left b₁ l rest was b₁ (ran_none (formula_read (depth - 1)) negated rest b₁ e) ∙ so)

      pub right_inner : (bs : List ℕ) (b₂ : Contents) → Some bs ≡ spaced rest → stopped b₂ ≡ formula_read (depth - 1) negated bs b₁ → stopped b₂ ≡ formula_read depth negated text b
      right_inner bs b₂ e none = via whole (stopped b₂) is (no_right (formula_read (depth - 1)) negated op left b₁ l rest was b₂ (ran (formula_read (depth - 1)) negated rest b₁ bs (stopped b₂) e none) ∙ so)

      pub right : (bs : List ℕ) (b₂ : Contents) (r : ℕ) (end : List ℕ) (node : Node) (o : Outcome) → Some bs ≡ spaced rest → found b₂ r end ≡ formula_read (depth - 1) negated bs b₁ → node ≡ two_node op negated l r → o ≡ put_read node end b₂ → o ≡ formula_read depth negated text b
      right bs b₂ r end node o e inner made put =
          via whole o is (both (formula_read (depth - 1)) negated op left b₁ l rest was b₂ r end node o (ran (formula_read (depth - 1)) negated rest b₁ bs _ e inner) made put ∙ so)

  pub other : (o : Outcome) → Other ≡ operator_of (get_or text 0 0) → o ≡ atom_read negated text b → o ≡ formula_read depth negated text b
  other o is so = via Other o is so
