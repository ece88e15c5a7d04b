-- How the text of a formula is read into a draft: operator first, one space between items.
use Rattle.std.specs.Prelude.{ℕ, zero, suc, Bool, not, List, [], ◌∷◌, Some, None, Ok, Err, Option, Result}
use Rattle.refusal.specs.declared.Refusal.{Refusal}
use Rattle.ltlf.specs.Contents.{Contents, put_answer, put_leaves}
use Rattle.ltlf.specs.declared.node.Node.{Node}
use Rattle.items.specs.Numbers.{Reading, natural_read}
use Rattle.items.specs.Lines.{behind}
use Rattle.items.specs.declared.reads.Read.{Read}
use Rattle.formula_text.specs.Operators.{operator_of, constant_node, atom_node, one_node, two_node}
use Rattle.formula_text.specs.declared.operator.Two.{Two}
use Rattle.formula_text.specs.declared.operator.Operator.{Operator}
use Rattle.formula_text.specs.declared.operator.Operator.TheVariants.{Constant, Not, Single, Fixed, Pair, Other}

-- What reading comes to: it stops, or it finds a formula by its number and leaves the text after it;
-- either way the draft holds something.
pub data Outcome : Type 0 where
  stopped : Contents → Outcome
  found : Contents → (formula : ℕ) → (rest : List ℕ) → Outcome

-- what a call gave, with what the draft holds after it
abbrev pub outcome : Option (Read ℕ) → Contents → Outcome
outcome (Some r) b = found b r.value r.rest.now
outcome None b = stopped b

-- what follows a space
abbrev pub spaced : List ℕ → Option (List ℕ)
spaced text = behind (32 ∷ []) text

-- goes on with a formula that was found
abbrev pub and_then : Outcome → (Contents → ℕ → List ℕ → Outcome) → Outcome
and_then (stopped b) f = stopped b
and_then (found b k rest) f = f b k rest

-- the number that a formula was put under, or a refusal, which stops the reading
abbrev pub placed : Result ℕ Refusal → List ℕ → Contents → Outcome
placed (Ok k) rest b = found b k rest
placed (Err e) rest b = stopped b

-- a formula is put
unfoldable pub put_read : Node → List ℕ → Contents → Outcome
put_read node rest b = placed (put_answer b node) rest (put_leaves b node)

-- an atom is put by its number, negated or not
abbrev pub atom_put : Bool → Reading → Contents → Outcome
atom_put negated None b = stopped b
atom_put negated (Some r) b = put_read (atom_node negated r.0) r.1 b

-- a number, which is an atom's
abbrev pub atom_read : Bool → List ℕ → Contents → Outcome
atom_read negated text b = atom_put negated (natural_read 255 text) b

-- reads a formula, negated or not
abbrev pub Reader : Type 0
Reader = Bool → List ℕ → Contents → Outcome

-- a formula, if there is a text for it
abbrev pub inside : Reader → Bool → Option (List ℕ) → Contents → Outcome
inside read negated None b = stopped b
inside read negated (Some bs) b = read negated bs b

-- a space and a formula
abbrev pub operand : Reader → Bool → List ℕ → Contents → Outcome
operand read negated text b = inside read negated (spaced text) b

-- the right operand, after the left one, and then the pair
abbrev pub paired : Reader → Bool → Two → Outcome → Outcome
paired read negated op left =
    and_then left (λ b l rest. and_then (operand read negated rest b) (λ b r rest. put_read (two_node op negated l r) rest b))

-- what an operator says, with the text from it on and the text after it
abbrev pub by_operator : Reader → Bool → (text after : List ℕ) → Contents → Operator → Outcome
by_operator read negated text after b (Constant v) = put_read (constant_node v negated) after b
by_operator read negated text after b Not = operand read (not negated) after b
by_operator read negated text after b (Single op) = and_then (operand read negated after b) (λ b k rest. put_read (one_node op negated k) rest b)
by_operator read negated text after b (Fixed v op) = paired read negated op (put_read (constant_node v negated) after b)
by_operator read negated text after b (Pair op) = paired read negated op (operand read negated after b)
by_operator read negated text after b Other = atom_read negated text b

-- a formula of at most a depth: an atom or a constant has depth 1, and each operator is one deeper than its deepest operand
unfoldable pub formula_read : (depth : ℕ) → Reader
formula_read zero negated text b = stopped b
formula_read (suc depth) negated [] b = stopped b
formula_read (suc depth) negated (x ∷ xs) b = by_operator (formula_read depth) negated (x ∷ xs) xs b (operator_of x)
