-- Formulas as they are written, and what reading one has to give.
use Rattle.std.specs.Prelude.{◌≡◌, ℕ, suc, ◌<◌, ◌≤◌, max, Bool, true, false, not, List, [], ◌∷◌, ◌++◌, Ok, Err, decimal, Result}
use Rattle.refusal.specs.declared.Refusal.{Refusal}
use Rattle.ltlf.specs.Contents.{Contents, put_answer, put_leaves}
use Rattle.ltlf.specs.declared.node.Node.{Node}
use Rattle.items.specs.Numbers.{begins_with_digit}
use Rattle.formula_text.specs.Operators.{constant_node, atom_node, one_node, two_node}
use Rattle.formula_text.specs.Formulas.{Outcome, stopped, found, formula_read}
use Rattle.formula_text.specs.declared.operator.One.{One}
use Rattle.formula_text.specs.declared.operator.One.TheVariants as one
use Rattle.formula_text.specs.declared.operator.Two.{Two}
use Rattle.formula_text.specs.declared.operator.Two.TheVariants as two

-- A formula as a planner writes it.
pub data Written : Type 0 where
  constant : Bool → Written
  atom : ℕ → Written
  negation : Written → Written
  single : One → Written → Written
  finally : Written → Written
  globally : Written → Written
  pair : Two → Written → Written → Written

-- X or W
abbrev pub one_sign : One → ℕ
one_sign one.Tomorrow = 88
one_sign one.WeakTomorrow = 87

-- &, |, U or R
abbrev pub two_sign : Two → ℕ
two_sign two.And = 38
two_sign two.Or = 124
two_sign two.Until = 85
two_sign two.Release = 82

-- T or L
abbrev pub constant_sign : Bool → ℕ
constant_sign true = 84
constant_sign false = 76

-- the text of a formula: operator first, with single spaces; ! is 33, F is 70 and G is 71
abbrev pub write : Written → List ℕ
write (constant v) = constant_sign v ∷ []
write (atom a) = decimal a
write (negation w) = 33 ∷ 32 ∷ write w
write (single op w) = one_sign op ∷ 32 ∷ write w
write (finally w) = 70 ∷ 32 ∷ write w
write (globally w) = 71 ∷ 32 ∷ write w
write (pair op l r) = two_sign op ∷ 32 ∷ (write l ++ 32 ∷ write r)

-- an atom or a constant has depth 1, and each operator is one deeper than its deepest operand
abbrev pub depth : Written → ℕ
depth (constant v) = 1
depth (atom a) = 1
depth (negation w) = suc (depth w)
depth (single op w) = suc (depth w)
depth (finally w) = suc (depth w)
depth (globally w) = suc (depth w)
depth (pair op l r) = suc (max (depth l) (depth r))

-- each atom's number is below n
abbrev pub AtomsBelow : ℕ → Written → Type 0
AtomsBelow n (constant v) = Unit {0}
AtomsBelow n (atom a) = a < n
AtomsBelow n (negation w) = AtomsBelow n w
AtomsBelow n (single op w) = AtomsBelow n w
AtomsBelow n (finally w) = AtomsBelow n w
AtomsBelow n (globally w) = AtomsBelow n w
AtomsBelow n (pair op l r) = AtomsBelow n l × AtomsBelow n r

-- What a formula comes to in a draft: a refused part, or a number; either way the draft holds something.
pub data Built : Type 0 where
  refused : Contents → Built
  made : Contents → (number : ℕ) → Built

-- goes on with a formula that was made
abbrev pub then : Built → (Contents → ℕ → Built) → Built
then (refused b) f = refused b
then (made b k) f = f b k

-- the number that a formula was put under, or a refusal
abbrev pub numbered : Result ℕ Refusal → Contents → Built
numbered (Ok k) b = made b k
numbered (Err e) b = refused b

-- a formula is put
abbrev pub put_in : Node → Contents → Built
put_in node b = numbered (put_answer b node) (put_leaves b node)

-- a formula's operands are put, left ones first, and then the formula; F w is U T w, and G w is R L w
unfoldable pub built : (negated : Bool) → Written → Contents → Built
built negated (constant v) b = put_in (constant_node v negated) b
built negated (atom a) b = put_in (atom_node negated a) b
built negated (negation w) b = built (not negated) w b
built negated (single op w) b = then (built negated w b) (λ b k. put_in (one_node op negated k) b)
built negated (finally w) b = then (put_in (constant_node true negated) b) (λ b l. then (built negated w b) (λ b r. put_in (two_node two.Until negated l r) b))
built negated (globally w) b = then (put_in (constant_node false negated) b) (λ b l. then (built negated w b) (λ b r. put_in (two_node two.Release negated l r) b))
built negated (pair op l r) b = then (built negated l b) (λ b l. then (built negated r b) (λ b r. put_in (two_node op negated l r) b))

-- what is made of a formula, in front of a text
abbrev pub before : List ℕ → Built → Outcome
before rest (refused b) = stopped b
before rest (made b k) = found b k rest

-- Reading inverts writing: a written formula of at most a depth, with no digit after it, is read as it is built.
abbrev pub ReadsWritten : Type 0
ReadsWritten =
    (limit : ℕ) (negated : Bool) (w : Written) (rest : List ℕ) (b : Contents) → depth w ≤ limit → AtomsBelow 256 w → begins_with_digit rest ≡ false →
    formula_read limit negated (write w ++ rest) b ≡ before rest (built negated w b)

-- a text begins with a formula of at most a depth, which is built
pub record Accepted (limit : ℕ) (negated : Bool) (text : List ℕ) (b after : Contents) (number : ℕ) (rest : List ℕ) : Type 0 where
  pub formula : Written
  pub written : text ≡ write formula ++ rest
  pub deep : depth formula ≤ limit
  pub below : AtomsBelow 256 formula
  pub result : built negated formula b ≡ made after number

-- What is read is a written formula.
abbrev pub ReadIsWritten : Type 0
ReadIsWritten =
    (limit : ℕ) (negated : Bool) (text : List ℕ) (b after : Contents) (number : ℕ) (rest : List ℕ) →
    formula_read limit negated text b ≡ found after number rest → Accepted limit negated text b after number rest

-- A text writes one formula only.
abbrev pub WrittenOnce : Type 0
WrittenOnce = (v w : Written) → AtomsBelow 256 v → AtomsBelow 256 w → write v ≡ write w → v ≡ w
