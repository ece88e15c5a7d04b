-- Reading what is written.
use Rattle.std.proofs.Common.{◌≡◌, ℕ, zero, suc, ◌<◌, ◌≤◌, Bool, true, false, not, List, [], ◌∷◌, ◌++◌, Ok, Err, decimal, Result, refl, ap, ◌∙◌, append_assoc, arith}
use Rattle.std.proofs.lemmas.Bool.Decides.{nat_tests}
use Rattle.std.proofs.lemmas.Str.Parse.{digit_from_value}
use Rattle.std.proofs.lemmas.Fmt.{decimal_is_IsNumeral}
use Rattle.std.specs.Str.Parse.{IsNumeral}
use Rattle.refusal.specs.declared.Refusal.{Refusal}
use Rattle.ltlf.specs.Contents.{Contents, put_answer, put_leaves}
use Rattle.ltlf.specs.declared.node.Node.{Node}
use Rattle.items.specs.Numbers.{begins_with_digit}
use Rattle.items.proofs.Decimal.{natural_law}
use Rattle.formula_text.specs.Operators.{operator_of, constant_node, atom_node, one_node, two_node}
use Rattle.formula_text.specs.Formulas.{Outcome, Reader, placed, put_read, and_then, paired, atom_read, atom_put, by_operator, formula_read}
use Rattle.formula_text.specs.declared.operator.Operator.TheVariants.{Constant, Single, Pair, Other}
use Rattle.formula_text.specs.declared.operator.One.{One}
use Rattle.formula_text.specs.declared.operator.One.TheVariants as one
use Rattle.formula_text.specs.declared.operator.Two.{Two}
use Rattle.formula_text.specs.declared.operator.Two.TheVariants as two
use Rattle.formula_text.specs.Grammar.{Built, refused, made, constant, atom, negation, single, finally, globally, pair, one_sign, two_sign, constant_sign, write, then, numbered, put_in, built, before, ReadsWritten}

put_before : (node : Node) (rest : List ℕ) (b : Contents) → put_read node rest b ≡ before rest (put_in node b)
unfolding put_read
put_before node rest b = go (put_answer b node)
  where
    go : (o : Result ℕ Refusal) → placed o rest (put_leaves b node) ≡ before rest (numbered o (put_leaves b node))
    go (Err e) = refl
    go (Ok k) = refl

pub one_says : (op : One) → operator_of (one_sign op) ≡ Single op
one_says one.Tomorrow = refl
one_says one.WeakTomorrow = refl

pub two_says : (op : Two) → operator_of (two_sign op) ≡ Pair op
two_says two.And = refl
two_says two.Or = refl
two_says two.Until = refl
two_says two.Release = refl

pub constant_says : (v : Bool) → operator_of (constant_sign v) ≡ Constant v
constant_says true = refl
constant_says false = refl

-- a node over an operand that was built
one_more : (m : Built) (o : Outcome) (rest : List ℕ) (f : ℕ → Node) → o ≡ before rest m → and_then o (λ b k end. put_read (f k) end b) ≡ before rest (then m (λ b k. put_in (f k) b))
one_more (refused b) o rest f e = ap (λ o. and_then o (λ b k end. put_read (f k) end b)) e
one_more (made b k) o rest f e = ap (λ o. and_then o (λ b k end. put_read (f k) end b)) e ∙ put_before (f k) rest b

-- a node over two operands, the right one read after a space
two_more : (read : Reader) (negated : Bool) (op : Two) (m : Built) (o : Outcome) (text rest : List ℕ) (right : Contents → Built) → o ≡ before (32 ∷ text) m → ((b : Contents) → read negated text b ≡ before rest (right b)) → paired read negated op o ≡ before rest (then m (λ b l. then (right b) (λ b r. put_in (two_node op negated l r) b)))
two_more read negated op (refused b) o text rest right e reads = ap (paired read negated op) e
two_more read negated op (made b k) o text rest right e reads = ap (paired read negated op) e ∙ one_more (right b) (read negated text b) rest (λ r. two_node op negated k r) (reads b)

atom_reads : (negated : Bool) (a : ℕ) (rest : List ℕ) (b : Contents) → a < 256 → begins_with_digit rest ≡ false → atom_read negated (decimal a ++ rest) b ≡ before rest (put_in (atom_node negated a) b)
atom_reads negated a rest b below ends =
    ap (λ r. atom_put negated r b) ((natural_law 255 (omega arith) (decimal a ++ rest) a rest).1 (record { text = refl; within = omega arith; ends = ends })) ∙
    put_before (atom_node negated a) rest b

pub digit_other : (b : ℕ) → 48 ≤ b → b ≤ 57 → operator_of b ≡ Other
digit_other b low high = grind (arith, nat_tests)

numeral_reads : (d : ℕ) (negated : Bool) (ds rest : List ℕ) (b : Contents) → IsNumeral 10 ds → formula_read (suc d) negated (ds ++ rest) b ≡ atom_read negated (ds ++ rest) b
unfolding formula_read
numeral_reads d negated [] rest b numeral = absurd (omega arith)
numeral_reads d negated (x ∷ ds) rest b numeral =
    let here = digit_from_value x numeral.1.0 in
    ap (by_operator (formula_read d) negated (x ∷ (ds ++ rest)) (ds ++ rest) b) (digit_other x here.0 here.1)

pub reads_written : ReadsWritten
unfolding formula_read built
reads_written zero negated (constant v) rest b deep below ends = absurd (omega arith)
reads_written (suc d) negated (constant v) rest b deep below ends =
    ap (by_operator (formula_read d) negated (constant_sign v ∷ rest) rest b) (constant_says v) ∙ put_before (constant_node v negated) rest b
reads_written zero negated (atom a) rest b deep below ends = absurd (omega arith)
reads_written (suc d) negated (atom a) rest b deep below ends =
    numeral_reads d negated (decimal a) rest b (decimal_is_IsNumeral a (omega arith)).0 ∙ atom_reads negated a rest b below ends
reads_written zero negated (negation w) rest b deep below ends = absurd (omega arith)
reads_written (suc d) negated (negation w) rest b deep below ends = reads_written d (not negated) w rest b (omega arith) below ends
reads_written zero negated (single op w) rest b deep below ends = absurd (omega arith)
reads_written (suc d) negated (single op w) rest b deep below ends =
    ap (by_operator (formula_read d) negated (one_sign op ∷ 32 ∷ (write w ++ rest)) (32 ∷ (write w ++ rest)) b) (one_says op) ∙
    one_more (built negated w b) _ rest (λ k. one_node op negated k) (reads_written d negated w rest b (omega arith) below ends)
reads_written zero negated (finally w) rest b deep below ends = absurd (omega arith)
reads_written (suc d) negated (finally w) rest b deep below ends =
    two_more (formula_read d) negated two.Until (put_in (constant_node true negated) b) _ (write w ++ rest) rest (built negated w) (put_before (constant_node true negated) (32 ∷ (write w ++ rest)) b) (λ b. reads_written d negated w rest b (omega arith) below ends)
reads_written zero negated (globally w) rest b deep below ends = absurd (omega arith)
reads_written (suc d) negated (globally w) rest b deep below ends =
    two_more (formula_read d) negated two.Release (put_in (constant_node false negated) b) _ (write w ++ rest) rest (built negated w) (put_before (constant_node false negated) (32 ∷ (write w ++ rest)) b) (λ b. reads_written d negated w rest b (omega arith) below ends)
reads_written zero negated (pair op l r) rest b deep below ends = absurd (omega arith)
reads_written (suc d) negated (pair op l r) rest b deep below ends =
    ap (λ x. formula_read (suc d) negated (two_sign op ∷ 32 ∷ x) b) (append_assoc (write l) (32 ∷ write r) rest) ∙
    ap (by_operator (formula_read d) negated (two_sign op ∷ 32 ∷ (write l ++ 32 ∷ (write r ++ rest))) (32 ∷ (write l ++ 32 ∷ (write r ++ rest))) b) (two_says op) ∙
    two_more (formula_read d) negated op (built negated l b) _ (write r ++ rest) rest (built negated r)
    (reads_written d negated l (32 ∷ (write r ++ rest)) b (omega arith) below.0 refl)
    (λ b. reads_written d negated r rest b (omega arith) below.1 ends)
