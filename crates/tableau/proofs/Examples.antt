-- The examples are well posed, and their answers are computed.
use Rattle.std.proofs.Common.{◌≡◌, ℕ, zero, suc, ◌+◌, ◌<◌, Bool, true, not, ◌&&◌, eqb, ltb, leb, List, [], ◌∷◌, length, get_or, sym, refl, ◌∙◌, arith, eq-eqb}
use mathlib.Core.Path.{subst⁻¹}
use Rattle.std.proofs.lemmas.Bool.{ltb-true, leb-true, and_parts}
use Rattle.ltlf.specs.Nodes.{known}
use Rattle.ltlf.specs.declared.node.Node.{Node}
use Rattle.ltlf.specs.declared.node.Node.TheVariants.{True}
use Rattle.tableau.specs.Positions.{Question}
use Rattle.tableau.specs.Continuations.{WellPosed}
use Rattle.tableau.specs.Search.{Answer, answer}
use Rattle.tableau.specs.Examples.{tried, boundaries, EachAnswered, ExamplesAnswered, BoundariesAnswered}
use Rattle.tableau.proofs.Tests.{no_way, not_ok}

abbrev all_less : ℕ → List ℕ → Bool
all_less n [] = true
all_less n (x ∷ xs) = ltb x n && all_less n xs

less : (n : ℕ) (xs : List ℕ) → all_less n xs ≡ true → (i : ℕ) → i < length xs → get_or xs i 0 < n
less n [] e i h = absurd (omega arith)
less n (x ∷ xs) e zero h = ltb-true x n (and_parts (ltb x n) (all_less n xs) e).0
less n (x ∷ xs) e (suc i) h = less n xs (and_parts (ltb x n) (all_less n xs) e).1 i (omega arith)

abbrev all_known : ℕ → ℕ → List Node → Bool
all_known a i [] = true
all_known a i (m ∷ ms) = known a i m && all_known a (suc i) ms

known_at : (a i : ℕ) (ms : List Node) → all_known a i ms ≡ true → (k j : ℕ) → j ≡ i + k → k < length ms → known a j (get_or ms k True) ≡ true
known_at a i [] e k j z h = absurd (omega arith)
known_at a i (m ∷ ms) e zero j z h =
    let z' : j ≡ i = omega arith in
    subst⁻¹ (λ (x : ℕ). known a x m ≡ true) z' (and_parts (known a i m) (all_known a (suc i) ms) e).0
known_at a i (m ∷ ms) e (suc k) j z h =
    known_at a (suc i) ms (and_parts (known a i m) (all_known a (suc i) ms) e).1 k j (omega arith) (omega arith)

abbrev absent : ℕ → List ℕ → Bool
absent x [] = true
absent x (y ∷ ys) = not (eqb x y) && absent x ys

abbrev all_apart : List ℕ → Bool
all_apart [] = true
all_apart (x ∷ xs) = absent x xs && all_apart xs

absent_ok : (x : ℕ) (ys : List ℕ) → absent x ys ≡ true → (j : ℕ) → j < length ys → x ≡ get_or ys j 0 → ⊥
absent_ok x [] e j h z = absurd (omega arith)
absent_ok x (y ∷ ys) e zero h z =
    no_way (sym ((not_ok (eqb x y)).0 (and_parts (not (eqb x y)) (absent x ys) e).0) ∙ eq-eqb x y z)
absent_ok x (y ∷ ys) e (suc j) h z = absent_ok x ys (and_parts (not (eqb x y)) (absent x ys) e).1 j (omega arith) z

apart_ok : (xs : List ℕ) → all_apart xs ≡ true → (i j : ℕ) → i < j → j < length xs → get_or xs i 0 ≡ get_or xs j 0 → ⊥
apart_ok [] e i j l h z = absurd (omega arith)
apart_ok (x ∷ xs) e i zero l h z = absurd (omega arith)
apart_ok (x ∷ xs) e zero (suc j) l h z = absent_ok x xs (and_parts (absent x xs) (all_apart xs) e).0 j (omega arith) z
apart_ok (x ∷ xs) e (suc i) (suc j) l h z = apart_ok xs (and_parts (absent x xs) (all_apart xs) e).1 i j (omega arith) (omega arith) z

-- the tests that make a question well posed
abbrev posed_test : Question → Bool
posed_test q =
    leb (length q.book.nodes) 64 && (all_known q.book.atoms 0 q.book.nodes && (all_less (length q.book.nodes) q.book.rules
    && (all_apart q.book.rules && all_less q.meaning.codes q.kept)))

posed_ok : (q : Question) → posed_test q ≡ true → WellPosed q
posed_ok q t =
    let a = leb (length q.book.nodes) 64 in
    let b = all_known q.book.atoms 0 q.book.nodes in
    let c = all_less (length q.book.nodes) q.book.rules in
    let d = all_apart q.book.rules in
    let e = all_less q.meaning.codes q.kept in
    let p = and_parts a (b && (c && (d && e))) t in
    let p' = and_parts b (c && (d && e)) p.1 in
    let p'' = and_parts c (d && e) p'.1 in
    let p''' = and_parts d e p''.1 in
    record {
      proper = record {
        few = leb-true (length q.book.nodes) 64 p.0;
        before = λ k h. known_at q.book.atoms 0 q.book.nodes p'.0 k k (omega arith) h;
        were_put = less (length q.book.nodes) q.book.rules p''.0;
        apart = apart_ok q.book.rules p'''.0;
      };
      kept_codes = less q.meaning.codes q.kept p'''.1;
    }

-- each test passes, and each answer is computed
abbrev Computed : List (Question × ℕ × Answer) → Type 0
Computed [] = Unit {0}
Computed (p ∷ ps) = ((posed_test p.0 ≡ true) × (answer p.0 p.1 ≡ p.2)) × Computed ps

each : (ps : List (Question × ℕ × Answer)) → Computed ps → EachAnswered ps
each [] r = tt
each (p ∷ ps) r = ((posed_ok p.0 r.0.0, r.0.1), each ps r.1)

all_computed : Computed tried
all_computed = (
  (refl, refl),
  (
    (refl, refl),
    (
      (refl, refl),
      (
        (refl, refl),
        (
          (refl, refl),
          (
            (refl, refl),
            (
              (refl, refl),
              ((refl, refl), ((refl, refl), ((refl, refl), ((refl, refl), ((refl, refl), ((refl, refl), ((refl, refl), tt))))))),
            ),
          ),
        ),
      ),
    ),
  ),
)

pub examples_answered : ExamplesAnswered
examples_answered = each tried all_computed

pub boundaries_answered : BoundariesAnswered
boundaries_answered =
    each boundaries
    ((refl, refl), ((refl, refl), ((refl, refl), ((refl, refl), ((refl, refl), ((refl, refl), ((refl, refl), tt)))))))
