-- The line of a visit: the values were printed apart, and then put into the line.
use Rattle.std.proofs.Common.{◌≡◌, ℕ, ◌+◌, ◌<◌, ◌≤◌, List, [], ◌∷◌, ◌++◌, length, get_or, take, drop, set, replicate, Ok, sym, ap, ◌∙◌, append_assoc, arith, length-append}
use Rattle.std.proofs.lemmas.List.{take_at, drop_more, drop-drop, set_at}
use Rattle.std.proofs.lemmas.Bool.{cond-true, cond-false, lt-ltb, le-ltb}
use Rattle.std.proofs.lemmas.Bool.Decides.{nat_tests}
use Rattle.theory.specs.Print.{print_answer, print_leaves}
use Rattle.report.specs.Visits.{visit_leaves}

-- what a print into 64 bytes that was not refused left
pub record Shown (count code : ℕ) (text after : List ℕ) (n : ℕ) : Type 0 where
  pub exists : code < count
  pub long : length text ≡ n
  pub few : n ≤ 64
  pub values : take n after ≡ text

module _ (count code : ℕ) (text after : List ℕ) (n : ℕ) where
  answered : print_answer count code 64 text ≡ Ok n → (code < count) × (length text ≡ n)
  answered is = grind (arith, nat_tests)

  pub shown : length after ≡ 64 → Ok n ≡ print_answer count code 64 text → after ≡ print_leaves count code (replicate 64 0) text → Shown count code text after n
  shown kept is left =
      let a = answered (sym is) in
      let rest : List ℕ = drop (0 + length text) (replicate 64 0) in
      let put : after ≡ text ++ rest = left ∙ cond-true _ _ _ (lt-ltb code count a.0) in
      record {
        exists = a.0;
        long = a.1;
        few = omega (arith, length-append text rest, ap length put, a.1);
        values = ap (take n) put ∙ take_at text rest n (omega (arith, a.1));
      }

-- the bytes with the pieces of the line written over them
pub line_put : (bytes piece : List ℕ) (n m : ℕ) → length piece ≡ n → m ≡ n → n + 3 ≤ length bytes
    → set ((110 ∷ 32 ∷ []) ++ (piece ++ drop m (drop 2 bytes))) (2 + n) 10 ≡ (110 ∷ 32 ∷ (piece ++ 10 ∷ [])) ++ drop (length (110 ∷ 32 ∷ (piece ++ 10 ∷ []))) bytes
line_put bytes piece n m is-n is-m h =
    let front : List ℕ = (110 ∷ 32 ∷ []) ++ piece in
    let k : ℕ = 2 + n in
    let next : drop m (drop 2 bytes) ≡ get_or bytes k 0 ∷ drop (k + 1) bytes =
    drop-drop m 2 bytes ∙ ap (λ i. drop i bytes) (let e : 2 + m ≡ k = omega arith in e) ∙ drop_more bytes k 0 (omega arith) in
    let long : k + 1 ≡ length (110 ∷ 32 ∷ (piece ++ 10 ∷ [])) = omega (arith, length-append piece (10 ∷ [])) in
    ap (λ r. set (front ++ r) k 10) next
    ∙ set_at front (get_or bytes k 0) (drop (k + 1) bytes) 10 k (omega arith)
    ∙ ap (λ r. 110 ∷ 32 ∷ r) (sym (append_assoc piece (10 ∷ []) (drop (k + 1) bytes)))
    ∙ ap (λ i. (110 ∷ 32 ∷ (piece ++ 10 ∷ [])) ++ drop i bytes) long

-- what is left of an answered print, where there is room
pub visit_is : (count code : ℕ) (bytes text : List ℕ) → code < count → 67 ≤ length bytes
    → visit_leaves count code bytes (110 ∷ 32 ∷ (text ++ 10 ∷ [])) ≡ (110 ∷ 32 ∷ (text ++ 10 ∷ [])) ++ drop (length (110 ∷ 32 ∷ (text ++ 10 ∷ []))) bytes
visit_is count code bytes text exists room = cond-true _ _ _ (lt-ltb code count exists) ∙ cond-false _ _ _ (le-ltb (length bytes) 67 room)
