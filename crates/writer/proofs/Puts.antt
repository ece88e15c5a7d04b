-- Texts written one after another.
use Rattle.std.proofs.Common.{◌≡◌, ℕ, ◌+◌, ◌<◌, ◌≤◌, List, ◌++◌, length, drop, Some, None, sym, refl, ap, ◌∙◌, ap₂, append_assoc, zero-add, length-append}
use Rattle.std.proofs.lemmas.List.{take_at, drop_at, drop-drop}
use Rattle.std.proofs.lemmas.Bool.{cond-true, cond-false, le-leb, lt-leb}
use Rattle.writer.specs.Puts.{put_at, put_answer, put_leaves}

-- where a text fits, and where it does not
module _ (bytes : List ℕ) (at : ℕ) (text : List ℕ) where
  pub fit_answer : at + length text ≤ length bytes → put_answer (length bytes) at text ≡ Some (at + length text)
  fit_answer h = cond-true _ _ _ (le-leb (at + length text) (length bytes) h)

  pub fit_leaves : at + length text ≤ length bytes → put_leaves bytes at text ≡ put_at bytes at text
  fit_leaves h = cond-true _ _ _ (le-leb (at + length text) (length bytes) h)

  pub full_answer : length bytes < at + length text → put_answer (length bytes) at text ≡ None
  full_answer h = cond-false _ _ _ (lt-leb (at + length text) (length bytes) h)

  pub full_leaves : length bytes < at + length text → put_leaves bytes at text ≡ bytes
  full_leaves h = cond-false _ _ _ (lt-leb (at + length text) (length bytes) h)

-- what is written at the start, and then behind it
pub put_put : (bytes first second : List ℕ) → put_at (put_at bytes 0 first) (length first) second ≡ put_at bytes 0 (first ++ second)
put_put bytes first second =
    let begun : put_at bytes 0 first ≡ first ++ drop (length first) bytes = ap (λ n. first ++ drop n bytes) (zero-add (length first)) in
    let rest = drop (length first) bytes in
    let front = take_at first rest (length first) refl in
    let n = length second in
    let back : drop (length first + n) (first ++ rest) ≡ drop (length first + n) bytes =
    sym (drop-drop n (length first) (first ++ rest)) ∙ ap (drop n) (drop_at first rest (length first) refl) ∙ drop-drop n (length first) bytes in
    let long : length first + n ≡ 0 + length (first ++ second) = sym (zero-add (length (first ++ second)) ∙ length-append first second) in
    ap (λ xs. put_at xs (length first) second) begun
    ∙ ap₂ (λ xs ys. xs ++ (second ++ ys)) front back
    ∙ sym (append_assoc first second (drop (length first + n) bytes))
    ∙ ap (λ k. (first ++ second) ++ drop k bytes) long
