-- Names are equal exactly where their texts are.
use Rattle.std.specs.Prelude.{◌≡◌, ℕ, ◌-◌, ◌/◌, ◌%◌, ◌^◌, Bool, true, false, List, ◌++◌, length, take, replicate, ◌≢◌, nat_eq, slice_index, refl}
use Rattle.std.proofs.Common.{sym, ap, ap₂, ◌∙◌, arith}
use Rattle.std.proofs.lemmas.Slice.Eq.{bytes_eq-Decides}
use Rattle.std.proofs.lemmas.List.{length-take-le, take-append-drop}
use Rattle.std.proofs.lemmas.Bool.{and_parts, and_from, lt-ltb, le-leb, eqb-true, eq-eqb, both_ways}
use Rattle.std.specs.Str.{bytes_eq}
use Rattle.names.specs.declared.name.Name.{Name}
use Rattle.names.specs.contracts.name.NamePartialEq.TheImpl.{ghosts}
use Rattle.names.specs.Letters.{is_name}
use Rattle.names.specs.Texts.{text_of, same_text, name_turn}

-- the length of a name's text
text_len : (n : Name) → length (text_of n) ≡ n.len
text_len n = length-take-le n.len n.letters (omega (arith, n.whole, n.few))

pub text_from_same : (x y : Name) → same_text x y ≡ true → text_of x ≡ text_of y
text_from_same x y = (bytes_eq-Decides (text_of x) (text_of y)).0

pub same_from_text : (x y : Name) → text_of x ≡ text_of y → same_text x y ≡ true
same_from_text x y = (bytes_eq-Decides (text_of x) (text_of y)).1

-- the letters of a name are its text and zeros
letters_are : (x : Name) → x.letters ≡ text_of x ++ replicate (8 - length (text_of x)) 0
letters_are x =
    sym (take-append-drop x.len x.letters)
    ∙ ap (λ (l : List ℕ). text_of x ++ l) x.blank
    ∙ ap (λ (n : ℕ). text_of x ++ replicate (8 - n) 0) (sym (text_len x))

same_tests : (b c : Bool) → (b ≡ true → c ≡ true) → (c ≡ true → b ≡ true) → b ≡ c
same_tests true c to from = sym (to refl)
same_tests false true to from = from refl
same_tests false false to from = refl

-- the derived equality of names is that of their texts
pub derived_is_same : (x y : Name) → (ghosts).eq x y ≡ same_text x y
derived_is_same x y =
    same_tests _ _
    (λ e.
    let p = and_parts (bytes_eq x.letters y.letters) (nat_eq x.len y.len) e in
    same_from_text x y (ap₂ take (eqb-true x.len y.len p.1) ((bytes_eq-Decides x.letters y.letters).0 p.0)))
    (λ e.
    let is = text_from_same x y e in
    let letters : x.letters ≡ y.letters = letters_are x ∙ ap (λ (t : List ℕ). t ++ replicate (8 - length t) 0) is ∙ sym (letters_are y) in
    and_from (bytes_eq x.letters y.letters) (nat_eq x.len y.len)
    ((bytes_eq-Decides x.letters y.letters).1 letters)
    (eq-eqb x.len y.len (sym (text_len x) ∙ ap length is ∙ text_len y)))

pub same_itself : (x : Name) → same_text x x ≡ true
same_itself x = same_from_text x x refl

pub same_back : (x y : Name) → same_text x y ≡ true → same_text y x ≡ true
same_back x y e = same_from_text y x (sym (text_from_same x y e))

pub same_through : (x y z : Name) → same_text x y ≡ true → same_text y z ≡ true → same_text x z ≡ true
same_through x y z e f = same_from_text x z (text_from_same x y e ∙ text_from_same y z f)

pub same_turns : (x y : Name) → same_text x y ≡ true → (d : ℕ) → name_turn x d ≡ name_turn y d
same_turns x y e d = ap (λ (t : List ℕ). nat_eq (slice_index t (d / 5 % 8) / 2 ^ (d % 5) % 2) 1) (text_from_same x y e)

-- the text of a name is 1 to 8 letters
pub text_is_name : (n : Name) → is_name (text_of n) ≡ true
text_is_name n =
    let len = text_len n in
    and_from _ _ (lt-ltb 0 (length (text_of n)) (omega (arith, len, n.some)))
    (and_from _ _ (le-leb (length (text_of n)) 8 (omega (arith, len, n.few))) n.lettered)

-- a text that is no name is no name's text
pub never_named : (n : Name) (text : List ℕ) → is_name text ≡ false → bytes_eq (text_of n) text ≢ true
never_named n text isnt same =
    both_ways _ isnt (ap is_name (sym ((bytes_eq-Decides (text_of n) text).0 same)) ∙ text_is_name n)
