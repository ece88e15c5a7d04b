-- Bits as they are printed, and the code that they tell.
use Rattle.std.proofs.Common.{◌≡◌, ℕ, zero, suc, ◌+◌, ◌*◌, ◌/◌, ◌%◌, ◌^◌, ◌≤◌, List, [], ◌∷◌, ◌++◌, map, length, take, ℤ, pos, sym, ap, ◌∙◌, mod-eq_of_lt, zero-add, div-one, add-one, arith, length-append}
use Rattle.std.proofs.lemmas.Nat.{mod_below, mod-pow-add, shr-shr}
use Rattle.std.proofs.lemmas.List.FromFn.{map-range_with_len_more, take-map-range_with_len}
use Rattle.std.specs.List.{range_with_len}
use Rattle.theory.proofs.Texts.{item_short, spaced_push}
use Rattle.theory.specs.Print.{item, spaced}
use Rattle.flags.specs.Bits.{bits_below, code_of, BitsTellCodes}

-- the bits from a place on tell what is left of the code there
tell_from : (n a code : ℕ) → code_of (map (λ i. pos (code / 2 ^ i % 2)) (range_with_len a n)) ≡ code / 2 ^ a % 2 ^ n
tell_from zero a code = omega arith
tell_from (suc n) a code =
    let x = code / 2 ^ a in
    let on : x / 2 ≡ code / 2 ^ (a + 1) = shr-shr code a 1 in
    let whole : x % 2 ^ (n + 1) ≡ (x / 2 % 2 ^ n) * 2 + x % 2 = mod-pow-add x n 1 in
    ap (λ r. x % 2 + 2 * r) (tell_from n (a + 1) code ∙ ap (λ y. y % 2 ^ n) (sym on))
    ∙ (let e : x % 2 + 2 * (x / 2 % 2 ^ n) ≡ x % 2 ^ (n + 1) = omega arith in e)
    ∙ ap (λ m. x % 2 ^ m) (add-one n)

pub tell : BitsTellCodes
tell n code h = tell_from n 0 code ∙ ap (λ y. y % 2 ^ n) (div-one code) ∙ mod-eq_of_lt h

-- a bit takes at most three bytes
bits_short_by : (text : List ℕ) (i code : ℕ) → length (text ++ item (length text) (pos (code / 2 ^ i % 2))) ≤ length text + 3
bits_short_by text i code =
    let b = mod_below (code / 2 ^ i) 2 (omega arith) in
    omega (arith, length-append text (item (length text) (pos (code / 2 ^ i % 2))), item_short (length text) (pos (code / 2 ^ i % 2)) 1 (omega arith) (omega arith))

pub bits_short : (n code : ℕ) → length (spaced (bits_below n code)) ≤ 3 * n
bits_short zero code = omega arith
bits_short (suc n) code =
    let bit = pos (code / 2 ^ n % 2) in
    let front = bits_below n code in
    let more : bits_below (suc n) code ≡ front ++ bit ∷ [] =
    ap (λ k. bits_below k code) (sym (add-one n)) ∙ map-range_with_len_more (λ k. pos (code / 2 ^ k % 2)) 0 n n (zero-add n) in
    omega (arith, bits_short n code, bits_short_by (spaced front) n code, ap (λ (zs : List ℤ). length (spaced zs)) more, ap length (spaced_push front bit))

-- the first of all bits
pub first_bits : (n code : ℕ) → n ≤ 12 → take n (bits_below 12 code) ≡ bits_below n code
first_bits n code h = take-map-range_with_len (λ i. pos (code / 2 ^ i % 2)) 0 12 n h
