-- One more atom names a flag.
use Rattle.std.proofs.Common.{◌≡◌, ℕ, zero, suc, ◌<◌, ◌≤◌, List, [], ◌∷◌, ◌++◌, length, get_or, refl, IsOk, OnOk, OnErr, Ok, Err, Result, sym, ap, subst, arith}
use Rattle.std.proofs.lemmas.List.{length_push}
use Rattle.arrayvec.specs.ArrayVec.{ArrayVec}

-- each of the atoms names one of n flags
abbrev pub NamesFlags : (n : ℕ) → List ℕ → Type 0
NamesFlags n atoms = (k : ℕ) → k < length atoms → get_or atoms k 0 < n

named_more : (n flag : ℕ) → flag < n → (atoms : List ℕ) → NamesFlags n atoms → NamesFlags n (atoms ++ flag ∷ [])
named_more n flag below [] named zero lt = below
named_more n flag below [] named (suc k) lt = absurd (omega arith)
named_more n flag below (a ∷ atoms) named zero lt = named 0 (omega arith)
named_more n flag below (a ∷ atoms) named (suc k) lt = named_more n flag below atoms (λ j le. named (suc j) (omega arith)) k (omega arith)

-- an atom was pushed, or nothing was changed
pub pushed : {U E : Type 0} (r : Result U E) (n flag : ℕ) (before after : ArrayVec ℕ) → flag < n → length before.items ≤ 32 → NamesFlags n before.items
    → (IsOk r → length before.items < 32) → OnOk r (after.items ≡ before.items ++ flag ∷ []) → OnErr r (after ≡ before)
    → (length after.items ≤ 32) × NamesFlags n after.items
pushed (Ok u) n flag before after below few named room is kept =
    let more = length_push before.items flag in
    let space : length before.items < 32 = room refl in (
      omega (arith, ap length is),
      subst (NamesFlags n) (sym is) (named_more n flag below before.items named),
    )
pushed (Err e) n flag before after below few named room is kept =
    subst (λ (v : ArrayVec ℕ). (length v.items ≤ 32) × NamesFlags n v.items) (sym kept) (few, named)
