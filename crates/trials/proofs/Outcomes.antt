-- The outcomes of a list of sheets, by number.
use Rattle.std.proofs.Common.{◌≡◌, ℕ, zero, suc, List, [], ◌∷◌, map, refl}
use Rattle.std.specs.Prelude.{slice_get}
use Rattle.trials.specs.Trials.{Trial, outcome_at}

pub outcomes_at : (ts : List Trial) (n : ℕ) → slice_get (map (λ (t : Trial). t.outcome) ts) n ≡ outcome_at ts n
outcomes_at [] n = refl
outcomes_at (t ∷ ts) zero = refl
outcomes_at (t ∷ ts) (suc n) = outcomes_at ts n
