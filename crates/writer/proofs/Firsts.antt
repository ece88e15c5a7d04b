-- What an answer says of the room.
use Rattle.std.proofs.Common.{◌≡◌, ℕ, ◌+◌, ◌≤◌, Bool, true, false, cond, List, length, Some, None, refl, arith}
use Rattle.std.proofs.lemmas.Bool.{leb-true}
use Rattle.writer.specs.Puts.{fits, put_answer}

some_by : (b : Bool) (e n : ℕ) → Some e ≡ cond b (Some n) None → (b ≡ true) × (e ≡ n)
some_by true e n is = (refl, cc)
some_by false e n is = let z : ◌≡◌ {A = ℕ} 0 1 = cc in absurd (omega arith)

pub room_for : (room at : ℕ) (text : List ℕ) (e : ℕ) → Some e ≡ put_answer room at text → (at + length text ≤ room) × (e ≡ at + length text)
room_for room at text e is =
    let p = some_by (fits room at text) e (at + length text) is in (leb-true (at + length text) room p.0, p.1)
