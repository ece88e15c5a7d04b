-- The codes of flags.
use Rattle.std.proofs.Common.{ℕ, zero, suc, ◌+◌, ◌-◌, ◌*◌, ◌^◌, ◌<◌, ◌≤◌, ◌≡◌, pow-suc, arith}

-- one flag more doubles the codes
pub doubled : (flags bit code : ℕ) → 1 ≤ flags → bit ≤ 1 → code < 2 ^ (flags - 1) → bit + 2 * code < 2 ^ flags
doubled zero bit code some low high = absurd (omega arith)
doubled (suc n) bit code some low high =
    let less : suc n - 1 ≡ n = omega arith in
    let below : code < 2 ^ n = rw less at high in
    omega (arith, pow-suc 2 n)
