-- What a proof of a caller of the operators is handed.
use Rattle.std.proofs.Common.{◌≡◌, rules, ℤ, to_z-of_z}
use Rattle.basicop.specs.Ops.{l_mac}
use Rattle.basicop.proofs.Range.{sfits_wider, sfits_add, sfits_sub, sfits_mul, sfits_times, sfits_scale, to_z_nat, cast_asks, cast_gives}
use Rattle.basicop.proofs.Shift.{asr_fits, sfits_shr_z, sfits_shr_same}

pub l_mac_eq : {s s' a a' b b' : ℤ} → s ≡ s' → a ≡ a' → b ≡ b' → l_mac s a b ≡ l_mac s' a' b'
l_mac_eq e p q = rw (e, p, q)

-- what `search` is handed at a need over signed numbers
pub ruleset rules_ℤ = (rules, sfits_wider, sfits_add, sfits_sub, sfits_mul, sfits_times, sfits_scale, asr_fits, sfits_shr_z, sfits_shr_same, to_z_nat, cast_asks, cast_gives)

-- what the check is handed at the return of a function that only calls the operators: what a call was passed, and what it gave, reads back as it was
pub ruleset read_back = (to_z-of_z)
