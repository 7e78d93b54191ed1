-- Values to hold, of the definitions: inverse roots, among them those of 1 and of 2, and the energy of one sample among zeros.
use Rattle.std.proofs.Common.{◌≡◌, refl, [], ◌∷◌, map, pos, negsuc}
use Rattle.lists.specs.Lists.{tab}
use Rattle.basicop.specs.Ops.{asr, clamp, add, sub, l_add, l_sub, l_mult, l_shl, l_deposit_h, doublings, norm_l}
use Rattle.energy.specs.Energy.{squares, energy}
use Rattle.energy.specs.Root.{inverse_table, root_scaled, inverse_root}

-- of zero or less; of 1 to 4, with even and odd exponents; of 1023 and 1024, where the exponent changes
pub roots :
    map inverse_root (negsuc 0 ∷ pos 0 ∷ pos 1 ∷ pos 2 ∷ pos 3 ∷ pos 4 ∷ pos 1023 ∷ pos 1024 ∷ [])
    ≡ pos 1073741823 ∷ pos 1073741823 ∷ pos 1073709056 ∷ pos 759234560 ∷ pos 619937792 ∷ pos 536854528 ∷ pos 33571072 ∷ pos 33553408 ∷ []
unfolding inverse_root root_scaled inverse_table norm_l doublings add sub l_sub l_mult l_shl l_deposit_h asr clamp
roots = refl

pub energy_of_least : energy (negsuc 32767 ∷ tab (λ k. pos 0) 39) ≡ pos 134217728
unfolding energy squares tab l_add l_mult asr clamp
energy_of_least = refl
