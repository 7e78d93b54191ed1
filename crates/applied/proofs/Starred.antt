-- The starred values hold, each computed from its definition.
use Rattle.std.proofs.Common.{refl}
use Rattle.basicop.specs.Ops.{clamp, asr, wrap, add, sub, mult, l_add, l_sub, l_mult, l_shl, l_shr_r, l_deposit_h, doublings, norm_l}
use Rattle.pitch.specs.Lag.{absolute, relative, lag_min}
use Rattle.spectral.specs.Lsp.{cosine, between, lsp_of}
use Rattle.energy.specs.Energy.{squares, energy}
use Rattle.energy.specs.Root.{inverse_table, root_scaled, inverse_root}
use Rattle.synthesis.specs.Recursion.{outside, recursion, step_numbers, some_outside, first_list_outside}
use Rattle.synthesis.specs.Synthesis.{acc, accs}
use Rattle.applied.specs.Starred.{starred, Hold, StarredApplied}

pub starred_hold : Hold starred
unfolding starred absolute relative lag_min lsp_of between cosine add sub mult l_add l_mult l_sub l_shl l_shr_r l_deposit_h wrap asr clamp norm_l doublings energy squares inverse_root root_scaled inverse_table acc accs recursion step_numbers some_outside first_list_outside outside
starred_hold = (refl, (refl, (refl, (refl, (refl, (refl, (refl, (refl, (refl, (refl, (refl, (refl, (refl, (refl, (refl, (refl, (refl, (refl, tt))))))))))))))))))

-- with the definitions shut
pub starred_applied : StarredApplied
unfolding starred
starred_applied =
    record {
      lsp = starred_hold.0;
      thirds = starred_hold.1.1.1.1.1.1.1.1.1.0;
      root = starred_hold.1.1.1.1.1.1.1.1.1.1.1.1.1.1.0;
      clamp = starred_hold.1.1.1.1.1.1.1.1.1.1.1.1.1.1.1.1.1.0;
    }
