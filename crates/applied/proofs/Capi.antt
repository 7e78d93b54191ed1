-- `refused_unchanged` and `gain_unchanged` at calls over bytes: the returned numbers, and the places of one, are computed, and the calls stay
-- shut where the theorem is applied.
use Rattle.std.proofs.Common.{◌≡◌, refl, List, [], ◌∷◌, ◌++◌, ℕ, suc, ◌+◌, ◌*◌, arith, pos, replicate}
use Rattle.outcome.specs.Checks.{first_met, first_outside, first_close}
use Rattle.state.specs.Layout.{core_of, post_of, concealment_of, state_of}
use Rattle.coding.specs.Bytes.{words, bytes_of, Bytes}
use Rattle.gain.specs.Checks.{is_table}
use Rattle.gain.specs.Call.{gain_call}
use Rattle.kinds.specs.Kind.{frame_kind, index_kind, erased_kind, call_outcome}
use Rattle.mr74.specs.Frame.{call_trace}
use Rattle.capi.specs.Frames.{kind_bytes, table_in}
use Rattle.capi.specs.Gains.{gain_bytes}
use Rattle.capi.proofs.Unchanged.{refused_unchanged, gain_unchanged}
use Rattle.applied.specs.Capi.{returned, unsent, lowest_sheet, unmet, untabled, lost, unlisted, UnchangedApplied}
use Rattle.applied.specs.Refusals.{lowest}
use Rattle.applied.proofs.Concrete.{bytes_by}

unsent_code : unsent.code ≡ 1
unfolding kind_bytes call_trace call_outcome first_met
unsent_code = refl

unsent_places : unsent.places ≡ 40 ∷ 40 ∷ 40 ∷ 40 ∷ []
unfolding kind_bytes call_trace call_outcome first_met
unsent_places = refl

unmet_code : unmet.code ≡ 16
unfolding kind_bytes call_trace call_outcome first_met first_outside first_close words bytes_of state_of core_of post_of concealment_of
unmet_code = refl

-- another number than 0
other : (code n : ℕ) → code ≡ suc n → code ≡ 0 → ⊥
other code n e z = omega (arith, e, z)

module _ (sheet state : List ℕ) (n : ℕ) (bytes : Bytes state) (e : (returned sheet state).code ≡ suc n) where
  unchanged : ((returned sheet state).state ≡ state) × ((returned sheet state).out ≡ replicate 320 9)
  unchanged =
      let r = refused_unchanged frame_kind 0 sheet state (replicate 320 9) (replicate 88 0) (replicate 4 0) [] bytes (bytes_by [] refl) (other _ n e) in
      (r.0, r.1)

untabled_code : untabled.code ≡ 7
unfolding kind_bytes call_trace call_outcome is_table first_met first_outside first_close words bytes_of
untabled_code = refl

lost_code : lost.code ≡ 19 + 256 * 197
unfolding kind_bytes call_trace call_outcome first_met first_outside first_close words bytes_of state_of core_of post_of concealment_of
lost_code = refl

unlisted_code : unlisted.code ≡ 8
unfolding gain_bytes gain_call is_table first_met first_outside first_close words
unlisted_code = refl

unlisted_gains : unlisted.gains ≡ replicate 4 0
unfolding gain_bytes gain_call is_table first_met first_outside first_close words bytes_of
unlisted_gains = refl

pub unchanged_applied : UnchangedApplied
unchanged_applied =
    let a = unchanged [] (replicate 426 1) 0 (bytes_by (replicate 426 1) refl) unsent_code in
    let b = unchanged lowest_sheet (replicate 426 255) 15 (bytes_by (replicate 426 255) refl) unmet_code in
    let c = refused_unchanged (index_kind (table_in []) (table_in [])) 4 (bytes_of (lowest ++ replicate 168 (pos 0))) (replicate 426 0) (replicate 320 9) (replicate 88 0) (replicate 4 0) (replicate 8 7) (bytes_by (replicate 426 0) refl) (bytes_by (replicate 8 7) refl) (other _ 6 untabled_code) in
    let e = refused_unchanged erased_kind 4 (bytes_of (lowest ++ replicate 161 (pos 0))) (replicate 426 0) (replicate 320 9) (replicate 88 0) (replicate 4 0) (replicate 8 7) (bytes_by (replicate 426 0) refl) (bytes_by (replicate 8 7) refl) (other _ _ lost_code) in
    let d = gain_unchanged (pos 128) (replicate 80 0) (replicate 66 0) (replicate 66 0) (replicate 8 7) (replicate 4 9) (bytes_by (replicate 8 7) refl) (other _ 7 unlisted_code) in
    record {
      unsent_code = unsent_code;
      unsent_state = a.0;
      unsent_out = a.1;
      unsent_places = unsent_places;
      unmet_code = unmet_code;
      unmet_state = b.0;
      unmet_out = b.1;
      untabled_code = untabled_code;
      untabled_state = c.0;
      untabled_out = c.1;
      untabled_energies = c.2;
      lost_code = lost_code;
      lost_state = e.0;
      lost_out = e.1;
      lost_energies = e.2;
      unlisted_code = unlisted_code;
      unlisted_energies = d;
      unlisted_gains = unlisted_gains;
    }
