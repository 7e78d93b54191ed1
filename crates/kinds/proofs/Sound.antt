-- What a kind owes of a sheet that its checks have accepted: lags in their range, and gains that are not negative, nor are those that go on.
use Rattle.std.proofs.Common.{ℕ, ◌+◌, ◌*◌, ◌<◌, ◌≡◌, refl, sym, ap, subst, Bool, List, arith, ℤ, pos, length, ◌≤ℤ◌}
use lib.Signed.{le_z_yes}
use Rattle.lists.specs.Lists.{at, Every}
use Rattle.pitch.specs.Lag.{Lag}
use Rattle.pitch.proofs.Lags.{Span}
use Rattle.excitation.specs.Excitation.{sharpened}
use Rattle.gain.specs.declared.GainDecoder.{GainDecoder}
use Rattle.gain.specs.declared.DecodedGains.{DecodedGains}
use Rattle.gain.specs.Gain.{decoded_gains, concealed_energies}
use Rattle.gain.specs.Checks.{TableKept}
use Rattle.gain.proofs.Signs.{pitch_from, code_from}
use Rattle.gain_concealment.specs.declared.UsedGains.{UsedGains}
use Rattle.gain_concealment.specs.Concealment.{concealed_gains, good_gains}
use Rattle.gain_concealment.specs.Laws.{NotNegative, Kept, Used}
use Rattle.gain_concealment.proofs.Ranges.{concealed_kept, good_kept}
use Rattle.kinds.specs.declared.GainMemory.{GainMemory}
use Rattle.kinds.specs.Sheet.{gains_at, stage_of, innovation_at}
use Rattle.kinds.specs.Kind.{SheetKind, FrameSheet, IndexSheet, ErasedSheet, SubframeGains, kind_of, index_decoded, index_gains, erased_gains}
use Rattle.kinds.specs.Inner.{gains_with}
use Rattle.kinds.specs.Accepted.{In, GainsKept, GainIndices, OwnKept}
use Rattle.kinds.proofs.LagRanges.{lags_span, concealed_lags_span}

-- gains that are sent are not negative: a frame sheet's,
pub sent_kept : (sheet : List ℤ) → GainsKept sheet → (k : ℕ) → k < 4 → NotNegative (gains_at sheet k)
sent_kept sheet gains k l =
    let e : 14 + (2 * k + 1) ≡ 15 + 2 * k = omega arith in
    record { pitch = gains (2 * k) (omega arith); code = rw e at (gains (2 * k + 1) (omega arith)) }

-- and those of an index in its range, of accepted tables
pub decoded_kept : (logs pows sheet : List ℤ) → TableKept pows → GainIndices sheet → (k : ℕ) (lag : Lag) (m : GainMemory) → k < 4 → NotNegative (index_decoded logs pows sheet k lag m).gains
decoded_kept logs pows sheet kept indices k lag m l =
    let i = indices k l in
    record { pitch = pitch_from logs pows (at sheet (14 + k)) _ _ i.0 i.1; code = code_from logs pows (at sheet (14 + k)) _ _ kept i.0 i.1 }

pub used_kept : (kind : SheetKind) (sheet : List ℤ) → OwnKept kind sheet
    → (erased : Bool) (k : ℕ) (lag : Lag) (m : GainMemory) → k < 4 → Kept m.concealment → Used ((kind_of kind).gains sheet erased k lag m).used
used_kept FrameSheet sheet o erased k lag m l q = good_kept erased (gains_at sheet k) m.concealment (sent_kept sheet o.1 k l) q
used_kept (IndexSheet logs pows) sheet o erased k lag m l q =
    good_kept erased (index_decoded logs pows sheet k lag m).gains m.concealment (decoded_kept logs pows sheet o.1.1.0 o.1.1.1 k lag m l) q
used_kept ErasedSheet sheet o erased k lag m l q = concealed_kept (stage_of sheet) m.concealment q

pub lags_kept : (kind : SheetKind) (sheet : List ℤ) → OwnKept kind sheet → (t : ℤ) → pos 19 ≤ℤ t → t ≤ℤ pos 144 → Every Span ((kind_of kind).lags sheet t)
lags_kept FrameSheet sheet o t h l = lags_span o.0
lags_kept (IndexSheet logs pows) sheet o t h l = lags_span o.0
lags_kept ErasedSheet sheet o t h l = concealed_lags_span 4 t h l

pub four_lags : (kind : SheetKind) (sheet : List ℤ) (t : ℤ) → length ((kind_of kind).lags sheet t) ≡ 4
four_lags FrameSheet sheet t = refl
four_lags (IndexSheet logs pows) sheet t = refl
four_lags ErasedSheet sheet t = refl

pub mark_kept : (kind : SheetKind) → In (pos 0) (pos 1) (kind_of kind).mark
mark_kept FrameSheet = (le_z_yes tt, le_z_yes tt)
mark_kept (IndexSheet logs pows) = (le_z_yes tt, le_z_yes tt)
mark_kept ErasedSheet = (le_z_yes tt, le_z_yes tt)

-- ---- a subframe's gains, from what the code's calls give
module _ (sheet : List ℤ) (erased : Bool) (k : ℕ) (lag : Lag) (m : GainMemory) where
  pub index_found : (logs pows : List ℤ) {code sharp : List ℤ} {i : ℤ} {d : DecodedGains} {u : UsedGains}
      → code ≡ innovation_at 18 sheet k → sharp ≡ sharpened code lag.samples m.sharpening.0 → i ≡ at sheet (14 + k)
      → d ≡ decoded_gains logs pows i sharp m.gain_decoder.energies → u ≡ good_gains erased d.gains m.concealment
      → gains_with u d.gain_decoder ≡ index_gains logs pows sheet erased k lag m
  index_found logs pows ec es ei ed eu = rw (eu, ed, es, ei, ec) refl

  pub erased_found : {i : ℤ} {u : UsedGains} {d : GainDecoder} → i ≡ stage_of sheet → u ≡ concealed_gains i m.concealment → d.energies ≡ concealed_energies m.gain_decoder.energies
      → gains_with u d ≡ erased_gains sheet erased k lag m
  erased_found {d = d} ei eu ed =
      let e : d ≡ record { energies = concealed_energies m.gain_decoder.energies } = ap (λ (xs : List ℤ). record { energies = xs }) ed in
      rw (eu, e, ei) refl

  -- what goes on stays usable
  pub next_kept : (kind : SheetKind) → OwnKept kind sheet → k < 4 → Kept m.concealment
      → {u : UsedGains} {d : GainDecoder} → gains_with u d ≡ (kind_of kind).gains sheet erased k lag m → Kept u.next
  next_kept kind own l q e = subst (λ (g : SubframeGains). Kept g.used.next) (sym e) (used_kept kind sheet own erased k lag m l q).next
