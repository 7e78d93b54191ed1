-- The call of a gain index, computed with the standard's tables, which are a caller's; the energies of erased frames, computed; and the theorems of
-- gain_table, gain and gain_concealment applied. The theorems are `gain_values`, `quiet_energies`, `gains_applied` and `kept_applied` in proofs/Gains.antt.
use mathlib.Core.List.{Perm}
use Rattle.std.specs.Prelude.{◌≡◌, Bool, true, List, [], ◌∷◌, ◌++◌, ℕ, ◌-◌, ℤ, pos, length, replicate, set, ◌≤ℤ◌}
use Rattle.lists.specs.Lists.{minus, at}
use Rattle.outcome.specs.Outcome.{number_of, place_of, is_accepted}
use Rattle.outcome.specs.Checks.{first_met}
use Rattle.gain_table.specs.Rows.{gain_row}
use Rattle.gain.specs.declared.GainAnswer.{GainAnswer}
use Rattle.gain.specs.Checks.{is_table, table_checks}
use Rattle.gain.specs.Gain.{concealed_energies}
use Rattle.gain.specs.Call.{opening_energies, gain_call}
use Rattle.basicop.specs.declared.Gains.{Gains}
use Rattle.gain_concealment.specs.declared.GainConcealment.{GainConcealment}
use Rattle.gain_concealment.specs.Median.{sorted}
use Rattle.gain_concealment.specs.Concealment.{concealed_gains, good_gains}
use Rattle.applied.specs.Refusals.{Refusal, refused}

-- ---- as TS 26.073 prints them: table[33] of log2.tab and of pow2.tab
unfoldable pub log_table : List ℤ
log_table =
    pos 0 ∷ pos 1455 ∷ pos 2866 ∷ pos 4236 ∷ pos 5568 ∷ pos 6863 ∷ pos 8124 ∷ pos 9352 ∷ pos 10549 ∷ pos 11716 ∷ pos 12855 ∷
    pos 13967 ∷ pos 15054 ∷ pos 16117 ∷ pos 17156 ∷ pos 18172 ∷ pos 19167 ∷ pos 20142 ∷ pos 21097 ∷ pos 22033 ∷ pos 22951 ∷ pos 23852 ∷
    pos 24735 ∷ pos 25603 ∷ pos 26455 ∷ pos 27291 ∷ pos 28113 ∷ pos 28922 ∷ pos 29716 ∷ pos 30497 ∷ pos 31266 ∷ pos 32023 ∷ pos 32767 ∷ []

unfoldable pub pow_table : List ℤ
pow_table =
    pos 16384 ∷ pos 16743 ∷ pos 17109 ∷ pos 17484 ∷ pos 17867 ∷ pos 18258 ∷ pos 18658 ∷ pos 19066 ∷ pos 19484 ∷ pos 19911 ∷ pos 20347 ∷
    pos 20792 ∷ pos 21247 ∷ pos 21713 ∷ pos 22188 ∷ pos 22674 ∷ pos 23170 ∷ pos 23678 ∷ pos 24196 ∷ pos 24726 ∷ pos 25268 ∷ pos 25821 ∷
    pos 26386 ∷ pos 26964 ∷ pos 27554 ∷ pos 28158 ∷ pos 28774 ∷ pos 29405 ∷ pos 30048 ∷ pos 30706 ∷ pos 31379 ∷ pos 32066 ∷ pos 32767 ∷ []

-- ---- calls: pitch gain, code gain, energies after
pub record GainSeen : Type 0 where
  pub pitch : ℤ
  pub code : ℤ
  pub energies : List ℤ

abbrev pub gain_seen : ℤ → ℤ → List ℤ → GainSeen
gain_seen pitch code energies = record { pitch = pitch; code = code; energies = energies }

abbrev pub seen_in : GainAnswer → GainSeen
seen_in a = gain_seen a.gains.pitch.0 a.gains.code.0 a.gain_decoder.energies

-- an innovation that begins with these numbers, and is 0 after them
abbrev pub beginning : List ℤ → List ℤ
beginning xs = xs ++ replicate (40 - length xs) (pos 0)

-- with the opening energies and the standard's tables
abbrev pub opened_call : ℕ → List ℤ → GainSeen
opened_call index innovation = seen_in (gain_call log_table pow_table (pos index) innovation opening_energies)

abbrev pub quiet : List ℤ
quiet = replicate 40 (pos 0)

-- 8191 at 0 and 10, -8192 at 21 and 37
abbrev pub pulses : List ℤ
pulses = set (set (set (set quiet 0 (pos 8191)) 10 (pos 8191)) 21 (minus 8192)) 37 (minus 8192)

unfoldable pub gain_calls : List GainSeen
gain_calls =
    opened_call 40 (beginning (pos 6 ∷ []))
    ∷ opened_call 0 quiet
    ∷ opened_call 64 pulses
    ∷ opened_call 0 (replicate 40 (pos 32767))
    ∷ seen_in (gain_call log_table pow_table (pos 10) (beginning (pos 100 ∷ minus 100 ∷ [])) (pos 1000 ∷ pos 2000 ∷ pos 3000 ∷ pos 4000 ∷ []))
    ∷ seen_in (gain_call log_table pow_table (pos 10) (beginning (pos 100 ∷ minus 100 ∷ [])) (pos 4000 ∷ pos 3000 ∷ pos 2000 ∷ pos 1000 ∷ []))
    ∷ seen_in (gain_call log_table (replicate 33 (pos 1000)) (pos 0) quiet (pos 32767 ∷ minus 32768 ∷ minus 32768 ∷ minus 32768 ∷ []))
    ∷ seen_in (gain_call log_table (replicate 33 (pos 0)) (pos 127) (beginning (pos 100 ∷ [])) opening_energies)
    ∷ []

-- after a call on the opening energies
abbrev pub after_opening : ℤ → List ℤ
after_opening energy = energy ∷ minus 14336 ∷ minus 14336 ∷ minus 14336 ∷ []

abbrev pub GainValues : Type 0
GainValues =
    gain_calls
    ≡ gain_seen (pos 10177) (pos 28790) (after_opening (minus 454))
    ∷ gain_seen (pos 577) (pos 32767) (after_opening (minus 16214))
    ∷ gain_seen (pos 13899) (pos 4) (after_opening (minus 7921))
    ∷ gain_seen (pos 577) (pos 0) (after_opening (minus 16214))
    ∷ gain_seen (pos 3451) (pos 26125) (minus 2490 ∷ pos 1000 ∷ pos 2000 ∷ pos 3000 ∷ [])
    ∷ gain_seen (pos 3451) (pos 31667) (minus 2490 ∷ pos 4000 ∷ pos 3000 ∷ pos 2000 ∷ [])
    -- the sums over the energies clamp at the first, and fall from there
    ∷ gain_seen (pos 577) (pos 646) (minus 16214 ∷ pos 32767 ∷ minus 32768 ∷ minus 32768 ∷ [])
    ∷ gain_seen (pos 18842) (pos 0) (after_opening (pos 18494))
    ∷ []

-- ---- refused calls: each meets its check and all those after it; the gains are 0 and 0, and the energies stay
abbrev pub refusal_of : List ℤ → List ℤ → ℤ → Refusal
refusal_of logs pows index = let o = (gain_call logs pows index quiet (pos 1 ∷ minus 2 ∷ pos 3 ∷ minus 4 ∷ [])).outcome in refused (number_of o) (place_of o)

-- a table whose last number is one below the number before it; one whose first number is negative
abbrev pub falling : List ℤ
falling = set pow_table 32 (pos 32065)

abbrev pub negative : List ℤ
negative = set log_table 0 (minus 1)

unfoldable pub refused_gains : List Refusal
refused_gains =
    refusal_of negative falling (minus 1)
    ∷ refusal_of (replicate 32 (pos 5)) falling (pos 128)
    ∷ refusal_of log_table falling (pos 128)
    ∷ refusal_of log_table (pow_table ++ (pos 32767 ∷ [])) (minus 1)
    ∷ refusal_of (replicate 33 (pos 32768)) pow_table (minus 1)
    ∷ refusal_of log_table pow_table (pos 128)
    ∷ refusal_of log_table pow_table (minus 1)
    ∷ refusal_of (replicate 33 (pos 5)) (replicate 33 (pos 32767)) (pos 127)
    ∷ []

abbrev pub RefusedGains : Type 0
RefusedGains = refused_gains ≡ refused 7 0 ∷ refused 7 0 ∷ refused 7 1 ∷ refused 7 1 ∷ refused 7 0 ∷ refused 8 0 ∷ refused 8 0 ∷ refused 0 0 ∷ []

-- ---- the energies of erased frames: four subframes in a row. The sums clamp at each energy, the newest's first
abbrev pub QuietEnergies : Type 0
QuietEnergies =
    concealed_energies (concealed_energies (concealed_energies (concealed_energies (pos 20000 ∷ pos 20000 ∷ minus 20000 ∷ minus 20000 ∷ []))))
    ≡ pos 7393 ∷ pos 8191 ∷ pos 3191 ∷ minus 1809 ∷ []

pub record GainsApplied : Type 0 where
  -- that no code gain is negative: of any index, accepted or not, and any innovation and energies
  pub code : (index : ℤ) (innovation energies : List ℤ) → pos 0 ≤ℤ (gain_call log_table pow_table index innovation energies).gains.code.0
  -- and of any tables
  pub any_tables : (logs pows : List ℤ) → pos 0 ≤ℤ (gain_call logs pows (pos 40) quiet opening_energies).gains.code.0
  -- the ranges of the first row and of the last
  pub pitch : (pos 577 ≤ℤ at (gain_row (pos 0)) 0) × (at (gain_row (pos 127)) 0 ≤ℤ pos 21318)
  pub correction : (pos 662 ≤ℤ at (gain_row (pos 0)) 1) × (at (gain_row (pos 127)) 1 ≤ℤ pos 32764)
  pub energy : (minus 16214 ≤ℤ at (gain_row (pos 0)) 2) × (at (gain_row (pos 127)) 2 ≤ℤ pos 18494)
  pub three : length (gain_row (pos 127)) ≡ 3
  -- what accepted tables are: of tables that begin with these numbers
  pub tables :
      (x y z : ℤ) (logs pows : List ℤ)
      → is_accepted (first_met (table_checks (x ∷ logs) (y ∷ z ∷ pows))) ≡ true
      → (length logs ≡ 32) × (pos 0 ≤ℤ x) × (x ≤ℤ pos 32767) × (y ≤ℤ z)
  -- and what is so is accepted
  pub kept : is_table log_table ≡ true
  -- a refused call gives no gains, and the energies as they came
  pub refused_code : (gain_call negative pow_table (pos 40) quiet opening_energies).gains.code.0 ≡ pos 0
  pub refused_pitch : (gain_call negative pow_table (pos 40) quiet opening_energies).gains.pitch.0 ≡ pos 0
  pub refused_energies : (gain_call negative pow_table (pos 40) quiet opening_energies).gain_decoder.energies ≡ opening_energies

-- ---- gains of erased frames, and of good ones after them: no gain is negative, whatever the stage, the mark and the lengths of the fives
abbrev pub pair : ℤ → ℤ → Gains
pair pitch code = record { pitch = record { 0 = pitch }; code = record { 0 = code } }

-- every gain one of these
abbrev pub alike : ℤ → ℤ → GainConcealment
alike pitch code = record { pitch_history = pitch ∷ []; code_history = code ∷ code ∷ []; past = pair pitch code; last_good = pair pitch code }

pub record KeptApplied : Type 0 where
  -- of numbers in order: they are the same, and they rise
  pub same : (x y z : ℤ) → Perm (x ∷ y ∷ z ∷ []) (sorted (x ∷ y ∷ z ∷ []))
  pub rises : (x y z : ℤ) → at (sorted (x ∷ y ∷ z ∷ [])) 1 ≤ℤ at (sorted (x ∷ y ∷ z ∷ [])) 2
  -- of a subframe of an erased frame
  pub concealed :
      (stage pitch code : ℤ) → pos 0 ≤ℤ pitch → pos 0 ≤ℤ code
      → (pos 0 ≤ℤ (concealed_gains stage (alike pitch code)).gains.pitch.0) × (pos 0 ≤ℤ (concealed_gains stage (alike pitch code)).next.past.code.0)
  -- of a subframe of a good one
  pub good :
      (erased : Bool) (pitch code sent : ℤ) → pos 0 ≤ℤ pitch → pos 0 ≤ℤ code → pos 0 ≤ℤ sent
      → (pos 0 ≤ℤ (good_gains erased (pair sent sent) (alike pitch code)).gains.code.0)
      × (pos 0 ≤ℤ (good_gains erased (pair sent sent) (alike pitch code)).next.last_good.pitch.0)
