-- The machine of whole numbers: docs/BENCH.md, "Recurrence", whose sentences are quoted. It knows no operator of the definition, only +, -, ×, >> and the range of 32 bits;
-- how samples follow one another (`recursion`) it shares with it.
-- Its unclamped steps are synthesis/specs/Whole.antt.
-- a: the row a0..a10; x: x(n); y: the samples before y(n), the last of them y(n - 1).
use Rattle.std.specs.Prelude.{ℕ, zero, suc, if◌then◌else◌, List, [], ◌∷◌, ◌++◌, map, ℤ, pos, ◌+ℤ◌, ◌-ℤ◌, ◌*ℤ◌, drop}
use Rattle.std.specs.Int.Signed.{lt_z}
use Rattle.std.specs.Int.{w32}
use Rattle.lists.specs.Lists.{at}
use Rattle.basicop.specs.Ops.{least, most, asr}
use Rattle.synthesis.specs.Recursion.{recursion}
use Rattle.synthesis.specs.Whole.{product, whole_samples, retried}
use Rattle.decoder.specs.Subframe.{SynthesisInput}

-- ---- "the same 23 steps, but clamped"
-- held to the range of 32 bits
abbrev pub held : ℤ → ℤ
held z = if lt_z z (least w32) then least w32 else if lt_z (most w32) z then most w32 else z

unfoldable pub held_sum : List ℤ → ℤ → List ℤ → ℕ → ℤ
held_sum a x y zero = held (pos 2 *ℤ (at a 0 *ℤ x))
held_sum a x y (suc k) = held (held_sum a x y k -ℤ held (product a y (suc k)))

abbrev pub held_sample : List ℤ → ℤ → List ℤ → ℤ
held_sample a x y = asr (held (held (held_sum a x y 10 *ℤ pos 8) +ℤ pos 32768)) 16

abbrev pub held_samples : List ℤ → List ℤ → List ℤ → List ℤ
held_samples a xs history = drop 10 (recursion (held_sample a) xs history)

-- each number >> 2
abbrev pub quarters : List ℤ → List ℤ
quarters zs = map (λ (z : ℤ). asr z 2) zs

-- ---- "a history, the ten synthesis samples before the subframe, and the past, 154 excitations"
pub record Machine : Type 0 where
  pub history : List ℤ
  pub past : List ℤ

-- the samples and the past that it makes of a subframe that is fed a row, feedback and first excitation
pub record Measurement : Type 0 where
  pub samples : List ℤ
  pub past : List ℤ

-- "the past drops its oldest forty and takes the feedback in"
abbrev pub takes_in : List ℤ → List ℤ → List ℤ
takes_in past feedback = drop 40 past ++ feedback

abbrev pub unretried_measurement : SynthesisInput → Machine → Measurement
unretried_measurement f m =
    record {
      samples = whole_samples 10 f.row f.excitation m.history;
      past = takes_in m.past f.feedback;
    }

-- "feedback and past are each >> 2, and the samples come by the same 23 steps, but clamped, with that feedback as x and from the same history"
abbrev pub retried_measurement : SynthesisInput → Machine → Measurement
retried_measurement f m =
    record {
      samples = held_samples f.row (quarters f.feedback) m.history;
      past = takes_in (quarters m.past) (quarters f.feedback);
    }

-- "The subframe is retried where any of its 40 × 23 numbers lies outside -2147483648..=2147483647."
unfoldable pub measurement : SynthesisInput → Machine → Measurement
measurement f m = if retried 10 f.row f.excitation m.history then retried_measurement f m else unretried_measurement f m

-- "the last ten samples are the next history"
abbrev pub machine_after_subframe : SynthesisInput → Machine → Machine
machine_after_subframe f m = record { history = drop 30 (measurement f m).samples; past = (measurement f m).past }

-- after several subframes; a refused call has none and leaves both
unfoldable pub machine_after_subframes : List SynthesisInput → Machine → Machine
machine_after_subframes [] m = m
machine_after_subframes (f ∷ fs) m = machine_after_subframes fs (machine_after_subframe f m)
