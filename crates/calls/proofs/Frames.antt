-- What a frame gives, of what a usable sheet comes to and a state that the checks let pass: ranges, divisors, and a state that they let pass, well-formed but for
-- its concealment.
use Rattle.std.proofs.Common.{lit≤, ℤ, pos, ◌≤ℤ◌, w16, SFits}
use lib.Signed.{le_z_yes}
use Rattle.lists.specs.Lists.{Every}
use Rattle.lists.proofs.Entries.{every_append, every_map}
use Rattle.basicop.specs.Ops.{Quotient}
use Rattle.basicop.specs.Divided.{Divides}
use Rattle.basicop.specs.Words.{Words}
use Rattle.basicop.proofs.Ints.{≤ℤ_trans, le_in}
use Rattle.basicop.proofs.Range.{sfits_range, sfits_from}
use Rattle.basicop.proofs.Words.{words_map}
use Rattle.spectral.specs.Lsp.{lsp_of, lsps_of}
use Rattle.spectral.proofs.Lsp.{lsp_fits}
use Rattle.decoder.specs.Inputs.{FrameInputs}
use Rattle.decoder.specs.Core.{samples_of, quotients_of, core_result}
use Rattle.decoder.proofs.Results.{Held, CoreFacts, core_facts}
use Rattle.postfilter.specs.Tilted.{Framed}
use Rattle.postfilter.proofs.Results.{processed_kept, framed_rows, rows_first}
use Rattle.state.specs.declared.State.{State}
use Rattle.outcome.specs.Outcome.{Outcome}
use Rattle.state.specs.State.{SignalFormed}
use Rattle.state.proofs.Checks.{InRange}
use Rattle.kinds.specs.Prepass.{PreparedFrame}
use Rattle.kinds.proofs.Usable.{UsablePrepared}
use Rattle.mr74.specs.Frame.{core_result_of, post_result_of, next_state_of, accepted_trace}

in_16 : {z n : ℤ} → n ≤ℤ pos 32767 → pos 0 ≤ℤ z → z ≤ℤ n → SFits w16 z
in_16 {z} l f t = sfits_from w16 z (≤ℤ_trans (le_z_yes tt) f) (≤ℤ_trans t l)

-- the state that a frame leaves; its smoothed gain is at most 32748, where the statement over lists of calls asks for 32765
pub record NextFacts (s : State) : Type 0 where
  pub formed : SignalFormed s
  pub passes : InRange s
  pub gain : s.post.gain.previous_gain ≤ℤ pos 32748

pub record FrameFacts (p : PreparedFrame) (s : State) : Type 0 where
  pub core : CoreFacts (lsps_of p.inputs.lsfs) (core_result_of p.inputs s)
  pub post : Framed 512 4 (post_result_of p.inputs s)
  pub samples : Words 160 (post_result_of p.inputs s).output.samples
  pub next : NextFacts (next_state_of p s)

module _ (q : PreparedFrame) (s : State) (u : UsablePrepared q) (w : SignalFormed s) (k : InRange s) where
  abbrev inputs : FrameInputs
  inputs = q.inputs

  pub held : Held s.core
  held = record { past = w.past; history = w.history }

  pub frame_facts : FrameFacts q s
  unfolding core_result
  frame_facts =
      let ys = samples_of (core_result_of inputs s).subframes in
      let c = core_facts s.core inputs u.inputs held in
      let p = processed_kept s.post (core_result_of inputs s).rows ys (record { inputs = w.input_history; outputs = w.synthesis_history; residual = w.previous_residual; gain = record { from = k.gain; to = (sfits_range w16 _ w.previous_gain).1 } }) c.samples in
      let m = p.memory in
      record {
        core = c;
        post = framed_rows s.post (core_result_of inputs s).rows ys (rows_first s.core.lsp (lsps_of inputs.lsfs));
        samples = p.samples;
        next = record {
          formed = record {
            lsp = rw c.next.lsp (words_map lsp_of lsp_fits inputs.lsfs u.inputs.ten);
            past = c.next.held.past;
            sharpening = in_16 (le_z_yes tt) c.next.sharpening.0 c.next.sharpening.1;
            history = c.next.held.history;
            input_history = m.inputs;
            synthesis_history = m.outputs;
            previous_residual = m.residual;
            previous_gain = in_16 (le_z_yes tt) m.gain.from (p.gain (lit≤ tt));
          };
          passes = record { from = c.next.sharpening.0; to = c.next.sharpening.1; gain = m.gain.from; concealment = u.concealment };
          gain = p.gain (lit≤ tt);
        };
      }

  -- every divisor of the frame: those of the core lie in 16384..=32767, those of the postfilter in 512..=32767
  pub frame_divisors : (o : Outcome) → Every (Divides 512) (accepted_trace o q s).quotients
  frame_divisors o =
      every_append (Divides 512) (quotients_of (core_result_of inputs s).subframes) (post_result_of inputs s).quotients
      (every_map wider (quotients_of (core_result_of inputs s).subframes) frame_facts.core.divisors)
      frame_facts.post.divisors
    where
      wider : (q : Quotient) → Divides 16384 q → Divides 512 q
      wider q d = record { from = ≤ℤ_trans (le_in (lit≤ tt)) d.from; to = d.to }
