-- The call of a frame sheet goes by no energies: any eight bytes may stand for them.
use Rattle.std.proofs.Common.{◌≡◌, refl, ap, ◌∙◌, Bool, true, false, List, [], ℕ, ℤ, length}
use Rattle.state.specs.declared.State.{State}
use Rattle.outcome.specs.Outcome.{is_accepted}
use Rattle.coding.specs.Bytes.{words, bytes_of}
use Rattle.kinds.specs.Kind.{frame_kind, call_outcome}
use Rattle.kinds.specs.Prepass.{prepared_after}
use Rattle.mr74.specs.Frame.{CallResult, call_trace, frame_call}
use Rattle.mr74.specs.Inner.{kind_call}
use Rattle.mr74.proofs.Answers.{frame_is}
use Rattle.capi.specs.Capi.{code_of, lent_numbers, state_in, state_bytes}
use Rattle.capi.specs.Frames.{fits, room_in, out_after, row_bytes, FrameReturn, frame_return, kind_after, kind_bytes, frame_bytes}

-- without the energies
abbrev pub without : FrameReturn → FrameReturn
without r = record r { energies = [] }

-- by the answer of a call
abbrev frame_part : CallResult → List ℕ → FrameReturn
frame_part r out = frame_return (code_of r.answer.outcome) (state_bytes r.answer.next) (out_after r.answer.outcome r.lent out) (row_bytes r.answer.rows) r.answer.places []

none_given : (sheet : List ℤ) (s : State) (out : List ℤ) → (call_trace frame_kind [] sheet s out).energies ≡ []
unfolding call_trace prepared_after
none_given sheet s out = go (is_accepted (call_outcome frame_kind sheet s (length out))) refl
  where
    go : (b : Bool) → is_accepted (call_outcome frame_kind sheet s (length out)) ≡ b → (call_trace frame_kind [] sheet s out).energies ≡ []
    go true e = rw e refl
    go false e = rw e refl

module _ (sheet state out rows places energies : List ℕ) (eight : length energies ≡ 8) where
  after_none : frame_part (frame_call (lent_numbers 182 sheet) (state_in state) (room_in out)) out ≡ kind_after frame_kind sheet state out []
  unfolding frame_call words bytes_of
  after_none = rw (none_given (lent_numbers 182 sheet) (state_in state) (room_in out)) refl

  after_any : without (kind_after frame_kind sheet state out energies) ≡ kind_after frame_kind sheet state out []
  unfolding kind_call
  after_any = ap (λ (r : CallResult). frame_part r out) (frame_is (words energies) (lent_numbers 182 sheet) (state_in state) (room_in out)) ∙ after_none

  left_any : (b : Bool) → fits 0 (length state) (length rows) (length places) 0 ≡ b
      → without (kind_bytes frame_kind 4 sheet state out rows places energies) ≡ frame_bytes sheet state out rows places
  unfolding kind_bytes
  left_any true e = rw (eight, e) after_any
  left_any false e = rw (eight, e) refl

  pub any_energies : {r : FrameReturn} → r ≡ kind_bytes frame_kind 4 sheet state out rows places energies → without r ≡ frame_bytes sheet state out rows places
  any_energies e = ap without e ∙ left_any _ refl
