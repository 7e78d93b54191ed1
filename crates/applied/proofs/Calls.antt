-- The laws of lists of calls at the calls of specs/Examples.antt, with the premises that `example` gives.
use Rattle.std.proofs.Common.{refl, ap, [], ◌∷◌}
use Rattle.mr74.specs.Frame.{Trace}
use Rattle.basicop.proofs.Words.{zero_fits}
use Rattle.calls.specs.Calls.{accepted, SheetFits}
use Rattle.calls.proofs.Calls as one
use Rattle.calls.proofs.Lists as lists
use Rattle.applied.specs.Examples.{silent, loud, call, empty_call, calls, Seen}
use Rattle.applied.specs.Calls.{CallsApplied}
use Rattle.applied.proofs.Concrete.{fits_by}
use Rattle.applied.proofs.Examples.{example, refused_trace_lem}

loud_fits : SheetFits call
unfolding loud
loud_fits e = fits_by loud refl

pub calls_applied : CallsApplied
calls_applied =
    let w = example.well_formed in
    record {
      refused = one.next_refused silent empty_call (ap (λ (t : Trace). accepted t) (refused_trace_lem silent));
      next_well_formed = one.next_well_formed silent call w loud_fits;
      next_accepted = one.next_accepted silent call w (ap (λ (e : Seen). e.accepted) example.call);
      list_well_formed = lists.list_well_formed calls silent w (loud_fits, (λ e k. zero_fits, tt));
      list_accepted = lists.list_accepted calls silent w example.state;
      run = lists.run_append (call ∷ []) (empty_call ∷ []) silent;
      after = lists.after_append (call ∷ []) (empty_call ∷ []) silent;
    }
