-- `every_division` at the call of specs/Examples.antt, whose quotients are twelve: the count is not computed.
use Rattle.std.proofs.Common.{◌≡◌, refl, sym, ap, ◌∙◌, true, [], pos, length, replicate}
use Rattle.outcome.specs.Outcome.{is_accepted}
use Rattle.outcome.specs.Checks.{first_met, first_outside, first_close}
use Rattle.state.specs.Layout.{core_of, post_of, concealment_of, state_of}
use Rattle.kinds.specs.Kind.{frame_kind, call_outcome}
use Rattle.mr74.proofs.Divisions.{every_division}
use Rattle.applied.specs.Examples.{silent, loud, Seen}
use Rattle.applied.specs.Divisions.{DivisionsApplied}
use Rattle.applied.proofs.Examples.{example}

not_turned_back : is_accepted (call_outcome frame_kind loud silent (length (replicate 160 (pos 0)))) ≡ true
unfolding call_outcome first_met first_outside first_close loud silent state_of core_of post_of concealment_of
not_turned_back = refl

pub divisions_applied : DivisionsApplied
divisions_applied =
    sym (every_division frame_kind [] loud silent (replicate 160 (pos 0)) not_turned_back) ∙ ap (λ (e : Seen). length e.quotients) example.call
