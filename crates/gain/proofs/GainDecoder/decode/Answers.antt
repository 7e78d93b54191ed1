-- `decode` meets its contract: accepted, the gains of the index, which is then a row's; refused, no gains.
use Rattle.std.proofs.Common.{◌≡◌, refl, sym, subst, ◌≤ℤ◌, ℕ, ◌<◌, arith, pos, nat_abs, to_z-of_z}
use Rattle.gain.specs.declared.GainAnswer.{GainAnswer}
use Rattle.gain.proofs.Signs.{never_negative}
use Rattle.gain.proofs.Groups.{decode_index}
use Rattle.gain.proofs.Results.{call_accepted, call_refused}
use Rattle.gain.proofs.GainDecoder.decode.Goals as goal
use Rattle.gain.proofs.GainDecoder.decode.Goals.{In-Ok}

index : (c : In-Ok) → (n : ℕ) × (c.args.index ≡ pos n) × (n < 128)
index c = decode_index c.args.log_table.now c.args.pow_table.now c.args.index (rw (to_z-of_z c.ranges.index) at c.in-Ok.ensures.0)

pub overflow_cast-index : goal.overflow_cast-index
overflow_cast-index c =
    let n = index c in
    rw (to_z-of_z c.ranges.index, n.1) (tt, record { fits = omega (arith, n.2) })

pub decode_gains-requires : goal.decode_gains-requires
decode_gains-requires c =
    let n = index c in
    rw (to_z-of_z c.ranges.index, n.1) n.2

pub returns-in-Ok-clause-value : goal.returns-in-Ok-clause-value
returns-in-Ok-clause-value c =
    let a = c.args in
    let n = index c.before.before.before in
    let same : pos (nat_abs a.index) ≡ a.index = rw n.1 refl in
    let t = c.in-Ok.ensures in
    rw (c.decode_gains.ensures, to_z-of_z c.ranges.index, same, t.1.0, t.1.1)
    (call_accepted a.log_table.now a.pow_table.now a.index a.innovation.0 a.self.energies (rw (to_z-of_z c.ranges.index) at t.0))

pub returns-in-Err-clause-value : goal.returns-in-Err-clause-value
returns-in-Err-clause-value c = call_refused c.args.log_table.now c.args.pow_table.now c.args.index c.args.innovation.0 c.args.self.energies (rw (to_z-of_z c.ranges.index) at c.in-Err.ensures)

-- the code gain, by the value
pub returns-in-Ok-clause-code : goal.returns-in-Ok-clause-code
returns-in-Ok-clause-code c =
    let a = c.args in
    subst (λ (x : GainAnswer). pos 0 ≤ℤ x.gains.code.0) (sym (returns-in-Ok-clause-value c)) (never_negative a.log_table.now a.pow_table.now a.index a.innovation.0 a.self.energies)
