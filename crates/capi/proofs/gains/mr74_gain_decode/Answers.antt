-- `capi::mr74_gain_decode`: what does not fit is left; else innovation and energies are read, the index is decoded, and energies and gains are written.
use Rattle.std.proofs.Common.{rules, ap, ◌∙◌, length, to_z-of_z}
use Rattle.coding.specs.Bytes.{words}
use Rattle.capi.specs.Frames.{table_in}
use Rattle.capi.proofs.Codes.{gain_place}
use Rattle.capi.proofs.Calls.{GainFit, gain_unfit, gain_given}
use Rattle.capi.proofs.gains.mr74_gain_decode.Goals as goal

pub returns-in_default : goal.returns-in_default
returns-in_default c = gain_unfit _ _ _ _ _ _ (search rules) (search rules) (λ f. search rules)

pub returns-in_default-as_mut_array : goal.returns-in_default-as_mut_array
returns-in_default-as_mut_array c = gain_unfit _ _ _ _ _ _ (search rules) (search rules) (λ f. search rules)

pub returns-in_default-as_mut_array-2 : goal.returns-in_default-as_mut_array-2
returns-in_default-as_mut_array-2 c = gain_unfit _ _ _ _ _ _ (search rules) (search rules) (λ f. search rules)

pub code-requires : goal.code-requires
code-requires c =
    let a = c.args in
    rw c.decode_in-answer.ensures (gain_place (table_in a.log_table.now) (table_in a.pow_table.now) _ _ _)

pub returns : goal.returns
returns c =
    let a = c.args in
    let i = c.in-Some.ensures.cases in
    let e = c.in-Some-as_mut_array.ensures.cases in
    let fit : GainFit (length a.innovation.now) (length a.energies.now) (length a.gains.now) = record { innovation_fits = i.long; energies_fit = e.long; gains_fit = c.in-Some-as_mut_array-2.ensures.cases.long } in
    gain_given a.index a.innovation.now a.log_table.now a.pow_table.now a.energies.now a.gains.now fit
    i.same (c.energies_in.ensures ∙ ap words e.same) (rw (to_z-of_z c.ranges.index) at c.decode_in-answer.ensures)
    c.code.ensures c.write_energies.ensures c.write_gains.ensures
