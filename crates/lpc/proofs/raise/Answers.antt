-- `raise` meets its contract: coefficients 0 and 1 first, then its loop fills the rest.
use Rattle.std.proofs.Common.{◌+◌, ◌-◌, rules, ◌∙◌, set, w16, w32, SFits, to_z, of_z, to_z-of_z}
use Rattle.lists.specs.Lists.{at}
use Rattle.lists.proofs.Signed.{back, got}
use Rattle.lists.proofs.Entries.{length_tab}
use Rattle.lists.proofs.Fill.{fill_none, fill_keep, fill_more, fill_done}
use Rattle.lpc.proofs.Polynomials.{step_zero, step_one, step_more, step_is}
use Rattle.lpc.proofs.raise.Goals as goal

pub loop-j-init : goal.loop-j-init
loop-j-init c =
    let a = c.args in
    let e = set a.f a.degree (to_z w32 (of_z w32 (at a.f (a.degree - 2)))) in
    let x = a.root.0 in
    let f : SFits w16 x = search rules in
    let n = a.degree + 1 in (
      search rules,
      (
        search rules,
        fill_more {out = e} (fill_keep (fill_none (length_tab _ n) (search rules)) (step_zero e x n (search rules)) (search rules) (search rules))
            (got w32 c.l_msu.type_inv (c.l_msu.ensures ∙ rw (to_z-of_z f) (step_one e x n (search rules) (back w32 c.l_msu-arg-1.given))))
            (search rules) (search rules),
      ),
    )

pub loop-j-preserved : goal.loop-j-preserved
loop-j-preserved c =
    let a = c.args in (
      search rules,
      (
        search rules,
        fill_more c.loop-j.invariant.1.1
            (got w32 c.raised_from.type_inv (c.raised_from.ensures ∙ step_more _ _ (a.degree + 1) c.loop-j.j (search rules) (search rules) (back w32 c.raised_from-arg-1.given) (back w32 c.raised_from-arg-in-loop-j-1.given) (back w32 c.raised_from-arg-in-loop-j-2-1.given)))
            (search rules) (search rules),
      ),
    )

pub returns : goal.returns
returns c =
    let a = c.args in
    fill_done c.loop-j.invariant.1.1 (search rules) ∙ rw (back w32 c.e-1.given) (step_is a.f a.root.0 a.degree (search rules) (search rules))
