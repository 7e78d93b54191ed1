-- `excitation::sharpen` meets its contract: the samples so far are sharpened, those from here on as they came.
use Rattle.std.proofs.Common.{ap, ◌∙◌, ◌-◌, rules, [], ℤ, pos, w16}
use Rattle.lists.specs.Lists.{at, iter, grow}
use Rattle.lists.proofs.Signed.{back, got}
use Rattle.excitation.specs.Excitation.{sharpened_at, sharpened}
use Rattle.excitation.proofs.Sharpening.{sharper_none, sharper_more, sharper_done}
use Rattle.excitation.proofs.sharpen.Goals as goal

pub loop-i-init : goal.loop-i-init
loop-i-init c = (search rules, sharper_none _ _ _ (search rules))

pub loop-i-preserved : goal.loop-i-preserved
loop-i-preserved c =
    let e = back w16 {z = at c.loop-i.code c.loop-i.i} c.sharper-arg-1.given in
    let b = back w16 {z = at c.loop-i.code (c.loop-i.i - c.args.lag)} c.sharper-arg-in-loop-i-1.given in
    (search rules, sharper_more _ _ _ c.loop-i.invariant.1 (search rules) (search rules) (search rules) (got w16 c.sharper.type_inv (c.sharper.ensures ∙ rw (e, b))))

pub returns : goal.returns
unfolding sharpened
returns c =
    let d = c.doubled-doubled in
    sharper_done _ _ _ c.loop-i.invariant.1 (search rules) ∙ ap (λ (g : ℤ). iter (grow (sharpened_at c.args.innovation.0 (pos c.args.lag) g)) 40 []) d.ensures
