-- `polynomial` meets its contract: degree 1 is the definition's, each further degree is raised from the one below, and the degree falls.
use Rattle.std.proofs.Common.{rules, ap, ◌∙◌, [], ◌∷◌, ℤ, pos, w16, w32}
use Rattle.lists.specs.Lists.{at}
use Rattle.lists.proofs.Signed.{back, got}
use Rattle.basicop.specs.Ops.{l_msu}
use Rattle.lpc.specs.Rows.{raised, polynomial}
use Rattle.lpc.proofs.Polynomials.{polynomial_more}
use Rattle.lpc.proofs.+polynomial.Goals as goal

pub returns-then-degree-eq1 : goal.returns-then-degree-eq1
unfolding polynomial
returns-then-degree-eq1 t c =
    rw c.if-degree-eq1.true
    (ap (λ (v : ℤ). pos 16777216 ∷ v ∷ []) (got w32 c.l_msu.type_inv (c.l_msu.ensures ∙ ap (λ (x : ℤ). l_msu (pos 0) x (pos 512)) (back w16 {z = at c.args.roots 0} (search rules)))))

pub returns : goal.returns
returns t c =
    let a = c.args in
    polynomial_more a.roots a.degree c.polynomial.result (search rules) c.polynomial.ensures (c.raise.ensures ∙ ap (raised _) (back w16 (search rules)))
