-- `lines::peak` meets its contract: what it folds from 0, sample by sample, is the largest distance.
use Rattle.std.proofs.Common.{◌≡◌, ◌∙◌, ℤ, ℕ, max, fold, nat_abs, arith}
use Rattle.std.proofs.lemmas.Grind.{common_steps}
use Rattle.lines.proofs.Peaks.{peak_folded}
use Rattle.lines.proofs.marks.peak.Goals as goal

pub returns : goal.returns
returns c =
    let folded : c.fold.result ≡ fold (λ (most : ℕ) (x : ℤ). max most (nat_abs x)) 0 c.args.samples = grind (arith, common_steps) in
    folded ∙ peak_folded c.args.samples
