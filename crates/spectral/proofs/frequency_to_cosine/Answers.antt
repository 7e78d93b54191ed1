-- `spectral::frequency_to_cosine` meets its contract: 16384 gives the table's last entry; below it the index and the one after it are in the table.
use Rattle.std.proofs.Common.{◌≡◌, sym, ap, ◌∙◌, ℕ, ◌+◌, ◌/◌, ◌%◌, ◌<◌, arith, ℤ, pos, negsuc, nat_abs, ◌≤ℤ◌, w16, to_z, of_z, to_z-of_z}
use Rattle.std.proofs.Math.Facts.{to_z_pos}
use Rattle.lists.specs.Lists.{at}
use Rattle.lists.proofs.Signed.{got}
use Rattle.basicop.proofs.Ints.{arith_ℤ}
use Rattle.basicop.proofs.Range.{cast_gives}
use Rattle.spectral.specs.Lsp.{between, cosine, lsp_of}
use Rattle.spectral.proofs.Cosine.{cosine_fits}
use Rattle.spectral.proofs.Lsp.{lsp_pos, lsp_last}
use Rattle.spectral.proofs.frequency_to_cosine.Goals as goal

last : (n : ℕ) (f : ℤ) → pos n ≡ f → 16383 < n → f ≤ℤ pos 16384 → negsuc 32767 ≡ lsp_of f
last n f e h l =
    let k : n ≡ 16384 = omega (arith_ℤ, e) in
    sym (ap lsp_of (sym e ∙ ap pos k) ∙ lsp_last)

pub returns-then-f-gt16383 : goal.returns-then-f-gt16383
returns-then-f-gt16383 c = last _ c.args.frequency (cast_gives w16 c.args.frequency c.ranges.frequency c.requires.0) c.if-f-gt16383.true c.requires.1

found : (n : ℕ) (f : ℤ) → pos n ≡ f → n < 16384 → between (to_z w16 (of_z w16 (at cosine (n / 256)))) (to_z w16 (of_z w16 (at cosine (n / 256 + 1)))) (to_z w16 (n % 256)) ≡ lsp_of f
found n f e h =
    let low = to_z-of_z (cosine_fits (n / 256) (omega arith)) in
    let next = to_z-of_z (cosine_fits (n / 256 + 1) (omega arith)) in
    rw (low, next, to_z_pos w16 {n = n % 256} (omega arith), ← e) (sym (lsp_pos n))

pub returns : goal.returns
unfolding cosine
returns c =
    let n = nat_abs (to_z w16 (of_z w16 c.args.frequency)) in
    got w16 c.between.type_inv (c.between.ensures ∙ found n c.args.frequency (cast_gives w16 c.args.frequency c.ranges.frequency c.requires.0) (omega (arith, c.if-f-gt16383.false)))
