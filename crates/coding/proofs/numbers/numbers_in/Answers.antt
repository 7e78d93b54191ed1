-- `coding::numbers_in` meets its contract: each call gives the number of its pair of bytes.
use Rattle.std.proofs.Common.{◌+◌, ◌*◌, rules, ◌≡◌, ◌∙◌, arith, length, get_or}
use Rattle.lists.proofs.Made.{made}
use Rattle.coding.specs.Bytes.{signed16, unsigned, words}
use Rattle.coding.proofs.Words.{words_length, at_words}
use Rattle.coding.proofs.numbers.numbers_in.Goals as goal

pub returns : goal.returns
returns g c =
    let b = c.args.bytes.now in
    let l : length b ≡ 2 * g.row.N = c.requires in
    made _ _ (words b) c.from_fn.ensures.items (words_length b g.row.N l) (λ i q y h c.
    let s : (q ≡ _) × (y ≡ signed16 (unsigned (get_or b (2 * i) 0) (get_or b (2 * i + 1) 0))) = search rules in
    (s.0, s.1 ∙ at_words b i (omega (arith, h, l))))
