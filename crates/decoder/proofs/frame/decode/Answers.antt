-- `decoder::decode` meets its contract: spectrum, rows and the four subframes put together are the definition's core.
use Rattle.decoder.proofs.Subframes.{core_is}
use Rattle.decoder.proofs.frame.decode.Goals as goal

pub returns : goal.returns
returns c =
    let a = c.args in
    core_is a.core a.inputs c.lsf_to_lsp-lsp.ensures c.interpolate-rows.ensures c.decode_subframe-a.ensures c.decode_subframe-b.ensures c.decode_subframe-c.ensures c.decode_subframe-d.ensures c.joined.ensures
