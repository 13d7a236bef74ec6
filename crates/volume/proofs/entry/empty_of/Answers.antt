use Rattle.volume.proofs.Encoding.{empty_made}
use Rattle.volume.proofs.entry.empty_of.Goals as goal

pub returns : goal.returns
returns c =
    let h = c.default.ensures in
    let name = h.1.0 in
    let rest = h.1.1.1 in
    empty_made c.default.result c.args.blocks h.0 name.0 name.1.0 name.1.1 rest.0 rest.1.0 rest.1.1
