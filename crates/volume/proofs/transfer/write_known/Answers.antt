use Rattle.volume.proofs.Stretches.{good-written}
use Rattle.volume.proofs.transfer.write_known.Goals as goal

pub returns : goal.returns
returns g c =
    let h = g.D.Device.held c.args.d.now in
    let k = (g.D.Device.held c.write.new.self).stack in
    let e = c.write.ensures in
    let w = good-written h.stack c.args.b c.args.bytes.now c.write.result k h.whole c.requires c.told-bytes e.answer e.stack in
    record { answer = w.0; after = w.1; fixed = e.fixed }
