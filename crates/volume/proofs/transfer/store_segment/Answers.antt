use Rattle.std.proofs.Common.{ℕ, ◌+◌, ◌*◌, arith}
use Rattle.volume.proofs.Stretches.{good_still, both_written}
use Rattle.volume.proofs.transfer.store_segment.Goals as goal

pub write_known-requires : goal.write_known-requires
write_known-requires g c = λ b h l. c.requires.known b h (omega arith)

pub write_known-requires-2 : goal.write_known-requires-2
write_known-requires-2 g c =
    let s = (g.D.Device.held c.args.d.now).stack in
    let k = (g.D.Device.held c.write_known.new.d).stack in
    let b : ℕ = 4 + 2 * c.args.k in
    λ y h l. good_still s _ k c.in_ok-write_known.ensures.after b (6 + 2 * c.args.k) c.requires.known y (omega arith) (omega arith)

pub returns-clause-after : goal.returns-clause-after
returns-clause-after g c =
    let s = (g.D.Device.held c.args.d.now).stack in
    let k = (g.D.Device.held c.write_known.new.d).stack in
    let j = (g.D.Device.held c.write_known-2.new.d).stack in
    both_written s k j (4 + 2 * c.args.k) (5 + 2 * c.args.k) c.args.bytes.now c.as_chunks.result.0.now c.told-bytes c.as_chunks.ensures.front (omega arith)
    c.in_ok-write_known.ensures.after c.write_known-2.ensures.after
