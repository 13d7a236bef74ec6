use Rattle.std.proofs.Common.{ℕ, ◌+◌, ◌*◌, arith}
use Rattle.volume.proofs.Stretches.{good_still}
use Rattle.volume.proofs.Initials.{all_laid}
use Rattle.volume.proofs.initial.lay_out.Goals as goal

pub store_segment-requires-clause-known : goal.store_segment-requires-clause-known
store_segment-requires-clause-known g c =
    let s = (g.D.Device.held c.args.d.now).stack in
    let k = (g.D.Device.held c.write_known.new.d).stack in
    λ b y z. good_still s _ k c.in_ok-write_known.ensures.after 6 (6 + 2 * c.args.total) c.requires.directory b y (omega arith)

pub zero_blocks-requires-clause-known : goal.zero_blocks-requires-clause-known
zero_blocks-requires-clause-known g c =
    let s = (g.D.Device.held c.args.d.now).stack in
    let k = (g.D.Device.held c.write_known.new.d).stack in
    let j = (g.D.Device.held c.store_segment.new.d).stack in
    let end : ℕ = 6 + 2 * c.args.total in
    λ b y z. good_still k _ j c.in_ok-store_segment.ensures.after 6 end (good_still s _ k c.in_ok-write_known.ensures.after 6 end c.requires.directory) b (omega arith) (omega arith)

pub returns-clause-after : goal.returns-clause-after
returns-clause-after g c =
    let s = (g.D.Device.held c.args.d.now).stack in
    let k = (g.D.Device.held c.write_known.new.d).stack in
    let j = (g.D.Device.held c.store_segment.new.d).stack in
    let i = (g.D.Device.held c.zero_blocks.new.d).stack in
    all_laid s k j i c.args.total c.args.blocks c.args.old.now c.home_block.result c.first_segment.result c.home_block.ensures c.first_segment.ensures
    c.in_ok-write_known.ensures.after c.in_ok-store_segment.ensures.after c.zero_blocks.ensures.after
