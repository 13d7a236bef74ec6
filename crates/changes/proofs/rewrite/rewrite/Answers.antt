use Rattle.std.proofs.Common.{◌≡◌, refl, ap, arith}
use Rattle.std.specs.Fn.{FnOnceReturnsAtMut}
use Rattle.codec.specs.Words.{word_at}
use Rattle.changes.proofs.Written.{decoded, put_again}
use Rattle.changes.proofs.rewrite.rewrite.Goals as goal

pub put_segment-requires-clause-room : goal.put_segment-requires-clause-room
put_segment-requires-clause-room g c =
    let is = decoded c.args.dir.now c.args.k c.header_at-header.result c.header_at-header.ensures _ c.entries_at-slots.ensures.entries in
    let met : FnOnceReturnsAtMut g.F.FnOnce c.args.change c.entries_at-slots.result tt c.change.new.arg2
    = record { shown = _; shows = refl; left = _; met = c.change.ensures; leaves = refl } in
    let extra : c.header_at-header.result.extra ≡ word_at c.args.dir.now 6 = ap (λ h. h.extra) c.header_at-header.ensures in
    (omega (arith, c.requires.lawful.1), omega (arith, c.requires.room _ _ is met))

pub returns : goal.returns
returns g c =
    let is = decoded c.args.dir.now c.args.k c.header_at-header.result c.header_at-header.ensures _ c.entries_at-slots.ensures.entries in
    let met : FnOnceReturnsAtMut g.F.FnOnce c.args.change c.entries_at-slots.result tt c.change.new.arg2
    = record { shown = _; shows = refl; left = _; met = c.change.ensures; leaves = refl } in (
      c.entries_at-slots.result,
      c.change.new.arg2,
      is,
      met,
      put_again c.args.dir.now c.args.k c.header_at-header.result c.header_at-header.ensures _ c.all_entries.result.now c.put_segment.new.dir
          c.all_entries.ensures.entries c.put_segment.ensures,
    )
