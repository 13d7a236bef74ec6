use Rattle.std.proofs.Common.{◌≡◌, ℕ, ◌+◌, take, set, sym, ap, ◌∙◌, arith}
use Rattle.std.proofs.lemmas.List.{length-set}
use Rattle.volume.specs.declared.entry.Entry.{Entry}
use Rattle.slots.proofs.Reading.{most_slots, entry_here, read_more, read_end, read_full}
use Rattle.slots.proofs.bytes.entries_at.Goals as goal

pub returns-in_default-clause-entries : goal.returns-in_default-clause-entries
returns-in_default-clause-entries c =
    let none =
    entry_here c.args.extra c.args.dir.now c.args.k c.loop-i.i c.entry_start.result c.segment_at-segment.result.now
    c.in_default.ensures c.segment_at-segment.ensures.bytes c.entry_start.ensures.start in
    read_end c.args.extra c.args.dir.now c.args.k c.requires.0 c.loop-i.i c.loop-i.invariant.1 c.loop-i.entries none c.loop-i.invariant.2

pub loop-i-preserved : goal.loop-i-preserved
loop-i-preserved c =
    let some =
    entry_here c.args.extra c.args.dir.now c.args.k c.loop-i.i c.entry_start.result c.segment_at-segment.result.now
    c.in-Some.ensures c.segment_at-segment.ensures.bytes c.entry_start.ensures.start in
    let more =
    read_more c.args.extra c.args.dir.now c.args.k c.requires.0 c.loop-i.i c.loop-i.invariant.1 c.in-Some.e c.loop-i.entries some
    (omega (arith, most_slots c.args.extra)) c.loop-i.invariant.2 in (
      simp length-set c.loop-i.invariant.0,
      more.0,
      ap (λ (e : Entry). take (c.loop-i.i + 1) (set c.loop-i.entries c.loop-i.i e)) c.cleaned.ensures ∙ more.1,
    )

pub returns-clause-entries : goal.returns-clause-entries
returns-clause-entries c =
    let all : c.capacity-most.result ≡ c.loop-i.i = omega arith in
    ap (λ (n : ℕ). take n c.loop-i.entries) all
    ∙ read_full c.args.extra c.args.dir.now c.args.k c.requires.0 c.loop-i.i c.loop-i.invariant.1 c.loop-i.entries
    (sym all ∙ c.capacity-most.ensures) c.loop-i.invariant.2
