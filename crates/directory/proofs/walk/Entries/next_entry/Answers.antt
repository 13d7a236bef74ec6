use Rattle.std.proofs.Common.{◌≤◌, length, sym, ◌∙◌, arith}
use Rattle.directory.proofs.Walking as way
use Rattle.directory.proofs.walk.Entries.next_entry.Goals as goal

pub entry_start-at-requires : goal.entry_start-at-requires
entry_start-at-requires c = way.within c.loop-place.invariant.0 c.loop-place-test.true

pub new-words-requires : goal.new-words-requires
new-words-requires c =
    let r = way.room c.loop-place.invariant.0 c.loop-place-test.true c.entry_start-at.ensures.start c.segment_at-segment.ensures.bytes c.word_at.ensures c.if-word_at-ne-END.true in
    omega (arith, c.entry_start-at.ensures.room r)

pub returns-in_err-status : goal.returns-in_err-status
returns-in_err-status c =
    absurd (way.not_none c.loop-place.invariant.0 c.loop-place-test.true c.entry_start-at.ensures.start c.segment_at-segment.ensures.bytes c.word_at.ensures c.if-word_at-ne-END.true c.new-words.ensures c.in_err-status.ensures)

pub returns-then-word_at-ne-END : goal.returns-then-word_at-ne-END
returns-then-word_at-ne-END c =
    let r = way.stepped c.loop-place.invariant.0 c.loop-place-test.true c.entry_start-at.ensures.start c.segment_at-segment.ensures.bytes c.word_at.ensures c.if-word_at-ne-END.true
    c.new-words.ensures c.in_ok-status.ensures c.name.ensures c.length-length.ensures c.date.ensures (omega (arith, c.length-length.type_inv)) in
    record {
      step = (sym c.loop-place.invariant.1 ∙ r.0, r.1, omega (arith, c.args.self.way.bound));
      chain = sym c.loop-place.invariant.2 ∙ r.2;
    }

pub loop-place-preserved : goal.loop-place-preserved
loop-place-preserved c = (
  way.on_next c.loop-place.invariant.0 c.loop-place-test.true c.entry_start-at.ensures.start c.segment_at-segment.ensures.bytes c.word_at.ensures c.if-word_at-ne-END.false,
  way.next_left c.loop-place.invariant.0 c.loop-place-test.true c.entry_start-at.ensures.start c.segment_at-segment.ensures.bytes c.word_at.ensures c.if-word_at-ne-END.false
      ∙ c.loop-place.invariant.1,
  way.next_chained c.loop-place.invariant.0 c.loop-place-test.true c.entry_start-at.ensures.start c.segment_at-segment.ensures.bytes c.word_at.ensures c.if-word_at-ne-END.false
      ∙ c.loop-place.invariant.2,
)

pub returns : goal.returns
returns c =
    let at = c.args.self in
    let over : length at.order.now ≤ c.loop-place.place = omega arith in
    record {
      step = sym c.loop-place.invariant.1 ∙ way.none_left at.extra at.dir.now at.order.now c.loop-place.place c.loop-place.index at.at.start over;
      chain = sym c.loop-place.invariant.2 ∙ way.none_chained at.extra at.dir.now at.order.now c.loop-place.place c.loop-place.index at.at.start over;
    }
