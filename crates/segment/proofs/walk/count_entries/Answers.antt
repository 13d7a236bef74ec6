use Rattle.std.proofs.Common.{ℕ, sym, ◌∙◌, arith}
use Rattle.volume.specs.Segments.{capacity_of}
use Rattle.segment.proofs.Counts.{counted_more, counted_bad, counted_full, counted_end}
use Rattle.segment.proofs.walk.count_entries.Goals as goal

pub returns-then-word_at-eq-END : goal.returns-then-word_at-eq-END
returns-then-word_at-eq-END c =
    let x : ℕ = c.args.extra in
    record {
      count =
          counted_end c.args.segment.now x (capacity_of x) c.loop-count.count _ c.entry_start-at.ensures.start
          (sym c.word_at.ensures ∙ c.if-word_at-eq-END.true) c.loop-count.invariant.1;
      most = omega (arith, c.capacity-most.ensures);
    }

pub returns-in_err-status_at : goal.returns-in_err-status_at
returns-in_err-status_at c =
    let x : ℕ = c.args.extra in
    rw c.from_residual.ensures
    (record {
      count =
          counted_bad c.args.segment.now x (capacity_of x) c.loop-count.count _ c.entry_start-at.ensures.start
          (λ z. c.if-word_at-eq-END.false (c.word_at.ensures ∙ z)) c.in_err-status_at.ensures c.loop-count.invariant.1;
      most = tt;
    })

pub loop-count-preserved : goal.loop-count-preserved
loop-count-preserved c =
    let x : ℕ = c.args.extra in (
      omega arith,
      counted_more c.args.segment.now x (capacity_of x) c.loop-count.count _ c.entry_start-at.ensures.start
          (λ z. c.if-word_at-eq-END.false (c.word_at.ensures ∙ z)) c.in_ok-status_at.field-0
          (omega (arith, c.capacity-most.ensures)) c.in_ok-status_at.ensures c.loop-count.invariant.1,
    )

pub returns-in_ok-status_at : goal.returns-in_ok-status_at
returns-in_ok-status_at c =
    let x : ℕ = c.args.extra in
    record {
      count =
          counted_full c.args.segment.now x (capacity_of x) c.loop-count.count _ c.entry_start-at.ensures.start
          (λ z. c.if-word_at-eq-END.false (c.word_at.ensures ∙ z)) (omega (arith, c.capacity-most.ensures)) c.loop-count.invariant.1;
      most = tt;
    }
