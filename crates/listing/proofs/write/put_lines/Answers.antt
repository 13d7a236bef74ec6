use Rattle.std.proofs.Common.{sym, ◌∙◌, arith}
use Rattle.listing.proofs.Placing.{lines_more, length_more, lines_none}
use Rattle.listing.proofs.write.put_lines.Goals as goal

pub put-requires : goal.put-requires
put-requires c =
    omega (arith, c.loop-entry.invariant.3, length_more c.file_line.result _ c.in-Some.ensures.steps (sym c.if-is_file.ensures) c.file_line.ensures (omega arith))

pub loop-entry-preserved-then-is_file : goal.loop-entry-preserved-then-is_file
loop-entry-preserved-then-is_file c = (
  tt,
  tt,
  lines_more c.loop-entry.out c.loop-entry.at c.file_line.result _ c.in-Some.ensures.steps (sym c.if-is_file.ensures) c.file_line.ensures (omega arith)
      (omega (arith, c.loop-entry.invariant.3)) c.put.ensures
      ∙ c.loop-entry.invariant.2,
  omega (arith, c.loop-entry.invariant.3, length_more c.file_line.result _ c.in-Some.ensures.steps (sym c.if-is_file.ensures) c.file_line.ensures (omega arith)),
)

pub returns : goal.returns
returns c = sym (lines_none _ c.loop-entry.at _ c.in-None.ensures.steps.0) ∙ c.loop-entry.invariant.2
