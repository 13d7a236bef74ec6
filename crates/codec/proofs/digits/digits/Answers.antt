use Rattle.std.proofs.Common.{◌∙◌, arith}
use Rattle.std.proofs.lemmas.List.{length-set}
use Rattle.codec.proofs.Tens.{digit_more}
use Rattle.codec.proofs.digits.digits.Goals as goal

pub loop-place-preserved : goal.loop-place-preserved
loop-place-preserved g c = (
  simp length-set c.loop-place.invariant.0,
  rw c.digit.ensures (digit_more c.loop-place.place c.loop-place.left c.loop-place.digits (omega arith) (omega arith) ∙ c.loop-place.invariant.1),
)
