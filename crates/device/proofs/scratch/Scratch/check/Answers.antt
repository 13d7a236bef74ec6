use Rattle.std.proofs.Common.{sym, refl, ap, arith}
use Rattle.device.specs.Answers.{answered}
use Rattle.device.proofs.Fetches.{laid_past, laid-good}
use Rattle.device.proofs.scratch.Scratch.check.Goals as goal

pub returns-then-b-lt40-clause-answer : goal.returns-then-b-lt40-clause-answer
returns-then-b-lt40-clause-answer c = sym (ap answered (laid-good _ _ _ c.args.b (omega arith) refl))

pub returns-else-b-lt40-clause-answer : goal.returns-else-b-lt40-clause-answer
returns-else-b-lt40-clause-answer c = sym (ap answered (laid_past _ _ _ c.args.b (omega arith)))
