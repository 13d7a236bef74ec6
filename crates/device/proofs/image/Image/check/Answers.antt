use Rattle.std.proofs.Common.{sym, ap, arith}
use Rattle.device.specs.Answers.{answered}
use Rattle.device.specs.Tables.{length-made}
use Rattle.device.proofs.Fetches.{laid_past, laid_bad, laid-good}
use Rattle.device.proofs.image.Image.check.Goals as goal

pub returns-then-b-size-clause-answer : goal.returns-then-b-size-clause-answer
returns-then-b-size-clause-answer c = sym (ap answered (laid_past _ _ _ c.args.b (omega (arith, length-made))))

pub returns-then-is_listed-clause-answer : goal.returns-then-is_listed-clause-answer
returns-then-is_listed-clause-answer c = sym (ap answered (laid_bad _ _ _ c.args.b (omega (arith, length-made)) (sym c.if-is_listed.ensures)))

pub returns-clause-answer : goal.returns-clause-answer
returns-clause-answer c = sym (ap answered (laid-good _ _ _ c.args.b (omega (arith, length-made)) (sym c.if-is_listed.ensures)))

pub returns-clause-inside : goal.returns-clause-inside
returns-clause-inside c = omega (arith, length-made)
