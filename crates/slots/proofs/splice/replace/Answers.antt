use Rattle.std.proofs.Common.{arith}
use Rattle.slots.proofs.Splices.{spliced-one}
use Rattle.slots.proofs.splice.replace.Goals as goal

pub returns-clause-entries : goal.returns-clause-entries
returns-clause-entries c =
    spliced-one c.args.s.now.entries c.args.s.now.count c.args.i (omega (arith, c.args.s.now.few)) c.requires c.args.e
