use Rattle.std.proofs.Common.{◌∙◌, arith}
use Rattle.slots.proofs.Splices.{spliced_by_two}
use Rattle.slots.proofs.splice.replace_by_two.Goals as goal

pub returns-clause-entries : goal.returns-clause-entries
returns-clause-entries c =
    c.insert.ensures
    ∙ spliced_by_two c.args.s.now.entries c.args.s.now.count c.args.i (omega arith) c.requires.0 c.args.a c.args.b
