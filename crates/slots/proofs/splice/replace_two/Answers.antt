use Rattle.std.proofs.Common.{arith}
use Rattle.slots.proofs.Splices.{two_by_one, two_by_two}
use Rattle.slots.proofs.splice.replace_two.Goals as goal

pub returns-then-blocks-eq0-clause-entries : goal.returns-then-blocks-eq0-clause-entries
returns-then-blocks-eq0-clause-entries c =
    two_by_one c.args.s.now.entries c.args.s.now.count c.args.i (omega (arith, c.args.s.now.few)) (omega arith) c.close_up.new.entries
    c.args.first c.args.blocks c.if-blocks-eq0.true c.close_up.ensures

pub returns-else-blocks-eq0-clause-entries : goal.returns-else-blocks-eq0-clause-entries
returns-else-blocks-eq0-clause-entries c =
    two_by_two c.args.s.now.entries c.args.s.now.count c.args.i (omega (arith, c.args.s.now.few)) (omega arith) c.args.first
    c.empty_of.result c.args.blocks c.requires c.if-blocks-eq0.false c.empty_of.ensures
