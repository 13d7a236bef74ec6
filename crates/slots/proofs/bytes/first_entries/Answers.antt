use Rattle.std.proofs.Common.{sym}
use Rattle.std.proofs.lemmas.List.{take-take}
use Rattle.slots.proofs.bytes.first_entries.Goals as goal

pub returns-clause-entries : goal.returns-clause-entries
returns-clause-entries c = sym (take-take c.args.n c.args.s.now.count c.args.s.now.entries c.requires)
