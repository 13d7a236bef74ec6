use Rattle.std.proofs.Common.{tests, rules}
use Rattle.std.proofs.lemmas.Iterator.{YieldsList-from_slice}
use Rattle.std.proofs.lemmas.Iterator.Adapters.{serves_from_places}
use Rattle.directory.specs.Walks.{InDirectory}
use Rattle.directory.proofs.Tests.{all_there}
use Rattle.directory.proofs.rules.Segments.all_lawful.Goals as goal

pub all-requires-clause-callable : goal.all-requires-clause-callable
all-requires-clause-callable c =
    serves_from_places (YieldsList-from_slice c.args.self.order.now cc) (λ x q k. search (rules, tests))
    (λ x k lt e.
    let p : InDirectory c.args.self.dir.now x.now = all_there (InDirectory c.args.self.dir.now) c.args.self.order.now k x.now lt e c.args.self.inside in
    search rules)
