use Rattle.std.proofs.Common.{tests, rules, refl}
use Rattle.std.proofs.lemmas.Iterator.Consumers.{YieldsList-from_first}
use Rattle.std.proofs.lemmas.Iterator.Search.{all_from_yields_List}
use Rattle.directory.specs.Finds.{well_named, all_well_named}
use Rattle.directory.specs.Entries.{entries_left}
use Rattle.directory.proofs.walk.Entries.all_well_named.Goals as goal

pub returns : goal.returns
unfolding all_well_named
returns c =
    all_from_yields_List well_named c.all.new.self _ c.all.result c.all.ensures.ran (YieldsList-from_first (λ x. x) entries_left (entries_left c.args.self) refl)
    (λ x b q k. search (rules, tests))
