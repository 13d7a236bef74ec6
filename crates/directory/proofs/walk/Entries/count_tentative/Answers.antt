use Rattle.std.proofs.Common.{tests, rules, refl, ◌∙◌}
use Rattle.std.specs.List.{filter}
use Rattle.std.proofs.lemmas.Iterator.Consumers.{YieldsList-from_first, YieldsList-at, YieldsList-from_filter, count_from_yields_List}
use Rattle.directory.specs.Finds.{is_tentative}
use Rattle.directory.specs.Entries.{entries_left}
use Rattle.directory.proofs.Finding.{tentatives_filtered}
use Rattle.directory.proofs.walk.Entries.count_tentative.Goals as goal

pub returns : goal.returns
returns c =
    count_from_yields_List {all = filter is_tentative (entries_left c.args.self)} c.filter.result c.count.result c.count.ensures.ran
    (YieldsList-from_filter _ is_tentative
    (YieldsList-at c.filter.ensures.source (YieldsList-from_first (λ x. x) entries_left (entries_left c.args.self) refl))
    c.filter.ensures.closure (λ x b q k. search (rules, tests)))
    ∙ tentatives_filtered (entries_left c.args.self)
