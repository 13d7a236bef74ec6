use Rattle.std.proofs.Common.{eqb, rules, ◌∙◌}
use Rattle.std.proofs.lemmas.Iterator.{YieldsList-from_slice}
use Rattle.std.proofs.lemmas.Iterator.Adapters.{YieldsList-from_skip_while}
use Rattle.std.proofs.lemmas.Iterator.Consumers.{YieldsList-at}
use Rattle.std.proofs.lemmas.Iterator.Search.{all_from_yields_List}
use borrow.Author.Tests.{tests}
use Rattle.codec.specs.Names.{is_name_character}
use Rattle.codec.proofs.Parts.{parted}
use Rattle.codec.proofs.name.is_part.Goals as goal

pub returns : goal.returns
returns c =
    all_from_yields_List (λ b. eqb b 32) _ _ _ c.all.ensures.ran
    (YieldsList-from_skip_while _ _ _ is_name_character _ (λ x b q k. search (rules, tests)) (YieldsList-at c.skip_while.ensures.source (YieldsList-from_slice c.args.part.now cc)) c.skip_while.ensures.closure c.skip_while.ensures.done_skipping)
    (λ x b q k. search (rules, tests))
    ∙ parted c.args.part.now
