use Rattle.std.proofs.Common.{ℕ, ◌≤◌, IfSome, Option, sym, ap, ◌∙◌, subst}
use Rattle.places.specs.declared.place.EmptyPlace.{EmptyPlace}
use Rattle.places.specs.Searches.{chained_of}
use Rattle.places.specs.Chosen.{none_yet, best_after, decided}
use Rattle.places.proofs.Keeping.{low_decided}
use Rattle.places.proofs.Choosing.{best_chosen}
use Rattle.places.proofs.choose.choose.Goals as goal

pub returns : goal.returns
unfolding chained_of
returns c =
    record {
      empty =
          c.decided.ensures
          ∙ (ap (decided c.args.ask) (c.best_of-best.ensures.best ∙ ap (best_after c.least_of.result none_yet) (c.new.ensures ∙ c.entries.ensures.chain))
          ∙ (ap (λ (n : ℕ). decided c.args.ask (best_after n none_yet (chained_of c.args.dir.bytes.now))) c.least_of.ensures
          ∙ best_chosen c.args.dir.bytes.now c.args.ask));
      start =
          subst (λ (o : Option EmptyPlace). IfSome o (λ f. f.entry.start ≤ 200000000)) (sym c.decided.ensures)
          (low_decided c.args.ask c.best_of-best.result c.best_of-best.ensures.low);
    }
