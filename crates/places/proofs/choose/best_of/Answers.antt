use Rattle.std.proofs.Common.{sym, ap, ◌∙◌, subst}
use Rattle.directory.specs.declared.walk.ChainEntries.{ChainEntries}
use Rattle.directory.specs.Entries.{chain_left}
use Rattle.directory.proofs.Starts.{low_placed}
use Rattle.places.specs.Chosen.{none_yet, Low, best_after}
use Rattle.places.proofs.Keeping.{low_more, best_more, best_none, none_is}
use Rattle.places.proofs.choose.best_of.Goals as goal

pub loop-place-init : goal.loop-place-init
loop-place-init c =
    let e = none_is c.default-best.result c.default-best.ensures in (
      tt,
      tt,
      ap (λ b. best_after c.args.least b (chain_left c.into_iter-place-iterator.result)) e
          ∙ ap (λ (t : ChainEntries). best_after c.args.least none_yet (chain_left t)) c.into_iter-place-iterator.ensures.into_iter_gives,
      subst Low (sym e) (tt, tt, tt),
    )

pub loop-place-preserved : goal.loop-place-preserved
loop-place-preserved c =
    let e = c.in-Some.entry in
    let p = c.in-Some.place in (
      tt,
      tt,
      best_more c.args.least c.loop-place.best c.with_entry-best.result p e c.with_entry-best.ensures c.in-Some.ensures.steps
          ∙ c.loop-place.invariant.2,
      low_more c.args.least c.loop-place.best c.with_entry-best.result p e c.with_entry-best.ensures c.loop-place.invariant.3 (low_placed c.loop-place.place-iterator _ _ c.in-Some.ensures.steps),
    )

pub returns : goal.returns
returns c =
    record {
      best = sym (best_none c.args.least c.loop-place.best _ c.in-None.ensures.steps.0) ∙ c.loop-place.invariant.2;
      low = c.loop-place.invariant.3;
    }
