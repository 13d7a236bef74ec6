use Rattle.std.proofs.Common.{length, sym, ap, subst, arith}
use Rattle.directory.specs.declared.walk.Entries.{Entries}
use Rattle.directory.specs.Entries.{entries_left}
use Rattle.listing.proofs.Counted.{Adds, adds_none, adds_next, adds_all}
use Rattle.listing.proofs.totals.totals_of.Goals as goal

pub loop-entry-init : goal.loop-entry-init
loop-entry-init c =
    (tt, tt, subst (λ (e : Entries). Adds c.default-totals.result (entries_left e) (entries_left c.args.entries)) (sym c.into_iter-entry-iterator.ensures.into_iter_gives) (adds_none c.default-totals.result _ c.default-totals.ensures))

pub with_entry-totals-requires : goal.with_entry-totals-requires
with_entry-totals-requires c = (
  omega (arith, c.loop-entry.invariant.2.few, c.args.entries.way.bound, ap length c.in-Some.ensures.steps),
  (omega (arith, c.loop-entry.invariant.2.small, c.args.entries.way.bound), omega (arith, c.loop-entry.invariant.2.small, c.args.entries.way.bound)),
)

pub loop-entry-preserved : goal.loop-entry-preserved
loop-entry-preserved c =
    (tt, tt, adds_next _ _ _ _ c.with_entry-totals.ensures.same c.in-Some.ensures.steps c.with_entry-totals.ensures.word c.loop-entry.invariant.2)

pub returns : goal.returns
returns c =
    let t = adds_all _ _ _ c.in-None.ensures.steps.0 c.loop-entry.invariant.2 in
    record { files = t.0; used = t.1; free = t.2; lines = t.3 }
