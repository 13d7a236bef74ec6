use Rattle.std.proofs.Common.{rules, tests, ◌≡◌, ◌+◌, ◌-◌, ◌^◌, take, drop, ap, ◌∙◌, arith}
use Rattle.std.proofs.lemmas.Iterator.{YieldsList-from_slice, YieldsList-from_map}
use Rattle.std.proofs.lemmas.Iterator.Consumers.{YieldsList-at, fits_by_from_yields_list}
use Rattle.layers.proofs.Nests.{origin_inside}
use Rattle.layers.proofs.table.LevelTable.origin.Goals as goal

pub sum-requires-clause-fits : goal.sum-requires-clause-fits
sum-requires-clause-fits c =
    let i = c.self.invariant.2 in
    let rest = drop 1 c.self.inside.records in
    let depth : c.self.inside.depth + 1 - 1 ≡ c.self.inside.depth = omega arith in
    let inside = origin_inside _ _ i.nested in
    fits_by_from_yields_list (λ l. l.start) (take c.self.inside.depth rest) c.map.result (2 ^ 32)
    (YieldsList-from_map _ (λ l. l.start) (YieldsList-at c.map.ensures.source (YieldsList-from_slice _ (c.iter.ensures.rest ∙ ap (λ n. take n rest) depth))) c.map.ensures.closure (λ x r q k. search (rules, tests)))
    (omega (arith, i.small))
