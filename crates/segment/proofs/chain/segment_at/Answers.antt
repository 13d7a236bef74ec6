use Rattle.std.proofs.Common.{ℕ, ◌+◌, ◌-◌, ◌*◌, ◌<◌, List, length, take, drop, Bor, ◌∙◌, subst, arith}
use Rattle.std.specs.Array.{IsFirstChunk}
use Rattle.std.specs.Option.{MatchOption}
use Rattle.std.proofs.lemmas.List.{take-take}
use Rattle.segment.proofs.chain.segment_at.Goals as goal

pub returns : goal.returns
returns c =
    let from = 1024 * (c.args.k - 1) in
    let n = from + 1024 - from in
    let xs = drop from c.args.dir.now in
    let first = subst (λ o. MatchOption o (length (take n xs) < 1024) (λ (y : Bor (List ℕ)). IsFirstChunk (take n xs) y.now 1024)) c.unwrap.ensures c.first_chunk.ensures.cases in
    record { bytes = first.same ∙ take-take 1024 n xs (omega arith) }
