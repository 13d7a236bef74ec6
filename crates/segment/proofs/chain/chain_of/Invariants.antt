use Rattle.std.proofs.Common.{◌≡◌, length}
use Rattle.segment.specs.Chains.{next_of}
use Rattle.segment.proofs.Chains.{Met}
use Rattle.segment.proofs.chain.chain_of.Given as goal

abbrev pub invariant-loop-i : goal.invariant-loop-i
invariant-loop-i l = (length l.order ≡ 31) × Met l.highest (next_of l.dir) l.order l.i l.k
