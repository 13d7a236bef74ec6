use Rattle.std.proofs.Common.{◌≡◌, ◌*◌, ◌≤◌}
use Rattle.volume.proofs.Homes.{bytes_sum}
use Rattle.volume.proofs.home.checksum.Given as goal

abbrev pub invariant-loop-i : goal.invariant-loop-i
invariant-loop-i l = (l.sum ≡ bytes_sum l.block l.i) × (l.sum ≤ 65280 * l.i)
