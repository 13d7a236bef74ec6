-- What a layer shows by its standing.
use Rattle.std.proofs.Common.{◌≡◌, ℕ, Bool, true, false, cond, refl}
use Rattle.device.specs.Faults.{standing_of, blocks_by}

pub blocks_fit : (fits : Bool) (n : ℕ) → blocks_by (standing_of fits) n ≡ cond fits n 0
blocks_fit true n = refl
blocks_fit false n = refl
