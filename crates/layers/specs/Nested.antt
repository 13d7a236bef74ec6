-- Levels one inside the other.
use Rattle.std.specs.Prelude.{ℕ, ◌+◌, ◌^◌, ◌<◌, ◌≤◌, List, [], ◌∷◌, length}
use Rattle.std.specs.List.{sum_by}
use Rattle.device.specs.declared.level.Level.{Level}

-- the deepest of the levels mounted in the level `around`: that level itself where none is
abbrev pub innermost : Level → List Level → Level
innermost around [] = around
innermost around (l ∷ ls) = innermost l ls

-- the block of the device that is the first of the deepest level: starts are counted from the level around
abbrev pub origin : List Level → ℕ
origin ls = sum_by (λ l. l.start) ls

-- each level lies inside the one around it
abbrev pub Nested : Level → List Level → Type 0
Nested around [] = Unit {0}
Nested around (l ∷ ls) = (l.start + l.length ≤ around.length) × Nested l ls

-- what every level table keeps: at most seven containers mounted, each level inside the one around it; the blocks of the whole device
-- are a number of 32 bits
pub record LevelsInside (whole : Level) (mounted : List Level) : Type 0 where
  pub few : length mounted ≤ 7
  pub nested : Nested whole mounted
  pub small : whole.length < 2 ^ 32
