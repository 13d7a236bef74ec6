-- A pack as a value, and what its calls leave.
use Rattle.std.specs.Prelude.{ℕ, List, length}
use Rattle.device.specs.Blocks.{Block}
use Rattle.device.specs.Stacks.{Stack, shown, put}
use Rattle.device.specs.Held.{Held, shows}
use Rattle.device.specs.Fixed.{Table}
use Rattle.layers.specs.Mounts.{new_table}
use Rattle.layers.specs.LevelStacks.{over_levels}
use Rattle.volume.specs.Initial.{init_blocks}
use Rattle.files.specs.declared.pack.Pack.{Pack}

-- the level table, and the stack of the device below the levels
pub record State : Type 0 where
  pub table : Table
  pub stack : Stack

abbrev pub state_of : {D : Type 0} → (D → Held) → Pack D → State
state_of held p = record { table = p.levels.table; stack = (held p.levels.below).stack }

-- no container mounted
abbrev pub new_state : Held → State
new_state h = record { table = new_table (length (shows h)); stack = h.stack }

-- the blocks of the deepest level
abbrev pub deepest : State → List Block
deepest s = shown (over_levels s.table s.stack)

-- the state once the blocks of the deepest level are `new`: no other byte of the bottom changes
abbrev pub with_level : State → List Block → State
with_level s new =
    record {
      table = s.table;
      stack = record { bottom = (put (over_levels s.table s.stack) new).bottom; pile = s.stack.pile };
    }

-- INITIALIZE with so many segments
unfoldable pub initialized : ℕ → State → State
initialized segments s = with_level s (init_blocks segments (deepest s))
