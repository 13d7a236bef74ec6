-- The laws of piles, as statements.
use Rattle.std.specs.Prelude.{◌≡◌, ℕ, ◌*◌, ◌<◌, List, length, ◌≢◌}
use Rattle.device.specs.Blocks.{Block, Whole, byte}
use Rattle.device.specs.Stacks.{Stack, shown, put, Fitting, down}

pub record PileLaws : Type 0 where
  pub put_shown : (s : Stack) → Whole s.bottom → put s (shown s) ≡ s
  pub shown_put : (s : Stack) (new : List Block) → Fitting (shown s) new → shown (put s new) ≡ new
  pub put_put : (s : Stack) (a b : List Block) → put (put s a) b ≡ put s b
  pub lies : (s : Stack) (a : ℕ) → a < 512 * length (shown s) → byte (shown s) a ≡ byte s.bottom (down s.pile (length s.bottom) a)
  pub inside : (s : Stack) (a : ℕ) → a < 512 * length (shown s) → down s.pile (length s.bottom) a < 512 * length s.bottom
  pub apart : (s : Stack) (a b : ℕ) → a < 512 * length (shown s) → b < 512 * length (shown s)
      → down s.pile (length s.bottom) a ≡ down s.pile (length s.bottom) b → a ≡ b
  pub frame : (s : Stack) (new : List Block) (t : ℕ) → t < 512 * length s.bottom
      → ((a : ℕ) → a < 512 * length (shown s) → down s.pile (length s.bottom) a ≢ t)
      → byte (put s new).bottom t ≡ byte s.bottom t
