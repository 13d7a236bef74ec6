-- Blocks that lie in memory.
use Rattle.std.specs.Prelude.{◌≡◌, ℕ, ◌+◌, ◌*◌, ◌/◌, ◌<◌, ◌≤◌, min, Bool, false, List, [], length, take, nat_eq, slice_index}
use Rattle.std.specs.List.{list_any}
use Rattle.device.specs.Blocks.{Block, made}
use Rattle.device.specs.Stacks.{Stack}

-- whether one of the first 32 entries of the list is b
abbrev pub listed : List ℕ → ℕ → Bool
listed bads b = list_any (λ x. nat_eq x b) (take 32 bads)

-- n blocks of the memory, from its start on, of which those by f are bad
abbrev pub laid : ℕ → (ℕ → Bool) → List ℕ → List Block
laid n f memory = made n f (λ a. slice_index memory a)

-- an image has a block for each whole 512 bytes, up to the limit
abbrev pub image_blocks : List ℕ → ℕ
image_blocks memory = min (length memory / 512) 8388608

-- of its blocks those among the first 32 listed are bad
abbrev pub image : List ℕ → List ℕ → Stack
image memory bads = record { bottom = laid (image_blocks memory) (listed bads) memory; pile = [] }

-- a scratch device has 40 good blocks
abbrev pub scratch : List ℕ → Stack
scratch memory = record { bottom = laid 40 (λ b. false) memory; pile = [] }

-- the memory once `from` was written to block b of it
pub record Stored (memory from : List ℕ) (b : ℕ) (after : List ℕ) : Type 0 where
  pub long : length after ≡ length memory
  pub there : (o : ℕ) → o < 512 → slice_index after (512 * b + o) ≡ slice_index from o
  pub before : (a : ℕ) → a < 512 * b → slice_index after a ≡ slice_index memory a
  pub past : (a : ℕ) → 512 * b + 512 ≤ a → slice_index after a ≡ slice_index memory a
