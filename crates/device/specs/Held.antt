-- A stack that a device may hold: its blocks whole, and what it shows within the limit.
use Rattle.std.specs.Prelude.{ℕ, ◌≤◌, false, List, length, slice_index}
use Rattle.std.proofs.Common.{arith}
use Rattle.device.specs.Blocks.{Block, Whole}
use Rattle.device.specs.Tables.{length-made, whole_made}
use Rattle.device.specs.Stacks.{Stack, shown}
use Rattle.device.specs.Images.{image, image_blocks, scratch, listed}

pub record Held : Type 0 where
  pub stack : Stack
  pub whole : Whole stack.bottom
  pub limit : length (shown stack) ≤ 8388608

-- the blocks that the top shows
abbrev pub shows : Held → List Block
shows h = shown h.stack

pub image_limit : (memory bads : List ℕ) → length (shown (image memory bads)) ≤ 8388608
image_limit memory bads = omega (arith, length-made (image_blocks memory) (listed bads) (λ a. slice_index memory a))

abbrev pub held_image : List ℕ → List ℕ → Held
held_image memory bads = record { stack = image memory bads; whole = whole_made _ _ _; limit = image_limit memory bads }

pub scratch_limit : (memory : List ℕ) → length (shown (scratch memory)) ≤ 8388608
scratch_limit memory = omega (arith, length-made 40 (λ b. false) (λ a. slice_index memory a))

abbrev pub held_scratch : List ℕ → Held
held_scratch memory = record { stack = scratch memory; whole = whole_made 40 _ _; limit = scratch_limit memory }
