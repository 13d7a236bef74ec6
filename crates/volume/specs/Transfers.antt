-- Blocks read or written one after another.
use Rattle.std.specs.Prelude.{◌≡◌, ℕ, zero, suc, ◌<◌, ◌≤◌, false, List, [], ◌∷◌, length, take, drop, Ok, Err, Result, slice_set}
use Rattle.device.specs.declared.fault.DeviceFault.{DeviceFault}
use Rattle.device.specs.Blocks.{Block, good, is_bad}
use Rattle.device.specs.Answers.{fetch}

-- one answer, and then the next unless the first refuses
abbrev pub and_then : {A B : Type 0} → Result A DeviceFault → Result B DeviceFault → Result B DeviceFault
and_then (Ok x) r = r
and_then (Err e) r = Err e

-- whether n blocks from b on are read, or the first refusal
unfoldable pub readable : List Block → ℕ → ℕ → Result (Unit {0}) DeviceFault
readable bs b zero = Ok tt
readable bs b (suc n) = and_then (fetch bs b) (readable bs (suc b) n)

-- the blocks from a to before z are there and good
abbrev pub AllGood : List Block → ℕ → ℕ → Type 0
AllGood bs a z = (b : ℕ) → a ≤ b → b < z → (b < length bs) × (is_bad bs b ≡ false)

-- the blocks xs in place of those from b on
unfoldable pub overwritten : List Block → ℕ → List (List ℕ) → List Block
overwritten bs b [] = bs
overwritten bs b (x ∷ xs) = overwritten (slice_set bs b (good x)) (suc b) xs

-- the two blocks of a segment
abbrev pub halves : List ℕ → List (List ℕ)
halves bytes = take 512 bytes ∷ drop 512 bytes ∷ []
