-- The words of a segment in the workspace.
use Rattle.std.proofs.Common.{◌≡◌, ℕ, ◌+◌, ◌-◌, ◌*◌, ◌<◌, List, take, drop, sym, ap, ◌∙◌, arith}
use Rattle.std.proofs.lemmas.List.{get_or-take}
use Rattle.codec.specs.Words.{word_at}
use Rattle.segment.specs.Chains.{segment_at, next_of}
use Rattle.segment.proofs.Fields.{word_past}

word_within : (n : ℕ) (bs : List ℕ) (i : ℕ) → i + 1 < n → word_at (take n bs) i ≡ word_at bs i
word_within n bs i h = omega (arith, get_or-take n bs i 0 (omega arith), get_or-take n bs (i + 1) 0 h)

pub word_in : (dir : List ℕ) (k i : ℕ) → i + 1 < 1024 → word_at (segment_at dir k) i ≡ word_at dir (1024 * (k - 1) + i)
word_in dir k i h = word_within 1024 (drop (1024 * (k - 1)) dir) i h ∙ word_past dir (1024 * (k - 1)) i

pub word_in_first : (dir : List ℕ) (i : ℕ) → i + 1 < 1024 → word_at (segment_at dir 1) i ≡ word_at dir i
word_in_first dir i h = word_in dir 1 i h ∙ ap (word_at dir) (omega arith)

pub next_in : (dir : List ℕ) (k : ℕ) → next_of dir k ≡ word_at (segment_at dir k) 2
unfolding next_of
next_in dir k = sym (word_in dir k 2 (omega arith))
