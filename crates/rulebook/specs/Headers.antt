-- Rules 1 and 2, of the size of a level, and rules 3, 5 and 7, of the header words of segments.
use Rattle.std.specs.Prelude.{◌≡◌, ℕ, ◌+◌, ◌*◌, ◌%◌, ◌<◌, ◌≤◌, List, [], ◌∷◌, length, take, Decides, nat_le, slice_index}
use Rattle.std.specs.List.{AllByRecursion}
use Rattle.codec.specs.Words.{word_at}
use Rattle.volume.specs.Levels.{segments_fit}
use Rattle.segment.specs.Chains.{segment_at}
use Rattle.segment.specs.Directories.{entries_at}
use Rattle.directory.specs.Walks.{blocks_of}
use Rattle.directory.specs.Rules.{in_use, extra_sound, contiguous_from}

-- rule 2: s is 1 to 31, and the level of v blocks holds the boot blocks, the segments and at least one block behind them
abbrev pub TotalLawful : ℕ → ℕ → Type 0
TotalLawful s v = (1 ≤ s) × (s ≤ 31) × (7 + 2 * s ≤ v)

-- rule 3: of s segments the highest in use, h, is 1 to s
abbrev pub HighestLawful : ℕ → ℕ → Type 0
HighestLawful h s = (1 ≤ h) × (h ≤ s)

-- rule 5: x is even, at most 64, and the extra bytes of each segment of the chain ks
abbrev pub ExtraLawful : ℕ → List ℕ → List ℕ → Type 0
ExtraLawful x dir ks = (x % 2 ≡ 0) × (x ≤ 64) × AllByRecursion (λ k. word_at (segment_at dir k) 6 ≡ x) ks

-- the blocks of the entries of some segments together
abbrev pub blocks_along : ℕ → List ℕ → List ℕ → ℕ
blocks_along x dir [] = 0
blocks_along x dir (k ∷ ks) = blocks_of (entries_at x dir k) + blocks_along x dir ks

-- rule 7: each segment of the chain ks begins at the first block plus the blocks of the segments before it, and with the
-- blocks of all the last ends at v
abbrev pub Contiguous : ℕ → List ℕ → ℕ → ℕ → List ℕ → Type 0
Contiguous x dir v first ks =
    ((i : ℕ) → i < length ks → word_at (segment_at dir (slice_index ks i)) 8 ≡ first + blocks_along x dir (take i ks))
    × (first + blocks_along x dir ks ≡ v)

-- rule 1: a level has at least 9 blocks
abbrev pub RuleOne : Type 0
RuleOne = (v : ℕ) → Decides (nat_le 9 v) (9 ≤ v)

abbrev pub RuleTwo : Type 0
RuleTwo = (s v : ℕ) → Decides (segments_fit s v) (TotalLawful s v)

abbrev pub RuleThree : Type 0
RuleThree = (h s : ℕ) → Decides (in_use h s) (HighestLawful h s)

abbrev pub RuleFive : Type 0
RuleFive = (x : ℕ) (dir ks : List ℕ) → Decides (extra_sound x dir ks) (ExtraLawful x dir ks)

abbrev pub RuleSeven : Type 0
RuleSeven =
    (x : ℕ) (dir : List ℕ) (v first : ℕ) (ks : List ℕ) → Decides (contiguous_from x dir v first ks) (Contiguous x dir v first ks)
