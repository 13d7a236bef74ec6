-- Rules 3 to 9 of a directory, and the first that is broken.
use Rattle.std.specs.Prelude.{◌≡◌, ℕ, ◌+◌, ◌*◌, ◌≤◌, ◌⊎◌, List, Option}
use Rattle.std.specs.List.{AllByRecursion}
use Rattle.codec.specs.Words.{word_at}
use Rattle.segment.specs.Chains.{next_of}
use Rattle.segment.specs.Rule4.{Links, times, MeetsEachOnce}
use Rattle.directory.specs.declared.placed.Placed.{Placed}
use Rattle.directory.specs.declared.pending.Pending.{Pending}
use Rattle.directory.specs.Rules.{all_placed, broken_rule}
use Rattle.rulebook.specs.Entries.{SegmentsLawful, TentativeLawful}
use Rattle.rulebook.specs.Headers.{HighestLawful, ExtraLawful, Contiguous}
use Rattle.rulebook.specs.Names.{FilesWellNamed, FilesApart}

abbrev pub Exactly : Type 0 → Type 0 → Type 0
Exactly P Q = (P → Q) × (Q → P)

-- the words S, H and x of segment 1, the block of the first entry, and the entries of the chain ks
abbrev pub total : List ℕ → ℕ
total dir = word_at dir 0

abbrev pub highest : List ℕ → ℕ
highest dir = word_at dir 4

abbrev pub extra : List ℕ → ℕ
extra dir = word_at dir 6

abbrev pub first_block : List ℕ → ℕ
first_block dir = 6 + 2 * total dir

abbrev pub entries : List ℕ → List ℕ → List Placed
entries dir ks = all_placed (extra dir) dir ks (first_block dir)

-- ks is the chain from segment 1, which meets each of 1 to H once and ends
abbrev pub IsChain : List ℕ → List ℕ → Type 0
IsChain dir ks =
    Links (next_of dir) 1 ks × AllByRecursion (λ k. k ≤ highest dir) ks × ((j : ℕ) → 1 ≤ j → j ≤ highest dir → times j ks ≡ 1)

-- each rule, of a directory and, once there is one, its chain
abbrev pub Third : List ℕ → Type 0
Third dir = HighestLawful (highest dir) (total dir)

abbrev pub Fourth : List ℕ → Type 0
Fourth dir = MeetsEachOnce (highest dir) (next_of dir)

abbrev pub Fifth : List ℕ → List ℕ → Type 0
Fifth dir ks = ExtraLawful (extra dir) dir ks

abbrev pub Sixth : List ℕ → Option Pending → List ℕ → Type 0
Sixth dir output ks = SegmentsLawful (extra dir) dir ks × TentativeLawful (extra dir) dir ks output (entries dir ks)

abbrev pub Seventh : List ℕ → ℕ → List ℕ → Type 0
Seventh dir v ks = Contiguous (extra dir) dir v (first_block dir) ks

abbrev pub Eighth : List ℕ → List ℕ → Type 0
Eighth dir ks = FilesWellNamed (entries dir ks)

abbrev pub Ninth : List ℕ → List ℕ → Type 0
Ninth dir ks = FilesApart (entries dir ks)

-- all of them
pub record KeepsRules (dir : List ℕ) (v : ℕ) (output : Option Pending) : Type 0 where
  pub chain : List ℕ
  pub third : Third dir
  pub fourth : IsChain dir chain
  pub fifth : Fifth dir chain
  pub sixth : Sixth dir output chain
  pub seventh : Seventh dir v chain
  pub eighth : Eighth dir chain
  pub ninth : Ninth dir chain

-- rules 3 and 4 are kept, and this holds of the chain
abbrev pub Then : List ℕ → (List ℕ → Type 0) → Type 0
Then dir P = Third dir × ((ks : List ℕ) × IsChain dir ks × P ks)

-- n is the first broken rule: 3 to 9, and it is each exactly where that one is broken and those before it are kept
pub record IsFirst (dir : List ℕ) (v : ℕ) (output : Option Pending) (n : ℕ) : Type 0 where
  pub range : (n ≡ 0) ⊎ ((3 ≤ n) × (n ≤ 9))
  pub third : Exactly (n ≡ 3) (Third dir → ⊥)
  pub fourth : Exactly (n ≡ 4) (Third dir × (Fourth dir → ⊥))
  pub fifth : Exactly (n ≡ 5) (Then dir (λ ks. Fifth dir ks → ⊥))
  pub sixth : Exactly (n ≡ 6) (Then dir (λ ks. Fifth dir ks × (Sixth dir output ks → ⊥)))
  pub seventh : Exactly (n ≡ 7) (Then dir (λ ks. Fifth dir ks × (Sixth dir output ks × (Seventh dir v ks → ⊥))))
  pub eighth : Exactly (n ≡ 8) (Then dir (λ ks. Fifth dir ks × (Sixth dir output ks × (Seventh dir v ks × (Eighth dir ks → ⊥)))))
  pub ninth : Exactly (n ≡ 9) (Then dir (λ ks. Fifth dir ks × (Sixth dir output ks × (Seventh dir v ks × (Eighth dir ks × (Ninth dir ks → ⊥))))))

abbrev pub RulesDecided : Type 0
RulesDecided = (dir : List ℕ) (v : ℕ) (output : Option Pending) → Exactly (broken_rule dir v output ≡ 0) (KeepsRules dir v output)

abbrev pub FirstTold : Type 0
FirstTold = (dir : List ℕ) (v : ℕ) (output : Option Pending) → IsFirst dir v output (broken_rule dir v output)
