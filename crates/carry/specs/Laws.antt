-- What the bytes of a directory and the directory as a value have to do with each other.
use Rattle.std.specs.Prelude.{◌≡◌, ℕ, ◌*◌, ◌≤◌, true, List, length, Some, None, Option}
use Rattle.codec.specs.Words.{word_at}
use Rattle.volume.specs.Levels.{segments_fit}
use Rattle.segment.specs.Directories.{Directory, chain_of}
use Rattle.directory.specs.declared.pending.Pending.{Pending}
use Rattle.directory.specs.Rules.{pending_stands, broken_rule}
use Rattle.edits.specs.Directories.{Lawful}
use Rattle.edits.specs.Values.{value_of}
use Rattle.carry.specs.Carries.{Carries}

-- how many outputs are open
abbrev pub outputs : Option Pending → ℕ
outputs None = 0
outputs (Some p) = 1

-- an open output's entry and the next stand as they were written
abbrev pub StandsOpen : List ℕ → Option Pending → Type 0
StandsOpen dir None = Unit {0}
StandsOpen dir (Some p) = pending_stands (word_at dir 6) dir (chain_of dir) p ≡ true

-- the bytes of a sound directory hold its value, which is lawful
abbrev pub SoundIsLawful : Type 0
SoundIsLawful =
    (dir : List ℕ) (v : ℕ) (o : Option Pending)
    → segments_fit (word_at dir 0) v ≡ true → 1024 * word_at dir 0 ≤ length dir → broken_rule dir v o ≡ 0
    → Carries dir (value_of dir) × Lawful (outputs o) v (value_of dir) × StandsOpen dir o

-- bytes that hold a lawful directory are read as that directory
abbrev pub CarriedReads : Type 0
CarriedReads = (dir : List ℕ) (d : Directory) (n v : ℕ) → Carries dir d → Lawful n v d → value_of dir ≡ d

-- and are sound
abbrev pub CarriedIsSound : Type 0
CarriedIsSound =
    (dir : List ℕ) (d : Directory) (v : ℕ) (o : Option Pending)
    → Carries dir d → Lawful (outputs o) v d → StandsOpen dir o → broken_rule dir v o ≡ 0
