-- How many entries and blocks a chain can have.
use Rattle.std.proofs.Common.{◌≡◌, ℕ, suc, ◌+◌, ◌*◌, ◌/◌, ◌<◌, ◌≤◌, ◌⊎◌, List, [], ◌∷◌, length, refl, ap, ◌∙◌, inl, inr, append-nil, div-mul-le_self, arith}
use Rattle.std.proofs.lemmas.Nat.{mul-le}
use Rattle.std.proofs.lemmas.Bool.{cases_lt}
use Rattle.std.specs.List.{AllByRecursion}
use Rattle.std.proofs.lemmas.List.{length-append}
use Rattle.volume.specs.declared.entry.Entry.{Entry}
use Rattle.volume.specs.Segments.{capacity_of}
use Rattle.segment.specs.Chains.{segment_at}
use Rattle.segment.specs.Directories.{entries_at}
use Rattle.segment.proofs.Walks.{segment_few}
use Rattle.directory.specs.Walks.{spot, blocks_of, placed_in, left_from, left, Readable, OnWay}
use Rattle.directory.specs.Finds.{blocks_in}
use Rattle.directory.proofs.Walking.{entries_read}

pub most : (x : ℕ) → capacity_of x ≤ 72
most x = go (cases_lt (1012 / (14 + x)) 73)
  where
    go : (1012 / (14 + x) < 73) ⊎ (73 ≤ 1012 / (14 + x)) → 1012 / (14 + x) ≤ 72
    go (inl h) = omega arith
    go (inr h) = absurd (omega (arith, mul-le 73 (14 + x) (1012 / (14 + x)) (14 + x) h (omega arith), div-mul-le_self 1012 (14 + x)))

pub length-placed : (k i at : ℕ) (es : List Entry) → length (placed_in k i at es) ≡ length es
unfolding placed_in
length-placed k i at [] = refl
length-placed k i at (e ∷ es) = ap suc (length-placed k (i + 1) (at + e.length) es)

pub few : (x : ℕ) (dir : List ℕ) (k : ℕ) → Readable x dir k → length (entries_at x dir k) ≤ 72
few x dir k r = omega (arith, most x, segment_few x (segment_at dir k) (entries_at x dir k) (entries_read x dir k r.2))

pub left_few : (x : ℕ) (dir : List ℕ) (at : ℕ) (ks : List ℕ) → AllByRecursion (Readable x dir) ks → length (left_from x dir 0 at ks) ≤ 72 * length ks
unfolding left_from
left_few x dir at [] a = omega arith
left_few x dir at (k ∷ ks) a =
    let es : List Entry = entries_at x dir k in
    omega (
      arith,
      length-append (placed_in k 0 at es) (left_from x dir 0 (at + blocks_of es) ks),
      length-placed k 0 at es,
      few x dir k a.0,
      left_few x dir (at + blocks_of es) ks a.1,
    )

-- the whole chain can be walked
pub on_whole : (x : ℕ) (dir ks : List ℕ) (at : ℕ) → AllByRecursion (Readable x dir) ks → length ks ≤ 31 → at ≤ 65535 → OnWay x dir ks (spot 0 0 at)
on_whole x dir ks at a n l = record { all = a; inside = λ h. omega arith; bound = omega (arith, left_few x dir at ks a) }

blocks_placed : (k i at : ℕ) (es : List Entry) → blocks_in (placed_in k i at es) ≡ blocks_of es
unfolding placed_in blocks_in blocks_of
blocks_placed k i at [] = refl
blocks_placed k i at (e ∷ es) = ap (λ (n : ℕ). e.length + n) (blocks_placed k (i + 1) (at + e.length) es)

-- the blocks of one segment
pub blocks_one : (x : ℕ) (dir : List ℕ) (k at : ℕ) → blocks_in (left x dir (k ∷ []) (spot 0 0 at)) ≡ blocks_of (entries_at x dir k)
unfolding left_from
blocks_one x dir k at = ap blocks_in (append-nil (placed_in k 0 at (entries_at x dir k))) ∙ blocks_placed k 0 at (entries_at x dir k)
