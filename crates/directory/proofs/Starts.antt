-- The first entry of what is left starts where the way has come to.
use Rattle.std.proofs.Common.{◌≡◌, ℕ, ◌+◌, ◌≤◌, List, [], ◌∷◌, ◌++◌, map, drop, Some, None, Option, sym, ap, ◌∙◌, add-zero, arith}
use Rattle.std.specs.Prelude.{IfSome}
use Rattle.std.specs.Iterator.{YieldsFirst}
use Rattle.volume.specs.declared.entry.Entry.{Entry}
use Rattle.segment.specs.Directories.{entries_at}
use Rattle.directory.specs.declared.placed.Placed.{Placed}
use Rattle.directory.specs.declared.walk.Entries.{Entries}
use Rattle.directory.specs.Walks.{placed, blocks_of, placed_in, left_from, chained_from}
use Rattle.directory.specs.declared.walk.ChainEntries.{ChainEntries}
use Rattle.directory.specs.Entries.{entries_left, chain_left}

first_of : (k i at : ℕ) (es : List Entry) (rest : ℕ → List Placed) (p : Placed) (ps : List Placed)
    → placed_in k i at es ++ rest (at + blocks_of es) ≡ p ∷ ps → ((b : ℕ) → rest b ≡ p ∷ ps → p.start ≡ b) → p.start ≡ at
unfolding placed_in blocks_of
first_of k i at [] rest p ps q f = f (at + 0) q ∙ add-zero at
first_of k i at (e ∷ es) rest p ps q f = cc

starts_from : (x : ℕ) (dir : List ℕ) (i at : ℕ) (ks : List ℕ) (p : Placed) (ps : List Placed) → left_from x dir i at ks ≡ p ∷ ps → p.start ≡ at
unfolding left_from
starts_from x dir i at [] p ps q = absurd (let z : ◌≡◌ {A = ℕ} 0 1 = cc in omega arith)
starts_from x dir i at (k ∷ ks) p ps q =
    first_of k i at (drop i (entries_at x dir k)) (λ b. left_from x dir 0 b ks) p ps q (λ b r. starts_from x dir 0 b ks p ps r)

-- each entry that comes starts at a block that fits
pub low_start : (e : Entries) (p : Placed) (ps : List Placed) → entries_left e ≡ p ∷ ps → p.start ≤ 200000000
low_start e p ps q = omega (arith, starts_from e.extra e.dir.now e.at.index e.at.start (drop e.at.place e.order.now) p ps q, e.way.bound)

pub low_first : (e f : Entries) (r : Option Placed) → YieldsFirst entries_left e r f → IfSome r (λ p. p.start ≤ 200000000)
low_first e f (Some p) q = low_start e p (entries_left f) q
low_first e f None q = tt

first_placed : (j k i at : ℕ) (es : List Entry) (rest : ℕ → List (ℕ × Placed)) (p : ℕ × Placed) (ps : List (ℕ × Placed))
    → map (λ e. (j, e)) (placed_in k i at es) ++ rest (at + blocks_of es) ≡ p ∷ ps → ((b : ℕ) → rest b ≡ p ∷ ps → p.1.start ≡ b) → p.1.start ≡ at
unfolding placed_in blocks_of
first_placed j k i at [] rest p ps q f = f (at + 0) q ∙ add-zero at
first_placed j k i at (e ∷ es) rest p ps q f = let r : (j, placed k i at e) ≡ p = cc in ap (λ (z : ℕ × Placed). z.1.start) (sym r)

placed_from : (x : ℕ) (dir : List ℕ) (j i at : ℕ) (ks : List ℕ) (p : ℕ × Placed) (ps : List (ℕ × Placed)) → chained_from x dir j i at ks ≡ p ∷ ps → p.1.start ≡ at
unfolding chained_from
placed_from x dir j i at [] p ps q = absurd (let z : ◌≡◌ {A = ℕ} 0 1 = cc in omega arith)
placed_from x dir j i at (k ∷ ks) p ps q =
    first_placed j k i at (drop i (entries_at x dir k)) (λ b. chained_from x dir (j + 1) 0 b ks) p ps q (λ b r. placed_from x dir (j + 1) 0 b ks p ps r)

-- the same where each has its segment's place
pub low_placed : (e : ChainEntries) (p : ℕ × Placed) (ps : List (ℕ × Placed)) → chain_left e ≡ p ∷ ps → p.1.start ≤ 200000000
low_placed e p ps q =
    omega (
      arith,
      placed_from e.entries.extra e.entries.dir.now e.entries.at.place e.entries.at.index e.entries.at.start (drop e.entries.at.place e.entries.order.now) p ps q,
      e.entries.way.bound,
    )

pub low_placed_first : (e f : ChainEntries) (r : Option (ℕ × Placed)) → YieldsFirst chain_left e r f → IfSome r (λ p. p.1.start ≤ 200000000)
low_placed_first e f (Some p) q = low_placed e p (chain_left f) q
low_placed_first e f None q = tt
