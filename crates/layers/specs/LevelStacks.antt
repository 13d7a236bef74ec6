-- What a level table stands for: the whole device, and a window for each mounted level.
use Rattle.std.specs.Prelude.{◌≡◌, ℕ, ◌*◌, ◌<◌, ◌≤◌, Bool, true, false, cond, List, [], ◌∷◌, length, ◌==◌, refl}
use Rattle.std.proofs.Common.{arith}
use Rattle.std.proofs.lemmas.Bool.{eqb-true}
use Rattle.device.specs.declared.level.Level.{Level}
use Rattle.device.specs.declared.standing.Standing.{Standing}
use Rattle.device.specs.declared.standing.Standing.TheVariants.{Stands, DoesNotFit}
use Rattle.device.specs.Blocks.{Block, Whole}
use Rattle.device.specs.Tables.{length-made}
use Rattle.device.specs.Stacks.{Layer, Stack, seen, shown, over}
use Rattle.device.specs.Held.{Held}
use Rattle.device.specs.Fixed.{Table}
use Rattle.layers.specs.Mounts.{deepest_level}
use Rattle.layers.specs.Windows.{window, length-window, window_fewer}

-- n blocks, over exactly n: over another number none
abbrev pub exact_count : ℕ → ℕ → ℕ
exact_count n m = cond (m == n) n 0

pub exact_inside : (n m a : ℕ) (t : Bool) → (m == n) ≡ t → a < 512 * cond t n 0 → a < 512 * m
exact_inside n m a true e h = omega (arith, eqb-true m n e)
exact_inside n m a false e h = absurd (omega arith)

unfoldable pub exactly : ℕ → Layer
exactly n =
    record { count = exact_count n; place = λ m a. a; inside = λ m a h. exact_inside n m a (m == n) refl h; apart = λ m a b ha hb e. e }

-- a window for each mounted level, the deepest on top
abbrev pub over_mounted : List Level → Stack → Stack
over_mounted [] k = k
over_mounted (l ∷ ls) k = over_mounted ls (over (window l.start l.length) k)

-- the stack of the deepest level
abbrev pub over_levels : Table → Stack → Stack
over_levels t k = over_mounted t.mounted (over (exactly t.whole.length) k)

-- A table stands over the number of blocks that it was made for, and shows the deepest level then, else none.
abbrev pub levels_standing : Table → ℕ → Standing
levels_standing t m = cond (m == t.whole.length) Stands DoesNotFit

abbrev pub levels_count : Table → ℕ → ℕ
levels_count t m = cond (m == t.whole.length) (deepest_level t).length 0

-- levels over what is held
pub length-exactly : (n : ℕ) (bs : List Block) → length (seen (exactly n) bs) ≡ exact_count n (length bs)
unfolding exactly seen
length-exactly n bs = length-made _ _ _

pub exact_fewer : (n m : ℕ) → exact_count n m ≤ m
exact_fewer n m = go (m == n) refl
  where
    go : (t : Bool) → (m == n) ≡ t → cond t n 0 ≤ m
    go true e = omega (arith, eqb-true m n e)
    go false e = omega arith

pub mounted_fewer : (ls : List Level) (k : Stack) → length (shown (over_mounted ls k)) ≤ length (shown k)
mounted_fewer [] k = omega arith
mounted_fewer (l ∷ ls) k =
    omega
    (arith, mounted_fewer ls (over (window l.start l.length) k), length-window l.start l.length (shown k), window_fewer l.start l.length (length (shown k)))

pub mounted_whole : (ls : List Level) (k : Stack) → Whole k.bottom → Whole (over_mounted ls k).bottom
mounted_whole [] k w = w
mounted_whole (l ∷ ls) k w = mounted_whole ls (over (window l.start l.length) k) w

-- levels show no more blocks than there are below
pub levels_fewer : (t : Table) (k : Stack) → length (shown (over_levels t k)) ≤ length (shown k)
levels_fewer t k =
    omega
    (arith, mounted_fewer t.mounted (over (exactly t.whole.length) k), length-exactly t.whole.length (shown k), exact_fewer t.whole.length (length (shown k)))

pub levels_limit : (t : Table) (h : Held) → length (shown (over_levels t h.stack)) ≤ 8388608
levels_limit t h = omega (arith, levels_fewer t h.stack, h.limit)

abbrev pub held_levels : Table → Held → Held
held_levels t h = record { stack = over_levels t h.stack; whole = mounted_whole t.mounted (over (exactly t.whole.length) h.stack) h.whole; limit = levels_limit t h }
