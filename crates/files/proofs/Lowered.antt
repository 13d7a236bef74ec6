-- What a call on the deepest level leaves of the pack: its table, and the stack below its levels.
use Rattle.std.proofs.Common.{◌≡◌, ℕ, ◌+◌, List, [], ◌∷◌, length, drop, sym, refl, ap, ◌∙◌, arith}
use Rattle.std.proofs.lemmas.List.{drop-drop}
use Rattle.device.specs.declared.level.Level.{Level}
use Rattle.device.specs.Blocks.{Block}
use Rattle.device.specs.Stacks.{Stack, put, over}
use Rattle.device.specs.Fixed.{Table, Fixed, tabled}
use Rattle.layers.specs.LevelStacks.{exactly, over_mounted, over_levels}
use Rattle.layers.specs.Windows.{window}
use Rattle.layers.specs.Mounts.{new_table}
use Rattle.files.specs.States.{with_level}

-- levels change neither the bottom nor the pile under them
pub mounted_bottom : (ls : List Level) (k : Stack) → (over_mounted ls k).bottom ≡ k.bottom
mounted_bottom [] k = refl
mounted_bottom (l ∷ ls) k = mounted_bottom ls (over (window l.start l.length) k)

pub mounted_pile : (ls : List Level) (k : Stack) → drop (length ls) (over_mounted ls k).pile ≡ k.pile
mounted_pile [] k = refl
mounted_pile (l ∷ ls) k =
    let more : length (l ∷ ls) ≡ length ls + 1 = omega arith in
    ap (λ (n : ℕ). drop n (over_mounted ls (over (window l.start l.length) k)).pile) more
    ∙ sym (drop-drop 1 (length ls) (over_mounted ls (over (window l.start l.length) k)).pile)
    ∙ ap (drop 1) (mounted_pile ls (over (window l.start l.length) k))

pub levels_bottom : (t : Table) (k : Stack) → (over_levels t k).bottom ≡ k.bottom
levels_bottom t k = mounted_bottom t.mounted (over (exactly t.whole.length) k)

pub levels_pile : (t : Table) (k : Stack) → drop 1 (drop (length t.mounted) (over_levels t k).pile) ≡ k.pile
levels_pile t k = ap (drop 1) (mounted_pile t.mounted (over (exactly t.whole.length) k))

-- the outermost table and the rest of what is fixed
first_of : List Table → Table
first_of [] = new_table 0
first_of (t ∷ ts) = t

rest_of : List Table → List Table
rest_of [] = []
rest_of (t ∷ ts) = ts

pub same_table : (t u : Table) (f g : Fixed) → tabled t f ≡ tabled u g → t ≡ u
unfolding first_of
same_table t u f g e = ap (λ (x : Fixed). first_of x.tables) e

pub same_below : (t u : Table) (f g : Fixed) → tabled t f ≡ tabled u g → f ≡ g
unfolding rest_of
same_below t u f g e = ap (λ (x : Fixed). record { names = x.names; bads = x.bads; tail = x.tail; tables = rest_of x.tables }) e

-- the blocks of the deepest level were put
pub lowered : (t u : Table) (k j : Stack) (new : List Block) → u ≡ t → over_levels u j ≡ put (over_levels t k) new
    → record { table = u; stack = j } ≡ with_level (record { table = t; stack = k }) new
lowered t u k j new p e = λ i. record { table = p i; stack = record { bottom = low i; pile = same i } }
  where
    low : j.bottom ≡ (put (over_levels t k) new).bottom
    low = sym (levels_bottom u j) ∙ ap (λ (s : Stack). s.bottom) e

    same : j.pile ≡ k.pile
    same =
        sym (levels_pile u j)
        ∙ ap (λ (s : Stack). drop 1 (drop (length u.mounted) s.pile)) e
        ∙ ap (λ (v : Table). drop 1 (drop (length v.mounted) (over_levels t k).pile)) p
        ∙ levels_pile t k
