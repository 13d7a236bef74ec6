-- Levels inside one another: where the deepest begins, one more mounted, and one left.
use Rattle.std.proofs.Common.{◌≡◌, ℕ, zero, suc, ◌+◌, ◌-◌, ◌<◌, ◌≤◌, List, [], ◌∷◌, ◌++◌, length, get_or, take, drop, set, Ok, sym, refl, ap, ◌∙◌, arith, length-take, length-take-le, take-append-drop, drop-drop, drop-set-lt}
use Rattle.std.proofs.lemmas.List.{take-take, take_more_set, length_push, drop-append-le}
use Rattle.std.proofs.lemmas.List.Sums.{sum_by-cons}
use Rattle.device.specs.declared.level.Level.{Level}
use Rattle.std.proofs.lemmas.Bool.{cond-true, lt-ltb, le-leb}
use Rattle.device.specs.Fixed.{Table}
use Rattle.layers.specs.Nested.{innermost, origin, Nested, LevelsInside}
use Rattle.layers.specs.Mounts.{mount_answer, mount_by, mount_table, dismount_by, dismount_table}

pub origin_more : (l : Level) (ls : List Level) → origin (l ∷ ls) ≡ l.start + origin ls
origin_more l ls = sum_by-cons (λ (l : Level). l.start) l ls

-- the deepest level ends inside the device
pub origin_inside : (around : Level) (ls : List Level) → Nested around ls → origin ls + (innermost around ls).length ≤ around.length
origin_inside around [] n = omega arith
origin_inside around (l ∷ ls) n = omega (arith, n.0, origin_more l ls, origin_inside l ls n.1)

-- the deepest level is the record at the depth
pub innermost_at : (rs : List Level) (depth : ℕ) (d : Level) → depth < length rs → innermost (get_or rs 0 d) (take depth (drop 1 rs)) ≡ get_or rs depth d
innermost_at [] depth d h = elim h [ ]
innermost_at (r ∷ rs) zero d h = refl
innermost_at (r ∷ []) (suc k) d h = absurd (omega arith)
innermost_at (r ∷ m ∷ rs) (suc k) d h = innermost_at (m ∷ rs) k d (omega arith)

-- a level that is mounted inside the deepest lies inside the levels around it
pub nested_more : (around : Level) (ls : List Level) (l : Level) → Nested around ls → l.start + l.length ≤ (innermost around ls).length → Nested around (ls ++ l ∷ [])
nested_more around [] l n h = (h, tt)
nested_more around (m ∷ ls) l n h = (n.0, nested_more m ls l n.1 h)

nested_fewer : (around : Level) (ls : List Level) (k : ℕ) → Nested around ls → Nested around (take k ls)
nested_fewer around ls zero n = tt
nested_fewer around [] (suc k) n = tt
nested_fewer around (l ∷ ls) (suc k) n = (n.0, nested_fewer l ls k n.1)

-- the records once level l is set after those of the mounted levels, and once one level is left
pub inside_more : (rs : List Level) (depth : ℕ) (l d : Level) → length rs ≡ 8 → depth < 7 → LevelsInside (get_or rs 0 d) (take depth (drop 1 rs))
    → l.start + l.length ≤ (get_or rs depth d).length
    → LevelsInside (get_or (set rs (depth + 1) l) 0 d) (take (depth + 1) (drop 1 (set rs (depth + 1) l)))
inside_more [] depth l d e h i s = absurd (omega arith)
inside_more (r ∷ rs) depth l d e h i s =
    let next : depth + 1 ≡ suc depth = omega arith in
    let after = take_more_set rs depth l (omega arith) in
    let last = innermost_at (r ∷ rs) depth d (omega arith) in
    rw next
    (rw (← next)
    record {
      few = rw after (omega (arith, length_push (take depth rs) l, length-take depth rs));
      nested = rw after (nested_more r (take depth rs) l i.nested (rw last s));
      small = i.small;
    })

pub inside_fewer : (whole : Level) (ls : List Level) (depth n : ℕ) → n ≤ depth → LevelsInside whole (take depth ls) → LevelsInside whole (take n ls)
inside_fewer whole ls depth n h i =
    rw (← take-take n depth ls h)
    record {
      few = omega (arith, length-take n (take depth ls), i.few);
      nested = nested_fewer whole (take depth ls) n i.nested;
      small = i.small;
    }

-- the records behind the mounted levels, once one is left
pub spare_fewer : (ls : List Level) (depth n : ℕ) → n ≤ depth → depth ≤ length ls → drop n ls ≡ drop n (take depth ls) ++ drop depth ls
spare_fewer ls depth n h e =
    ap (drop n) (sym (take-append-drop depth ls)) ∙ drop-append-le n (take depth ls) (drop depth ls) (omega (arith, length-take-le depth ls e, h))

-- what is seen of a table's records at a depth
abbrev pub seen_at : List Level → ℕ → Level → Table
seen_at rs depth d = record { whole = get_or rs 0 d; mounted = take depth (drop 1 rs); spare = drop depth (drop 1 rs) }

-- the table once one level is left
pub dismounted : (rs : List Level) (depth : ℕ) (d : Level) → length rs ≡ 8 → depth ≤ 7 → (depth ≡ 0 → ⊥) → seen_at rs (depth - 1) d ≡ dismount_table (seen_at rs depth d)
dismounted [] depth d e h z = absurd (omega arith)
dismounted (r ∷ ls) depth d e h z =
    let n : length (take depth ls) ≡ depth = length-take-le depth ls (omega arith) in
    let p : take (depth - 1) ls ≡ take (length (take depth ls) - 1) (take depth ls) = rw n (sym (take-take (depth - 1) depth ls (omega arith))) in
    let q : drop (depth - 1) ls ≡ drop (length (take depth ls) - 1) (take depth ls) ++ drop depth ls
    = rw n (spare_fewer ls depth (depth - 1) (omega arith) (omega arith)) in
    (λ i. record { whole = r; mounted = p i; spare = q i })
    ∙ sym (ap (λ a. dismount_by a (seen_at (r ∷ ls) depth d)) (cond-true _ _ _ (lt-ltb 0 (length (take depth ls)) (omega (arith, n, z)))))

-- the table once level l is mounted
pub mounted_one : (rs : List Level) (depth : ℕ) (l d : Level) → length rs ≡ 8 → depth < 7 → l.start + l.length ≤ (get_or rs depth d).length
    → seen_at (set rs (depth + 1) l) (depth + 1) d ≡ mount_table (seen_at rs depth d) l.start l.length
mounted_one [] depth l d e h s = absurd (omega arith)
mounted_one (r ∷ ls) depth l d e h s =
    let next : depth + 1 ≡ suc depth = omega arith in
    let n : length (take depth ls) ≡ depth = length-take-le depth ls (omega arith) in
    let last = innermost_at (r ∷ ls) depth d (omega arith) in
    let p : take (depth + 1) (set ls depth l) ≡ take depth ls ++ l ∷ [] = take_more_set ls depth l (omega arith) in
    let q : drop (depth + 1) (set ls depth l) ≡ drop 1 (drop depth ls) = drop-set-lt (depth + 1) ls depth l (omega arith) ∙ sym (drop-drop 1 depth ls) in
    let answer : mount_answer (seen_at (r ∷ ls) depth d) l.start l.length ≡ Ok tt
    = cond-true _ _ _ (lt-ltb (length (take depth ls)) 7 (omega (arith, n)))
    ∙ cond-true _ _ _ (le-leb (l.start + l.length) (innermost r (take depth ls)).length (rw last s)) in
    rw next
    (rw (← next)
    ((λ i. record { whole = r; mounted = p i; spare = q i }) ∙ sym (ap (λ a. mount_by a (seen_at (r ∷ ls) depth d) l.start l.length) answer)))
