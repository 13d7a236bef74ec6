-- The deepest level is one window of the device.
use Rattle.std.proofs.Common.{◌≡◌, ℕ, ◌+◌, ◌<◌, ◌≤◌, Bool, true, false, cond, eqb, leb, List, [], ◌∷◌, length, get_or, set, Ok, Err, sym, refl, ap, ◌∙◌, subst, arith}
use Rattle.std.proofs.lemmas.Bool.{cond-false, cond_both, eqb-true, eqb-false, ne_eqb, leb-true}
use Rattle.device.specs.declared.fault.DeviceFault.TheVariants.{PastEnd, BadBlock}
use Rattle.device.specs.declared.level.Level.{Level}
use Rattle.device.specs.Blocks.{Block, none, good, Whole, is_bad}
use Rattle.device.specs.Stacks.{Layer, Stack, seen, kept, shown, put, over}
use Rattle.device.specs.Fixed.{Table}
use Rattle.device.specs.Answers.{fetch, stored}
use Rattle.device.proofs.Fetches.{fetch_past, fetch_below}
use Rattle.layers.specs.Windows.{window, window_count, length-window}
use Rattle.layers.specs.Nested.{innermost, origin, Nested}
use Rattle.layers.specs.Mounts.{deepest_level}
use Rattle.layers.specs.LevelStacks.{exactly, over_mounted, over_levels, levels_count, length-exactly}
use Rattle.layers.specs.Parts.{PartIsThere, elsewhere, part_fetch, part_stored}
use Rattle.layers.proofs.Parts.{parted, parted_stored}
use Rattle.layers.proofs.Nests.{origin_more}
use Rattle.layers.proofs.NestedWindows.{all_shown, nested_seen, nested_kept, exactly-seen, exactly-kept}
use Rattle.layers.proofs.WindowLaws.{window-fetch, window-kept}

-- what stands over k shows so many of its blocks, from block `first` on
pub record IsPart (up : Stack → Stack) (k : Stack) (first count : ℕ) : Type 0 where
  pub fits : first + count ≤ length (shown k)
  pub sees : shown (up k) ≡ seen (window first count) (shown k)
  pub keeps : (new : List Block) → put (up k) new ≡ up (put k (kept (window first count) (shown k) new))

module _ (k : Stack) (w : Whole (shown k)) where
  pub whole_part : (n : ℕ) → length (shown k) ≡ n → IsPart (over (exactly n)) k 0 n
  whole_part n e =
      record {
        fits = omega arith;
        sees = exactly-seen n (shown k) w e;
        keeps = λ new. ap (λ (m : List Block). over (exactly n) (put k m)) (exactly-kept n (shown k) w e new);
      }

  -- a window over it is one window
  pub part_over : (up : Stack → Stack) (first count s n : ℕ) → s + n ≤ count → IsPart up k first count → IsPart (λ j. over (window s n) (up j)) k (first + s) n
  part_over up first count s n i p =
      record {
        fits = omega (arith, p.fits);
        sees = ap (seen y) p.sees ∙ nested_seen s n first count (shown k) w i p.fits;
        keeps = λ new.
            ap (over y) (p.keeps (kept y (shown (up k)) new))
            ∙ ap (λ (m : List Block). over y (up (put k m)))
            (ap (λ (m : List Block). kept (window first count) (shown k) (kept y m new)) p.sees
            ∙ nested_kept s n first count (shown k) w i p.fits new);
      }
    where
      y : Layer
      y = window s n

  -- the window that the deepest level is
  pub parts_over : (ls : List Level) (around : Level) (up : Stack → Stack) (first : ℕ) → Nested around ls → IsPart up k first around.length
      → IsPart (λ j. over_mounted ls (up j)) k (first + origin ls) (innermost around ls).length
  parts_over [] around up first i p = subst (λ (f : ℕ). IsPart up k f around.length) (omega arith) p
  parts_over (l ∷ ls) around up first i p =
      subst (λ (f : ℕ). IsPart (λ j. over_mounted ls (over (window l.start l.length) (up j))) k f (innermost l ls).length)
      (omega (arith, origin_more l ls))
      (parts_over ls l (λ j. over (window l.start l.length) (up j)) (first + l.start) i.1
      (part_over up first around.length l.start l.length i.0 p))

-- over another number of blocks no level shows one
pub mounted_none : (ls : List Level) (k : Stack) → length (shown k) ≡ 0 → length (shown (over_mounted ls k)) ≡ 0
mounted_none [] k e = e
mounted_none (l ∷ ls) k e =
    mounted_none ls (over (window l.start l.length) k)
    (length-window l.start l.length (shown k) ∙ ap (window_count l.start l.length) e ∙ go (leb (l.start + l.length) 0) refl)
  where
    go : (t : Bool) → leb (l.start + l.length) 0 ≡ t → cond t l.length 0 ≡ 0
    go true e = omega (arith, leb-true (l.start + l.length) 0 e)
    go false e = refl

pub levels_none : (t : Table) (k : Stack) → (length (shown k) ≡ t.whole.length → ⊥) → length (shown (over_levels t k)) ≡ 0
levels_none t k h =
    mounted_none t.mounted (over (exactly t.whole.length) k)
    (length-exactly t.whole.length (shown k) ∙ cond-false _ _ _ (ne_eqb (length (shown k)) t.whole.length h))

levels_few : (t : Table) (m : ℕ) → levels_count t m ≤ (deepest_level t).length
levels_few t m = cond_both (eqb m t.whole.length) (deepest_level t).length 0 (λ x. x ≤ (deepest_level t).length) (λ e. omega arith) (λ e. omega arith)

pub levels_stand : (t : Table) (m b : ℕ) → b < levels_count t m → (m ≡ t.whole.length) × (b < (deepest_level t).length)
levels_stand t m b = go (eqb m t.whole.length) refl
  where
    go : (u : Bool) → eqb m t.whole.length ≡ u → b < cond u (deepest_level t).length 0 → (m ≡ t.whole.length) × (b < (deepest_level t).length)
    go true e h = (eqb-true m t.whole.length e, h)
    go false e h = absurd (omega arith)

module _ (t : Table) (i : Nested t.whole t.mounted) (k : Stack) (w : Whole (shown k)) where
  abbrev pub first : ℕ
  first = origin t.mounted

  abbrev pub long : ℕ
  long = (deepest_level t).length

  pub levels_part : length (shown k) ≡ t.whole.length → IsPart (over_levels t) k (origin t.mounted) (deepest_level t).length
  levels_part e =
      subst (λ (f : ℕ). IsPart (over_levels t) k f (deepest_level t).length) (omega arith)
      (parts_over k w t.mounted t.whole (over (exactly t.whole.length)) 0 i (whole_part k w t.whole.length e))

  pub levels_length : length (shown (over_levels t k)) ≡ levels_count t (length (shown k))
  levels_length = go (eqb (length (shown k)) t.whole.length) refl
    where
      go : (u : Bool) → eqb (length (shown k)) t.whole.length ≡ u → length (shown (over_levels t k)) ≡ cond u (deepest_level t).length 0
      go true e =
          let p = levels_part (eqb-true (length (shown k)) t.whole.length e) in
          ap length p.sees ∙ length-window first long (shown k) ∙ all_shown first long (length (shown k)) p.fits
      go false e = levels_none t k (eqb-false (length (shown k)) t.whole.length e)

  pub levels_past : (b : ℕ) → levels_count t (length (shown k)) ≤ b → fetch (shown (over_levels t k)) b ≡ Err (PastEnd b)
  levels_past b h = fetch_past (shown (over_levels t k)) b (omega (arith, levels_length))

  module _ (b : ℕ) (h : b < levels_count t (length (shown k))) where
    part : IsPart (over_levels t) k (origin t.mounted) (deepest_level t).length
    part = levels_part (levels_stand t (length (shown k)) b h).0

    inside : b < window_count first long (length (shown k))
    inside = omega (arith, all_shown first long (length (shown k)) part.fits, (levels_stand t (length (shown k)) b h).1)

    pub levels_fetch : fetch (shown (over_levels t k)) b ≡ elsewhere b (fetch (shown k) (first + b))
    levels_fetch =
        ap (λ (m : List Block). fetch m b) part.sees ∙ window-fetch first long (shown k) w b inside

    -- a write to a block of the deepest level is a write below
    pub levels_stored : (j : Stack) (from : List ℕ) → length from ≡ 512 → j ≡ stored (fetch (shown k) (first + b)) k (first + b) from
        → over_levels t j ≡ stored (fetch (shown (over_levels t k)) b) (over_levels t k) b from
    unfolding is_bad
    levels_stored j from l p =
        ap (over_levels t) p
        ∙ rw (levels_fetch, fetch_below (shown k) (first + b) (omega (arith, part.fits, (levels_stand t (length (shown k)) b h).1)))
        (go (get_or (shown k) (first + b) none).bad refl)
      where
        go : (u : Bool) → is_bad (shown k) (first + b) ≡ u
            → over_levels t (stored (cond u (Err (BadBlock (first + b))) (Ok (get_or (shown k) (first + b) none).bytes)) k (first + b) from)
            ≡ stored (elsewhere b (cond u (Err (BadBlock (first + b))) (Ok (get_or (shown k) (first + b) none).bytes))) (over_levels t k) b from
        go true e = refl
        go false e =
            ap (λ (m : List Block). over_levels t (put k m)) (sym (window-kept first long (shown k) w b inside (good from) l (sym e)))
            ∙ ap (λ (m : List Block). over_levels t (put k (kept (window first long) (shown k) (set m b (good from))))) (sym part.sees)
            ∙ sym (part.keeps (set (shown (over_levels t k)) b (good from)))

  -- the blocks of the deepest level are there, or none is shown
  pub levels_there : PartIsThere first (levels_count t (length (shown k))) (length (shown k))
  levels_there h =
      let p = levels_part (levels_stand t (length (shown k)) 0 h).0 in
      omega (arith, p.fits, levels_few t (length (shown k)))

  module _ (b : ℕ) where
    pub levels_parts : fetch (shown (over_levels t k)) b ≡ part_fetch first (levels_count t (length (shown k))) (shown k) b
    levels_parts = parted b _ _ (levels_past b) (fetch (shown k) (first + b)) (levels_fetch b)

    pub levels_parts_stored : (j : Stack) (from : List ℕ) → length from ≡ 512 → j ≡ part_stored first (levels_count t (length (shown k))) k b from
        → over_levels t j ≡ stored (fetch (shown (over_levels t k)) b) (over_levels t k) b from
    levels_parts_stored j from l =
        parted_stored b _ _ (levels_past b) (over_levels t) k j (stored (fetch (shown k) (first + b)) k (first + b) from) from
        (λ h p. levels_stored b h j from l p)
