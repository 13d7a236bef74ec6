-- The window of n blocks from block s on.
use Rattle.std.specs.Prelude.{◌≡◌, ℕ, ◌+◌, ◌*◌, ◌<◌, ◌≤◌, Bool, true, false, cond, List, length, nat_le, refl}
use Rattle.std.proofs.Common.{arith}
use Rattle.std.proofs.lemmas.Bool.{leb-true}
use Rattle.device.specs.Blocks.{Block}
use Rattle.device.specs.Tables.{length-made}
use Rattle.device.specs.Stacks.{Layer, seen, shown, over}
use Rattle.device.specs.Held.{Held, shows}
use Rattle.device.specs.declared.standing.Standing.{Standing}
use Rattle.device.specs.declared.standing.Standing.TheVariants.{Stands, DoesNotFit}

-- It stands over m blocks where s + n does not exceed m, and shows its blocks then, else none.
abbrev pub window_standing : ℕ → ℕ → ℕ → Standing
window_standing s n m = cond (nat_le (s + n) m) Stands DoesNotFit

abbrev pub window_count : ℕ → ℕ → ℕ → ℕ
window_count s n m = cond (nat_le (s + n) m) n 0

pub window_inside : (s n m a : ℕ) (t : Bool) → nat_le (s + n) m ≡ t → a < 512 * cond t n 0 → 512 * s + a < 512 * m
window_inside s n m a true e h = omega (arith, leb-true (s + n) m e)
window_inside s n m a false e h = omega arith

-- block b is block s + b below
unfoldable pub window : ℕ → ℕ → Layer
window s n =
    record {
      count = window_count s n;
      place = λ m a. 512 * s + a;
      inside = λ m a h. window_inside s n m a (nat_le (s + n) m) refl h;
      apart = λ m a b ha hb e. omega arith;
    }

-- a window over what is held
pub length-window : (s n : ℕ) (bs : List Block) → length (seen (window s n) bs) ≡ window_count s n (length bs)
unfolding window seen
length-window s n bs = length-made _ _ _

pub window_fewer : (s n m : ℕ) → window_count s n m ≤ m
window_fewer s n m = go (nat_le (s + n) m) refl
  where
    go : (t : Bool) → nat_le (s + n) m ≡ t → cond t n 0 ≤ m
    go true e = omega (arith, leb-true (s + n) m e)
    go false e = omega arith

pub window_limit : (s n : ℕ) (h : Held) → length (shown (over (window s n) h.stack)) ≤ 8388608
window_limit s n h = omega (arith, length-window s n (shows h), window_fewer s n (length (shows h)), h.limit)

abbrev pub held_window : ℕ → ℕ → Held → Held
held_window s n h = record { stack = over (window s n) h.stack; whole = h.whole; limit = window_limit s n h }
