-- The sectors of a block put where they lie, through a buffer.
use Rattle.std.proofs.Common.{◌≡◌, ℕ, ◌+◌, ◌*◌, ◌/◌, ◌%◌, ◌<◌, List, length, get_or, set, Some, None, Option, sym, ap, ◌∙◌, subst, get_or-set_same}
use Rattle.device.specs.Blocks.{Block, none, good}
use Rattle.device.specs.Stacks.{Stack, seen, shown, put, over, Became}
use Rattle.device.specs.Held.{Held, shows}
use Rattle.device.proofs.Lens.{whole_seen_all}
use Rattle.device.proofs.Steps.{became_none, became_shown, became_set}
use Rattle.floppy.specs.declared.buffer.Buffer.{Buffer}
use Rattle.floppy.specs.Floppies.{sector, floppy}
use Rattle.floppy.specs.Buffers.{saved_at, Readable, Copied}
use Rattle.floppy.proofs.Readables.{fitting_readable, readable_fitting}
use Rattle.floppy.proofs.Saved.{saved_fits, saved_became, saved_again}
use Rattle.floppy.proofs.Places.{sector-readable}
use Rattle.floppy.proofs.Halves.{half, fitting_half, half-none, half_more, half_all}

-- once the buffer is saved, the first i sectors are written
pub record Scattered (s : Stack) (b : ℕ) (from : List ℕ) (i : ℕ) (h : Buffer) (k : Stack) : Type 0 where
  pub long : length h.bytes ≡ 512
  pub written : saved_at h.block h.bytes k ≡ put s (half (shown s) b from i)

module _ (s : Held) (b : ℕ) (from : List ℕ) (g : Readable (seen floppy (shows s)) b) where
  pub scattered_none : (h : Buffer) → h.block ≡ None → length h.bytes ≡ 512 → Scattered s.stack b from 0 h s.stack
  scattered_none h e l =
      record {
        long = l;
        written = ap (λ (z : Option ℕ). saved_at z h.bytes s.stack) e ∙ (became_none s.stack s.whole).is
            ∙ ap (put s.stack) (sym (half-none (shows s) b from g (whole_seen_all s.stack.pile s.stack.bottom s.whole)));
      }

  module _ (i : ℕ) (h : Buffer) (k : Held) (c : Scattered s.stack b from i h k.stack) where
    became : Became s.stack (half (shows s) b from i) (saved_at h.block h.bytes k.stack)
    became = record { is = c.written; fits = fitting_half (shows s) b from g i }

    -- the buffer turned to another block
    pub scattered_turned : (h' : Buffer) (k' : Held) → length h'.bytes ≡ 512
        → saved_at h'.block h'.bytes k'.stack ≡ saved_at h.block h.bytes k.stack → Scattered s.stack b from i h' k'.stack
    scattered_turned h' k' l e = record { long = l; written = e ∙ c.written }

    -- the block that holds the next sector
    pub scattered_readable : (x : ℕ) → i < 4 → x ≡ sector (4 * b + i) → Readable (shows k) (x / 4)
    scattered_readable x l e =
        readable_fitting (shows k) (shown (saved_at h.block h.bytes k.stack)) (x / 4) (saved_fits k.stack k.whole h.block h.bytes c.long)
        (subst (λ (z : List Block). Readable z (x / 4)) (sym (became_shown s.stack _ _ became))
        (fitting_readable (x / 4) (fitting_half (shows s) b from g i) (sector-readable (shows s) b i x g l e)))

    pub scattered_more : (x : ℕ) (after : List ℕ) → length from ≡ 512 → i < 4 → x ≡ sector (4 * b + i) → h.block ≡ Some (x / 4)
        → Copied from i h.bytes (x % 4) after → Scattered s.stack b from (i + 1) (record { block = h.block; bytes = after }) k.stack
    scattered_more x after m l e f p =
        record {
          long = n;
          written = ap (λ (z : Option ℕ). saved_at z after k.stack) f
              ∙ saved_again k.stack k.whole (x / 4) r h.bytes after c.long n
              ∙ (became_set s.stack (half (shows s) b from i) held at (x / 4) (good after) t.inside n (sym t.fine)).is
              ∙ ap (put s.stack) (half_more (shows s) b from g i x m l e h.bytes after (sector-readable (shows s) b i x g l e) n bytes p);
        }
      where
        n : length after ≡ 512
        n = p.long ∙ c.long

        r : Readable (shows k) (x / 4)
        r = scattered_readable x l e

        t : Readable (half (shows s) b from i) (x / 4)
        t = fitting_readable (x / 4) (fitting_half (shows s) b from g i) (sector-readable (shows s) b i x g l e)

        held : Stack
        held = saved_at (Some (x / 4)) h.bytes k.stack

        at : Became s.stack (half (shows s) b from i) held
        at = subst (λ (z : Option ℕ). Became s.stack (half (shows s) b from i) (saved_at z h.bytes k.stack)) f became

        -- what the buffer holds of the block
        bytes : h.bytes ≡ (get_or (half (shows s) b from i) (x / 4) none).bytes
        bytes =
            sym (ap (λ (z : List Block). (get_or z (x / 4) none).bytes)
            (sym (became_shown s.stack _ _ at) ∙ became_shown k.stack _ _ (saved_became k.stack k.whole (x / 4) r h.bytes c.long))
            ∙ ap (λ (z : Block). z.bytes) (get_or-set_same (shows k) (x / 4) (good h.bytes) none r.inside))

    pub scattered_all : (k' : Stack) → length from ≡ 512 → i ≡ 4 → k' ≡ saved_at h.block h.bytes k.stack
        → over floppy k' ≡ put (over floppy s.stack) (set (shown (over floppy s.stack)) b (good from))
    scattered_all k' m four e =
        ap (over floppy)
        (e ∙ c.written ∙ ap (λ (j : ℕ). put s.stack (half (shows s) b from j)) four ∙ ap (put s.stack) (half_all (shows s) b from g m))
