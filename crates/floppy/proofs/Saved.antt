-- What is below once a buffer was saved.
use Rattle.std.proofs.Common.{◌≡◌, ℕ, List, length, get_or, set, Some, None, Ok, Err, Option, Result, sym, refl, ap, ◌∙◌, subst, arith, length-set, set-set}
use Rattle.device.specs.declared.fault.DeviceFault.{DeviceFault}
use Rattle.device.specs.Blocks.{Block, none, good, Whole}
use Rattle.device.specs.Stacks.{Stack, shown, put, Fitting, Became}
use Rattle.device.specs.Held.{Held, shows}
use Rattle.device.specs.Answers.{fetch, stored}
use Rattle.device.proofs.Steps.{became_none, became_shown, became_set}
use Rattle.device.proofs.Made.{bad_set_same}
use Rattle.device.proofs.Lens.{whole_seen_all}
use Rattle.floppy.specs.declared.buffer.Buffer.{Buffer}
use Rattle.floppy.specs.Buffers.{loaded, saved_at, Readable}
use Rattle.floppy.proofs.Readables.{fetched_readable, fitting_readable, readable-fetch, readable_same}

module _ (s : Stack) (w : Whole s.bottom) where
  -- a save changes neither how many blocks there are nor which ones are bad
  pub saved_fits : (block : Option ℕ) (bytes : List ℕ) → length bytes ≡ 512 → Fitting (shown s) (shown (saved_at block bytes s))
  saved_fits None bytes l = (became_none s w).fits
  saved_fits (Some b) bytes l = go (fetch (shown s) b) refl
    where
      go : (f : Result (List ℕ) DeviceFault) → fetch (shown s) b ≡ f → Fitting (shown s) (shown (stored f s b bytes))
      go (Err e) p = (became_none s w).fits
      go (Ok old) p =
          let r = fetched_readable (shown s) b old (sym p) in
          let m = became_set s (shown s) s (became_none s w) b (good bytes) r.inside l (sym r.fine) in
          subst (λ (z : List Block). Fitting (shown s) z) (sym (became_shown s _ _ m)) m.fits

  module _ (b : ℕ) (r : Readable (shown s) b) where
    pub saved_is : (bytes : List ℕ) → saved_at (Some b) bytes s ≡ put s (set (shown s) b (good bytes))
    saved_is bytes = ap (λ (f : Result (List ℕ) DeviceFault). stored f s b bytes) (readable-fetch (shown s) b r)

    -- a block saved as it was read
    pub saved_same : saved_at (Some b) (get_or (shown s) b none).bytes s ≡ s
    saved_same =
        saved_is (get_or (shown s) b none).bytes ∙ ap (put s) (readable_same (shown s) b r) ∙ sym (became_none s w).is

    pub saved_became : (bytes : List ℕ) → length bytes ≡ 512 → Became s (set (shown s) b (good bytes)) (saved_at (Some b) bytes s)
    saved_became bytes l =
        subst (λ (k : Stack). Became s (set (shown s) b (good bytes)) k) (sym (saved_is bytes))
        (became_set s (shown s) s (became_none s w) b (good bytes) r.inside l (sym r.fine))

    -- of two saves the last counts
    pub saved_again : (old new : List ℕ) → length old ≡ 512 → length new ≡ 512
        → saved_at (Some b) new s ≡ put (saved_at (Some b) old s) (set (shown (saved_at (Some b) old s)) b (good new))
    saved_again old new l m =
        saved_is new ∙ ap (put s) (sym (set-set (shown s) b (good old) (good new)))
        ∙ sym (became_set s _ _ (saved_became old l) b (good new) (omega (arith, length-set (shown s) b (good old), r.inside)) m
        (sym (bad_set_same (shown s) b (good old) r.inside))).is

-- the buffer saved, and block b read in its place
pub turned : (h k : Held) (b : ℕ) (old new : Buffer) → length old.bytes ≡ 512 → Readable (shows h) b
    → k.stack ≡ saved_at old.block old.bytes h.stack → new ≡ loaded (fetch (shows k) b) b old
    → (length new.bytes ≡ 512) × (new.block ≡ Some b) × (saved_at new.block new.bytes k.stack ≡ saved_at old.block old.bytes h.stack)
turned h k b old new l r e f =
    (ap (λ (x : Buffer). length x.bytes) is ∙ whole_seen_all k.stack.pile k.stack.bottom k.whole b fine.inside, ap (λ (x : Buffer). x.block) is, ap (λ (x : Buffer). saved_at x.block x.bytes k.stack) is ∙ saved_same k.stack k.whole b fine ∙ e)
  where
    fine : Readable (shows k) b
    fine =
        subst (λ (z : Stack). Readable (shown z) b) (sym e)
        (fitting_readable b (saved_fits h.stack h.whole old.block old.bytes l) r)

    is : new ≡ record { block = Some b; bytes = (get_or (shows k) b none).bytes }
    is = f ∙ ap (λ (z : Result (List ℕ) DeviceFault). loaded z b old) (readable-fetch (shows k) b fine)
