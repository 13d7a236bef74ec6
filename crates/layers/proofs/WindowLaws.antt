-- A window's blocks are blocks below.
use Rattle.std.proofs.Common.{◌≡◌, ℕ, ◌+◌, ◌*◌, ◌/◌, ◌%◌, ◌<◌, ◌≤◌, Bool, true, false, cond, leb, ◌⊎◌, List, length, get_or, set, Ok, Err, sym, refl, ap, ◌∙◌, inl, inr, arith, length-set}
use Rattle.std.proofs.lemmas.Bool.{cases_eq, cond-false, cond_both, leb-true, le-ltb}
use Rattle.device.specs.declared.fault.DeviceFault.TheVariants.{PastEnd, BadBlock}
use Rattle.device.specs.Blocks.{Block, none, good, Whole, is_bad, byte}
use Rattle.device.specs.Stacks.{seen, kept, Stack, shown, put, over}
use Rattle.layers.specs.Windows.{window, window_count, length-window}
use Rattle.layers.specs.Parts.{PartIsThere, elsewhere, part_fetch, part_stored}
use Rattle.layers.proofs.Parts.{at_elsewhere, parted, parted_stored}
use Rattle.device.specs.Answers.{fetch, stored}
use Rattle.device.proofs.Made.{any_all, same_block, same_blocks, placed, byte-set_same, byte-set_other, bad_set, whole_set}
use Rattle.device.proofs.Fetches.{at_block, fetch_below}
use Rattle.device.proofs.Lens.{length_seen, whole_seen, bad_seen, byte-seen, length-kept, whole_kept, bad_kept, byte-kept_at, byte-kept_off}

window_shown : (s n m : ℕ) → window_count s n m ≤ n
window_shown s n m = cond_both (leb (s + n) m) n 0 (λ x. x ≤ n) (λ e. omega arith) (λ e. omega arith)

pub standing : (s n m b : ℕ) → b < window_count s n m → (s + n ≤ m) × (b < n)
standing s n m b = go (leb (s + n) m) refl
  where
    go : (t : Bool) → leb (s + n) m ≡ t → b < cond t n 0 → (s + n ≤ m) × (b < n)
    go true e h = (leb-true (s + n) m e, h)
    go false e h = absurd (omega arith)

module _ (s n : ℕ) (bs : List Block) (w : Whole bs) (b : ℕ) (h : b < window_count s n (length bs)) where
  low : s + b < length bs
  low = omega (arith, standing s n (length bs) b h)

  pub window_block : get_or (seen (window s n) bs) b none ≡ get_or bs (s + b) none
  unfolding window
  window_block =
      same_block (seen (window s n) bs) bs b (s + b) (whole_seen (window s n) bs b (omega (arith, length_seen (window s n) bs)))
      (w (s + b) low)
      (bad_seen (window s n) bs (length bs) refl b h
      ∙ any_all 512 _ (is_bad bs (s + b)) (omega arith) (λ o k. ap (is_bad bs) (omega arith)))
      (λ o k. byte-seen (window s n) bs (length bs) refl (512 * b + o) (omega arith) ∙ ap (byte bs) (omega arith))

  pub window-kept : (x : Block) → length x.bytes ≡ 512 → x.bad ≡ is_bad bs (s + b)
      → kept (window s n) bs (set (seen (window s n) bs) b x) ≡ set bs (s + b) x
  unfolding window
  window-kept x l e =
      same_blocks (kept (window s n) bs new) (set bs (s + b) x) (whole_kept (window s n) bs new) (whole_set bs (s + b) x w l)
      (many ∙ sym (length-set bs (s + b) x))
      (λ c k. bad_kept (window s n) bs new c (omega (arith, many)) ∙ sym (bad_set bs (s + b) x c low e))
      (λ t k. at t (omega (arith, many)) (placed (λ a. 512 * s + a) t (512 * window_count s n (length bs))))
    where
      new : List Block
      new = set (seen (window s n) bs) b x

      many : length (kept (window s n) bs new) ≡ length bs
      many = length-kept (window s n) bs new

      shows : length (seen (window s n) bs) ≡ window_count s n (length bs)
      shows = length_seen (window s n) bs

      hit : (a : ℕ) → a < 512 * window_count s n (length bs) → (a / 512 ≡ b) ⊎ (a / 512 ≡ b → ⊥) → byte new a ≡ byte (set bs (s + b) x) (512 * s + a)
      hit a k (inl p) =
          let o : ℕ = a % 512 in
          let i : 512 * b + o ≡ a = omega arith in
          let j : 512 * (s + b) + o ≡ 512 * s + a = omega arith in
          ap (byte new) (sym i) ∙ byte-set_same (seen (window s n) bs) b x o (omega (arith, shows)) (omega arith)
          ∙ sym (byte-set_same bs (s + b) x o low (omega arith)) ∙ ap (byte (set bs (s + b) x)) j
      hit a k (inr p) =
          byte-set_other (seen (window s n) bs) b x a p ∙ byte-seen (window s n) bs (length bs) refl a k
          ∙ sym (byte-set_other bs (s + b) x (512 * s + a) (λ q. p (omega arith)))

      at : (t : ℕ) → t < 512 * length bs
          → ((a : ℕ) × (a < 512 * window_count s n (length bs)) × (512 * s + a ≡ t)) ⊎ ((a : ℕ) → a < 512 * window_count s n (length bs) → 512 * s + a ≡ t → ⊥)
          → byte (kept (window s n) bs new) t ≡ byte (set bs (s + b) x) t
      at t k (inl p) =
          ap (byte (kept (window s n) bs new)) (sym p.2) ∙ byte-kept_at (window s n) bs new (length bs) refl p.0 p.1
          ∙ hit p.0 p.1 (cases_eq (p.0 / 512) b) ∙ ap (byte (set bs (s + b) x)) p.2
      at t k (inr u) =
          byte-kept_off (window s n) bs new (length bs) refl t k u
          ∙ sym (byte-set_other bs (s + b) x t (λ q. u (512 * b + t % 512) (omega arith) (omega arith)))

-- what a window fetches, by what is fetched below
pub window_past : (s n : ℕ) (bs : List Block) (b : ℕ) → window_count s n (length bs) ≤ b → fetch (seen (window s n) bs) b ≡ Err (PastEnd b)
window_past s n bs b h = cond-false _ _ _ (le-ltb b (length (seen (window s n) bs)) (omega (arith, length-window s n bs)))

pub window-fetch : (s n : ℕ) (bs : List Block) → Whole bs → (b : ℕ) → b < window_count s n (length bs) → fetch (seen (window s n) bs) b ≡ elsewhere b (fetch bs (s + b))
window-fetch s n bs w b h =
    fetch_below (seen (window s n) bs) b (omega (arith, length-window s n bs)) ∙ ap (λ (x : Block). at_block x b) (window_block s n bs w b h)
    ∙ at_elsewhere (get_or bs (s + b) none) b (s + b)
    ∙ ap (elsewhere b) (sym (fetch_below bs (s + b) (omega (arith, standing s n (length bs) b h))))

-- a write to a block of the window is a write below
pub window-stored : (s n : ℕ) (k j : Stack) → Whole (shown k) → (b : ℕ) → b < window_count s n (length (shown k)) → (from : List ℕ) → length from ≡ 512
    → j ≡ stored (fetch (shown k) (s + b)) k (s + b) from → over (window s n) j ≡ stored (fetch (shown (over (window s n) k)) b) (over (window s n) k) b from
unfolding is_bad
window-stored s n k j w b h from l p =
    ap (over (window s n)) p
    ∙ rw (window-fetch s n (shown k) w b h, fetch_below (shown k) (s + b) (omega (arith, standing s n (length (shown k)) b h)))
    (go (get_or (shown k) (s + b) none).bad refl)
  where
    go : (t : Bool) → is_bad (shown k) (s + b) ≡ t
        → over (window s n) (stored (cond t (Err (BadBlock (s + b))) (Ok (get_or (shown k) (s + b) none).bytes)) k (s + b) from)
        ≡ stored (elsewhere b (cond t (Err (BadBlock (s + b))) (Ok (get_or (shown k) (s + b) none).bytes))) (over (window s n) k) b from
    go true e = refl
    go false e = ap (λ (m : List Block). over (window s n) (put k m)) (sym (window-kept s n (shown k) w b h (good from) l (sym e)))

-- of a block inside the window and of one past it
pub window_there : (s n m : ℕ) → PartIsThere s (window_count s n m) m
window_there s n m h =
    let i = standing s n m 0 h in
    omega (arith, i.0, window_shown s n m)

module _ (s n : ℕ) (k : Stack) (w : Whole (shown k)) (b : ℕ) where
  pub window_parts : fetch (seen (window s n) (shown k)) b ≡ part_fetch s (window_count s n (length (shown k))) (shown k) b
  window_parts = parted b _ _ (window_past s n (shown k) b) (fetch (shown k) (s + b)) (window-fetch s n (shown k) w b)

  pub window_parts_stored : (j : Stack) (from : List ℕ) → length from ≡ 512 → j ≡ part_stored s (window_count s n (length (shown k))) k b from
      → over (window s n) j ≡ stored (fetch (shown (over (window s n) k)) b) (over (window s n) k) b from
  window_parts_stored j from l =
      parted_stored b _ _ (window_past s n (shown k) b) (over (window s n)) k j (stored (fetch (shown k) (s + b)) k (s + b) from) from
      (λ h p. window-stored s n k j w b h from l p)
