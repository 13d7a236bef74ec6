-- A window over a window is one window, and the whole device is one.
use Rattle.std.proofs.Common.{◌≡◌, ℕ, ◌+◌, ◌-◌, ◌*◌, ◌<◌, ◌≤◌, ◌⊎◌, List, length, get_or, sym, refl, ap, ◌∙◌, inl, inr, arith, ext_get_or}
use Rattle.std.proofs.lemmas.Bool.{cases_lt, cond-true, le-leb, eq-eqb}
use Rattle.device.specs.Blocks.{Block, none, Whole, is_bad, byte}
use Rattle.device.specs.Stacks.{seen, kept}
use Rattle.device.proofs.Made.{any_all, same_block, same_blocks}
use Rattle.device.proofs.Lens.{whole_seen, bad_seen, byte-seen, length-kept, whole_kept, bad_kept, byte-kept_at, byte-kept_off}
use Rattle.layers.specs.Windows.{window, window_count, length-window}
use Rattle.layers.specs.LevelStacks.{exactly, exact_count, length-exactly}
use Rattle.layers.proofs.WindowLaws.{window_block}

pub all_shown : (s n m : ℕ) → s + n ≤ m → window_count s n m ≡ n
all_shown s n m h = cond-true _ _ _ (le-leb (s + n) m h)

-- the bytes below once blocks are put through a window that stands
module _ (s n : ℕ) (bs new : List Block) (h : s + n ≤ length bs) where
  pub byte_in : (t : ℕ) → 512 * s ≤ t → t < 512 * (s + n) → byte (kept (window s n) bs new) t ≡ byte new (t - 512 * s)
  unfolding window
  byte_in t l u =
      let e : 512 * s + (t - 512 * s) ≡ t = omega arith in
      ap (byte (kept (window s n) bs new)) (sym e)
      ∙ byte-kept_at (window s n) bs new (length bs) refl (t - 512 * s) (omega (arith, all_shown s n (length bs) h))

  pub byte_off : (t : ℕ) → t < 512 * length bs → (t < 512 * s) ⊎ (512 * (s + n) ≤ t) → byte (kept (window s n) bs new) t ≡ byte bs t
  unfolding window
  byte_off t k c =
      byte-kept_off (window s n) bs new (length bs) refl t k (λ a l e. away a l e c)
    where
      away : (a : ℕ) → a < 512 * window_count s n (length bs) → 512 * s + a ≡ t → (t < 512 * s) ⊎ (512 * (s + n) ≤ t) → ⊥
      away a l e (inl p) = omega arith
      away a l e (inr p) = omega (arith, all_shown s n (length bs) h)

module _ (s n t m : ℕ) (bs : List Block) (w : Whole bs) (i : s + n ≤ m) (j : t + m ≤ length bs) where
  mid : length (seen (window t m) bs) ≡ m
  mid = length-window t m bs ∙ all_shown t m (length bs) j

  pub nested_seen : seen (window s n) (seen (window t m) bs) ≡ seen (window (t + s) n) bs
  nested_seen =
      ext_get_or none (seen (window s n) (seen (window t m) bs)) (seen (window (t + s) n) bs) (long ∙ sym wide)
      (λ b h. let l : b < n = omega (arith, long) in
      window_block s n (seen (window t m) bs) (whole_seen (window t m) bs) b (omega (arith, all_shown s n (length (seen (window t m) bs)) (omega (arith, mid))))
      ∙ window_block t m bs w (s + b) (omega (arith, all_shown t m (length bs) j))
      ∙ ap (λ (x : ℕ). get_or bs x none) (omega arith)
      ∙ sym (window_block (t + s) n bs w b (omega (arith, all_shown (t + s) n (length bs) (omega arith)))))
    where
      long : length (seen (window s n) (seen (window t m) bs)) ≡ n
      long = length-window s n (seen (window t m) bs) ∙ all_shown s n _ (omega (arith, mid))

      wide : length (seen (window (t + s) n) bs) ≡ n
      wide = length-window (t + s) n bs ∙ all_shown (t + s) n (length bs) (omega arith)

  pub nested_kept : (new : List Block) → kept (window t m) bs (kept (window s n) (seen (window t m) bs) new) ≡ kept (window (t + s) n) bs new
  unfolding window
  nested_kept new =
      same_blocks outer once (whole_kept (window t m) bs inner) (whole_kept (window (t + s) n) bs new)
      (long ∙ sym (length-kept (window (t + s) n) bs new))
      (λ b h. let l : b < length bs = omega (arith, long) in bad_kept (window t m) bs inner b l ∙ sym (bad_kept (window (t + s) n) bs new b l))
      (λ x h. go x (omega (arith, long)) (cases_lt x (512 * t)) (cases_lt x (512 * (t + m))) (cases_lt x (512 * (t + s))) (cases_lt x (512 * (t + s + n))))
    where
      inner : List Block
      inner = kept (window s n) (seen (window t m) bs) new

      outer : List Block
      outer = kept (window t m) bs inner

      once : List Block
      once = kept (window (t + s) n) bs new

      long : length outer ≡ length bs
      long = length-kept (window t m) bs inner

      shown-byte : (x : ℕ) → 512 * t ≤ x → x < 512 * (t + m) → byte (seen (window t m) bs) (x - 512 * t) ≡ byte bs x
      shown-byte x l u =
          byte-seen (window t m) bs (length bs) refl (x - 512 * t) (omega (arith, all_shown t m (length bs) j)) ∙ ap (byte bs) (omega arith)

      outside : (x : ℕ) → x < 512 * length bs → (x < 512 * (t + s)) ⊎ (512 * (t + s + n) ≤ x) → byte once x ≡ byte bs x
      outside x k c = byte_off (t + s) n bs new (omega arith) x k c

      go : (x : ℕ) → x < 512 * length bs → (x < 512 * t) ⊎ (512 * t ≤ x) → (x < 512 * (t + m)) ⊎ (512 * (t + m) ≤ x)
          → (x < 512 * (t + s)) ⊎ (512 * (t + s) ≤ x) → (x < 512 * (t + s + n)) ⊎ (512 * (t + s + n) ≤ x) → byte outer x ≡ byte once x
      go x k (inl p) b c d = byte_off t m bs inner j x k (inl p) ∙ sym (outside x k (inl (omega arith)))
      go x k (inr p) (inr q) c d = byte_off t m bs inner j x k (inr q) ∙ sym (outside x k (inr (omega arith)))
      go x k (inr p) (inl q) (inl r) d =
          byte_in t m bs inner j x p q
          ∙ byte_off s n (seen (window t m) bs) new (omega (arith, mid)) (x - 512 * t) (omega (arith, mid)) (inl (omega arith))
          ∙ shown-byte x p q ∙ sym (outside x k (inl r))
      go x k (inr p) (inl q) (inr r) (inr u) =
          byte_in t m bs inner j x p q
          ∙ byte_off s n (seen (window t m) bs) new (omega (arith, mid)) (x - 512 * t) (omega (arith, mid)) (inr (omega arith))
          ∙ shown-byte x p q ∙ sym (outside x k (inr u))
      go x k (inr p) (inl q) (inr r) (inl u) =
          byte_in t m bs inner j x p q
          ∙ byte_in s n (seen (window t m) bs) new (omega (arith, mid)) (x - 512 * t) (omega arith) (omega arith)
          ∙ ap (byte new) (omega arith)
          ∙ sym (byte_in (t + s) n bs new (omega arith) x r u)

-- the layer over exactly as many blocks as there are is the window of all of them
module _ (n : ℕ) (bs : List Block) (w : Whole bs) (e : length bs ≡ n) where
  all : exact_count n (length bs) ≡ n
  all = cond-true _ _ _ (eq-eqb (length bs) n e)

  pub exactly-seen : seen (exactly n) bs ≡ seen (window 0 n) bs
  unfolding exactly
  exactly-seen =
      ext_get_or none (seen (exactly n) bs) (seen (window 0 n) bs)
      (length-exactly n bs ∙ all ∙ sym (length-window 0 n bs ∙ all_shown 0 n (length bs) (omega arith)))
      (λ b h. let l : b < n = omega (arith, length-exactly n bs, all) in
      same_block (seen (exactly n) bs) bs b b (whole_seen (exactly n) bs b h) (w b (omega arith))
      (bad_seen (exactly n) bs (length bs) refl b (omega (arith, all)) ∙ any_all 512 _ (is_bad bs b) (omega arith) (λ o k. ap (is_bad bs) (omega arith)))
      (λ o k. byte-seen (exactly n) bs (length bs) refl (512 * b + o) (omega (arith, all)))
      ∙ ap (λ (x : ℕ). get_or bs x none) (omega arith)
      ∙ sym (window_block 0 n bs w b (omega (arith, all_shown 0 n (length bs) (omega arith)))))

  pub exactly-kept : (new : List Block) → kept (exactly n) bs new ≡ kept (window 0 n) bs new
  unfolding exactly
  exactly-kept new =
      same_blocks (kept (exactly n) bs new) (kept (window 0 n) bs new) (whole_kept (exactly n) bs new) (whole_kept (window 0 n) bs new)
      (long ∙ sym (length-kept (window 0 n) bs new))
      (λ b h. let l : b < length bs = omega (arith, long) in bad_kept (exactly n) bs new b l ∙ sym (bad_kept (window 0 n) bs new b l))
      (λ x h. let l : x < 512 * n = omega (arith, long) in
      byte-kept_at (exactly n) bs new (length bs) refl x (omega (arith, all)) ∙ ap (byte new) (omega arith)
      ∙ sym (byte_in 0 n bs new (omega arith) x (omega arith) (omega arith)))
    where
      long : length (kept (exactly n) bs new) ≡ length bs
      long = length-kept (exactly n) bs new
