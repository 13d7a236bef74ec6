use Rattle.std.proofs.Common.{◌≡◌, ℕ, ◌*◌, ◌<◌, List, length, sym, ap, subst}
use Rattle.device.specs.Blocks.{Block}
use Rattle.device.specs.Stacks.{Stack, shown, counts}
use Rattle.device.proofs.Lens.{length-seen_all, seen-kept_all, kept-seen_all, kept-kept_all, inside_all, apart_all, byte-seen_all, frame_all}
use Rattle.device.proofs.pile_laws.Goals as goal

stack_path : (s : Stack) (bs : List Block) → bs ≡ s.bottom → ◌≡◌ {A = Stack} (record { bottom = bs; pile = s.pile }) s
stack_path s bs e = λ i. record { bottom = e i; pile = s.pile }

-- the length shown, for the pile's count
counted : (s : Stack) (a : ℕ) → a < 512 * length (shown s) → a < 512 * counts s.pile (length s.bottom)
counted s a h = subst (λ (n : ℕ). a < 512 * n) (length-seen_all s.pile s.bottom) h

uncounted : (s : Stack) (a : ℕ) → a < 512 * counts s.pile (length s.bottom) → a < 512 * length (shown s)
uncounted s a h = subst (λ (n : ℕ). a < 512 * n) (sym (length-seen_all s.pile s.bottom)) h

pub returns : goal.returns
returns c =
    record {
      put_shown = λ s w. stack_path s _ (kept-seen_all s.pile s.bottom w);
      shown_put = λ s new f. seen-kept_all s.pile s.bottom new f;
      put_put = λ s a b. ap (λ (bs : List Block). record { bottom = bs; pile = s.pile }) (kept-kept_all s.pile s.bottom a b);
      lies = λ s a h. byte-seen_all s.pile s.bottom a (counted s a h);
      inside = λ s a h. inside_all s.pile (length s.bottom) a (counted s a h);
      apart = λ s a b h k e. apart_all s.pile (length s.bottom) a b (counted s a h) (counted s b k) e;
      frame = λ s new t h u. frame_all s.pile s.bottom new t h (λ a k e. u a (uncounted s a k) e);
    }
