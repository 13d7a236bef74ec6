-- The steps of a proof above every pile: what a stack became, by the blocks alone.
use Rattle.std.proofs.Common.{◌≡◌, ℕ, ◌<◌, Bool, true, false, cond, ltb, List, length, get_or, set, Ok, Err, Result, sym, refl, ap, ◌∙◌, subst, length-set}
use Rattle.std.proofs.lemmas.Bool.{ltb-true}
use Rattle.device.specs.declared.fault.DeviceFault.{DeviceFault}
use Rattle.device.specs.declared.fault.DeviceFault.TheVariants.{PastEnd, BadBlock}
use Rattle.device.specs.Blocks.{Block, none, good, Whole, is_bad}
use Rattle.device.specs.Stacks.{Stack, shown, put, Became}
use Rattle.device.specs.Answers.{fetch, answered, stored}
use Rattle.device.proofs.Lens.{seen-kept_all, kept-seen_all, kept-kept_all, whole_seen_all}
use Rattle.device.proofs.Made.{bad_set, whole_set}
use Rattle.device.proofs.Fetches.{ok_err, fetched_err}

pub became_none : (s : Stack) → Whole s.bottom → Became s (shown s) s
became_none s w =
    record {
      is = ap (λ (z : List Block). record { bottom = z; pile = s.pile }) (sym (kept-seen_all s.pile s.bottom w));
      fits = record { many = refl; whole = whole_seen_all s.pile s.bottom w; bads = λ b h. refl };
    }

module _ (s : Stack) (m : List Block) (k : Stack) (a : Became s m k) where
  pub became_shown : shown k ≡ m
  became_shown = ap shown a.is ∙ seen-kept_all s.pile s.bottom m a.fits

  -- what is fetched above is fetched of m
  pub became_fetch : (b : ℕ) → fetch (shown k) b ≡ fetch m b
  became_fetch b = ap (λ (z : List Block). fetch z b) became_shown

  pub became_set : (b : ℕ) (x : Block) → b < length m → length x.bytes ≡ 512 → x.bad ≡ is_bad m b → Became s (set m b x) (put k (set (shown k) b x))
  became_set b x h l e =
      record {
        is = ap (λ (z : List Block). put k (set z b x)) became_shown ∙ ap (λ (z : Stack). put z (set m b x)) a.is
            ∙ ap (λ (z : List Block). record { bottom = z; pile = s.pile }) (kept-kept_all s.pile s.bottom m (set m b x));
        fits = record {
          many = length-set m b x ∙ a.fits.many;
          whole = whole_set m b x a.fits.whole l;
          bads = λ c j. bad_set m b x c h e ∙ a.fits.bads c j;
        };
      }

  -- an accepted write, and a refused one
  pub became_written : (b : ℕ) (from : List ℕ) (j : Stack) → length from ≡ 512 → answered (fetch (shown k) b) ≡ Ok tt → j ≡ stored (fetch (shown k) b) k b from
      → (b < length m) × (is_bad m b ≡ false) × Became s (set m b (good from)) j
  unfolding is_bad
  became_written b from j l p w =
      go (ltb b (length m)) refl (get_or m b none).bad refl (ap answered (sym (became_fetch b)) ∙ p)
      (w ∙ ap (λ (f : Result (List ℕ) DeviceFault). stored f k b from) (became_fetch b))
    where
      go : (t : Bool) → ltb b (length m) ≡ t → (u : Bool) → (get_or m b none).bad ≡ u
          → answered (cond t (cond u (Err (BadBlock b)) (Ok (get_or m b none).bytes)) (Err (PastEnd b))) ≡ Ok tt
          → j ≡ stored (cond t (cond u (Err (BadBlock b)) (Ok (get_or m b none).bytes)) (Err (PastEnd b))) k b from
          → (b < length m) × (is_bad m b ≡ false) × Became s (set m b (good from)) j
      go false e u f q v = absurd (ok_err tt (PastEnd b) (sym q))
      go true e true f q v = absurd (ok_err tt (BadBlock b) (sym q))
      go true e false f q v =
          let h : b < length m = ltb-true b (length m) e in
          (h, f, subst (λ (z : Stack). Became s (set m b (good from)) z) (sym v) (became_set b (good from) h l (sym f)))

  pub became_refused : (b : ℕ) (from : List ℕ) (e : DeviceFault) (j : Stack) → answered (fetch (shown k) b) ≡ Err e → j ≡ stored (fetch (shown k) b) k b from
      → (fetch m b ≡ Err e) × Became s m j
  became_refused b from e j p w =
      let q : fetch (shown k) b ≡ Err e = fetched_err (fetch (shown k) b) e p in
      (sym (became_fetch b) ∙ q, subst (λ (z : Stack). Became s m z) (sym (w ∙ ap (λ (f : Result (List ℕ) DeviceFault). stored f k b from) q)) a)
