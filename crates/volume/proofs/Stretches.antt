-- Blocks read or written one after another, over every pile.
use Rattle.std.proofs.Common.{◌≡◌, ℕ, zero, suc, ◌+◌, ◌-◌, ◌/◌, ◌<◌, ◌≤◌, Bool, true, false, cond, ltb, ◌⊎◌, List, [], length, get_or, take, drop, set, replicate, Ok, Err, Result, sym, refl, ap, ◌∙◌, subst, inl, inr, arith}
use Rattle.std.specs.Simd.{first_chunks}
use Rattle.std.proofs.lemmas.Bool.{ltb-true, cases_eq}
use Rattle.std.proofs.lemmas.List.{take_all, length-drop}
use Rattle.device.specs.declared.fault.DeviceFault.{DeviceFault}
use Rattle.device.specs.declared.fault.DeviceFault.TheVariants.{PastEnd, BadBlock}
use Rattle.device.specs.Blocks.{Block, none, good, Whole, is_bad}
use Rattle.device.specs.Stacks.{Stack, shown, put, Became}
use Rattle.device.specs.Answers.{fetch, answered, filled, stored}
use Rattle.device.proofs.Fetches.{ok_err, fetched_err, fetch-good}
use Rattle.device.proofs.Lens.{kept-kept_all}
use Rattle.device.proofs.Steps.{became_none, became_shown, became_set}
use Rattle.volume.specs.Transfers.{and_then, readable, AllGood, overwritten, halves}

-- a block that was read, and one that was not
pub read_ok : (f : Result (List ℕ) DeviceFault) (old new : List ℕ) → Ok tt ≡ answered f → new ≡ filled f old → f ≡ Ok new
read_ok (Ok x) old new p q = ap Ok (sym q)
read_ok (Err e) old new p q = absurd (ok_err tt e p)

pub read_err : (f : Result (List ℕ) DeviceFault) (e : DeviceFault) → Err e ≡ answered f → f ≡ Err e
read_err f e p = fetched_err f e (sym p)

-- of n blocks, i have been read: one more is read, or refused, or none is left
module _ (bs : List Block) (b i n : ℕ) where
  pub readable_more : i < n → Ok tt ≡ answered (fetch bs (b + i)) → readable bs (b + (i + 1)) (n - (i + 1)) ≡ readable bs (b + i) (n - i)
  unfolding readable
  readable_more h p =
      let m : n - i ≡ suc (n - (i + 1)) = omega arith in
      let c : b + (i + 1) ≡ suc (b + i) = omega arith in
      ap (λ (z : ℕ). readable bs z (n - (i + 1))) c ∙ go (fetch bs (b + i)) p ∙ ap (readable bs (b + i)) (sym m)
    where
      go : (f : Result (List ℕ) DeviceFault) → Ok tt ≡ answered f → readable bs (suc (b + i)) (n - (i + 1)) ≡ and_then f (readable bs (suc (b + i)) (n - (i + 1)))
      go (Ok x) q = refl
      go (Err e) q = absurd (ok_err tt e q)

  pub readable_fault : (e : DeviceFault) → i < n → Err e ≡ answered (fetch bs (b + i)) → Err e ≡ readable bs (b + i) (n - i)
  unfolding readable
  readable_fault e h p =
      let m : n - i ≡ suc (n - (i + 1)) = omega arith in
      ap (λ (f : Result (List ℕ) DeviceFault). and_then f (readable bs (suc (b + i)) (n - (i + 1)))) (sym (read_err _ e p)) ∙ ap (readable bs (b + i)) (sym m)

  pub readable_all : n ≤ i → Ok tt ≡ readable bs (b + i) (n - i)
  unfolding readable
  readable_all h =
      let m : n - i ≡ 0 = omega arith in
      ap (readable bs (b + i)) (sym m)

-- a block that is fetched is good
pub fetch_is : (bs : List Block) (b : ℕ) (x : List ℕ) → fetch bs b ≡ Ok x → (b < length bs) × (is_bad bs b ≡ false) × (x ≡ (get_or bs b none).bytes)
unfolding is_bad
fetch_is bs b x = go (ltb b (length bs)) refl (get_or bs b none).bad refl
  where
    go : (t : Bool) → ltb b (length bs) ≡ t → (u : Bool) → (get_or bs b none).bad ≡ u
        → cond t (cond u (Err (BadBlock b)) (Ok (get_or bs b none).bytes)) (Err (PastEnd b)) ≡ Ok x
        → (b < length bs) × (is_bad bs b ≡ false) × (x ≡ (get_or bs b none).bytes)
    go false e u f q = absurd (ok_err x (PastEnd b) (sym q))
    go true e true f q = absurd (ok_err x (BadBlock b) (sym q))
    go true e false f q = (ltb-true b (length bs) e, f, cc)

pub fetch_is_good : (bs : List Block) (b : ℕ) (x : List ℕ) → fetch bs b ≡ Ok x → AllGood bs b (b + 1)
fetch_is_good bs b x e c h l =
    let p = fetch_is bs b x e in
    let same : b ≡ c = omega arith in
    subst (λ (z : ℕ). (z < length bs) × (is_bad bs z ≡ false)) same (p.0, p.1)

both_ok : (f : Result (List ℕ) DeviceFault) (r : Result (Unit {0}) DeviceFault) → Ok tt ≡ and_then f r → ((x : List ℕ) × (f ≡ Ok x)) × (Ok tt ≡ r)
both_ok (Ok x) r p = ((x, refl), p)
both_ok (Err e) r p = absurd (ok_err tt e p)

good_more : (bs : List Block) (b n : ℕ) → AllGood bs b (b + 1) → AllGood bs (suc b) (suc b + n) → AllGood bs b (b + suc n)
good_more bs b n f r c h l = go (cases_eq c b)
  where
    go : (c ≡ b) ⊎ (c ≡ b → ⊥) → (c < length bs) × (is_bad bs c ≡ false)
    go (inl e) = f c h (omega arith)
    go (inr e) = r c (omega (arith, e)) (omega arith)

-- blocks that are read are good
pub readable-good : (bs : List Block) (b n : ℕ) → Ok tt ≡ readable bs b n → AllGood bs b (b + n)
unfolding readable
readable-good bs b zero p = λ c h l. absurd (omega arith)
readable-good bs b (suc n) p =
    let both = both_ok (fetch bs b) _ p in
    good_more bs b n (fetch_is_good bs b both.0.0 both.0.1) (readable-good bs (suc b) n both.1)

-- a good block is written
pub good-written : (s : Stack) (b : ℕ) (from : List ℕ) (r : Result (Unit {0}) DeviceFault) (k : Stack) → Whole s.bottom
    → AllGood (shown s) b (b + 1) → length from ≡ 512 → r ≡ answered (fetch (shown s) b) → k ≡ stored (fetch (shown s) b) s b from
    → (r ≡ Ok tt) × Became s (set (shown s) b (good from)) k
good-written s b from r k w g l p q =
    let at = g b (omega arith) (omega arith) in
    let f = fetch-good (shown s) b at.0 at.1 in (
      p ∙ ap answered f,
      subst (λ (z : Stack). Became s (set (shown s) b (good from)) z) (sym (q ∙ ap (λ (x : Result (List ℕ) DeviceFault). stored x s b from) f))
          (became_set s (shown s) s (became_none s w) b (good from) at.0 l (sym at.1)),
    )

-- what was done first, and then
module _ (s : Stack) (m : List Block) (k : Stack) (a : Became s m k) where
  pub good_still : (y z : ℕ) → AllGood (shown s) y z → AllGood (shown k) y z
  good_still y z g b h l =
      let p = g b h l in
      let e = became_shown s m k a in
      (omega (arith, p.0, ap length e, a.fits.many), ap (λ (x : List Block). is_bad x b) e ∙ a.fits.bads b p.0 ∙ p.1)

  pub became_then : (n : List Block) (j : Stack) → Became k n j → Became s n j
  became_then n j b =
      let e : shown k ≡ m = became_shown s m k a in
      record {
        is = b.is ∙ ap (λ (z : Stack). put z n) a.is ∙ ap (λ (z : List Block). record { bottom = z; pile = s.pile }) (kept-kept_all s.pile s.bottom m n);
        fits = record {
          many = b.fits.many ∙ ap length e ∙ a.fits.many;
          whole = b.fits.whole;
          bads = λ c h.
              let l : c < length (shown k) = omega (arith, ap length e, a.fits.many) in
              b.fits.bads c l ∙ ap (λ (z : List Block). is_bad z c) e ∙ a.fits.bads c h;
        };
      }

  -- a change of the blocks shown
  pub became_by : (f : List Block → List Block) (j : Stack) → Became k (f (shown k)) j → Became s (f m) j
  became_by f j b = became_then (f m) j (subst (λ (z : List Block). Became k (f z) j) (became_shown s m k a) b)

-- one more step, by the blocks shown
pub became_more : (s k : Stack) (n : List Block) (j : Stack) → Became s (shown k) k → Became k n j → Became s (shown j) j
became_more s k n j a b = subst (λ (z : List Block). Became s z j) (sym (became_shown k n j b)) (became_then s (shown k) k a n j b)

-- of the blocks before e that are overwritten with x, k comes next: one more, or none is left
module _ (bs : List Block) (k e : ℕ) (x : List ℕ) (all : List Block) (r : overwritten bs k (replicate (e - k) x) ≡ all) where
  pub overwritten_more : (cs : List Block) → k < e → cs ≡ set bs k (good x) → overwritten cs (k + 1) (replicate (e - (k + 1)) x) ≡ all
  unfolding overwritten
  overwritten_more cs h p =
      let m : e - k ≡ suc (e - suc k) = omega arith in
      let c : k + 1 ≡ suc k = omega arith in
      rw (p, c) (ap (λ (z : ℕ). overwritten bs k (replicate z x)) (sym m) ∙ r)

  pub overwritten_all : e ≤ k → bs ≡ all
  unfolding overwritten
  overwritten_all h =
      let m : e - k ≡ 0 = omega arith in
      ap (λ (z : ℕ). overwritten bs k (replicate z x)) (sym m) ∙ r

-- both blocks of a segment
pub both_written : (s k j : Stack) (b c : ℕ) (bytes : List ℕ) (parts : List (List ℕ)) → length bytes ≡ 1024 → parts ≡ first_chunks 512 (length bytes / 512) bytes → c ≡ suc b
    → Became s (set (shown s) b (good (get_or parts 0 []))) k → Became k (set (shown k) c (good (get_or parts 1 []))) j
    → Became s (overwritten (shown s) b (halves bytes)) j
unfolding overwritten
both_written s k j b c bytes parts l f e p q =
    let two : length bytes / 512 ≡ 2 = omega arith in
    let all : take 512 (drop 512 bytes) ≡ drop 512 bytes = take_all 512 (drop 512 bytes) (simp length-drop (omega arith)) in
    let h : parts ≡ halves bytes = f ∙ rw (two, all) refl in
    let r : Became s (set (set (shown s) b (good (get_or parts 0 []))) c (good (get_or parts 1 []))) j
    = became_by s _ k p (λ z. set z c (good (get_or parts 1 []))) j q in
    rw (e, h) at r
