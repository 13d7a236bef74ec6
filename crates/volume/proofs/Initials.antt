-- The steps of INITIALIZE.
use Rattle.std.proofs.Common.{◌≡◌, ℕ, ◌+◌, ◌-◌, ◌*◌, ◌≤◌, true, false, leb, List, get_or, set, replicate, Ok, Err, Result, sym, ap, ◌∙◌, subst}
use Rattle.std.proofs.lemmas.Bool.{cond-true, cond-false, and_parts, leb-true}
use Rattle.device.specs.declared.fault.DeviceFault.{DeviceFault}
use Rattle.device.specs.Blocks.{Block, none, good, Whole}
use Rattle.device.specs.Stacks.{Stack, shown, Became}
use Rattle.device.specs.Answers.{fetch}
use Rattle.device.proofs.Steps.{became_none}
use Rattle.volume.specs.declared.fault.FileFault.{FileFault}
use Rattle.volume.specs.declared.fault.FileFault.TheVariants.{OutOfRange}
use Rattle.volume.specs.Faults.{after}
use Rattle.volume.specs.Home.{home}
use Rattle.volume.specs.Levels.{level_size, segments_fit}
use Rattle.volume.specs.Transfers.{readable, overwritten, halves}
use Rattle.volume.specs.Initial.{first_segment, new_directory, laid_out, init_answer, init_by, init_blocks}
use Rattle.volume.proofs.Stretches.{fetch_is, became_by}

-- home block, segment 1, zeros
pub all_laid : (s k j i : Stack) (t v : ℕ) (old x y : List ℕ) → x ≡ home old → y ≡ first_segment t v
    → Became s (set (shown s) 1 (good x)) k
    → Became k (overwritten (shown k) 6 (halves y)) j
    → Became j (overwritten (shown j) 8 (replicate (2 * t - 2) (replicate 512 0))) i
    → Became s (laid_out (shown s) t v old) i
unfolding laid_out new_directory overwritten
all_laid s k j i t v old x y d e p q r =
    let a = became_by s _ k p (λ z. overwritten z 6 (halves y)) j q in
    let b = became_by s _ j a (λ z. overwritten z 8 (replicate (2 * t - 2) (replicate 512 0))) i r in
    rw (← d, ← e) b

-- the answers, on a level of v blocks
module _ (t v : ℕ) (bs : List Block) (y : v ≡ level_size bs) where
  pub init_range : false ≡ segments_fit t v → Err OutOfRange ≡ init_answer t bs
  unfolding init_answer
  init_range f = sym (cond-false _ _ _ (ap (segments_fit t) (sym y) ∙ sym f))

  pub init_is : (f : Result (List ℕ) DeviceFault) (r : Result (Unit {0}) DeviceFault) → true ≡ segments_fit t v
      → fetch bs 1 ≡ f → r ≡ readable bs 6 (2 * t) → after f (after r (Ok tt)) ≡ init_answer t bs
  unfolding init_answer
  init_is f r h p q =
      sym (cond-true _ _ _ (ap (segments_fit t) (sym y) ∙ sym h)
      ∙ ap (λ (z : Result (List ℕ) DeviceFault). after z (after (readable bs 6 (2 * t)) (Ok tt))) p
      ∙ ap (λ (z : Result (Unit {0}) DeviceFault). after f (after z (Ok tt))) (sym q))

-- and what is left
pub init_refused : (t : ℕ) (s : Stack) (e : FileFault) → Whole s.bottom → Err e ≡ init_answer t (shown s) → Became s (init_blocks t (shown s)) s
unfolding init_blocks
init_refused t s e w p = subst (λ (z : Result (Unit {0}) FileFault). Became s (init_by z t (shown s)) s) p (became_none s w)

pub init_done : (t v : ℕ) (s k : Stack) (x : List ℕ) → v ≡ level_size (shown s) → fetch (shown s) 1 ≡ Ok x → Ok tt ≡ init_answer t (shown s)
    → Became s (laid_out (shown s) t v x) k → Became s (init_blocks t (shown s)) k
unfolding init_blocks
init_done t v s k x y f p a =
    let e : x ≡ (get_or (shown s) 1 none).bytes = (fetch_is (shown s) 1 x f).2 in
    subst (λ (z : Result (Unit {0}) FileFault). Became s (init_by z t (shown s)) k) p
    (subst (λ (z : ℕ). Became s (laid_out (shown s) t z (get_or (shown s) 1 none).bytes) k) y
    (subst (λ (z : List ℕ). Became s (laid_out (shown s) t v z) k) e a))

pub fit_range : (t v : ℕ) → true ≡ segments_fit t v → (1 ≤ t) × ((t ≤ 31) × (7 + 2 * t ≤ v))
fit_range t v e =
    let p = and_parts (leb 1 t) _ (sym e) in
    let q = and_parts (leb t 31) _ p.1 in
    (leb-true 1 t p.0, (leb-true t 31 q.0, leb-true (7 + 2 * t) v q.1))
