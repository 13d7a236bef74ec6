-- A layer's answer, by the answer of one block below.
use Rattle.std.proofs.Common.{◌≡◌, ℕ, ◌<◌, ◌≤◌, Bool, true, false, cond, ltb, ◌⊎◌, List, Ok, Err, Result, refl, ap, ◌∙◌, inl, inr}
use Rattle.std.proofs.lemmas.Bool.{cases_lt, cond-true, cond-false, cond_both, ltb-true, ltb-false, lt-ltb, le-ltb}
use Rattle.device.specs.declared.fault.DeviceFault.{DeviceFault}
use Rattle.device.specs.declared.fault.DeviceFault.TheVariants.{PastEnd, BadBlock}
use Rattle.device.specs.Blocks.{Block}
use Rattle.device.specs.Stacks.{Stack}
use Rattle.device.specs.Answers.{stored}
use Rattle.device.proofs.Fetches.{at_block}
use Rattle.layers.specs.Parts.{elsewhere}

pub at_elsewhere : (x : Block) (b c : ℕ) → at_block x b ≡ elsewhere b (at_block x c)
at_elsewhere x b c = go x.bad
  where
    go : (t : Bool) → cond t (Err (BadBlock b)) (Ok x.bytes) ≡ elsewhere b (cond t (Err (BadBlock c)) (Ok x.bytes))
    go true = refl
    go false = refl

-- of block b of a layer with so many blocks
module _ (b count : ℕ) (top : Result (List ℕ) DeviceFault) (past : count ≤ b → top ≡ Err (PastEnd b)) where
  pub parted : (low : Result (List ℕ) DeviceFault) → (b < count → top ≡ elsewhere b low) → top ≡ cond (ltb b count) (elsewhere b low) (Err (PastEnd b))
  parted low inside =
      cond_both (ltb b count) (elsewhere b low) (Err (PastEnd b)) (λ z. top ≡ z) (λ e. inside (ltb-true b count e)) (λ e. past (ltb-false b count e))

  pub parted_stored : (layer : Stack → Stack) (k j low : Stack) (from : List ℕ) → (b < count → j ≡ low → layer j ≡ stored top (layer k) b from)
      → j ≡ cond (ltb b count) low k → layer j ≡ stored top (layer k) b from
  parted_stored layer k j low from inside p = go (cases_lt b count)
    where
      go : (b < count) ⊎ (count ≤ b) → layer j ≡ stored top (layer k) b from
      go (inl h) = inside h (p ∙ cond-true _ _ _ (lt-ltb b count h))
      go (inr h) = rw (past h) (ap layer (p ∙ cond-false _ _ _ (le-ltb b count h)))
