-- What is fetched of a list of blocks.
use Rattle.std.proofs.Common.{◌≡◌, ℕ, ◌+◌, ◌-◌, ◌*◌, ◌/◌, ◌%◌, ◌<◌, ◌≤◌, min, Bool, true, false, cond, ltb, ◌⊎◌, List, [], ◌∷◌, length, get_or, drop, set, is_err, Ok, Err, Result, sym, refl, ap, ◌∙◌, inl, inr, arith, length-set, ext_get_or}
use Rattle.std.proofs.lemmas.List.{length-drop, get_or-drop}
use Rattle.std.proofs.lemmas.Bool.{cases_eq, cond-true, cond-false, ltb-true, ltb-false, lt-ltb, le-ltb}
use Rattle.device.specs.declared.fault.DeviceFault.{DeviceFault}
use Rattle.device.specs.declared.fault.DeviceFault.TheVariants.{PastEnd, BadBlock}
use Rattle.device.specs.Blocks.{Block, none, good, is_bad, byte, table}
use Rattle.device.specs.Stacks.{Stack, shown, put}
use Rattle.device.specs.Images.{laid, Stored, listed, image, image_blocks}
use Rattle.device.specs.Fixed.{fixed_image}
use Rattle.device.specs.Answers.{fetch, answered, filled, stored}
use Rattle.device.specs.Tables.{length-table, get_or-table, length-made, get_or-made, whole_made}
use Rattle.device.proofs.Made.{bad_made, byte-made, same_blocks, byte-set_same, byte-set_other, bad_set, whole_set}

-- no block is both accepted and refused
pub ok_err : {A E : Type 0} (x : A) (e : E) → ◌≡◌ {A = Result A E} (Ok x) (Err e) → ⊥
ok_err x e p = let z : ◌≡◌ {A = ℕ} 0 1 = cc in omega arith

abbrev pub at_block : Block → ℕ → Result (List ℕ) DeviceFault
at_block x b = cond x.bad (Err (BadBlock b)) (Ok x.bytes)

pub fetch_below : (bs : List Block) (b : ℕ) → b < length bs → fetch bs b ≡ at_block (get_or bs b none) b
fetch_below bs b h = cond-true _ _ _ (lt-ltb b (length bs) h)

pub fetch_past : (bs : List Block) (b : ℕ) → length bs ≤ b → fetch bs b ≡ Err (PastEnd b)
fetch_past bs b h = cond-false _ _ _ (le-ltb b (length bs) h)

pub fetch_bad : (bs : List Block) (b : ℕ) → b < length bs → is_bad bs b ≡ true → fetch bs b ≡ Err (BadBlock b)
unfolding is_bad
fetch_bad bs b h e = fetch_below bs b h ∙ cond-true _ _ _ e

pub fetch-good : (bs : List Block) (b : ℕ) → b < length bs → is_bad bs b ≡ false → fetch bs b ≡ Ok (get_or bs b none).bytes
unfolding is_bad
fetch-good bs b h e = fetch_below bs b h ∙ cond-false _ _ _ e

-- what a read and a write tell of the block
pub read_bad : (bs : List Block) (b : ℕ) (r : Result (Unit {0}) DeviceFault) → b < length bs → r ≡ answered (fetch bs b) → is_err r ≡ is_bad bs b
unfolding is_bad
read_bad bs b r h p = ap is_err p ∙ ap (λ (f : Result (List ℕ) DeviceFault). is_err (answered f)) (fetch_below bs b h) ∙ go (get_or bs b none).bad
  where
    go : (t : Bool) → is_err (answered (cond t (Err (BadBlock b)) (Ok (get_or bs b none).bytes))) ≡ t
    go true = refl
    go false = refl

pub read_good : (bs : List Block) (b : ℕ) (old new : List ℕ) → b < length bs → is_bad bs b ≡ false → new ≡ filled (fetch bs b) old → new ≡ (get_or bs b none).bytes
read_good bs b old new h e p = p ∙ ap (λ (f : Result (List ℕ) DeviceFault). filled f old) (fetch-good bs b h e)

pub write_good : (bs : List Block) (b : ℕ) (s : Stack) (from : List ℕ) (new : Stack) → b < length bs → is_bad bs b ≡ false
    → new ≡ stored (fetch bs b) s b from → new ≡ put s (set (shown s) b (good from))
write_good bs b s from new h e p = p ∙ ap (λ (f : Result (List ℕ) DeviceFault). stored f s b from) (fetch-good bs b h e)

-- an answer tells what was fetched
pub fetched_ok : (f : Result (List ℕ) DeviceFault) → answered f ≡ Ok tt → (bytes : List ℕ) × (f ≡ Ok bytes)
fetched_ok (Ok x) p = (x, refl)
fetched_ok (Err e) p = absurd (ok_err tt e (sym p))

pub fetched_err : (f : Result (List ℕ) DeviceFault) (e : DeviceFault) → answered f ≡ Err e → f ≡ Err e
fetched_err (Ok x) e p = absurd (ok_err tt e p)
fetched_err (Err d) e p = let n : d ≡ e = cc in ap Err n

-- blocks that lie in memory
module _ (n : ℕ) (f : ℕ → Bool) (memory : List ℕ) (b : ℕ) where
  pub laid_past : n ≤ b → fetch (laid n f memory) b ≡ Err (PastEnd b)
  laid_past h = fetch_past (laid n f memory) b (omega (arith, length-made n f (λ a. get_or memory a 0)))

  pub laid-fetch : b < n → fetch (laid n f memory) b ≡ cond (f b) (Err (BadBlock b)) (Ok (table 512 (λ o. get_or memory (512 * b + o) 0)))
  laid-fetch h =
      fetch_below (laid n f memory) b (omega (arith, length-made n f (λ a. get_or memory a 0)))
      ∙ ap (λ (x : Block). at_block x b) (get_or-made n f (λ a. get_or memory a 0) b h)

  pub laid_bad : b < n → f b ≡ true → fetch (laid n f memory) b ≡ Err (BadBlock b)
  laid_bad h e = laid-fetch h ∙ cond-true _ _ _ e

  pub laid-good : b < n → f b ≡ false → fetch (laid n f memory) b ≡ Ok (table 512 (λ o. get_or memory (512 * b + o) 0))
  laid-good h e = laid-fetch h ∙ cond-false _ _ _ e

  pub laid_read : (new : List ℕ) → length new ≡ 512 → ((o : ℕ) → o < 512 → get_or new o 0 ≡ get_or memory (512 * b + o) 0) → new ≡ table 512 (λ o. get_or memory (512 * b + o) 0)
  laid_read new l h =
      ext_get_or 0 new (table 512 (λ o. get_or memory (512 * b + o) 0)) (l ∙ sym (length-table 512 (λ o. get_or memory (512 * b + o) 0)))
      (λ o k. let m : o < 512 = omega arith in h o m ∙ sym (get_or-table 512 (λ o. get_or memory (512 * b + o) 0) o 0 m))

  pub laid_write : (from after : List ℕ) → b < n → f b ≡ false → length from ≡ 512 → Stored memory from b after → laid n f after ≡ set (laid n f memory) b (good from)
  laid_write from after h e l s =
      same_blocks (laid n f after) (set old b (good from)) (whole_made n f (λ a. get_or after a 0))
      (whole_set old b (good from) (whole_made n f (λ a. get_or memory a 0)) l)
      (length-made n f (λ a. get_or after a 0) ∙ sym many ∙ sym (length-set old b (good from)))
      (λ c k. bad_made n f (λ a. get_or after a 0) c (omega (arith, length-made n f (λ a. get_or after a 0)))
      ∙ sym (bad_made n f (λ a. get_or memory a 0) c (omega (arith, length-made n f (λ a. get_or after a 0))))
      ∙ sym (bad_set old b (good from) c (omega (arith, many)) (sym (bad_made n f (λ a. get_or memory a 0) b h ∙ e))))
      (λ a k. let m : a < 512 * n = omega (arith, length-made n f (λ a. get_or after a 0)) in byte-made n f (λ a. get_or after a 0) a m ∙ at a m (cases_eq (a / 512) b))
    where
      old : List Block
      old = laid n f memory

      many : length (laid n f memory) ≡ n
      many = length-made n f (λ a. get_or memory a 0)

      other : (a : ℕ) → (a / 512 ≡ b → ⊥) → get_or after a 0 ≡ get_or memory a 0
      other a p = go (ltb a (512 * b)) refl
        where
          go : (t : Bool) → ltb a (512 * b) ≡ t → get_or after a 0 ≡ get_or memory a 0
          go true q = s.before a (omega (arith, ltb-true a (512 * b) q))
          go false q = s.past a (omega (arith, p, ltb-false a (512 * b) q))

      at : (a : ℕ) → a < 512 * n → (a / 512 ≡ b) ⊎ (a / 512 ≡ b → ⊥) → get_or after a 0 ≡ byte (set (laid n f memory) b (good from)) a
      at a m (inl p) =
          let o : ℕ = a % 512 in
          let i : 512 * b + o ≡ a = omega arith in
          let k : o < 512 = omega arith in
          ap (λ (x : ℕ). get_or after x 0) (sym i) ∙ s.there o k
          ∙ sym (byte-set_same (laid n f memory) b (good from) o (omega (arith, many)) k) ∙ ap (byte (set (laid n f memory) b (good from))) i
      at a m (inr p) = other a p ∙ sym (byte-set_other (laid n f memory) b (good from) a p ∙ byte-made n f (λ a. get_or memory a 0) a m)

pub bottom_path : (xs ys : List Block) → xs ≡ ys → ◌≡◌ {A = Stack} (record { bottom = xs; pile = [] }) (record { bottom = ys; pile = [] })
bottom_path xs ys e = λ i. record { bottom = e i; pile = [] }

pub image_write : (memory bads from after : List ℕ) (b : ℕ) → b < image_blocks memory → listed bads b ≡ false → length from ≡ 512
    → Stored memory from b after → image after bads ≡ put (image memory bads) (set (shown (image memory bads)) b (good from))
image_write memory bads from after b h e l s =
    bottom_path _ _
    (ap (λ (n : ℕ). laid (min (n / 512) 8388608) (listed bads) after) s.long
    ∙ laid_write (image_blocks memory) (listed bads) memory b from after h e l s)

-- what lies behind the blocks stays
pub image_tail : (memory from after : List ℕ) (b : ℕ) → b < image_blocks memory → Stored memory from b after
    → drop (512 * image_blocks after) after ≡ drop (512 * image_blocks memory) memory
image_tail memory from after b h s =
    ap (λ (n : ℕ). drop (512 * min (n / 512) 8388608) after) s.long
    ∙ ext_get_or 0 (drop k after) (drop k memory) (length-drop k after ∙ ap (λ (n : ℕ). n - k) s.long ∙ sym (length-drop k memory))
    (λ i l. get_or-drop k after i 0 ∙ s.past (k + i) (omega (arith, h)) ∙ sym (get_or-drop k memory i 0))
  where
    k : ℕ
    k = 512 * image_blocks memory

pub image_fixed : (name : ℕ) (memory bads from after : List ℕ) (b : ℕ) → b < image_blocks memory → Stored memory from b after
    → fixed_image name after bads ≡ fixed_image name memory bads
image_fixed name memory bads from after b h s = λ i. record { names = name ∷ []; bads = bads; tail = image_tail memory from after b h s i; tables = [] }
