-- One segment of a directory written to its two blocks.
use Rattle.std.proofs.Common.{◌≡◌, ℕ, suc, ◌+◌, ◌-◌, ◌*◌, ◌<◌, ◌≤◌, ◌⊎◌, List, [], ◌∷◌, length, get_or, take, drop, set, sym, refl, ap, ◌∙◌, inl, inr, arith, rules, length-set}
use Rattle.std.proofs.lemmas.Bool.{cases_lt}
use Rattle.std.proofs.lemmas.List.{places, get_or-drop, get_or-take, ext_get_or}
use Rattle.device.specs.Blocks.{Block, good, byte}
use Rattle.device.specs.Tables.{length-table, get_or-table}
use Rattle.device.proofs.Made.{byte-set_same, byte-set_other}
use Rattle.codec.specs.Words.{written}
use Rattle.volume.specs.Transfers.{overwritten, halves}
use Rattle.carry.specs.Carries.{image, imaged}
use Rattle.carry.proofs.Writes.{image-long}
use Rattle.level.specs.Loads.{directory_byte, directory}
use Rattle.level.proofs.Fetching.{written_below, written_at}
use Rattle.store.specs.Stores.{rewritten, RewrittenReads}

length-written : (b : List ℕ) (at : ℕ) (xs : List ℕ) → at + length xs ≤ length b → length (written b at xs) ≡ length b
unfolding written
length-written b at xs h = search (rules, places)

written_past : (b : List ℕ) (at : ℕ) (xs : List ℕ) (a : ℕ) → at + length xs ≤ a → at ≤ length b → get_or (written b at xs) a 0 ≡ get_or b a 0
unfolding written
written_past b at xs a h l = search (rules, places)

pub length-directory : (bs : List Block) (s : ℕ) → length (directory bs s) ≡ 1024 * s
unfolding directory
length-directory bs s = length-table (1024 * s) (directory_byte bs)

pub directory_at : (bs : List Block) (s a : ℕ) → a < 1024 * s → get_or (directory bs s) a 0 ≡ directory_byte bs a
unfolding directory
directory_at bs s a h = get_or-table (1024 * s) (directory_byte bs) a 0 h

module _ (bs : List Block) (s k : ℕ) (bytes : List ℕ) (h : 1 ≤ k) (j : k ≤ s) (l : 6 + 2 * s ≤ length bs) (n : length bytes ≡ 1024) where
  stored-byte : (a : ℕ) → a < 1024 * s → directory_byte (overwritten bs (4 + 2 * k) (halves bytes)) a ≡ get_or (written (directory bs s) (1024 * (k - 1)) bytes) a 0
  unfolding overwritten
  stored-byte a m = go (cases_lt a (1024 * (k - 1))) (cases_lt a (1024 * (k - 1) + 512)) (cases_lt a (1024 * (k - 1) + 1024))
    where
      dir_long : 1024 * (k - 1) ≤ length (directory bs s)
      dir_long = omega (arith, length-directory bs s)

      other : (a < 1024 * (k - 1)) ⊎ (1024 * (k - 1) + 1024 ≤ a)
          → byte (set (set bs (4 + 2 * k) (good (take 512 bytes))) (suc (4 + 2 * k)) (good (drop 512 bytes))) (3072 + a) ≡ directory_byte bs a
      other p =
          byte-set_other (set bs (4 + 2 * k) (good (take 512 bytes))) (suc (4 + 2 * k)) (good (drop 512 bytes)) (3072 + a) (λ e. away p (omega arith))
          ∙ byte-set_other bs (4 + 2 * k) (good (take 512 bytes)) (3072 + a) (λ e. away p (omega arith))
        where
          away : (a < 1024 * (k - 1)) ⊎ (1024 * (k - 1) + 1024 ≤ a) → (1024 * (k - 1) ≤ a) × (a < 1024 * (k - 1) + 1024) → ⊥
          away (inl q) r = omega (arith, r.0)
          away (inr q) r = omega (arith, r.1)

      go : (a < 1024 * (k - 1)) ⊎ (1024 * (k - 1) ≤ a) → (a < 1024 * (k - 1) + 512) ⊎ (1024 * (k - 1) + 512 ≤ a) → (a < 1024 * (k - 1) + 1024) ⊎ (1024 * (k - 1) + 1024 ≤ a)
          → byte (set (set bs (4 + 2 * k) (good (take 512 bytes))) (suc (4 + 2 * k)) (good (drop 512 bytes))) (3072 + a)
          ≡ get_or (written (directory bs s) (1024 * (k - 1)) bytes) a 0
      go (inl p) q r = other (inl p) ∙ sym (written_below (directory bs s) (1024 * (k - 1)) bytes a p dir_long ∙ directory_at bs s a m)
      go (inr p) q (inr r) = other (inr r) ∙ sym (written_past (directory bs s) (1024 * (k - 1)) bytes a (omega (arith, n)) dir_long ∙ directory_at bs s a m)
      go (inr p) (inl q) (inl r) =
          let o : ℕ = a - 1024 * (k - 1) in
          let e : 512 * (4 + 2 * k) + o ≡ 3072 + a = omega arith in
          byte-set_other (set bs (4 + 2 * k) (good (take 512 bytes))) (suc (4 + 2 * k)) (good (drop 512 bytes)) (3072 + a) (λ z. omega arith)
          ∙ ap (byte (set bs (4 + 2 * k) (good (take 512 bytes)))) (sym e)
          ∙ byte-set_same bs (4 + 2 * k) (good (take 512 bytes)) o (omega arith) (omega arith)
          ∙ get_or-take 512 bytes o 0 (omega arith)
          ∙ sym (written_at (directory bs s) (1024 * (k - 1)) bytes a p (omega (arith, n)) dir_long)
      go (inr p) (inr q) (inl r) =
          let o : ℕ = a - 1024 * (k - 1) - 512 in
          let e : 512 * suc (4 + 2 * k) + o ≡ 3072 + a = omega arith in
          let f : 512 + o ≡ a - 1024 * (k - 1) = omega arith in
          ap (byte (set (set bs (4 + 2 * k) (good (take 512 bytes))) (suc (4 + 2 * k)) (good (drop 512 bytes)))) (sym e)
          ∙ byte-set_same (set bs (4 + 2 * k) (good (take 512 bytes))) (suc (4 + 2 * k)) (good (drop 512 bytes)) o
          (omega (arith, length-set bs (4 + 2 * k) (good (take 512 bytes)))) (omega arith)
          ∙ get_or-drop 512 bytes o 0 ∙ ap (λ (z : ℕ). get_or bytes z 0) f
          ∙ sym (written_at (directory bs s) (1024 * (k - 1)) bytes a p (omega (arith, n)) dir_long)

pub stored_in_directory : (bs : List Block) (s k : ℕ) (bytes : List ℕ) → 1 ≤ k → k ≤ s → 6 + 2 * s ≤ length bs → length bytes ≡ 1024
    → directory (overwritten bs (4 + 2 * k) (halves bytes)) s ≡ written (directory bs s) (1024 * (k - 1)) bytes
stored_in_directory bs s k bytes h j l n =
    let w : length (written (directory bs s) (1024 * (k - 1)) bytes) ≡ 1024 * s
    = length-written (directory bs s) (1024 * (k - 1)) bytes (omega (arith, n, length-directory bs s)) ∙ length-directory bs s in
    ext_get_or 0 (directory (overwritten bs (4 + 2 * k) (halves bytes)) s) (written (directory bs s) (1024 * (k - 1)) bytes)
    (length-directory (overwritten bs (4 + 2 * k) (halves bytes)) s ∙ sym w)
    (λ a m. let i : a < 1024 * s = omega (arith, length-directory (overwritten bs (4 + 2 * k) (halves bytes)) s) in
    directory_at (overwritten bs (4 + 2 * k) (halves bytes)) s a i ∙ stored-byte bs s k bytes h j l n a i)

pub length-overwritten : (bs : List Block) (b : ℕ) (bytes : List ℕ) → length (overwritten bs b (halves bytes)) ≡ length bs
unfolding overwritten
length-overwritten bs b bytes = length-set _ _ _ ∙ length-set _ _ _

pub rewritten_reads : RewrittenReads
unfolding rewritten imaged
rewritten_reads bs d [] s l a = refl
rewritten_reads bs d (m ∷ ms) s l a =
    let n = image-long d (1024 * s) m a.0 in
    rewritten_reads (overwritten bs (4 + 2 * m.number) (halves (image d m))) d ms s (omega (arith, l, length-overwritten bs (4 + 2 * m.number) (image d m))) a.1
    ∙ ap (λ (z : List ℕ). imaged z d ms) (stored_in_directory bs s m.number (image d m) a.0.some (omega (arith, a.0.inside)) l n)
