-- Blocks of a floppy, by their sectors.
use Rattle.std.proofs.Common.{◌≡◌, ℕ, ◌+◌, ◌-◌, ◌*◌, ◌/◌, ◌%◌, ◌<◌, ◌≤◌, Bool, true, false, cond, leb, ◌⊎◌, List, length, get_or, is_err, Some, Ok, Err, Result, sym, refl, ap, ◌∙◌, subst, inl, inr, arith, ext_get_or, below_more}
use Rattle.std.proofs.lemmas.Bool.{cases_lt, cond-true, le-leb, leb-true}
use Rattle.device.specs.Blocks.{Block, none, is_bad, byte, any}
use Rattle.device.specs.declared.fault.DeviceFault.{DeviceFault}
use Rattle.device.specs.declared.fault.DeviceFault.TheVariants.{PastEnd, BadBlock}
use Rattle.device.specs.Stacks.{seen}
use Rattle.device.specs.Answers.{fetch, answered}
use Rattle.device.proofs.Fetches.{read_bad, fetch-good, fetch_bad, fetch_past}
use Rattle.device.proofs.Made.{any_false, any_true, byte_at}
use Rattle.device.proofs.Lens.{whole_seen, bad_seen, byte-seen}
use Rattle.floppy.specs.Floppies.{sector, sector_below, floppy, floppy_count, floppy_place}
use Rattle.floppy.specs.Held.{length-floppy, floppy_few}
use Rattle.floppy.specs.declared.buffer.Buffer.{Buffer}
use Rattle.floppy.specs.Buffers.{Current, loaded, Readable, Copied}

pub stands : (n : ℕ) → 501 ≤ n → floppy_count n ≡ 494
stands n h = cond-true _ _ _ (le-leb 501 n h)

pub standing : (n b : ℕ) → b < floppy_count n → (501 ≤ n) × (b < 494)
standing n b = go (leb 501 n) refl
  where
    go : (t : Bool) → leb 501 n ≡ t → b < cond t 494 0 → (501 ≤ n) × (b < 494)
    go true e h = (leb-true 501 n e, h)
    go false e h = absurd (omega arith)

pub few_blocks : (bs : List Block) → length (seen floppy bs) ≤ 494
few_blocks bs = omega (arith, length-floppy bs, floppy_few (length bs))

-- the sector that holds a byte
pub place_sector : (b i o : ℕ) → o < 128 → floppy_place (512 * b + (128 * i + o)) ≡ 128 * sector (4 * b + i) + o
place_sector b i o h =
    let p : (512 * b + (128 * i + o)) / 128 ≡ 4 * b + i = omega arith in
    let q : (512 * b + (128 * i + o)) % 128 ≡ o = omega arith in
    rw (p, q)

pub place_of : (b o : ℕ) → floppy_place (512 * b + o) ≡ 128 * sector (4 * b + o / 128) + o % 128
place_of b o =
    let p : (512 * b + o) / 128 ≡ 4 * b + o / 128 = omega arith in
    let q : (512 * b + o) % 128 ≡ o % 128 = omega arith in
    rw (p, q)

module _ (bs : List Block) (b : ℕ) (n : 501 ≤ length bs) (l : b < 494) where
  in_count : b < floppy_count (length bs)
  in_count = omega (arith, stands (length bs) n)

  pub floppy_there : b < length (seen floppy bs)
  floppy_there = omega (arith, length-floppy bs, in_count)

  sector_inside : (i : ℕ) → i < 4 → sector (4 * b + i) / 4 < length bs
  sector_inside i h = omega (arith, sector_below (4 * b + i) (omega arith))

  floppy_bads : is_bad (seen floppy bs) b ≡ any 512 (λ o. is_bad bs (floppy_place (512 * b + o) / 512))
  unfolding floppy
  floppy_bads = bad_seen floppy bs (length bs) refl b in_count

  -- a block is bad exactly when a block below that holds one of its sectors is
  pub floppy_bad : (i : ℕ) → i < 4 → is_bad bs (sector (4 * b + i) / 4) ≡ true → is_bad (seen floppy bs) b ≡ true
  floppy_bad i k e =
      floppy_bads
      ∙ any_true 512 _ (128 * i + 0) (omega arith) (ap (is_bad bs) (omega (arith, place_sector b i 0 (omega arith))) ∙ e)

  pub floppy-good : ((i : ℕ) → i < 4 → is_bad bs (sector (4 * b + i) / 4) ≡ false) → is_bad (seen floppy bs) b ≡ false
  floppy-good h = floppy_bads ∙ any_false 512 _ (λ o k. ap (is_bad bs) (omega (arith, place_of b o)) ∙ h (o / 128) (omega arith))

  -- the bytes of the block
  pub floppy_bytes : (new : List ℕ) → length new ≡ 512 → ((o : ℕ) → o < 512 → get_or new o 0 ≡ byte bs (floppy_place (512 * b + o))) → new ≡ (get_or (seen floppy bs) b none).bytes
  unfolding floppy
  floppy_bytes new m h =
      ext_get_or 0 new (get_or (seen floppy bs) b none).bytes (m ∙ sym (whole_seen floppy bs b floppy_there))
      (λ o k. h o (omega arith)
      ∙ sym (byte-seen floppy bs (length bs) refl (512 * b + o) (omega (arith, in_count)))
      ∙ byte_at (seen floppy bs) b o (omega arith))

pub low_block : (bs : List Block) (b : ℕ) → Readable (seen floppy bs) b → (501 ≤ length bs) × (b < 494)
low_block bs b r = standing (length bs) b (omega (arith, length-floppy bs, r.inside))

-- the blocks below that hold the sectors of a good block are good
pub sector-readable : (bs : List Block) (b i x : ℕ) → Readable (seen floppy bs) b → i < 4 → x ≡ sector (4 * b + i) → Readable bs (x / 4)
sector-readable bs b i x r h e =
    let s = low_block bs b r in
    record {
      inside = omega (arith, e, sector_inside bs b s.0 s.1 i h);
      fine = ap (λ (y : ℕ). is_bad bs (y / 4)) e ∙ go (is_bad bs (sector (4 * b + i) / 4)) refl;
    }
  where
    go : (t : Bool) → is_bad bs (sector (4 * b + i) / 4) ≡ t → t ≡ false
    go false p = refl
    go true p =
        let s = low_block bs b r in
        sym (floppy_bad bs b s.0 s.1 i h p) ∙ r.fine

-- i sectors of block b gathered in `bytes`, the last block read in the buffer
pub record Gathered (bs : List Block) (b i : ℕ) (h : Buffer) (bytes : List ℕ) : Type 0 where
  pub current : Current h bs
  pub long : length bytes ≡ 512
  pub fine : (k : ℕ) → k < i → is_bad bs (sector (4 * b + k) / 4) ≡ false
  pub there : (o : ℕ) → o < 128 * i → get_or bytes o 0 ≡ byte bs (floppy_place (512 * b + o))

-- one more sector
pub gathered_more : (bs : List Block) (b i x : ℕ) (h k : Buffer) (r : Result (Unit {0}) DeviceFault) (bytes after : List ℕ) → Gathered bs b i h bytes
    → x ≡ sector (4 * b + i) → x / 4 < length bs → r ≡ answered (fetch bs (x / 4)) → k ≡ loaded (fetch bs (x / 4)) (x / 4) h → false ≡ is_err r
    → Copied k.bytes (x % 4) bytes i after → Gathered bs b (i + 1) k after
gathered_more bs b i x h k r bytes after g e low answer buffer ok c =
    record {
      current = subst (λ (z : Buffer). Current z bs) (sym is) got;
      long = c.long ∙ g.long;
      fine = below_more _ _ g.fine (ap (λ (y : ℕ). is_bad bs (y / 4)) (sym e) ∙ good);
      there = λ o p. at o p (cases_lt o (128 * i));
    }
  where
    good : is_bad bs (x / 4) ≡ false
    good = sym (ok ∙ read_bad bs (x / 4) r low answer)

    got : fetch bs (x / 4) ≡ Ok (get_or bs (x / 4) none).bytes
    got = fetch-good bs (x / 4) low good

    is : k ≡ record { block = Some (x / 4); bytes = (get_or bs (x / 4) none).bytes }
    is = buffer ∙ ap (λ (f : Result (List ℕ) DeviceFault). loaded f (x / 4) h) got

    at : (o : ℕ) → o < 128 * (i + 1) → (o < 128 * i) ⊎ (128 * i ≤ o) → get_or after o 0 ≡ byte bs (floppy_place (512 * b + o))
    at o q (inl p) = c.before o p ∙ g.there o p
    at o q (inr p) =
        let v : o - 128 * i < 128 = omega arith in
        let w : 128 * i + (o - 128 * i) ≡ o = omega arith in
        ap (λ (y : ℕ). get_or after y 0) (sym w)
        ∙ c.there (o - 128 * i) v
        ∙ ap (λ (z : Buffer). get_or z.bytes (128 * (x % 4) + (o - 128 * i)) 0) is
        ∙ sym (byte_at bs (x / 4) (128 * (x % 4) + (o - 128 * i)) (omega arith))
        ∙ ap (byte bs) (omega (arith, e, place_sector b i (o - 128 * i) v))
        ∙ ap (λ (y : ℕ). byte bs (floppy_place (512 * b + y))) w

-- what a read of the floppy answers
module _ (bs : List Block) (b : ℕ) where
  pub gathered_past : floppy_count (length bs) ≤ b → Err (PastEnd b) ≡ fetch (seen floppy bs) b
  gathered_past h = sym (fetch_past (seen floppy bs) b (omega (arith, length-floppy bs)))

  pub gathered_bad : b < floppy_count (length bs) → (i x : ℕ) (r : Result (Unit {0}) DeviceFault) → i < 4 → x ≡ sector (4 * b + i) → x / 4 < length bs
      → r ≡ answered (fetch bs (x / 4)) → true ≡ is_err r → Err (BadBlock b) ≡ fetch (seen floppy bs) b
  gathered_bad h i x r k e low answer err =
      let s = standing (length bs) b h in
      sym (fetch_bad (seen floppy bs) b (floppy_there bs b s.0 s.1)
      (floppy_bad bs b s.0 s.1 i k (ap (λ (y : ℕ). is_bad bs (y / 4)) (sym e) ∙ sym (err ∙ read_bad bs (x / 4) r low answer))))

  pub gathered_all : b < floppy_count (length bs) → (i : ℕ) (h : Buffer) (bytes : List ℕ) → 4 ≤ i → Gathered bs b i h bytes → Ok bytes ≡ fetch (seen floppy bs) b
  gathered_all h i k bytes m g =
      let s = standing (length bs) b h in
      ap Ok (floppy_bytes bs b s.0 s.1 bytes g.long (λ o p. g.there o (omega arith)))
      ∙ sym (fetch-good (seen floppy bs) b (floppy_there bs b s.0 s.1) (floppy-good bs b s.0 s.1 (λ k p. g.fine k (omega arith))))
