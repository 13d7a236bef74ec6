-- A block written sector by sector.
use Rattle.std.proofs.Common.{◌≡◌, ℕ, ◌+◌, ◌-◌, ◌*◌, ◌/◌, ◌%◌, ◌<◌, ◌≤◌, ◌⊎◌, List, ◌++◌, length, get_or, take, drop, set, sym, refl, ap, ◌∙◌, inl, inr, append-nil, arith, length-set}
use Rattle.std.proofs.lemmas.List.{length-take-le, get_or-take, get_or-drop, get_or_append_left, get_or-append_right, take_all, drop_all}
use Rattle.std.proofs.lemmas.Bool.{cases_eq, cases_lt}
use Rattle.device.specs.Blocks.{Block, none, good, Whole, byte}
use Rattle.device.specs.Stacks.{seen, kept, Fitting}
use Rattle.device.proofs.Made.{same_blocks, placed, byte_at, byte-set_same, byte-set_other, bad_set, whole_set}
use Rattle.device.proofs.Lens.{whole_seen, fitting_kept, byte-kept_at, byte-kept_off, kept_seen}
use Rattle.floppy.specs.Floppies.{sector, floppy, floppy_count, floppy_place}
use Rattle.floppy.specs.Held.{length-floppy}
use Rattle.floppy.specs.Buffers.{Readable, Copied}
use Rattle.floppy.proofs.Readables.{readable_same}
use Rattle.floppy.proofs.Places.{place_sector}

-- n bytes of `from`, then those of `old`
abbrev pub mixed : List ℕ → List ℕ → ℕ → List ℕ
mixed from old n = take n from ++ drop n old

-- the blocks below once the first i sectors of `from` were written as block b of the floppy
unfoldable pub half : List Block → ℕ → List ℕ → ℕ → List Block
half bs b from i = kept floppy bs (set (seen floppy bs) b (good (mixed from (get_or (seen floppy bs) b none).bytes (128 * i))))

module _ (from old : List ℕ) (l : length from ≡ 512) (m : length old ≡ 512) (n : ℕ) (h : n ≤ 512) where
  taken : length (take n from) ≡ n
  taken = length-take-le n from (omega arith)

  pub mixed_below : (o : ℕ) → o < n → get_or (mixed from old n) o 0 ≡ get_or from o 0
  mixed_below o k = get_or_append_left (take n from) (drop n old) 0 o (omega (arith, taken)) ∙ get_or-take n from o 0 k

  pub mixed_past : (o : ℕ) → n ≤ o → get_or (mixed from old n) o 0 ≡ get_or old o 0
  mixed_past o k = get_or-append_right (take n from) (drop n old) n o 0 taken k ∙ get_or-drop n old (o - n) 0 ∙ ap (λ (y : ℕ). get_or old y 0) (omega arith)

pub mixed_all : (from old : List ℕ) → length from ≡ 512 → length old ≡ 512 → mixed from old 512 ≡ from
mixed_all from old l m =
    ap (λ (z : List ℕ). z ++ drop 512 old) (take_all 512 from (omega arith)) ∙ ap (λ (z : List ℕ). from ++ z) (drop_all 512 old (omega arith))
    ∙ append-nil from

module _ (bs : List Block) (b : ℕ) (from : List ℕ) (g : Readable (seen floppy bs) b) where
  abbrev old : List ℕ
  old = (get_or (seen floppy bs) b none).bytes

  long : length old ≡ 512
  long = whole_seen floppy bs b g.inside

  pub fitting_half : (i : ℕ) → Fitting bs (half bs b from i)
  unfolding half
  fitting_half i = fitting_kept floppy bs _

  pub half-none : Whole bs → half bs b from 0 ≡ bs
  unfolding half
  half-none w = ap (kept floppy bs) (readable_same (seen floppy bs) b g) ∙ kept_seen floppy bs w

  pub half_all : length from ≡ 512 → half bs b from 4 ≡ kept floppy bs (set (seen floppy bs) b (good from))
  unfolding half
  half_all l = ap (λ (z : List ℕ). kept floppy bs (set (seen floppy bs) b (good z))) (mixed_all from old l long)

  -- one more sector
  module _ (i x : ℕ) (l : length from ≡ 512) (low : i < 4) (e : x ≡ sector (4 * b + i)) where
    abbrev new : ℕ → List Block
    new j = set (seen floppy bs) b (good (mixed from old (128 * j)))

    byte-new : (j : ℕ) (o : ℕ) → o < 512 → byte (new j) (512 * b + o) ≡ get_or (mixed from old (128 * j)) o 0
    byte-new j o h = byte-set_same (seen floppy bs) b (good (mixed from old (128 * j))) o g.inside h

    -- a byte of the sector
    half_at : (o : ℕ) → o < 128 → byte (half bs b from (i + 1)) (128 * x + o) ≡ get_or from (128 * i + o) 0
    unfolding half floppy
    half_at o h =
        ap (byte (kept floppy bs (new (i + 1)))) (omega (arith, e, place_sector b i o h))
        ∙ byte-kept_at floppy bs (new (i + 1)) (length bs) refl (512 * b + (128 * i + o)) (omega (arith, g.inside, length-floppy bs))
        ∙ byte-new (i + 1) (128 * i + o) (omega arith)
        ∙ mixed_below from old l long (128 * (i + 1)) (omega arith) (128 * i + o) (omega arith)

    -- a byte outside it
    half_off : (t : ℕ) → t < 512 * length bs → (t / 128 ≡ x → ⊥) → byte (half bs b from i) t ≡ byte (half bs b from (i + 1)) t
    unfolding half floppy
    half_off t h u = go (placed floppy_place t (512 * floppy_count (length bs)))
      where
        sides : (o : ℕ) → (o / 128 ≡ i → ⊥) → get_or (mixed from old (128 * i)) o 0 ≡ get_or (mixed from old (128 * (i + 1))) o 0
        sides o q = at (cases_lt o (128 * i))
          where
            at : (o < 128 * i) ⊎ (128 * i ≤ o) → get_or (mixed from old (128 * i)) o 0 ≡ get_or (mixed from old (128 * (i + 1))) o 0
            at (inl p) =
                mixed_below from old l long (128 * i) (omega arith) o p ∙ sym (mixed_below from old l long (128 * (i + 1)) (omega arith) o (omega arith))
            at (inr p) =
                mixed_past from old l long (128 * i) (omega arith) o p ∙ sym (mixed_past from old l long (128 * (i + 1)) (omega arith) o (omega (arith, q)))

        same : (a : ℕ) → floppy_place a ≡ t → (a / 512 ≡ b) ⊎ (a / 512 ≡ b → ⊥) → byte (new i) a ≡ byte (new (i + 1)) a
        same a p (inl q) =
            let w : 512 * b + a % 512 ≡ a = omega arith in
            ap (byte (new i)) (sym w) ∙ byte-new i (a % 512) (omega arith)
            ∙ sides (a % 512) (λ r. u (in_sector a p q r))
            ∙ sym (byte-new (i + 1) (a % 512) (omega arith)) ∙ ap (byte (new (i + 1))) w
          where
            in_sector : (a : ℕ) → floppy_place a ≡ t → a / 512 ≡ b → a % 512 / 128 ≡ i → t / 128 ≡ x
            in_sector a p q r = let v : a / 128 ≡ 4 * b + i = omega arith in omega (arith, p, ap sector v, e)
        same a p (inr q) = byte-set_other (seen floppy bs) b (good (mixed from old (128 * i))) a q ∙ sym (byte-set_other (seen floppy bs) b (good (mixed from old (128 * (i + 1)))) a q)

        go : ((a : ℕ) × (a < 512 * floppy_count (length bs)) × (floppy_place a ≡ t)) ⊎ ((a : ℕ) → a < 512 * floppy_count (length bs) → floppy_place a ≡ t → ⊥)
            → byte (half bs b from i) t ≡ byte (half bs b from (i + 1)) t
        go (inl p) =
            ap (byte (kept floppy bs (new i))) (sym p.2)
            ∙ byte-kept_at floppy bs (new i) (length bs) refl p.0 p.1
            ∙ same p.0 p.2 (cases_eq (p.0 / 512) b)
            ∙ sym (byte-kept_at floppy bs (new (i + 1)) (length bs) refl p.0 p.1)
            ∙ ap (byte (kept floppy bs (new (i + 1)))) p.2
        go (inr q) = byte-kept_off floppy bs (new i) (length bs) refl t h q ∙ sym (byte-kept_off floppy bs (new (i + 1)) (length bs) refl t h q)

    pub half_more : (buffer after : List ℕ) → Readable bs (x / 4) → length after ≡ 512 → buffer ≡ (get_or (half bs b from i) (x / 4) none).bytes
        → Copied from i buffer (x % 4) after → set (half bs b from i) (x / 4) (good after) ≡ half bs b from (i + 1)
    half_more buffer after r m f c =
        same_blocks (set (half bs b from i) (x / 4) (good after)) (half bs b from (i + 1))
        (whole_set (half bs b from i) (x / 4) (good after) (fitting_half i).whole m) (fitting_half (i + 1)).whole
        (many ∙ sym (fitting_half (i + 1)).many)
        (λ d h. let k : d < length bs = omega (arith, many) in
        bad_set (half bs b from i) (x / 4) (good after) d (omega (arith, (fitting_half i).many, r.inside)) (sym ((fitting_half i).bads (x / 4) r.inside ∙ r.fine))
        ∙ (fitting_half i).bads d k ∙ sym ((fitting_half (i + 1)).bads d k))
        (λ t h. at t (omega (arith, many)) (cases_eq (t / 512) (x / 4)) (cases_eq (t / 128) x))
      where
        many : length (set (half bs b from i) (x / 4) (good after)) ≡ length bs
        many = length-set (half bs b from i) (x / 4) (good after) ∙ (fitting_half i).many

        in_block : (t : ℕ) → t / 512 ≡ x / 4 → byte (set (half bs b from i) (x / 4) (good after)) t ≡ get_or after (t % 512) 0
        in_block t p =
            ap (byte (set (half bs b from i) (x / 4) (good after))) (omega arith)
            ∙ byte-set_same (half bs b from i) (x / 4) (good after) (t % 512) (omega (arith, (fitting_half i).many, r.inside)) (omega arith)

        as_before : (t : ℕ) → t / 512 ≡ x / 4 → get_or buffer (t % 512) 0 ≡ byte (half bs b from i) t
        as_before t p =
            ap (λ (z : List ℕ). get_or z (t % 512) 0) f ∙ sym (byte_at (half bs b from i) (x / 4) (t % 512) (omega arith))
            ∙ ap (byte (half bs b from i)) (omega arith)

        other : (t : ℕ) → t / 512 ≡ x / 4 → (t / 128 ≡ x → ⊥) → (t % 512 < 128 * (x % 4)) ⊎ (128 * (x % 4) ≤ t % 512) → get_or after (t % 512) 0 ≡ get_or buffer (t % 512) 0
        other t p q (inl r) = c.before (t % 512) r
        other t p q (inr r) = c.past (t % 512) (omega (arith, q))

        at : (t : ℕ) → t < 512 * length bs → (t / 512 ≡ x / 4) ⊎ (t / 512 ≡ x / 4 → ⊥) → (t / 128 ≡ x) ⊎ (t / 128 ≡ x → ⊥)
            → byte (set (half bs b from i) (x / 4) (good after)) t ≡ byte (half bs b from (i + 1)) t
        at t k (inl p) (inl q) =
            let o : t % 512 ≡ 128 * (x % 4) + t % 128 = omega arith in
            in_block t p ∙ ap (λ (y : ℕ). get_or after y 0) o ∙ c.there (t % 128) (omega arith)
            ∙ sym (half_at (t % 128) (omega arith)) ∙ ap (byte (half bs b from (i + 1))) (omega arith)
        at t k (inl p) (inr q) = in_block t p ∙ other t p q (cases_lt (t % 512) (128 * (x % 4))) ∙ as_before t p ∙ half_off t k q
        at t k (inr p) q = byte-set_other (half bs b from i) (x / 4) (good after) t p ∙ half_off t k (λ r. p (omega (arith, r)))
