-- The laws of layers and piles.
use Rattle.std.proofs.Common.{◌≡◌, ℕ, ◌+◌, ◌*◌, ◌/◌, ◌<◌, ◌⊎◌, List, [], ◌∷◌, length, set, sym, refl, ap, ◌∙◌, subst, inl, inr, arith, length-set}
use Rattle.device.specs.Blocks.{Block, Whole, is_bad, byte, any}
use Rattle.device.specs.Stacks.{Layer, seen, kept, seen_all, kept_all, counts, down, Fitting}
use Rattle.device.specs.Tables.{length-made, whole_made}
use Rattle.device.proofs.Made.{any_same, bad_made, byte-made, same_blocks, landed_hit, landed_miss, placed, bad_set, whole_set}

-- one layer
module _ (y : Layer) (bs : List Block) where
  pub length_seen : length (seen y bs) ≡ y.count (length bs)
  unfolding seen
  length_seen = length-made _ _ _

  pub whole_seen : Whole (seen y bs)
  unfolding seen
  whole_seen = whole_made _ _ _

  pub bad_seen : (n : ℕ) → length bs ≡ n → (b : ℕ) → b < y.count n → is_bad (seen y bs) b ≡ any 512 (λ o. is_bad bs (y.place n (512 * b + o) / 512))
  unfolding seen
  bad_seen n e =
      subst (λ (n : ℕ). (b : ℕ) → b < y.count n → is_bad (seen y bs) b ≡ any 512 (λ o. is_bad bs (y.place n (512 * b + o) / 512))) e
      (λ b h. bad_made _ _ _ b h)

  pub byte-seen : (n : ℕ) → length bs ≡ n → (a : ℕ) → a < 512 * y.count n → byte (seen y bs) a ≡ byte bs (y.place n a)
  unfolding seen
  byte-seen n e =
      subst (λ (n : ℕ). (a : ℕ) → a < 512 * y.count n → byte (seen y bs) a ≡ byte bs (y.place n a)) e
      (λ a h. byte-made _ _ _ a h)

  module _ (new : List Block) where
    pub length-kept : length (kept y bs new) ≡ length bs
    unfolding kept
    length-kept = length-made _ _ _

    pub whole_kept : Whole (kept y bs new)
    unfolding kept
    whole_kept = whole_made _ _ _

    pub bad_kept : (b : ℕ) → b < length bs → is_bad (kept y bs new) b ≡ is_bad bs b
    unfolding kept
    bad_kept b h = bad_made _ _ _ b h

    pub byte-kept_at : (n : ℕ) → length bs ≡ n → (a : ℕ) → a < 512 * y.count n → byte (kept y bs new) (y.place n a) ≡ byte new a
    unfolding kept
    byte-kept_at n e =
        subst (λ (n : ℕ). (a : ℕ) → a < 512 * y.count n → byte (kept y bs new) (y.place n a) ≡ byte new a) e
        (λ a h. byte-made _ _ _ (y.place (length bs) a) (y.inside (length bs) a h)
        ∙ landed_hit (y.place (length bs)) (byte new) _ _ _ a h refl (λ b k p. y.apart (length bs) b a k h p))

    pub byte-kept_off : (n : ℕ) → length bs ≡ n → (t : ℕ) → t < 512 * n → ((a : ℕ) → a < 512 * y.count n → y.place n a ≡ t → ⊥) → byte (kept y bs new) t ≡ byte bs t
    unfolding kept
    byte-kept_off n e =
        subst (λ (n : ℕ). (t : ℕ) → t < 512 * n → ((a : ℕ) → a < 512 * y.count n → y.place n a ≡ t → ⊥) → byte (kept y bs new) t ≡ byte bs t) e
        (λ t h u. byte-made _ _ _ t h ∙ landed_miss (y.place (length bs)) (byte new) t _ _ u)

    pub fitting_kept : Fitting bs (kept y bs new)
    fitting_kept = record { many = length-kept; whole = whole_kept; bads = bad_kept }

-- what was put is shown
pub seen-kept : (y : Layer) (bs new : List Block) → Fitting (seen y bs) new → seen y (kept y bs new) ≡ new
seen-kept y bs new f =
    same_blocks (seen y (kept y bs new)) new (whole_seen y (kept y bs new)) f.whole (many ∙ sym f.many)
    (λ b h.
    let l : b < y.count (length bs) = omega (arith, many, length_seen y bs) in
    bad_seen y (kept y bs new) (length bs) (length-kept y bs new) b l
    ∙ any_same 512 _ _ (λ o k. bad_kept y bs new _ (omega (arith, y.inside (length bs) (512 * b + o) (omega arith))))
    ∙ sym (bad_seen y bs (length bs) refl b l)
    ∙ sym (f.bads b (omega (arith, many, length_seen y bs))))
    (λ a h.
    let l : a < 512 * y.count (length bs) = omega (arith, many, length_seen y bs) in
    byte-seen y (kept y bs new) (length bs) (length-kept y bs new) a l ∙ byte-kept_at y bs new (length bs) refl a l)
  where
    many : length (seen y (kept y bs new)) ≡ length (seen y bs)
    many = length_seen y (kept y bs new) ∙ ap y.count (length-kept y bs new) ∙ sym (length_seen y bs)

-- what is shown, put back, changes nothing
pub kept_seen : (y : Layer) (bs : List Block) → Whole bs → kept y bs (seen y bs) ≡ bs
kept_seen y bs w =
    same_blocks (kept y bs (seen y bs)) bs (whole_kept y bs (seen y bs)) w many
    (λ b h. bad_kept y bs (seen y bs) b (omega (arith, many)))
    (λ t h. go t (omega (arith, many)) (placed (y.place (length bs)) t (512 * y.count (length bs))))
  where
    many : length (kept y bs (seen y bs)) ≡ length bs
    many = length-kept y bs (seen y bs)

    go : (t : ℕ) → t < 512 * length bs
        → ((a : ℕ) × (a < 512 * y.count (length bs)) × (y.place (length bs) a ≡ t)) ⊎ ((a : ℕ) → a < 512 * y.count (length bs) → y.place (length bs) a ≡ t → ⊥)
        → byte (kept y bs (seen y bs)) t ≡ byte bs t
    go t h (inl p) =
        ap (byte (kept y bs (seen y bs))) (sym p.2)
        ∙ byte-kept_at y bs (seen y bs) (length bs) refl p.0 p.1
        ∙ byte-seen y bs (length bs) refl p.0 p.1
        ∙ ap (byte bs) p.2
    go t h (inr u) = byte-kept_off y bs (seen y bs) (length bs) refl t h u

-- of two puts the last counts
pub kept-kept : (y : Layer) (bs a b : List Block) → kept y (kept y bs a) b ≡ kept y bs b
kept-kept y bs a b =
    same_blocks (kept y (kept y bs a) b) (kept y bs b) (whole_kept y (kept y bs a) b) (whole_kept y bs b) (many ∙ sym (length-kept y bs b))
    (λ c h. let l : c < length bs = omega (arith, many) in bad_kept y (kept y bs a) b c (omega (arith, length-kept y bs a)) ∙ bad_kept y bs a c l ∙ sym (bad_kept y bs b c l))
    (λ t h. go t (omega (arith, many)) (placed (y.place (length bs)) t (512 * y.count (length bs))))
  where
    many : length (kept y (kept y bs a) b) ≡ length bs
    many = length-kept y (kept y bs a) b ∙ length-kept y bs a

    go : (t : ℕ) → t < 512 * length bs
        → ((c : ℕ) × (c < 512 * y.count (length bs)) × (y.place (length bs) c ≡ t)) ⊎ ((c : ℕ) → c < 512 * y.count (length bs) → y.place (length bs) c ≡ t → ⊥)
        → byte (kept y (kept y bs a) b) t ≡ byte (kept y bs b) t
    go t h (inl p) =
        ap (byte (kept y (kept y bs a) b)) (sym p.2)
        ∙ byte-kept_at y (kept y bs a) b (length bs) (length-kept y bs a) p.0 p.1
        ∙ sym (byte-kept_at y bs b (length bs) refl p.0 p.1)
        ∙ ap (byte (kept y bs b)) p.2
    go t h (inr u) =
        byte-kept_off y (kept y bs a) b (length bs) (length-kept y bs a) t h u
        ∙ byte-kept_off y bs a (length bs) refl t h u
        ∙ sym (byte-kept_off y bs b (length bs) refl t h u)

-- a pile
pub length-seen_all : (ys : List Layer) (bs : List Block) → length (seen_all ys bs) ≡ counts ys (length bs)
length-seen_all [] bs = refl
length-seen_all (y ∷ ys) bs = length_seen y (seen_all ys bs) ∙ ap y.count (length-seen_all ys bs)

pub whole_seen_all : (ys : List Layer) (bs : List Block) → Whole bs → Whole (seen_all ys bs)
whole_seen_all [] bs w = w
whole_seen_all (y ∷ ys) bs w = whole_seen y (seen_all ys bs)

pub seen-kept_all : (ys : List Layer) (bs new : List Block) → Fitting (seen_all ys bs) new → seen_all ys (kept_all ys bs new) ≡ new
seen-kept_all [] bs new f = refl
seen-kept_all (y ∷ ys) bs new f =
    ap (seen y) (seen-kept_all ys bs (kept y (seen_all ys bs) new) (fitting_kept y (seen_all ys bs) new))
    ∙ seen-kept y (seen_all ys bs) new f

pub kept-seen_all : (ys : List Layer) (bs : List Block) → Whole bs → kept_all ys bs (seen_all ys bs) ≡ bs
kept-seen_all [] bs w = refl
kept-seen_all (y ∷ ys) bs w =
    ap (kept_all ys bs) (kept_seen y (seen_all ys bs) (whole_seen_all ys bs w)) ∙ kept-seen_all ys bs w

pub kept-kept_all : (ys : List Layer) (bs a b : List Block) → kept_all ys (kept_all ys bs a) b ≡ kept_all ys bs b
kept-kept_all [] bs a b = refl
kept-kept_all (y ∷ ys) bs a b =
    let m : List Block = kept y (seen_all ys bs) a in
    ap (λ (x : List Block). kept_all ys (kept_all ys bs m) (kept y x b)) (seen-kept_all ys bs m (fitting_kept y (seen_all ys bs) a))
    ∙ ap (kept_all ys (kept_all ys bs m)) (kept-kept y (seen_all ys bs) a b)
    ∙ kept-kept_all ys bs m (kept y (seen_all ys bs) b)

-- the bytes of a pile lie at the bottom, no two at one place
pub inside_all : (ys : List Layer) (n a : ℕ) → a < 512 * counts ys n → down ys n a < 512 * n
inside_all [] n a h = h
inside_all (y ∷ ys) n a h = inside_all ys n (y.place (counts ys n) a) (y.inside (counts ys n) a h)

pub apart_all : (ys : List Layer) (n a b : ℕ) → a < 512 * counts ys n → b < 512 * counts ys n → down ys n a ≡ down ys n b → a ≡ b
apart_all [] n a b h k e = e
apart_all (y ∷ ys) n a b h k e =
    y.apart (counts ys n) a b h k
    (apart_all ys n _ _ (y.inside (counts ys n) a h) (y.inside (counts ys n) b k) e)

pub byte-seen_all : (ys : List Layer) (bs : List Block) (a : ℕ) → a < 512 * counts ys (length bs) → byte (seen_all ys bs) a ≡ byte bs (down ys (length bs) a)
byte-seen_all [] bs a h = refl
byte-seen_all (y ∷ ys) bs a h =
    byte-seen y (seen_all ys bs) (counts ys (length bs)) (length-seen_all ys bs) a h
    ∙ byte-seen_all ys bs (y.place (counts ys (length bs)) a) (y.inside (counts ys (length bs)) a h)

pub byte-kept_all : (ys : List Layer) (bs new : List Block) (a : ℕ) → a < 512 * counts ys (length bs) → byte (kept_all ys bs new) (down ys (length bs) a) ≡ byte new a
byte-kept_all [] bs new a h = refl
byte-kept_all (y ∷ ys) bs new a h =
    byte-kept_all ys bs (kept y (seen_all ys bs) new) (y.place (counts ys (length bs)) a) (y.inside (counts ys (length bs)) a h)
    ∙ byte-kept_at y (seen_all ys bs) new (counts ys (length bs)) (length-seen_all ys bs) a h

-- a byte of the bottom that no byte shown lies at stays
pub frame_all : (ys : List Layer) (bs new : List Block) (t : ℕ) → t < 512 * length bs
    → ((a : ℕ) → a < 512 * counts ys (length bs) → down ys (length bs) a ≡ t → ⊥) → byte (kept_all ys bs new) t ≡ byte bs t
frame_all [] bs new t h u = absurd (u t h refl)
frame_all (y ∷ ys) bs new t h u =
    go (placed (down ys (length bs)) t (512 * counts ys (length bs))) (frame_all ys bs (kept y (seen_all ys bs) new) t h)
  where
    n : ℕ
    n = counts ys (length bs)

    go : ((c : ℕ) × (c < 512 * counts ys (length bs)) × (down ys (length bs) c ≡ t)) ⊎ ((c : ℕ) → c < 512 * counts ys (length bs) → down ys (length bs) c ≡ t → ⊥)
        → (((c : ℕ) → c < 512 * counts ys (length bs) → down ys (length bs) c ≡ t → ⊥) → byte (kept_all ys bs (kept y (seen_all ys bs) new)) t ≡ byte bs t)
        → byte (kept_all ys bs (kept y (seen_all ys bs) new)) t ≡ byte bs t
    go (inr v) r = r v
    go (inl p) r =
        ap (byte (kept_all ys bs (kept y (seen_all ys bs) new))) (sym p.2)
        ∙ byte-kept_all ys bs (kept y (seen_all ys bs) new) p.0 p.1
        ∙ byte-kept_off y (seen_all ys bs) new (counts ys (length bs)) (length-seen_all ys bs) p.0 p.1
        (λ a k e. u a k (ap (down ys (length bs)) e ∙ p.2))
        ∙ byte-seen_all ys bs p.0 p.1
        ∙ ap (byte bs) p.2

-- one block set may be put
pub fitting_set : (bs : List Block) (b : ℕ) (x : Block) → Whole bs → b < length bs → length x.bytes ≡ 512 → x.bad ≡ is_bad bs b → Fitting bs (set bs b x)
fitting_set bs b x w h l e =
    record { many = length-set bs b x; whole = whole_set bs b x w l; bads = λ c k. bad_set bs b x c h e }
