-- Lists of blocks: by their bad blocks and bytes.
use Rattle.std.proofs.Common.{◌≡◌, ℕ, zero, suc, ◌+◌, ◌*◌, ◌/◌, ◌%◌, ◌<◌, Bool, true, false, cond, ◌||◌, eqb, ◌⊎◌, List, length, get_or, set, sym, refl, ap, ◌∙◌, inl, inr, arith, length-set, get_or-set_other, get_or-set_same, ext_get_or}
use Rattle.std.proofs.lemmas.Bool.{cases_eq, cond-true, cond-false, eq-eqb, ne_eqb, or_from, or_left, or_right}
use Rattle.device.specs.Blocks.{Block, none, Whole, is_bad, byte, made, any}
use Rattle.device.specs.Tables.{get_or-table, get_or-made}
use Rattle.device.specs.Stacks.{landed}

pub any_same : (n : ℕ) (f g : ℕ → Bool) → ((k : ℕ) → k < n → f k ≡ g k) → any n f ≡ any n g
unfolding any
any_same zero f g h = refl
any_same (suc n) f g h =
    rw (h n (omega arith)) (ap (λ x. g n || x) (any_same n f g (λ k l. h k (omega arith))))

pub any_false : (n : ℕ) (f : ℕ → Bool) → ((k : ℕ) → k < n → f k ≡ false) → any n f ≡ false
unfolding any
any_false zero f h = refl
any_false (suc n) f h = or_from (f n) (any n f) (h n (omega arith)) (any_false n f (λ k l. h k (omega arith)))

pub any_true : (n : ℕ) (f : ℕ → Bool) (k : ℕ) → k < n → f k ≡ true → any n f ≡ true
unfolding any
any_true zero f k l e = absurd (omega arith)
any_true (suc n) f k l e = go (cases_eq k n) (λ m. any_true n f k m e)
  where
    go : (k ≡ n) ⊎ (k ≡ n → ⊥) → (k < n → any n f ≡ true) → (f n || any n f) ≡ true
    go (inl p) r = or_left (f n) (any n f) (ap f (sym p) ∙ e)
    go (inr p) r = or_right (f n) (any n f) (r (omega arith))

-- any of a constant
pub any_all : (n : ℕ) (f : ℕ → Bool) (x : Bool) → 0 < n → ((k : ℕ) → k < n → f k ≡ x) → any n f ≡ x
any_all n f true p h = any_true n f 0 p (h 0 p)
any_all n f false p h = any_false n f h

pub bad_made : (n : ℕ) (f : ℕ → Bool) (g : ℕ → ℕ) (b : ℕ) → b < n → is_bad (made n f g) b ≡ f b
unfolding is_bad
bad_made n f g b h = ap (λ (x : Block). x.bad) (get_or-made n f g b h)

pub byte-made : (n : ℕ) (f : ℕ → Bool) (g : ℕ → ℕ) (a : ℕ) → a < 512 * n → byte (made n f g) a ≡ g a
unfolding byte
byte-made n f g a h =
    ap (λ (x : Block). get_or x.bytes (a % 512) 0) (get_or-made n f g (a / 512) (omega arith))
    ∙ get_or-table 512 (λ o. g (512 * (a / 512) + o)) (a % 512) 0 (omega arith)
    ∙ ap g (omega arith)

block_path : (x y : Block) → x.bad ≡ y.bad → x.bytes ≡ y.bytes → x ≡ y
block_path x y p q = λ i. record { bad = p i; bytes = q i }

pub byte_at : (bs : List Block) (b o : ℕ) → o < 512 → byte bs (512 * b + o) ≡ get_or (get_or bs b none).bytes o 0
unfolding byte
byte_at bs b o h =
    let p : (512 * b + o) / 512 ≡ b = omega arith in
    let q : (512 * b + o) % 512 ≡ o = omega arith in
    rw (p, q)

-- block b of one list is block c of another
pub same_block : (xs ys : List Block) (b c : ℕ) → length (get_or xs b none).bytes ≡ 512 → length (get_or ys c none).bytes ≡ 512
    → is_bad xs b ≡ is_bad ys c → ((o : ℕ) → o < 512 → byte xs (512 * b + o) ≡ byte ys (512 * c + o)) → get_or xs b none ≡ get_or ys c none
unfolding is_bad
same_block xs ys b c lx ly p q =
    block_path _ _ p
    (ext_get_or 0 (get_or xs b none).bytes (get_or ys c none).bytes (lx ∙ sym ly)
    (λ o h. let l : o < 512 = omega arith in sym (byte_at xs b o l) ∙ q o l ∙ byte_at ys c o l))

-- two lists of whole blocks are the same where their bad blocks and their bytes are
pub same_blocks : (xs ys : List Block) → Whole xs → Whole ys → length xs ≡ length ys
    → ((b : ℕ) → b < length xs → is_bad xs b ≡ is_bad ys b) → ((a : ℕ) → a < 512 * length xs → byte xs a ≡ byte ys a) → xs ≡ ys
same_blocks xs ys wx wy l p q =
    ext_get_or none xs ys l
    (λ b h. same_block xs ys b b (wx b h) (wy b (omega arith)) (p b h) (λ o k. q (512 * b + o) (omega arith)))

-- what lands at t
pub landed_hit : (place new : ℕ → ℕ) (t old n a : ℕ) → a < n → place a ≡ t → ((b : ℕ) → b < n → place b ≡ t → b ≡ a) → landed place new t old n ≡ new a
unfolding landed
landed_hit place new t old zero a h e u = absurd (omega arith)
landed_hit place new t old (suc n) a h e u =
    go (cases_eq (place n) t) (λ l. landed_hit place new t old n a l e (λ b k r. u b (omega arith) r))
  where
    go : (place n ≡ t) ⊎ (place n ≡ t → ⊥) → (a < n → landed place new t old n ≡ new a) → cond (eqb (place n) t) (new n) (landed place new t old n) ≡ new a
    go (inl p) r = cond-true _ _ _ (eq-eqb (place n) t p) ∙ ap new (u n (omega arith) p)
    go (inr p) r =
        let ne : (a ≡ n → ⊥) = λ q. p (ap place (sym q) ∙ e) in
        let l : a < n = omega (arith, ne) in
        cond-false _ _ _ (ne_eqb (place n) t p) ∙ r l

pub landed_miss : (place new : ℕ → ℕ) (t old n : ℕ) → ((b : ℕ) → b < n → place b ≡ t → ⊥) → landed place new t old n ≡ old
unfolding landed
landed_miss place new t old zero u = refl
landed_miss place new t old (suc n) u =
    cond-false _ _ _ (ne_eqb (place n) t (u n (omega arith))) ∙ landed_miss place new t old n (λ b k. u b (omega arith))

-- whether a byte is placed at t
pub placed : (place : ℕ → ℕ) (t n : ℕ) → ((a : ℕ) × (a < n) × (place a ≡ t)) ⊎ ((a : ℕ) → a < n → place a ≡ t → ⊥)
placed place t zero = inr (λ a h e. omega arith)
placed place t (suc n) = go (cases_eq (place n) t) (placed place t n)
  where
    go : (place n ≡ t) ⊎ (place n ≡ t → ⊥) → ((a : ℕ) × (a < n) × (place a ≡ t)) ⊎ ((a : ℕ) → a < n → place a ≡ t → ⊥) → ((a : ℕ) × (a < suc n) × (place a ≡ t)) ⊎ ((a : ℕ) → a < suc n → place a ≡ t → ⊥)
    go (inl p) r = inl (n, omega arith, p)
    go (inr p) (inl r) = inl (r.0, omega (arith, r.1), r.2)
    go (inr p) (inr r) = inr (λ a h e. last a h e (cases_eq a n))
      where
        last : (a : ℕ) → a < suc n → place a ≡ t → (a ≡ n) ⊎ (a ≡ n → ⊥) → ⊥
        last a h e (inl q) = p (ap place (sym q) ∙ e)
        last a h e (inr q) = r a (omega (arith, q)) e

-- one block set
pub byte-set_same : (bs : List Block) (b : ℕ) (x : Block) (o : ℕ) → b < length bs → o < 512 → byte (set bs b x) (512 * b + o) ≡ get_or x.bytes o 0
byte-set_same bs b x o h l =
    byte_at (set bs b x) b o l ∙ ap (λ (y : Block). get_or y.bytes o 0) (get_or-set_same bs b x none h)

pub byte-set_other : (bs : List Block) (b : ℕ) (x : Block) (a : ℕ) → (a / 512 ≡ b → ⊥) → byte (set bs b x) a ≡ byte bs a
unfolding byte
byte-set_other bs b x a h = ap (λ (y : Block). get_or y.bytes (a % 512) 0) (get_or-set_other bs b (a / 512) x none h)

pub bad_set_same : (bs : List Block) (b : ℕ) (x : Block) → b < length bs → is_bad (set bs b x) b ≡ x.bad
unfolding is_bad
bad_set_same bs b x h = ap (λ (y : Block). y.bad) (get_or-set_same bs b x none h)

pub bad_set_other : (bs : List Block) (b : ℕ) (x : Block) (c : ℕ) → (c ≡ b → ⊥) → is_bad (set bs b x) c ≡ is_bad bs c
unfolding is_bad
bad_set_other bs b x c h = ap (λ (y : Block). y.bad) (get_or-set_other bs b c x none h)

-- a block set to one that is bad as it was changes no bad block
pub bad_set : (bs : List Block) (b : ℕ) (x : Block) (c : ℕ) → b < length bs → x.bad ≡ is_bad bs b → is_bad (set bs b x) c ≡ is_bad bs c
bad_set bs b x c h e = go (cases_eq c b)
  where
    go : (c ≡ b) ⊎ (c ≡ b → ⊥) → is_bad (set bs b x) c ≡ is_bad bs c
    go (inl p) = rw p (bad_set_same bs b x h ∙ e)
    go (inr p) = bad_set_other bs b x c p

pub whole_set : (bs : List Block) (b : ℕ) (x : Block) → Whole bs → length x.bytes ≡ 512 → Whole (set bs b x)
whole_set bs b x w l c h = go (cases_eq c b)
  where
    k : c < length bs
    k = omega (arith, length-set bs b x)

    go : (c ≡ b) ⊎ (c ≡ b → ⊥) → length (get_or (set bs b x) c none).bytes ≡ 512
    go (inl p) = rw p (ap (λ (y : Block). length y.bytes) (get_or-set_same bs b x none (omega (arith, k))) ∙ l)
    go (inr p) = ap (λ (y : Block). length y.bytes) (get_or-set_other bs b c x none p) ∙ w c k
