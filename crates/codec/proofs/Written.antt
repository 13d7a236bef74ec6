-- What one write after another leaves.
use Rattle.std.proofs.Common.{◌≡◌, ℕ, ◌+◌, ◌-◌, ◌*◌, ◌/◌, ◌%◌, ◌<◌, ◌≤◌, List, [], ◌∷◌, ◌++◌, length, get_or, take, drop, replicate, sym, refl, ap, ◌∙◌, zero-add, add-zero, arith}
use Rattle.std.specs.Int.{w16, to_le_bytes}
use Rattle.std.specs.List.{flat_map}
use Rattle.std.proofs.lemmas.List.{append_assoc, take-append-drop, take_more, flat_map_more, take_at, drop_at, drop-drop, length-take-le, length-append, length-replicate, drop-replicate, replicate-append-replicate}
use borrow.Rule.Slice.PartMut.{put_mid}
use Rattle.codec.specs.Words.{word_bytes, written}

-- a write to a part of a slice, as the checker reads it
pub put_is : (bs ys xs : List ℕ) (at n : ℕ) → ys ≡ xs → n ≡ length xs → put_mid at n bs ys ≡ written bs at xs
unfolding written
put_is bs ys xs at n e f = simp (e, f, drop-drop)

-- bytes written behind a front
behind : (p r ys : List ℕ) (n : ℕ) → length p ≡ n → written (p ++ r) n ys ≡ p ++ (ys ++ drop (length ys) r)
unfolding written
behind p r ys n e = rw (take_at p r n e, ← drop-drop (length ys) n (p ++ r), drop_at p r n e)

pub written_more : (bs : List ℕ) (at n : ℕ) (xs ys : List ℕ) → at + length xs ≡ n → at ≤ length bs
    → written (written bs at xs) n ys ≡ written bs at (xs ++ ys)
unfolding written
written_more bs at n xs ys e h =
    let long : length (take at bs ++ xs) ≡ n = simp length-append (omega (arith, length-take-le at bs h)) in
    let r : List ℕ = drop (at + length xs) bs in
    let s : written (take at bs ++ (xs ++ r)) n ys ≡ (take at bs ++ xs) ++ (ys ++ drop (length ys) r)
    = rw (← append_assoc (take at bs) xs r) (behind (take at bs ++ xs) r ys n long) in
    let k : at + length xs + length ys ≡ at + length (xs ++ ys) = simp length-append (omega arith) in
    let d : drop (length ys) r ≡ drop (at + length (xs ++ ys)) bs = drop-drop (length ys) (at + length xs) bs ∙ ap (λ m. drop m bs) k in
    s ∙ append_assoc (take at bs) xs (ys ++ drop (length ys) r)
    ∙ ap (λ z. take at bs ++ z) (sym (append_assoc xs ys (drop (length ys) r)) ∙ ap (λ z. (xs ++ ys) ++ z) d)

-- two writes, one behind the other
pub written-two : (bs : List ℕ) (at : ℕ) (xs zs : List ℕ) {b₁ b₂ : List ℕ} (ys : List ℕ) (n : ℕ) → b₁ ≡ written bs at xs → b₂ ≡ written b₁ n ys
    → ys ≡ zs → at + length xs ≡ n → at ≤ length bs → b₂ ≡ written bs at (xs ++ zs)
written-two bs at xs zs {b₁} {b₂} ys n p q r e h =
    q ∙ ap (λ z. written z n ys) p ∙ ap (λ z. written (written bs at xs) n z) r ∙ written_more bs at n xs zs e h

-- bytes written to the start of zeros
pub written_zeros : (n : ℕ) (bs : List ℕ) → written (replicate n 0) 0 bs ≡ bs ++ replicate (n - length bs) 0
unfolding written
written_zeros n bs = simp (zero-add, drop-replicate)

-- bytes written into the zeros behind others, with g zeros before and m behind them
pub into_zeros : (p ys : List ℕ) (n g at m : ℕ) → length p + g ≡ at → n ≡ g + (length ys + m)
    → written (p ++ replicate n 0) at ys ≡ (p ++ (replicate g 0 ++ ys)) ++ replicate m 0
into_zeros p ys n g at m e f =
    let q : List ℕ = p ++ replicate g 0 in
    let z : List ℕ = replicate (length ys + m) 0 in
    let long : length q ≡ at = simp (length-append, length-replicate) e in
    let split : p ++ replicate n 0 ≡ q ++ z
    = ap (λ (k : ℕ). p ++ replicate k 0) f ∙ ap (λ (x : List ℕ). p ++ x) (sym (replicate-append-replicate g (length ys + m) 0)) ∙ sym (append_assoc p (replicate g 0) z) in
    let back : drop (length ys) z ≡ replicate m 0
    = drop-replicate (length ys) (length ys + m) 0 ∙ ap (λ (k : ℕ). replicate k 0) (omega arith) in
    ap (λ (x : List ℕ). written x at ys) split ∙ behind q z ys at long ∙ ap (λ (x : List ℕ). q ++ (ys ++ x)) back ∙ simp append_assoc

-- nothing written
pub written-none : (bs : List ℕ) (at : ℕ) → bs ≡ written bs at []
unfolding written
written-none bs at = sym (rw add-zero (take-append-drop at bs))

-- the bytes of a word as the checker writes them
pub bytes_are : (w : ℕ) → w < 65536 → to_le_bytes w16 w ≡ word_bytes w
bytes_are w h = let high : w / 256 % 256 ≡ w / 256 = omega arith in rw high refl

-- the bytes of some words, and one word more
words_long : (ws : List ℕ) → length (flat_map word_bytes ws) ≡ 2 * length ws
words_long [] = refl
words_long (w ∷ ws) = omega (arith, words_long ws)

pub word_more : (bs b c : List ℕ) (at i : ℕ) (ws : List ℕ) → i < length ws → at ≤ length bs → b ≡ written bs at (flat_map word_bytes (take i ws))
    → c ≡ written b (at + 2 * i) (word_bytes (get_or ws i 0)) → c ≡ written bs at (flat_map word_bytes (take (i + 1) ws))
word_more bs b c at i ws l h p q =
    let long : at + length (flat_map word_bytes (take i ws)) ≡ at + 2 * i = omega (arith, words_long (take i ws), length-take-le i ws) in
    written-two bs at _ _ (word_bytes (get_or ws i 0)) _ p q refl long h
    ∙ ap (written bs at) (flat_map_more word_bytes [] (take i ws) (get_or ws i 0) ∙ ap (flat_map word_bytes) (sym (take_more ws i 0 l)))
