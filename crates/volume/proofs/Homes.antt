-- The bytes of a home block, and the sum of its words.
use Rattle.std.proofs.Common.{◌≡◌, ℕ, zero, suc, ◌+◌, ◌-◌, ◌*◌, ◌%◌, ◌≤◌, cond, eqb, List, [], ◌∷◌, ◌++◌, length, get_or, take, replicate, codes, refl, ap, ◌∙◌, arith}
use Rattle.std.specs.List.{flat_map}
use Rattle.std.proofs.lemmas.Bool.{cond-true, cond-false, eq-eqb, ne_eqb}
use Rattle.std.proofs.lemmas.List.{append_assoc, append-nil, length-append, length-replicate, length-take-le, get_or_append_left}
use Rattle.codec.specs.Words.{written, word_bytes}
use Rattle.codec.proofs.Written.{into_zeros}
use Rattle.volume.specs.Home.{words_sum, home_texts, home_front, home}

-- the sum of the first i bytes, each odd one 256 times
unfoldable pub bytes_sum : List ℕ → ℕ → ℕ
bytes_sum bs zero = 0
bytes_sum bs (suc i) = bytes_sum bs i + cond (eqb (i % 2) 0) (get_or bs i 0) (256 * get_or bs i 0)

pub bytes_even : (bs : List ℕ) (i : ℕ) → i % 2 ≡ 0 → bytes_sum bs (suc i) ≡ bytes_sum bs i + get_or bs i 0
unfolding bytes_sum
bytes_even bs i e = ap (λ (z : ℕ). bytes_sum bs i + z) (cond-true _ _ _ (eq-eqb (i % 2) 0 e))

pub bytes_odd : (bs : List ℕ) (i : ℕ) → (i % 2 ≡ 0 → ⊥) → bytes_sum bs (suc i) ≡ bytes_sum bs i + 256 * get_or bs i 0
unfolding bytes_sum
bytes_odd bs i e = ap (λ (z : ℕ). bytes_sum bs i + z) (cond-false _ _ _ (ne_eqb (i % 2) 0 e))

-- two bytes make a word
pub sums : (bs : List ℕ) (n : ℕ) → bytes_sum bs (2 * n) ≡ words_sum bs n
unfolding words_sum bytes_sum
sums bs zero = refl
sums bs (suc n) =
    let two : 2 * suc n ≡ suc (suc (2 * n)) = omega arith in
    let low = bytes_even bs (2 * n) (omega arith) in
    let high = bytes_odd bs (suc (2 * n)) (λ e. omega arith) in
    let next : suc (2 * n) ≡ 2 * n + 1 = omega arith in
    let at : get_or bs (suc (2 * n)) 0 ≡ get_or bs (2 * n + 1) 0 = ap (λ (z : ℕ). get_or bs z 0) next in
    ap (bytes_sum bs) two ∙ omega (arith, low, high, at, sums bs n)

-- the sum is of the front alone
words_front : (xs ys : List ℕ) (n : ℕ) → 2 * n ≤ length xs → words_sum (xs ++ ys) n ≡ words_sum xs n
unfolding words_sum
words_front xs ys zero h = refl
words_front xs ys (suc n) h =
    let a : get_or (xs ++ ys) (2 * n) 0 ≡ get_or xs (2 * n) 0 = get_or_append_left xs ys 0 (2 * n) (omega arith) in
    let b : get_or (xs ++ ys) (2 * n + 1) 0 ≡ get_or xs (2 * n + 1) 0 = get_or_append_left xs ys 0 (2 * n + 1) (omega arith) in
    omega (arith, a, b, words_front xs ys n (omega arith))

-- a block of which the first n bytes are p, and the others zero
record Begun (p : List ℕ) (n : ℕ) (b : List ℕ) : Type 0 where
  is : b ≡ p ++ replicate (512 - n) 0
  long : length p ≡ n

begun_more : (p ys : List ℕ) (n at : ℕ) (b c : List ℕ) → Begun p n b → c ≡ written b at ys → n ≤ at → at + length ys ≤ 512
    → Begun (p ++ (replicate (at - n) 0 ++ ys)) (at + length ys) c
begun_more p ys n at b c f e h l =
    record {
      is = e ∙ ap (λ (x : List ℕ). written x at ys) f.is
          ∙ into_zeros p ys (512 - n) (at - n) at (512 - (at + length ys)) (omega (arith, f.long)) (omega arith);
      long = simp (length-append, length-replicate) (omega (arith, f.long));
    }

pub front_long : (old : List ℕ) → length old ≡ 512 → length (home_front old) ≡ 510
unfolding home_front
front_long old h = length-append (take 130 old) home_texts ∙ omega (arith, length-take-le 130 old (omega arith))

-- the five writes before the sum
pub front_made : (old b₁ b₂ b₃ b₄ b₅ : List ℕ) → length old ≡ 512
    → b₁ ≡ written (replicate 512 0) 0 (take 130 old)
    → b₂ ≡ written b₁ 466 (flat_map word_bytes (1 ∷ 6 ∷ 36435 ∷ []))
    → b₃ ≡ written b₂ 472 (codes "RT11A       ")
    → b₄ ≡ written b₃ 484 (codes "            ")
    → b₅ ≡ written b₄ 496 (codes "DECRT11A    ")
    → b₅ ≡ home_front old ++ replicate 2 0
unfolding home_front
front_made old b₁ b₂ b₃ b₄ b₅ h p₁ p₂ p₃ p₄ p₅ =
    let f₁ : Begun (take 130 old) 130 b₁
    = record {
      is = p₁ ∙ into_zeros [] (take 130 old) 512 0 0 382 refl (omega (arith, length-take-le 130 old (omega arith)));
      long = length-take-le 130 old (omega arith);
    } in
    let f₂ = begun_more (take 130 old) (flat_map word_bytes (1 ∷ 6 ∷ 36435 ∷ [])) 130 466 b₁ b₂ f₁ p₂ (omega arith) (omega arith) in
    let f₃ = begun_more _ (codes "RT11A       ") 472 472 b₂ b₃ f₂ p₃ (omega arith) (omega arith) in
    let f₄ = begun_more _ (codes "            ") 484 484 b₃ b₄ f₃ p₄ (omega arith) (omega arith) in
    let f₅ = begun_more _ (codes "DECRT11A    ") 496 496 b₄ b₅ f₄ p₅ (omega arith) (omega arith) in
    f₅.is ∙ simp append_assoc

-- and the sum
pub home-made : (old b c : List ℕ) (s : ℕ) → length old ≡ 512 → b ≡ home_front old ++ replicate 2 0 → s ≡ words_sum b 255 % 65536
    → c ≡ written b 510 (word_bytes s) → c ≡ home old
unfolding home
home-made old b c s h e f p =
    let k : s ≡ words_sum (home_front old) 255 % 65536
    = f ∙ ap (λ (x : List ℕ). words_sum x 255 % 65536) e ∙ ap (λ (x : ℕ). x % 65536) (words_front (home_front old) (replicate 2 0) 255 (omega (arith, front_long old h))) in
    p ∙ ap (λ (x : List ℕ). written x 510 (word_bytes s)) e ∙ into_zeros (home_front old) (word_bytes s) 2 0 510 0 (omega (arith, front_long old h)) refl
    ∙ append-nil (home_front old ++ word_bytes s) ∙ ap (λ (x : ℕ). home_front old ++ word_bytes x) k

pub home-long : (old : List ℕ) → length old ≡ 512 → length (home old) ≡ 512
unfolding home
home-long old h = length-append (home_front old) _ ∙ omega (arith, front_long old h)
