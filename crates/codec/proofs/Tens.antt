-- The digits of a number, the last one first.
use Rattle.std.proofs.Common.{◌≡◌, ℕ, zero, suc, ◌+◌, ◌-◌, ◌*◌, ◌/◌, ◌%◌, ◌^◌, ◌<◌, ◌≤◌, List, [], ◌∷◌, ◌++◌, length, drop, set, sym, refl, ap, ◌∙◌, arith}
use native.Mathlib.Nat.{div-div-eq-div-mul}
use Rattle.std.proofs.lemmas.List.{append_assoc, append-nil, drop-set, drop_all}
use Rattle.codec.specs.Digits.{digit_at, digits_of}

-- the digit in front of the last
pub front : (n unit : ℕ) → digit_at (n / 10) unit ≡ digit_at n (10 * unit)
front n unit = ap (λ (q : ℕ). 48 + q % 10) (div-div-eq-div-mul n 10 unit)

last : (k n : ℕ) → digits_of (suc k) n ≡ digits_of k (n / 10) ++ (digit_at n 1 ∷ [])
last zero n = refl
last (suc k) n =
    let ten : 10 ^ suc k ≡ 10 * 10 ^ k = omega arith in
    ap (λ (d : ℕ). d ∷ digits_of (suc k) n) (ap (digit_at n) ten ∙ sym (front n (10 ^ k))) ∙ ap (λ (ds : List ℕ). digit_at (n / 10) (10 ^ k) ∷ ds) (last k n)

behind : (k n : ℕ) (ds : List ℕ) → k < length ds → digits_of k (n / 10) ++ drop k (set ds k (digit_at n 1)) ≡ digits_of (suc k) n ++ drop (suc k) ds
behind k n ds h =
    let one : k + 1 ≡ suc k = omega arith in
    ap (λ (xs : List ℕ). digits_of k (n / 10) ++ xs) (drop-set ds k (digit_at n 1) h)
    ∙ sym (append_assoc (digits_of k (n / 10)) (digit_at n 1 ∷ []) (drop (k + 1) ds))
    ∙ ap (λ (xs : List ℕ). xs ++ drop (k + 1) ds) (sym (last k n))
    ∙ ap (λ (j : ℕ). digits_of (suc k) n ++ drop j ds) one

-- one digit more written
pub digit_more : (k n : ℕ) (ds : List ℕ) → 0 < k → k ≤ length ds
    → digits_of (k - 1) (n / 10) ++ drop (k - 1) (set ds (k - 1) (digit_at n 1)) ≡ digits_of k n ++ drop k ds
digit_more zero n ds h l = absurd (omega arith)
digit_more (suc k) n ds h l =
    let e : suc k - 1 ≡ k = omega arith in
    rw e (behind k n ds (omega arith))

-- none written
pub digits_none : (k n : ℕ) (ds : List ℕ) → length ds ≡ k → digits_of k n ++ drop k ds ≡ digits_of k n
digits_none k n ds h = ap (λ (xs : List ℕ). digits_of k n ++ xs) (drop_all k ds (omega arith)) ∙ append-nil (digits_of k n)
