-- Lists of a known length, element by element.
use Rattle.std.proofs.Common.{◌≡◌, ℕ, zero, suc, ◌+◌, ◌≤◌, List, [], ◌∷◌, length, get_or, take, drop, replicate, ◌++◌, sym, refl, ap, ◌∙◌, add-one, arith}
use Rattle.std.proofs.lemmas.List.{drop_more, take_all}
use Rattle.codec.specs.Words.{written}
use Rattle.codec.specs.Digits.{two}
use Rattle.listing.specs.Listings.{four, line_of}

-- n elements from index i on
abbrev pub each : ℕ → ℕ → List ℕ → List ℕ
each i zero xs = []
each i (suc n) xs = get_or xs i 0 ∷ each (suc i) n xs

each_is : (i n : ℕ) (xs : List ℕ) → i + n ≤ length xs → each i n xs ≡ take n (drop i xs)
each_is i zero xs h = refl
each_is i (suc n) xs h =
    ap (λ (ys : List ℕ). get_or xs i 0 ∷ ys) (each_is (suc i) n xs (omega arith) ∙ ap (λ (k : ℕ). take n (drop k xs)) (sym (add-one i)))
    ∙ ap (take (suc n)) (sym (drop_more xs i 0 (omega arith)))

pub each_all : (n : ℕ) (xs : List ℕ) → length xs ≡ n → each 0 n xs ≡ xs
each_all n xs h = each_is 0 n xs (omega arith) ∙ take_all n xs (omega arith)

-- a row of dashes with a day, a month and a year written over it
pub dated_is : (day year : ℕ) (month : List ℕ) → length month ≡ 3
    → written (written (written (replicate 11 45) 0 (two day)) 3 month) 7 (four year) ≡ two day ++ (45 ∷ (month ++ (45 ∷ four year)))
unfolding written
dated_is day year month h =
    let m = each_all 3 month h in
    sym (λ t. written (written (written (replicate 11 45) 0 (two day)) 3 (m t)) 7 (four year)) ∙ (λ t. two day ++ (45 ∷ (m t ++ (45 ∷ four year))))

-- a line of blanks with its pieces written over it
abbrev filled : List ℕ → List ℕ → ℕ → List ℕ → List ℕ
filled name long marked date = written (written (written (written (written (replicate 30 32) 0 name) 11 long) 16 (marked ∷ [])) 18 date) 29 (10 ∷ [])

filled_is : (name long : List ℕ) (marked : ℕ) (date : List ℕ) → length name ≡ 10 → length long ≡ 5 → length date ≡ 11
    → filled name long marked date ≡ line_of name long marked date
unfolding written
filled_is name long marked date i j k =
    let a = each_all 10 name i in
    let b = each_all 5 long j in
    let d = each_all 11 date k in
    sym (λ t. filled (a t) (b t) marked (d t)) ∙ (λ t. line_of (a t) (b t) marked (d t))

pub line_from : (name long : List ℕ) (marked : ℕ) (date : List ℕ) {l₁ l₂ l₃ l₄ l₅ : List ℕ} → length name ≡ 10 → length long ≡ 5 → length date ≡ 11
    → l₁ ≡ written (replicate 30 32) 0 name → l₂ ≡ written l₁ 11 long → l₃ ≡ written l₂ 16 (marked ∷ []) → l₄ ≡ written l₃ 18 date
    → l₅ ≡ written l₄ 29 (10 ∷ []) → l₅ ≡ line_of name long marked date
line_from name long marked date i j k e₁ e₂ e₃ e₄ e₅ =
    e₅
    ∙ ap (λ (l : List ℕ). written l 29 (10 ∷ [])) (e₄
    ∙ ap (λ (l : List ℕ). written l 18 date) (e₃
    ∙ ap (λ (l : List ℕ). written l 16 (marked ∷ [])) (e₂
    ∙ ap (λ (l : List ℕ). written l 11 long) e₁)))
    ∙ filled_is name long marked date i j k
