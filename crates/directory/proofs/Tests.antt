-- A test of each element, element by element.
use Rattle.std.proofs.Common.{◌≡◌, ℕ, ◌+◌, ◌<◌, ◌≤◌, Bool, true, false, not, ◌&&◌, ◌||◌, eqb, List, [], ◌∷◌, length, get_or, take, drop, is_some, Some, None, Option, Decides, sym, refl, ap, ◌∙◌, subst, arith}
use Rattle.std.specs.List.{AllByRecursion}
use Rattle.std.proofs.ByRecursion.{All-get_or}
use Rattle.std.proofs.lemmas.List.{length-take, length-drop, get_or-take, get_or-drop, ext_get_or}
use Rattle.std.specs.Option.{option_map}
use Rattle.std.proofs.lemmas.Bool.{eqb-true, false≢true}
use Rattle.std.proofs.lemmas.Bool.Decides.{same_from_decides, Decides-like, Decides-eqb, Decides-below_and}
use Rattle.std.proofs.lemmas.Slice.Eq.{slice_eq-Decides}
use Rattle.std.specs.Cmp.Lexicographic.{pointwise}
use Rattle.device.specs.Blocks.{any}
use Rattle.directory.specs.Rules.{every, meets, same_bytes}

pub some_mapped : {X Y : Type 0} (f : X → Y) (o : Option X) → is_some (option_map f o) ≡ is_some o
some_mapped f None = refl
some_mapped f (Some x) = refl

-- a segment that a chain meets is as all of them
pub meets_all : (P : ℕ → Type 0) (k : ℕ) (ks : List ℕ) → meets k ks ≡ true → AllByRecursion P ks → P k
meets_all P k [] h a = absurd (false≢true h)
meets_all P k (j ∷ js) h a = go (eqb j k) refl h (λ q. meets_all P k js q a.1)
  where
    go : (t : Bool) → eqb j k ≡ t → (t || meets k js) ≡ true → (meets k js ≡ true → P k) → P k
    go true e q r = subst P (eqb-true j k e) a.0
    go false e q r = r q

-- what holds of each segment of a chain holds of the one at a place
pub all_there : (P : ℕ → Type 0) (ks : List ℕ) (i k : ℕ) → i < length ks → k ≡ get_or ks i k → AllByRecursion P ks → P k
all_there P ks i k l e a = subst P (sym e) (All-get_or P ks i k l a)

-- two facts of each are one
pub all_both : (P : ℕ → Type 0) (p : ℕ → Bool) (Q : ℕ → Type 0) → ((k : ℕ) → P k → p k ≡ true → Q k) → (ks : List ℕ) → AllByRecursion P ks → every p ks ≡ true → AllByRecursion Q ks
all_both P p Q f [] a h = tt
all_both P p Q f (k ∷ ks) a h = go (p k) refl h (λ q. all_both P p Q f ks a.1 q)
  where
    go : (t : Bool) → p k ≡ t → (t && every p ks) ≡ true → (every p ks ≡ true → AllByRecursion Q ks) → Q k × AllByRecursion Q ks
    go true e q r = (f k a.0 e, r q)
    go false e q r = absurd (false≢true q)

-- bytes that are compared as slices
pub same_decided : (bytes : List ℕ) (at n : ℕ) (others : List ℕ)
    → Decides (same_bytes bytes at n others) ((a : ℕ) → a < n → get_or bytes (at + a) 0 ≡ get_or others a 0)
unfolding same_bytes any
same_decided bytes at n others =
    let b : ℕ → Bool = λ a. eqb (get_or bytes (at + a) 0) (get_or others a 0) in
    Decides-below_and b (λ a. get_or bytes (at + a) 0 ≡ get_or others a 0) (λ m. not (any m (λ a. not (b a))))
    (λ a. Decides-eqb _ _) refl (λ m. all_more (b m) (any m (λ a. not (b a)))) n
  where
    all_more : (b a : Bool) → not (not b || a) ≡ (b && not a)
    all_more true a = refl
    all_more false a = refl

pub same_found : (bytes : List ℕ) (at n : ℕ) (others : List ℕ) → at + n ≤ length bytes → n ≤ length others
    → (r : Bool) → r ≡ pointwise eqb (take n (drop at bytes)) (take n others) → r ≡ same_bytes bytes at n others
same_found bytes at n others h k r e =
    let xs : List ℕ = take n (drop at bytes) in
    let ys : List ℕ = take n others in
    let m : length xs ≡ n = simp (length-take, length-drop) (omega arith) in
    let o : length xs ≡ length ys = simp (length-take, length-drop) (omega arith) in
    let left : (a : ℕ) → a < n → get_or xs a 0 ≡ get_or bytes (at + a) 0 = λ a l. get_or-take n (drop at bytes) a 0 l ∙ get_or-drop at bytes a 0 in
    let right : (a : ℕ) → a < n → get_or ys a 0 ≡ get_or others a 0 = λ a l. get_or-take n others a 0 l in
    same_from_decides r (same_bytes bytes at n others)
    (Decides-like r
    (λ (q : xs ≡ ys) (a : ℕ) (l : a < n). sym (left a l) ∙ ap (λ (zs : List ℕ). get_or zs a 0) q ∙ right a l)
    (λ f. ext_get_or 0 xs ys o (λ a l. let p : a < n = omega arith in left a p ∙ f a p ∙ sym (right a p)))
    (slice_eq-Decides Decides-eqb xs ys r e))
    (same_decided bytes at n others)
