-- What a write to one of the slots, and a move of those behind it, leave of the entries.
use Rattle.std.proofs.Common.{◌≡◌, ℕ, ◌+◌, ◌-◌, ◌<◌, ◌≤◌, cond, List, [], ◌∷◌, ◌++◌, length, take, drop, set, sym, refl, ap, ◌∙◌, arith}
use lib.Seq.{take-set-lt}
use Rattle.std.specs.List.{insert, between}
use Rattle.std.proofs.lemmas.List.{append_assoc, take_more_set, take-set, drop-set-lt, take-append-drop, drop_at, length-take-le, length-set}
use Rattle.std.proofs.lemmas.Bool.{eq-eqb, ne_eqb}
use Rattle.volume.specs.declared.entry.Entry.{Entry}
use Rattle.edits.specs.Entries.{empty_of, blocks_of}
use Rattle.edits.specs.Edits.{spliced, rest, run_start, run_end, emptied}

-- a list with one entry written, in parts
set_parts : (es : List Entry) (i : ℕ) (e : Entry) → i < length es → set es i e ≡ take i es ++ e ∷ drop (i + 1) es
set_parts es i e l =
    sym (take-append-drop (i + 1) (set es i e))
    ∙ ap (λ z. z ++ drop (i + 1) (set es i e)) (take_more_set es i e l)
    ∙ ap (λ z. (take i es ++ e ∷ []) ++ z) (drop-set-lt (i + 1) es i e (omega arith))
    ∙ append_assoc (take i es) (e ∷ []) (drop (i + 1) es)

module _ (xs : List Entry) (n i : ℕ) (l : n ≤ length xs) (h : i < n) where
  long : i < length (take n xs)
  long = omega (arith, length-take-le n xs l)

  pub spliced-one : (e : Entry) → take n (set xs i e) ≡ spliced i 1 (e ∷ []) (take n xs)
  unfolding spliced
  spliced-one e = take-set-lt n xs i e h ∙ set_parts (take n xs) i e long

  pub spliced_by_two : (a b : Entry) → insert (take n (set xs i b)) i a ≡ spliced i 1 (a ∷ b ∷ []) (take n xs)
  unfolding spliced
  spliced_by_two a b =
      let es = take n xs in
      let front : take i (set es i b) ≡ take i es = take-set es i b in
      let back : drop i (set es i b) ≡ b ∷ drop (i + 1) es
      = ap (drop i) (set_parts es i b long) ∙ drop_at (take i es) (b ∷ drop (i + 1) es) i (length-take-le i es (omega (arith, long))) in
      ap (λ z. insert z i a) (take-set-lt n xs i b h) ∙ ap (λ z. z ++ a ∷ drop i (set es i b)) front ∙ ap (λ z. take i es ++ a ∷ z) back

  -- an entry written, and those behind it up to a place taken out
  pub closed_is : (to : ℕ) (e : Entry) → i < to
      → take (i + 1) (take n (set xs i e)) ++ drop to (take n (set xs i e)) ≡ take i (take n xs) ++ e ∷ drop to (take n xs)
  closed_is to e m =
      let es = take n xs in
      ap (λ z. take (i + 1) z ++ drop to z) (take-set-lt n xs i e h)
      ∙ ap (λ z. z ++ drop to (set es i e)) (take_more_set es i e long)
      ∙ ap (λ z. (take i es ++ e ∷ []) ++ z) (drop-set-lt to es i e m)
      ∙ append_assoc (take i es) (e ∷ []) (drop to es)

  -- two entries replaced by one, or by one and an empty
  pub two_by_one : (ys : List Entry) (e : Entry) (b : ℕ) → b ≡ 0
      → take (n - (i + 2 - (i + 1))) ys ≡ take (i + 1) (take n (set xs i e)) ++ drop (i + 2) (take n (set xs i e))
      → take (n - 1) ys ≡ spliced i 2 (e ∷ rest b) (take n xs)
  unfolding spliced
  two_by_one ys e b z q =
      let es = take n xs in
      let one : n - 1 ≡ n - (i + 2 - (i + 1)) = omega arith in
      ap (λ m. take m ys) one
      ∙ q
      ∙ closed_is (i + 2) e (omega arith)
      ∙ ap (λ t. take i es ++ ((e ∷ cond t [] (empty_of b ∷ [])) ++ drop (i + 2) es)) (sym (eq-eqb b 0 z))

  pub two_by_two : (e f : Entry) (b : ℕ) → i + 1 < n → (b ≡ 0 → ⊥) → f ≡ empty_of b
      → take n (set (set xs i e) (i + 1) f) ≡ spliced i 2 (e ∷ rest b) (take n xs)
  unfolding spliced
  two_by_two e f b m z q =
      let es = take n xs in
      let ys = set es i e in
      let ly : i + 1 < length ys = simp length-set (omega (arith, length-take-le n xs l)) in
      let two : i + 1 + 1 ≡ i + 2 = omega arith in
      take-set-lt n (set xs i e) (i + 1) f m
      ∙ ap (λ z. set z (i + 1) f) (take-set-lt n xs i e h)
      ∙ set_parts ys (i + 1) f ly
      ∙ ap (λ z. z ++ f ∷ drop (i + 1 + 1) ys) (take_more_set es i e long)
      ∙ ap (λ z. (take i es ++ e ∷ []) ++ f ∷ z) (drop-set-lt (i + 1 + 1) es i e (omega arith) ∙ ap (λ k. drop k es) two)
      ∙ append_assoc (take i es) (e ∷ []) (f ∷ drop (i + 2) es)
      ∙ ap (λ z. take i es ++ e ∷ z ∷ drop (i + 2) es) q
      ∙ ap (λ t. take i es ++ ((e ∷ cond t [] (empty_of b ∷ [])) ++ drop (i + 2) es)) (sym (ne_eqb b 0 z))

-- an entry made empty
pub emptied_is : (xs : List Entry) (n i from to : ℕ) (e : Entry) → n ≤ length xs → from < to → to ≤ n
    → from ≡ run_start (take n xs) i → to ≡ run_end (take n xs) i → e ≡ empty_of (blocks_of (between from to (take n xs)))
    → take (from + 1) (take n (set xs from e)) ++ drop to (take n (set xs from e)) ≡ emptied i (take n xs)
unfolding emptied
emptied_is xs n i from to e l h h₁ p q r =
    closed_is xs n from l (omega arith) to e h ∙ rw (← p, ← q, ← r) refl
