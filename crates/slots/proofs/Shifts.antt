-- Entries moved up or down one after another.
use Rattle.std.proofs.Common.{◌≡◌, ℕ, ◌+◌, ◌<◌, ◌≤◌, List, [], ◌∷◌, ◌++◌, length, get_or, take, drop, set, sym, ap, ◌∙◌, arith}
use Rattle.std.proofs.lemmas.List.{append_assoc, take_more_set, drop-set-lt, drop_more, take_at, take-append-le, length-take-le, length-append, length-drop, drop-append-le, take-append-drop}
use Rattle.std.proofs.lemmas.List.Edits.{length-insert}
use Rattle.std.specs.List.{insert}

module _ {X : Type 0} where
  pub insert_more : (xs : List X) (k : ℕ) (x d : X) → k < length xs
      → take (k + 1) (set xs k x) ++ get_or xs k d ∷ drop (k + 1) (set xs k x) ≡ take k xs ++ x ∷ drop k xs
  insert_more xs k x d h =
      let lt : k < k + 1 = omega arith in
      rw (take_more_set xs k x h, drop-set-lt (k + 1) xs k x lt, ← drop_more xs k d h) (append_assoc (take k xs) (x ∷ []) (drop k xs))

  inserted_append : (p q : List X) (i : ℕ) (x : X) → i ≤ length p → insert (p ++ q) i x ≡ insert p i x ++ q
  inserted_append p q i x h = rw (take-append-le i p q h, drop-append-le i p q h) (sym (append_assoc (take i p) (x ∷ drop i p) q))

  -- the front of what is left, by the front of what was there
  pub insert_all : (xs ys : List X) (n i : ℕ) (x y : X) → i ≤ n → n < length xs → n < length ys
      → take (n + 1) ys ++ y ∷ drop (n + 1) ys ≡ insert xs i x → take (n + 1) ys ≡ insert (take n xs) i x
  insert_all xs ys n i x y h l m e =
      let ln : length (take n xs) ≡ n = length-take-le n xs (omega arith) in
      let la : length (take (n + 1) ys) ≡ n + 1 = length-take-le (n + 1) ys (omega arith) in
      let li : length (insert (take n xs) i x) ≡ n + 1 = omega (arith, length-insert (take n xs) i x (omega arith)) in
      sym (take_at (take (n + 1) ys) (y ∷ drop (n + 1) ys) (n + 1) la)
      ∙ ap (take (n + 1)) (e ∙ ap (λ z. insert z i x) (sym (take-append-drop n xs)) ∙ inserted_append (take n xs) (drop n xs) i x (omega arith))
      ∙ take_at (insert (take n xs) i x) (drop n xs) (n + 1) li

  pub close_more : (xs : List X) (j k : ℕ) (d : X) → j ≤ k → k < length xs
      → take (j + 1) (set xs j (get_or xs k d)) ++ drop (k + 1) (set xs j (get_or xs k d)) ≡ take j xs ++ drop k xs
  close_more xs j k d h l =
      let lt : j < k + 1 = omega arith in
      let l₀ : j < length xs = omega arith in
      rw (take_more_set xs j (get_or xs k d) l₀, drop-set-lt (k + 1) xs j (get_or xs k d) lt)
      (append_assoc (take j xs) (get_or xs k d ∷ []) (drop (k + 1) xs) ∙ ap (λ z. take j xs ++ z) (sym (drop_more xs k d l)))

  pub close_all : (xs ys : List X) (n from to j : ℕ) → from ≤ to → to ≤ n → n ≤ length xs → n ≤ length ys → j + to ≡ n + from
      → take j ys ++ drop n ys ≡ take from xs ++ drop to xs → take j ys ≡ take from (take n xs) ++ drop to (take n xs)
  close_all xs ys n from to j h h₁ l m q e =
      let p = take n xs in
      let ln : length p ≡ n = length-take-le n xs l in
      let lf : from ≤ length p = omega arith in
      let lt : to ≤ length p = omega arith in
      let la : length (take j ys) ≡ j = length-take-le j ys (omega arith) in
      let li : length (take from p ++ drop to p) ≡ j
      = length-append (take from p) (drop to p) ∙ omega (arith, length-take-le from p lf, length-drop to p) in
      let t : take from xs ≡ take from p = ap (take from) (sym (take-append-drop n xs)) ∙ take-append-le from p (drop n xs) lf in
      let d : drop to xs ≡ drop to p ++ drop n xs = ap (drop to) (sym (take-append-drop n xs)) ∙ drop-append-le to p (drop n xs) lt in
      sym (take_at (take j ys) (drop n ys) j la)
      ∙ ap (take j) (e ∙ ap (λ z. z ++ drop to xs) t ∙ ap (λ z. take from p ++ z) d ∙ sym (append_assoc (take from p) (drop to p) (drop n xs)))
      ∙ take_at (take from p ++ drop to p) (drop n xs) j li
