-- A directory of which one segment is written over.
use Rattle.std.proofs.Common.{◌≡◌, ℕ, ◌+◌, ◌-◌, ◌*◌, ◌<◌, ◌≤◌, List, ◌++◌, length, take, drop, sym, ap, ◌∙◌, inl, inr, arith}
use Rattle.std.proofs.lemmas.List.{append_assoc, length-append, length-take-le, length-drop, take_at, drop_at, drop-drop, take-append-le, drop-append-le, take-append-drop}
use Rattle.std.proofs.lemmas.Bool.{cases_lt}
use Rattle.codec.specs.Words.{written}
use Rattle.segment.specs.Chains.{segment_at}

front : (p r : List ℕ) (m : ℕ) → m + 1024 ≤ length p → take 1024 (drop m (p ++ r)) ≡ take 1024 (drop m p)
front p r m h =
    ap (take 1024) (drop-append-le m p r (omega arith)) ∙ take-append-le 1024 (drop m p) r (simp length-drop (omega arith))

module _ (dir : List ℕ) (k : ℕ) (bytes : List ℕ) (l : length bytes ≡ 1024) (h : 1 ≤ k) (f : 1024 * k ≤ length dir) where
  abbrev pub over : List ℕ
  over = written dir (1024 * (k - 1)) bytes

  pub segment_same : segment_at over k ≡ bytes
  unfolding written
  segment_same =
      let a : ℕ = 1024 * (k - 1) in
      ap (take 1024) (drop_at (take a dir) _ a (length-take-le a dir (omega arith))) ∙ take_at bytes _ 1024 l

  segment_before : (j : ℕ) → 1 ≤ j → j < k → segment_at over j ≡ segment_at dir j
  unfolding written
  segment_before j p q =
      let a : ℕ = 1024 * (k - 1) in
      let m : ℕ = 1024 * (j - 1) in
      let n : length (take a dir) ≡ a = length-take-le a dir (omega arith) in
      front (take a dir) _ m (omega arith)
      ∙ sym (front (take a dir) (drop a dir) m (omega arith))
      ∙ ap (λ (z : List ℕ). take 1024 (drop m z)) (take-append-drop a dir)

  segment_behind : (j : ℕ) → k < j → segment_at over j ≡ segment_at dir j
  unfolding written
  segment_behind j q =
      let a : ℕ = 1024 * (k - 1) in
      let m : ℕ = 1024 * (j - 1) in
      let n : length (take a dir ++ bytes) ≡ a + length bytes = length-append (take a dir) bytes ∙ ap (λ (z : ℕ). z + length bytes) (length-take-le a dir (omega arith)) in
      let o : a + length bytes + (m - (a + length bytes)) ≡ m = omega arith in
      let past : (w : List ℕ) → drop (m - (a + length bytes)) (drop (a + length bytes) w) ≡ drop m w
      = λ w. drop-drop (m - (a + length bytes)) (a + length bytes) w ∙ ap (λ (z : ℕ). drop z w) o in
      ap (take 1024)
      (ap (drop m) (sym (append_assoc (take a dir) bytes (drop (a + length bytes) dir)))
      ∙ sym (past ((take a dir ++ bytes) ++ drop (a + length bytes) dir))
      ∙ ap (drop (m - (a + length bytes))) (drop_at (take a dir ++ bytes) (drop (a + length bytes) dir) (a + length bytes) n)
      ∙ past dir)

  pub segment_other : (j : ℕ) → 1 ≤ j → (j ≡ k → ⊥) → segment_at over j ≡ segment_at dir j
  segment_other j p q =
      elim (cases_lt j k) [
        | inl r ↦ segment_before j p r
        | inr r ↦ segment_behind j (let s : k ≡ j → ⊥ = λ e. q (sym e) in omega arith)
      ]

  pub over-long : length over ≡ length dir
  unfolding written
  over-long =
      let a : ℕ = 1024 * (k - 1) in
      length-append (take a dir) _ ∙ omega (arith, length-append bytes (drop (a + length bytes) dir), length-take-le a dir (omega arith), length-drop (a + length bytes) dir)
