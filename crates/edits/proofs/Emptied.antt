-- An entry that becomes empty and joins the run around it: an edit that replaces the run.
use Rattle.std.proofs.Common.{◌≡◌, ℕ, zero, suc, ◌+◌, ◌-◌, ◌<◌, ◌≤◌, Bool, true, false, List, [], ◌∷◌, ◌++◌, length, get_or, take, drop, sym, refl, ap, ◌∙◌, inl, inr, add-one, arith, take-suc}
use Rattle.std.specs.List.{prefix_len, suffix_len, between}
use Rattle.std.proofs.lemmas.List.{length-take-le, length-take, length-drop, drop-append-le, drop_all, drop-drop, take-take, take-append-drop}
use Rattle.std.proofs.lemmas.List.Sums.{suffix_len-take_yes, suffix_len-take_no, prefix_len-le-length}
use Rattle.std.proofs.lemmas.List.Edits.{split_between, length-between}
use Rattle.std.proofs.lemmas.Bool.{cases_Bool, cond_both}
use Rattle.volume.specs.declared.entry.Entry.{Entry}
use Rattle.edits.specs.Entries.{is_empty, empty_of, blocks_of, count}
use Rattle.edits.specs.Edits.{run_start, run_end, emptied}
use Rattle.edits.specs.Laws.{EmptiedJoins}
use Rattle.edits.proofs.Counts.{one, count-nil, count-cons, count_no, count-append}
use Rattle.edits.proofs.Edited.{Edit}

-- a test that fails where another passes
abbrev pub Shuns : (Entry → Bool) → (Entry → Bool) → Type 0
Shuns q p = (e : Entry) → p e ≡ true → q e ≡ false

module _ (p q : Entry → Bool) (s : Shuns q p) where
  leading_none : (xs : List Entry) → count q (take (prefix_len p xs) xs) ≡ 0
  leading_none [] = count-nil q
  leading_none (x ∷ xs) =
      cond_both (p x) (1 + prefix_len p xs) 0 (λ n. count q (take n (x ∷ xs)) ≡ 0)
      (λ y. let n : 1 + prefix_len p xs ≡ suc (prefix_len p xs) = omega arith in
      rw n (count_no q x (take (prefix_len p xs) xs) (s x y) ∙ leading_none xs))
      (λ _. count-nil q)

  ending_none : (xs : List Entry) (d : Entry) (n : ℕ) → n ≤ length xs
      → count q (drop (n - suffix_len p (take n xs)) (take n xs)) ≡ 0
  ending_none xs d zero h = count-nil q
  ending_none xs d (suc n) h =
      let less : suc n - 1 ≡ n = omega arith in
      let le : n ≤ length xs = omega arith in
      let lt : 0 < suc n = omega arith in
      let ih : count q (drop (n - suffix_len p (take n xs)) (take n xs)) ≡ 0 = ending_none xs d n le in
      let two = take-suc xs n d (omega arith) in
      elim (cases_Bool (p (get_or xs n d))) [
        | inl y ↦
            let e : suffix_len p (take (suc n) xs) ≡ 1 + suffix_len p (take n xs) = rw less at (suffix_len-take_yes p xs (suc n) d lt h (rw less y)) in
            let m : suc n - suffix_len p (take (suc n) xs) ≡ n - suffix_len p (take n xs) = omega (arith, e) in
            let l : n - suffix_len p (take n xs) ≤ length (take n xs) = omega (arith, length-take-le n xs le) in
            rw (m, two, drop-append-le (n - suffix_len p (take n xs)) (take n xs) (get_or xs n d ∷ []) l)
            (count-append q (drop (n - suffix_len p (take n xs)) (take n xs)) (get_or xs n d ∷ [])
            ∙ omega (arith, ih, count_no q (get_or xs n d) [] (s (get_or xs n d) y), count-nil q))
        | inr y ↦
            let e : suffix_len p (take (suc n) xs) ≡ 0 = suffix_len-take_no p xs (suc n) d lt h (rw less y) in
            let m : length (take (suc n) xs) ≤ suc n - suffix_len p (take (suc n) xs) = omega (arith, e, length-take (suc n) xs) in
            rw (drop_all (suc n - suffix_len p (take (suc n) xs)) (take (suc n) xs) m) (count-nil q)
      ]

module _ (i : ℕ) (e : Entry) (es : List Entry) (h : drop i es ≡ e ∷ drop (suc i) es) where
  -- the run
  abbrev pub run : List Entry
  run = between (run_start es i) (run_end es i) es

  inside : i < length es
  inside = omega (arith, simp length-drop at (ap length h))

  low : run_start es i ≤ i
  unfolding run_start
  low = omega arith

  high : i < run_end es i
  unfolding run_end
  high = omega arith

  pub emptied_edit : Edit (take (run_start es i) es) run (empty_of (blocks_of run) ∷ []) es (emptied i es)
  unfolding emptied
  emptied_edit =
      let l : run_start es i ≤ run_end es i = omega (arith, low, high) in
      record { after = drop (run_end es i) es; was = split_between es (run_start es i) (run_end es i) l; now = refl }

  pub run_length : 1 ≤ length run
  unfolding run_end
  run_length =
      let r : run_end es i ≤ length es =
      omega (arith, prefix_len-le-length is_empty (drop (i + 1) es), length-drop (i + 1) es, inside) in
      omega (arith, length-between es (run_start es i) (run_end es i) r, low, high)

  -- of what no empty passes, the run has just the entry
  pub run-count : (q : Entry → Bool) → Shuns q is_empty → count q run ≡ one (q e)
  unfolding run_start run_end
  run-count q s =
      let m = prefix_len is_empty (drop (i + 1) es) in
      let start = run_start es i in
      let whole = ap (count q) (split_between es start (run_end es i) (omega (arith, low, high)))
      ∙ (count-append q (take start es) (run ++ drop (run_end es i) es)
      ∙ ap (λ n. count q (take start es) + n) (count-append q run (drop (run_end es i) es))) in
      let here = ap (count q) (sym (take-append-drop i es) ∙ ap (λ l. take i es ++ l) h)
      ∙ (count-append q (take i es) (e ∷ drop (suc i) es)
      ∙ ap (λ n. count q (take i es) + n) (count-cons q e (drop (suc i) es))) in
      let front = ap (count q) (sym (take-append-drop start (take i es)))
      ∙ (count-append q (take start (take i es)) (drop start (take i es))
      ∙ ap (λ l. count q l + count q (drop start (take i es))) (take-take start i es low)) in
      let back = ap (count q) (sym (take-append-drop m (drop (i + 1) es)))
      ∙ (count-append q (take m (drop (i + 1) es)) (drop m (drop (i + 1) es))
      ∙ ap (λ l. count q (take m (drop (i + 1) es)) + count q l) (drop-drop m (i + 1) es)) in
      let same = ap (λ n. count q (drop n es)) (add-one i) in
      omega (arith, whole, here, front, back, same, leading_none is_empty q s (drop (i + 1) es), ending_none is_empty q s es e i (omega (arith, inside)))

-- what stands beside the run is no empty
leading_rest : (p : Entry → Bool) (xs : List Entry) → prefix_len p (drop (prefix_len p xs) xs) ≡ 0
leading_rest p [] = refl
leading_rest p (x ∷ xs) =
    elim (cases_Bool (p x)) [
      | inl y ↦
          let n : 1 + prefix_len p xs ≡ suc (prefix_len p xs) = omega arith in
          let m : prefix_len p (x ∷ xs) ≡ suc (prefix_len p xs) = rw y n in
          ap (λ k. prefix_len p (drop k (x ∷ xs))) m ∙ leading_rest p xs
      | inr y ↦
          let m : prefix_len p (x ∷ xs) ≡ 0 = rw y in
          ap (λ k. prefix_len p (drop k (x ∷ xs))) m ∙ m
    ]

ending_rest : (p : Entry → Bool) (xs : List Entry) (d : Entry) (n : ℕ) → n ≤ length xs
    → suffix_len p (take (n - suffix_len p (take n xs)) xs) ≡ 0
ending_rest p xs d zero h = refl
ending_rest p xs d (suc n) h =
    let less : suc n - 1 ≡ n = omega arith in
    let lt : 0 < suc n = omega arith in
    elim (cases_Bool (p (get_or xs n d))) [
      | inl y ↦
          let e : suffix_len p (take (suc n) xs) ≡ 1 + suffix_len p (take n xs) =
          rw less at (suffix_len-take_yes p xs (suc n) d lt h (rw less y)) in
          let m : suc n - suffix_len p (take (suc n) xs) ≡ n - suffix_len p (take n xs) = omega (arith, e) in
          ap (λ k. suffix_len p (take k xs)) m ∙ ending_rest p xs d n (omega arith)
      | inr y ↦
          let e : suffix_len p (take (suc n) xs) ≡ 0 = suffix_len-take_no p xs (suc n) d lt h (rw less y) in
          let m : suc n - suffix_len p (take (suc n) xs) ≡ suc n = omega (arith, e) in
          ap (λ k. suffix_len p (take k xs)) m ∙ e
    ]

pub emptied_joins : EmptiedJoins
unfolding emptied run_start run_end
emptied_joins i es h =
    record {
      before = take (run_start es i) es;
      after = drop (run_end es i) es;
      blocks = blocks_of (between (run_start es i) (run_end es i) es);
      is = refl;
      none_before = ending_rest is_empty es (empty_of 0) i (omega arith);
      none_after =
          ap (prefix_len is_empty) (sym (drop-drop (prefix_len is_empty (drop (i + 1) es)) (i + 1) es))
          ∙ leading_rest is_empty (drop (i + 1) es);
    }
