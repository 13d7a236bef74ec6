-- Counts and blocks of lists, and the first entry that passes a test.
use Rattle.std.proofs.Common.{◌≡◌, ℕ, ◌+◌, Bool, true, false, cond, List, [], ◌∷◌, ◌++◌, Some, None, sym, refl, ap, ◌∙◌, add-zero, add_assoc, arith}
use Rattle.std.proofs.lemmas.List.Sums.{sum_by-cons, sum_by-append}
use Rattle.std.proofs.lemmas.List.{append-nil}
use Rattle.volume.specs.declared.entry.Entry.{Entry}
use Rattle.edits.specs.Entries.{is_file, blocks_of, count, standing}
use Rattle.edits.specs.Directories.{file_of, files_from}

pub blocks_nil : blocks_of [] ≡ 0
unfolding blocks_of
blocks_nil = refl

pub blocks_cons : (e : Entry) (es : List Entry) → blocks_of (e ∷ es) ≡ e.length + blocks_of es
unfolding blocks_of
blocks_cons e es = refl

pub blocks_append : (xs ys : List Entry) → blocks_of (xs ++ ys) ≡ blocks_of xs + blocks_of ys
unfolding blocks_of
blocks_append [] ys = omega arith
blocks_append (x ∷ xs) ys = ap (λ n. x.length + n) (blocks_append xs ys) ∙ sym (add_assoc x.length (blocks_of xs) (blocks_of ys))

abbrev pub one : Bool → ℕ
one b = cond b 1 0

module _ {X : Type 0} (p : X → Bool) where
  pub count-nil : count p [] ≡ 0
  unfolding count
  count-nil = refl

  pub count-cons : (x : X) (xs : List X) → count p (x ∷ xs) ≡ one (p x) + count p xs
  unfolding count
  count-cons x xs = sum_by-cons (λ x. cond (p x) 1 0) x xs

  pub count-append : (xs ys : List X) → count p (xs ++ ys) ≡ count p xs + count p ys
  unfolding count
  count-append xs ys = sum_by-append (λ x. cond (p x) 1 0) xs ys

  pub count_yes : (x : X) (xs : List X) → p x ≡ true → count p (x ∷ xs) ≡ 1 + count p xs
  count_yes x xs h = count-cons x xs ∙ ap (λ b. one b + count p xs) h

  pub count_no : (x : X) (xs : List X) → p x ≡ false → count p (x ∷ xs) ≡ count p xs
  count_no x xs h = let e = count-cons x xs ∙ ap (λ b. one b + count p xs) h in omega (arith, e)

  -- what passes no entry is not among none
  pub count_head : (x : X) (xs : List X) → count p (x ∷ xs) ≡ 0 → p x ≡ false
  count_head x xs h = go (p x) refl
    where
      go : (b : Bool) → p x ≡ b → b ≡ false
      go true e = absurd (omega (arith, h, count_yes x xs e))
      go false e = refl

module _ (p : Entry → Bool) where
  pub standing_skip : (at : ℕ) (xs ys : List Entry) → count p xs ≡ 0
      → standing p at (xs ++ ys) ≡ standing p (at + blocks_of xs) ys
  unfolding standing
  standing_skip at [] ys h = rw (blocks_nil, add-zero)
  standing_skip at (e ∷ xs) ys h =
      let no = count_head p e xs h in
      let h' : count p xs ≡ 0 = sym (count_no p e xs no) ∙ h in
      let n : at + e.length + blocks_of xs ≡ at + blocks_of (e ∷ xs) = omega (arith, blocks_cons e xs) in
      rw no (standing_skip (at + e.length) xs ys h' ∙ ap (λ n. standing p n ys) n)

  pub standing_under : (at : ℕ) (a xs ys : List Entry) → ((at : ℕ) → standing p at xs ≡ standing p at ys)
      → standing p at (a ++ xs) ≡ standing p at (a ++ ys)
  unfolding standing
  standing_under at [] xs ys h = h at
  standing_under at (e ∷ a) xs ys h =
      ap (λ r. cond (p e) (Some (record { start = at; entry = e })) r) (standing_under (at + e.length) a xs ys h)

  pub standing-none : (at : ℕ) (xs : List Entry) → count p xs ≡ 0 → standing p at xs ≡ None
  unfolding standing
  standing-none at xs h = ap (standing p at) (sym (append-nil xs)) ∙ standing_skip at xs [] h

  pub standing_here : (at : ℕ) (a : List Entry) (e : Entry) (b : List Entry) → count p a ≡ 0 → p e ≡ true
      → standing p at (a ++ e ∷ b) ≡ Some (record { start = at + blocks_of a; entry = e })
  unfolding standing
  standing_here at a e b h y = standing_skip at a (e ∷ b) h ∙ rw y

pub files_skip : (at : ℕ) (xs ys : List Entry) → count is_file xs ≡ 0 → files_from at (xs ++ ys) ≡ files_from (at + blocks_of xs) ys
unfolding files_from
files_skip at [] ys h = rw (blocks_nil, add-zero)
files_skip at (e ∷ xs) ys h =
    let no = count_head is_file e xs h in
    let h' : count is_file xs ≡ 0 = sym (count_no is_file e xs no) ∙ h in
    let n : at + e.length + blocks_of xs ≡ at + blocks_of (e ∷ xs) = omega (arith, blocks_cons e xs) in
    rw no (files_skip (at + e.length) xs ys h' ∙ ap (λ n. files_from n ys) n)

pub files_under : (at : ℕ) (a xs ys : List Entry) → ((at : ℕ) → files_from at xs ≡ files_from at ys)
    → files_from at (a ++ xs) ≡ files_from at (a ++ ys)
unfolding files_from
files_under at [] xs ys h = h at
files_under at (e ∷ a) xs ys h =
    ap (λ r. cond (is_file e) (file_of (record { start = at; entry = e }) ∷ r) r) (files_under (at + e.length) a xs ys h)
