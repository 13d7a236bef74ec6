-- What the rules say of the chain of a sound directory.
use Rattle.std.proofs.Common.{◌≡◌, ℕ, ◌+◌, ◌*◌, ◌<◌, ◌≤◌, Bool, true, false, cond, leb, List, [], length, Some, None, Option, unwrap_or, sym, subst, refl, ap, ◌∙◌, arith}
use Rattle.std.specs.Option.{option_map, IsSome}
use Rattle.std.specs.List.{AllByRecursion}
use Rattle.std.specs.Coded.{le_prop}
use Rattle.std.proofs.Math.Logic.{∥∥₁_elim}
use Rattle.std.proofs.lemmas.Bool.Decides.{nat_tests}
use Rattle.codec.specs.Words.{word_at}
use Rattle.segment.proofs.Rule4 as four
use Rattle.segment.specs.declared.order.Chain.{Chain}
use Rattle.segment.specs.Chains.{next_of, chain_from, order_of}
use Rattle.segment.specs.Directories.{chain_of}
use Rattle.directory.specs.Walks.{spot, Readable, OnWay, OnWay-prop}
use Rattle.directory.specs.Rules.{in_use, every, extra_sound, lawful_at, broken_along, broken_by, broken_rule}
use Rattle.directory.specs.Sounds.{SoundBytes}
use Rattle.directory.proofs.Tests.{all_both}
use Rattle.directory.proofs.Counting.{on_whole}
use Rattle.directory.proofs.Breaking.{in_range}

-- where a test leads to 0, it held
both : (t : Bool) (a b : ℕ) → 0 < b → cond t a b ≡ 0 → (t ≡ true) × (a ≡ 0)
both true a b l e = (refl, e)
both false a b l e = absurd (omega arith)

pub chain_is : (dir ks : List ℕ) → Some ks ≡ chain_from (word_at dir 4) (word_at dir 4) (next_of dir) 1 → ks ≡ chain_of dir
unfolding chain_of
chain_is dir ks q = ap (λ (o : Option (List ℕ)). unwrap_or o []) q

module _ (dir : List ℕ) (s : SoundBytes dir) where
  h : ℕ
  h = word_at dir 4

  pub used : (in_use (word_at dir 4) (word_at dir 0) ≡ true) × (broken_by dir s.blocks s.output (chain_from (word_at dir 4) (word_at dir 4) (next_of dir) 1) ≡ 0)
  unfolding broken_rule
  used = both _ _ 3 (omega arith) s.sound

  pub highest : word_at dir 4 ≤ word_at dir 0
  highest = go (leb (word_at dir 4) (word_at dir 0)) refl
    where
      go : (t : Bool) → leb (word_at dir 4) (word_at dir 0) ≡ t → word_at dir 4 ≤ word_at dir 0
      go t e = let u = used.0 in grind (arith, nat_tests)

  module _ (ks : List ℕ) (q : Some ks ≡ chain_from (word_at dir 4) (word_at dir 4) (next_of dir) 1) where
    along : broken_along (word_at dir 6) dir s.blocks (6 + 2 * word_at dir 0) s.output ks ≡ 0
    along = ap (broken_by dir s.blocks s.output) q ∙ used.1

    sound : (extra_sound (word_at dir 6) dir ks ≡ true) × (every (lawful_at (word_at dir 6) dir) ks ≡ true)
    unfolding broken_along
    sound = let a = both _ _ 5 (omega arith) along in (a.0, (both _ _ 6 (omega arith) a.1).0)

    pub readable : AllByRecursion (λ k. (1 ≤ k) × (k ≤ word_at dir 4)) ks → AllByRecursion (Readable (word_at dir 6) dir) ks
    readable a =
        all_both (λ k. (1 ≤ k) × (1024 * k ≤ length dir)) (lawful_at (word_at dir 6) dir) (Readable (word_at dir 6) dir) (λ k p r. (p.0, p.1, r)) ks
        (in_range (length dir) (word_at dir 4) (omega (arith, highest, s.long)) ks a) sound.1

    pub on_chain : AllByRecursion (λ k. (1 ≤ k) × (k ≤ word_at dir 4)) ks → length ks ≤ 31 → OnWay (word_at dir 6) dir ks (spot 0 0 (6 + 2 * word_at dir 0))
    on_chain a l = on_whole (word_at dir 6) dir ks (6 + 2 * word_at dir 0) (readable a) l (omega (arith, s.few))

  pub no_chain : None ≡ chain_from (word_at dir 4) (word_at dir 4) (next_of dir) 1 → ⊥
  no_chain q = let z : ◌≡◌ {A = ℕ} 4 0 = ap (broken_by dir s.blocks s.output) q ∙ used.1 in omega arith

  -- the chain that is found
  found : (ks : List ℕ) × (Some ks ≡ chain_from (word_at dir 4) (word_at dir 4) (next_of dir) 1)
  found = go (chain_from (word_at dir 4) (word_at dir 4) (next_of dir) 1) refl
    where
      go : (o : Option (List ℕ)) → o ≡ chain_from (word_at dir 4) (word_at dir 4) (next_of dir) 1
          → (ks : List ℕ) × (Some ks ≡ chain_from (word_at dir 4) (word_at dir 4) (next_of dir) 1)
      go (Some ks) q = (ks, q)
      go None q = absurd (no_chain q)

  found-few : length found.0 ≤ 31
  found-few = omega (arith, (four.along (word_at dir 4) (next_of dir) (word_at dir 4) 1 found.0 (sym found.1)).long, highest, s.few)

  pub chain_few : length (chain_of dir) ≤ 31
  chain_few = subst (λ (ks : List ℕ). length ks ≤ 31) (chain_is dir found.0 found.1) found-few

  pub chain_way : OnWay (word_at dir 6) dir (chain_of dir) (spot 0 0 (6 + 2 * word_at dir 0))
  chain_way =
      subst (λ (ks : List ℕ). OnWay (word_at dir 6) dir ks (spot 0 0 (6 + 2 * word_at dir 0))) (chain_is dir found.0 found.1)
      (on_chain found.0 found.1 (four.chain_inside (word_at dir 4) (next_of dir) (word_at dir 4) 1 found.0 (sym found.1)) found-few)

-- what is found along h segments, h the word H of a sound directory: its chain
module _ (dir : List ℕ) (s : ∥ SoundBytes dir ∥₁) (h : ℕ) (e : h ≡ word_at dir 4) where
  by_word : {o : Option (List ℕ)} → o ≡ chain_from h h (next_of dir) 1 → o ≡ chain_from (word_at dir 4) (word_at dir 4) (next_of dir) 1
  by_word q = q ∙ ap (λ (z : ℕ). chain_from z z (next_of dir) 1) e

  pub chain_there : (o : Option Chain) → option_map order_of o ≡ chain_from h h (next_of dir) 1 → IsSome o
  chain_there (Some c) q = refl
  chain_there None q = absurd (let z : 1 ≤ 0 = ∥∥₁_elim s le_prop (λ t. absurd (no_chain dir t (by_word q))) in omega arith)

  module _ (ks : List ℕ) (q : Some ks ≡ chain_from h h (next_of dir) 1) where
    pub order_found : ks ≡ chain_of dir
    order_found = chain_is dir ks (by_word q)

    pub way_found : OnWay (word_at dir 6) dir ks (spot 0 0 (6 + 2 * word_at dir 0))
    way_found =
        ∥∥₁_elim s (OnWay-prop (word_at dir 6) dir ks (spot 0 0 (6 + 2 * word_at dir 0)))
        (λ t. subst (λ (js : List ℕ). OnWay (word_at dir 6) dir js (spot 0 0 (6 + 2 * word_at dir 0))) (sym order_found) (chain_way dir t))
