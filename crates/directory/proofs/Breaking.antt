-- The first broken rule, by where the test ends.
use Rattle.std.proofs.Common.{◌≡◌, ℕ, ◌+◌, ◌*◌, ◌≤◌, Bool, true, false, List, length, take, Some, None, Option, sym, ap, ◌∙◌, arith, length-take}
use Rattle.std.specs.List.{AllByRecursion}
use Rattle.std.proofs.ByRecursion.{All-weaker}
use Rattle.std.proofs.lemmas.Bool.{cond-true, cond-false}
use Rattle.codec.specs.Words.{word_at}
use Rattle.segment.specs.Chains.{next_of, chain_from}
use Rattle.directory.specs.declared.pending.Pending.{Pending}
use Rattle.directory.specs.Rules.{in_use, broken_along, broken_by, broken_rule}

-- h, s and x are what the code has of the words H, S and x
module _ (dir : List ℕ) (v : ℕ) (o : Option Pending) (h s : ℕ) (hp : h ≡ word_at dir 4) (sp : s ≡ word_at dir 0) where
  used : (t : Bool) → in_use h s ≡ t → in_use (word_at dir 4) (word_at dir 0) ≡ t
  used t e = ap (λ (z : ℕ). in_use z (word_at dir 0)) (sym hp) ∙ ap (in_use h) (sym sp) ∙ e

  pub rule_three : in_use h s ≡ false → 3 ≡ broken_rule dir v o
  unfolding broken_rule
  rule_three e = sym (cond-false _ _ _ (used false e))

  by_chain : in_use h s ≡ true → (c : Option (List ℕ)) → c ≡ chain_from h h (next_of dir) 1 → broken_rule dir v o ≡ broken_by dir v o c
  unfolding broken_rule
  by_chain e c q =
      cond-true _ _ _ (used true e)
      ∙ ap (λ (z : ℕ). broken_by dir v o (chain_from z z (next_of dir) 1)) (sym hp)
      ∙ ap (broken_by dir v o) (sym q)

  pub rule_four : in_use h s ≡ true → None ≡ chain_from h h (next_of dir) 1 → 4 ≡ broken_rule dir v o
  rule_four e q = sym (by_chain e None q)

  pub rules_rest : in_use h s ≡ true → (ks : List ℕ) → Some ks ≡ chain_from h h (next_of dir) 1 → (x : ℕ) → x ≡ word_at dir 6
      → broken_along x dir v (6 + 2 * s) o ks ≡ broken_rule dir v o
  rules_rest e ks q x xp =
      ap (λ (z : ℕ). broken_along z dir v (6 + 2 * s) o ks) xp ∙ ap (λ (z : ℕ). broken_along (word_at dir 6) dir v (6 + 2 * z) o ks) sp ∙ sym (by_chain e (Some ks) q)

-- segments of 1 to h lie in a directory of at least h
pub in_range : (n h : ℕ) → 1024 * h ≤ n → (ks : List ℕ) → AllByRecursion (λ k. (1 ≤ k) × (k ≤ h)) ks → AllByRecursion (λ k. (1 ≤ k) × (1024 * k ≤ n)) ks
in_range n h l ks a = All-weaker (λ k. (1 ≤ k) × (k ≤ h)) (λ k. (1 ≤ k) × (1024 * k ≤ n)) (λ k p. (p.0, omega (arith, p.1))) ks a

pub few_taken : (n : ℕ) (ks : List ℕ) → length (take n ks) ≤ n
few_taken n ks = omega (arith, length-take n ks)
