-- Rules 1 and 2, and rules 3, 5 and 7: header words, segment by segment.
use Rattle.std.proofs.Common.{◌≡◌, ℕ, zero, suc, ◌+◌, ◌*◌, ◌%◌, ◌<◌, ◌&&◌, eqb, leb, List, [], ◌∷◌, length, get_or, take, sym, refl, ◌∙◌, arith}
use Rattle.std.proofs.lemmas.Bool.Decides.{Decides-and, Decides-like, Decides-eqb}
use Rattle.std.proofs.ByRecursion.{Decides-by_and}
use Rattle.codec.specs.Words.{word_at}
use Rattle.segment.specs.Chains.{segment_at}
use Rattle.segment.specs.Directories.{entries_at}
use Rattle.directory.specs.Walks.{blocks_of}
use Rattle.directory.specs.Rules.{every, same_extra, contiguous_from}
use Rattle.rulebook.specs.Headers.{blocks_along, Contiguous, RuleOne, RuleTwo, RuleThree, RuleFive, RuleSeven}
use Rattle.rulebook.proofs.Deciding.{decides_leb}

pub rule_one : RuleOne
rule_one v = decides_leb 9 v

pub rule_two : RuleTwo
rule_two s v =
    let a = leb 1 s in
    let b = leb s 31 in
    let c = leb (7 + 2 * s) v in
    Decides-like (a && (b && c)) (λ h. (h.0, h.1.0, h.1.1)) (λ h. (h.0, (h.1, h.2)))
    (Decides-and a (b && c) (decides_leb 1 s) (Decides-and b c (decides_leb s 31) (decides_leb (7 + 2 * s) v)))

pub rule_three : RuleThree
rule_three h s = Decides-and (leb 1 h) (leb h s) (decides_leb 1 h) (decides_leb h s)

pub rule_five : RuleFive
rule_five x dir ks =
    let a = eqb (x % 2) 0 in
    let b = leb x 64 in
    let c = every (same_extra x dir) ks in
    Decides-like (a && (b && c)) (λ h. (h.0, h.1.0, h.1.1)) (λ h. (h.0, (h.1, h.2)))
    (Decides-and a (b && c) (Decides-eqb _ _)
    (Decides-and b c (decides_leb x 64)
    (Decides-by_and (same_extra x dir) (λ k. word_at (segment_at dir k) 6 ≡ x) (every (same_extra x dir)) (λ k. Decides-eqb _ _) refl (λ _ _. refl) ks)))

module _ (x : ℕ) (dir : List ℕ) (v at k : ℕ) (ks : List ℕ) where
  abbrev n : ℕ
  n = blocks_of (entries_at x dir k)

  -- the first segment begins at the block, and the others behind it
  abbrev Begins : Type 0
  Begins = (word_at (segment_at dir k) 8 ≡ at) × Contiguous x dir v (at + n) ks

  behind : (b : ℕ) → (at + n) + b ≡ at + (n + b)
  behind b = omega arith

  starts_more : Begins → (i : ℕ) → i < length (k ∷ ks)
      → word_at (segment_at dir (get_or (k ∷ ks) i 0)) 8 ≡ at + blocks_along x dir (take i (k ∷ ks))
  starts_more h zero l = h.0 ∙ omega arith
  starts_more h (suc i) l = h.1.0 i (omega arith) ∙ behind (blocks_along x dir (take i ks))

  starts_less : Contiguous x dir v at (k ∷ ks) → Begins
  starts_less h = (
    h.0 0 (omega arith) ∙ omega arith,
    ((λ i l. h.0 (suc i) (omega arith) ∙ sym (behind (blocks_along x dir (take i ks)))), behind (blocks_along x dir ks) ∙ h.1),
  )

pub rule_seven : RuleSeven
unfolding contiguous_from
rule_seven x dir v at [] =
    Decides-like (eqb at v) (λ e. (λ i l. absurd (omega arith), omega arith)) (λ h. omega (arith, h.1)) (Decides-eqb at v)
rule_seven x dir v at (k ∷ ks) =
    let m = at + blocks_of (entries_at x dir k) in
    Decides-like (eqb (word_at (segment_at dir k) 8) at && contiguous_from x dir v m ks)
    (λ h. (starts_more x dir v at k ks h, sym (behind x dir v at k ks (blocks_along x dir ks)) ∙ h.1.1)) (starts_less x dir v at k ks)
    (Decides-and _ (contiguous_from x dir v m ks) (Decides-eqb _ _) (rule_seven x dir v m ks))
