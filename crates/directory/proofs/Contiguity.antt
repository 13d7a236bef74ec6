-- Rule 7, segment by segment.
use Rattle.std.proofs.Common.{◌≡◌, ℕ, ◌+◌, ◌<◌, ◌≤◌, false, eqb, List, length, get_or, drop, refl, ◌∙◌}
use Rattle.std.proofs.lemmas.List.{at_drop_more, at_drop_all}
use Rattle.std.proofs.lemmas.Bool.{eq-eqb, ne_eqb}
use Rattle.codec.specs.Words.{word_at}
use Rattle.segment.specs.Chains.{segment_at}
use Rattle.segment.specs.Directories.{entries_at}
use Rattle.directory.specs.Walks.{blocks_of}
use Rattle.directory.specs.Rules.{contiguous_from}

module _ (x : ℕ) (dir : List ℕ) (v at : ℕ) (ks : List ℕ) (i : ℕ) where
  pub starts_on : i < length ks → word_at (segment_at dir (get_or ks i 0)) 8 ≡ at
      → contiguous_from x dir v at (drop i ks) ≡ contiguous_from x dir v (at + blocks_of (entries_at x dir (get_or ks i 0))) (drop (i + 1) ks)
  unfolding contiguous_from
  starts_on h e = at_drop_more (contiguous_from x dir v at) ks i 0 h ∙ rw (eq-eqb (word_at (segment_at dir (get_or ks i 0)) 8) at e) refl

  pub starts_off : i < length ks → (word_at (segment_at dir (get_or ks i 0)) 8 ≡ at → ⊥) → contiguous_from x dir v at (drop i ks) ≡ false
  unfolding contiguous_from
  starts_off h e = at_drop_more (contiguous_from x dir v at) ks i 0 h ∙ rw (ne_eqb (word_at (segment_at dir (get_or ks i 0)) 8) at e) refl

  pub starts_end : length ks ≤ i → contiguous_from x dir v at (drop i ks) ≡ eqb at v
  unfolding contiguous_from
  starts_end h = at_drop_all (contiguous_from x dir v at) ks i h
