-- One entry more or none, for each question.
use Rattle.std.proofs.Common.{◌≡◌, ◌+◌, Bool, true, false, cond, ◌&&◌, List, [], ◌∷◌, length, Some, None, refl, ap, ◌∙◌, arith}
use Rattle.std.specs.List.{filter}
use Rattle.std.proofs.lemmas.Bool.{cond-true, cond-false}
use Rattle.codec.specs.declared.name.Name.{Name}
use Rattle.directory.specs.declared.placed.Placed.{Placed}
use Rattle.directory.specs.Finds.{is_tentative, is_named, first_named, tentatives, blocks_in, alone, all_apart}

module _ (n : Name) (l : List Placed) {p : Placed} {r : List Placed} (e : l ≡ p ∷ r) where
  pub named : is_named n p ≡ true → first_named n l ≡ Some p
  unfolding first_named
  named h = ap (first_named n) e ∙ cond-true _ _ _ h

  pub not_named : is_named n p ≡ false → first_named n l ≡ first_named n r
  unfolding first_named
  not_named h = ap (first_named n) e ∙ cond-false _ _ _ h

pub named_none : (n : Name) (l : List Placed) → l ≡ [] → first_named n l ≡ None
unfolding first_named
named_none n l e = ap (first_named n) e

-- the tentative entries, picked out
pub tentatives_filtered : (l : List Placed) → length (filter is_tentative l) ≡ tentatives l
unfolding tentatives
tentatives_filtered [] = refl
tentatives_filtered (p ∷ ps) = go (is_tentative p) (tentatives_filtered ps)
  where
    go : (t : Bool) → length (filter is_tentative ps) ≡ tentatives ps → length (cond t (p ∷ filter is_tentative ps) (filter is_tentative ps)) ≡ cond t 1 0 + tentatives ps
    go true e = omega (arith, e)
    go false e = omega (arith, e)

module _ (l : List Placed) {p : Placed} {r : List Placed} (e : l ≡ p ∷ r) where
  pub blocks_on : blocks_in l ≡ p.length + blocks_in r
  unfolding blocks_in
  blocks_on = ap blocks_in e

  pub apart_on : alone p r ≡ true → all_apart l ≡ all_apart r
  unfolding all_apart
  apart_on h = ap all_apart e ∙ ap (λ (t : Bool). t && all_apart r) h

  pub apart_off : alone p r ≡ false → all_apart l ≡ false
  unfolding all_apart
  apart_off h = ap all_apart e ∙ ap (λ (t : Bool). t && all_apart r) h

pub blocks_none : (l : List Placed) → l ≡ [] → blocks_in l ≡ 0
unfolding blocks_in
blocks_none l e = ap blocks_in e

pub apart_none : (l : List Placed) → l ≡ [] → all_apart l ≡ true
unfolding all_apart
apart_none l e = ap all_apart e
