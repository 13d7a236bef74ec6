-- Rule 4: the chain that is found is the chain.
use Rattle.std.proofs.Common.{◌≡◌, ℕ, true, List, [], ◌∷◌, is_some, Some, None, Option, sym, refl, ap, ◌∙◌, arith}
use Rattle.std.proofs.lemmas.Bool.{false≢true}
use Rattle.segment.specs.Chains.{next_of, chain_from}
use Rattle.segment.specs.Rule4.{Links}
use Rattle.segment.proofs.Rule4.{along, chain_once, rule_four}
use Rattle.rulebook.specs.First.{highest, IsChain}

links_same : (next : ℕ → ℕ) (k : ℕ) (xs ys : List ℕ) → Links next k xs → Links next k ys → xs ≡ ys
links_same next k [] [] p q = refl
links_same next k [] (y ∷ ys) p q = absurd (omega (arith, q.1))
links_same next k (x ∷ xs) [] p q = absurd (omega (arith, p.1))
links_same next k (x ∷ xs) (y ∷ ys) p q =
    ap (λ (z : ℕ). z ∷ xs) (p.0 ∙ sym q.0) ∙ ap (λ (l : List ℕ). y ∷ l) (links_same next (next k) xs ys p.2 q.2)

module _ (dir ks : List ℕ) where
  abbrev found : Option (List ℕ)
  found = chain_from (highest dir) (highest dir) (next_of dir) 1

  pub chain_told : chain_from (highest dir) (highest dir) (next_of dir) 1 ≡ Some ks → IsChain dir ks
  chain_told e =
      let g = along (highest dir) (next_of dir) (highest dir) 1 ks e in (g.links, g.below, chain_once (highest dir) (next_of dir) ks e)

  pub chain_found : IsChain dir ks → chain_from (highest dir) (highest dir) (next_of dir) 1 ≡ Some ks
  chain_found c = go found refl ((rule_four (highest dir) (next_of dir)).1 (ks, c.0, c.1, c.2))
    where
      go : (o : Option (List ℕ)) → found ≡ o → is_some o ≡ true → found ≡ Some ks
      go None e t = absurd (false≢true t)
      go (Some ys) e t = e ∙ ap Some (links_same (next_of dir) 1 ys ks (along (highest dir) (next_of dir) (highest dir) 1 ys e).links c.0)
