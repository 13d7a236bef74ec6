-- Rule 4 in its own words: the chain from segment 1 meets each of 1 to h exactly once and ends.
use Rattle.std.specs.Prelude.{◌≡◌, ℕ, ◌+◌, ◌<◌, ◌≤◌, cond, List, [], ◌∷◌, is_some, Decides, ◌==◌}
use Rattle.std.specs.List.{AllByRecursion}
use Rattle.segment.specs.Chains.{chain_from}

-- the segments met from k on, each linked to the next, and then the end
abbrev pub Links : (ℕ → ℕ) → ℕ → List ℕ → Type 0
Links next k [] = k ≡ 0
Links next k (j ∷ ks) = (j ≡ k) × (0 < k) × Links next (next k) ks

-- how often j is met
abbrev pub times : ℕ → List ℕ → ℕ
times j [] = 0
times j (k ∷ ks) = cond (j == k) 1 0 + times j ks

abbrev pub MeetsEachOnce : ℕ → (ℕ → ℕ) → Type 0
MeetsEachOnce h next =
    (ks : List ℕ) × Links next 1 ks × AllByRecursion (λ k. k ≤ h) ks × ((j : ℕ) → 1 ≤ j → j ≤ h → times j ks ≡ 1)

-- it holds exactly when h segments of 1 to h are found along the chain, and then its end
abbrev pub RuleFour : Type 0
RuleFour = (h : ℕ) (next : ℕ → ℕ) → Decides (is_some (chain_from h h next 1)) (MeetsEachOnce h next)
