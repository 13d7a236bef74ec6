-- The segments of a directory in the caller's workspace, and their chain.
use Rattle.std.specs.Prelude.{ℕ, zero, suc, ◌+◌, ◌-◌, ◌*◌, ◌≤◌, cond, ◌||◌, List, [], ◌∷◌, length, take, drop, Some, None, Option, ◌==◌, nat_lt}
use Rattle.std.specs.Option.{option_map}
use Rattle.codec.specs.Words.{word_at}
use Rattle.segment.specs.declared.order.Chain.{Chain}

-- the bytes of segment k, counted from 1
abbrev pub segment_at : List ℕ → ℕ → List ℕ
segment_at dir k = take 1024 (drop (1024 * (k - 1)) dir)

-- the segment after segment k; 0 ends the chain
unfoldable pub next_of : List ℕ → ℕ → ℕ
next_of dir k = word_at dir (1024 * (k - 1) + 2)

-- the chain from segment k on: n segments of 1 to h, and then its end
unfoldable pub chain_from : ℕ → ℕ → (ℕ → ℕ) → ℕ → Option (List ℕ)
chain_from zero h next k = cond (k == 0) (Some []) None
chain_from (suc n) h next k =
    cond (k == 0 || nat_lt h k) None (option_map (λ ks. k ∷ ks) (chain_from n h next (next k)))

-- the segments of a chain, in its order
abbrev pub order_of : Chain → List ℕ
order_of c = take c.count c.order

-- segment k is in the directory
abbrev pub InDirectory : List ℕ → ℕ → Type 0
InDirectory dir k = (1 ≤ k) × (1024 * k ≤ length dir)
