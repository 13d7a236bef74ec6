-- A level table's records and depth, by what is seen of them.
use Rattle.std.specs.Prelude.{◌≡◌, ℕ, ◌≤◌, List, [], ◌∷◌, ◌++◌, length, take, drop, slice_index_or}
use Rattle.std.proofs.Common.{ap, arith, length-take-le, take-append-drop}
use Rattle.device.specs.declared.level.Level.{Level}

pub records_back : (rs : List Level) (depth : ℕ) (d : Level) → length rs ≡ 8 → slice_index_or rs 0 d ∷ take depth (drop 1 rs) ++ drop depth (drop 1 rs) ≡ rs
records_back [] depth d e = absurd (omega arith)
records_back (r ∷ rs) depth d e = ap (λ (l : List Level). r ∷ l) (take-append-drop depth rs)

pub depth_back : (rs : List Level) (depth : ℕ) → length rs ≡ 8 → depth ≤ 7 → length (take depth (drop 1 rs)) ≡ depth
depth_back [] depth e h = absurd (omega arith)
depth_back (r ∷ rs) depth e h = length-take-le depth rs (omega arith)
