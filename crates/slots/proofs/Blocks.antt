-- The blocks of entries together.
use Rattle.std.proofs.Common.{◌≡◌, ℕ, ◌+◌, ◌<◌, ◌≤◌, List, [], ◌∷◌, ◌++◌, take, drop, sym, ap, ◌∙◌, arith}
use Rattle.std.specs.List.{between, sum_by}
use Rattle.std.proofs.lemmas.List.Edits.{split_between}
use Rattle.std.proofs.lemmas.List.Sums.{sum_by-cons}
use Rattle.volume.specs.declared.entry.Entry.{Entry}
use Rattle.edits.specs.Entries.{blocks_of}
use Rattle.edits.proofs.Counts.{blocks_nil, blocks_cons, blocks_append}

-- they are the sum of their lengths
pub blocks_sum : (es : List Entry) → sum_by (λ e. e.length) es ≡ blocks_of es
blocks_sum [] = sym blocks_nil
blocks_sum (e ∷ es) = sum_by-cons (λ x. x.length) e es ∙ ap (λ n. e.length + n) (blocks_sum es) ∙ sym (blocks_cons e es)

-- a part has no more than all
pub blocks_between : (es : List Entry) (i j : ℕ) → i ≤ j → blocks_of (between i j es) ≤ blocks_of es
blocks_between es i j h =
    omega (
      arith,
      ap blocks_of (split_between es i j h),
      blocks_append (take i es) (between i j es ++ drop j es),
      blocks_append (between i j es) (drop j es),
    )

-- where all have fewer than 65,536 blocks, so has a part
pub blocks_few : (es zs : List Entry) (i j : ℕ) → zs ≡ es → i ≤ j → blocks_of es < 65536 → sum_by (λ e. e.length) (between i j zs) < 65536
blocks_few es zs i j q h l =
    omega (arith, ap (λ xs. sum_by (λ (e : Entry). e.length) (between i j xs)) q, blocks_sum (between i j es), blocks_between es i j h)
