use Rattle.std.proofs.Common.{◌≡◌, ℕ, ◌+◌, ◌*◌, ◌≤◌, List, length, arith, length-append, length-drop}
use borrow.Rule.Slice.PartMut.{put_mid}
use Rattle.std.proofs.lemmas.List.{places, length-take-le}
use Rattle.device.specs.Images.{Stored}
use Rattle.device.proofs.image.store.Goals as goal

-- the middle of the memory replaced
replaced : (memory from after : List ℕ) (b k : ℕ) → after ≡ from → length from ≡ 512 → k ≡ 512 → 512 * b + 512 ≤ length memory → Stored memory from b (put_mid (512 * b) k memory after)
replaced memory from after b k e l m h =
    rw e
    record {
      long = simp (length-append, length-drop) (omega (arith, length-take-le (512 * b) memory (omega arith)));
      there = λ o p. grind (arith, places);
      before = λ a p. grind (arith, places);
      past = λ a p. grind (arith, places);
    }

pub returns : goal.returns
returns c = replaced _ _ _ c.args.b _ c.copy_from_slice.ensures.after c.told-from (omega arith) c.requires
