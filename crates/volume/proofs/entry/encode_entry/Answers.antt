use Rattle.std.proofs.Common.{take, refl, arith, length-take}
use Rattle.codec.proofs.Written.{written-two}
use Rattle.volume.specs.Entries.{entry_bytes, head_bytes}
use Rattle.volume.proofs.entry.encode_entry.Goals as goal

pub returns : goal.returns
unfolding entry_bytes head_bytes
returns c =
    let e = c.args.e.now in
    record {
      after = written-two c.args.out.now c.args.at (head_bytes e) (take c.args.extra e.extra) _ _
          (rw c.from.ensures at c.put_words.ensures) c.put.ensures refl refl (omega arith);
      long = simp length-take (omega arith);
    }
