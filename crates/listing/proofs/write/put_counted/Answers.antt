use Rattle.std.proofs.Common.{refl, arith}
use Rattle.std.proofs.lemmas.List.{length-append}
use Rattle.codec.proofs.Written.{written-two}
use Rattle.listing.specs.Listings.{plain}
use Rattle.listing.proofs.Placing.{plain_short}
use Rattle.listing.proofs.write.put_counted.Goals as goal

pub put_plain-requires : goal.put_plain-requires
put_plain-requires c = omega (arith, c.requires, plain_short c.args.n (omega arith))

pub returns : goal.returns
returns c =
    record {
      after = written-two c.args.out.now c.args.at c.args.word.now (plain c.args.n) _ _ c.put.ensures c.put_plain.ensures.after refl refl (omega (arith, c.requires));
      behind = omega (arith, c.put_plain.ensures.behind, length-append c.args.word.now (plain c.args.n));
      room = omega (arith, c.put_plain.ensures.behind, plain_short c.args.n (omega arith));
    }
