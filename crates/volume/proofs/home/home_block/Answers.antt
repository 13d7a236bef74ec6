use Rattle.std.proofs.Common.{ℕ, List}
use Rattle.volume.proofs.Homes.{front_made, home-made}
use Rattle.volume.proofs.home.home_block.Goals as goal

pub returns : goal.returns
returns c =
    let old : List ℕ = c.args.old.now in
    let front = front_made old _ _ _ _ c.put-4.new.out c.told-old c.put.ensures c.put_words.ensures c.put-2.ensures c.put-3.ensures c.put-4.ensures in
    home-made old c.put-4.new.out c.put_words-2.new.out c.checksum-sum.result c.told-old front c.checksum-sum.ensures c.put_words-2.ensures
