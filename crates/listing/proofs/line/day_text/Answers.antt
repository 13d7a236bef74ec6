use Rattle.std.proofs.Common.{arith}
use Rattle.listing.specs.Listings.{day_text}
use Rattle.listing.proofs.Pieces.{dated_is}
use Rattle.listing.proofs.line.day_text.Goals as goal

pub returns : goal.returns
unfolding day_text
returns c =
    simp (c.put-3.ensures, c.put-2.ensures, c.put.ensures, c.digits.ensures, c.digits-2.ensures, c.from.ensures, c.from-2.ensures, ← c.month_name.ensures)
    (dated_is c.args.date.day c.args.date.year c.month_name.result (omega arith))
