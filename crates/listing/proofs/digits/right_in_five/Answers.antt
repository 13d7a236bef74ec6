use Rattle.std.proofs.Common.{arith}
use Rattle.listing.proofs.Spelled.{in_columns}
use Rattle.listing.proofs.digits.right_in_five.Goals as goal

pub returns : goal.returns
returns c =
    simp (c.from-n.ensures, c.column.ensures, c.column-2.ensures, c.column-3.ensures, c.column-4.ensures, c.digit.ensures) (in_columns c.args.n (omega arith))
