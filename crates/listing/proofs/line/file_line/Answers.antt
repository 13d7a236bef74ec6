use Rattle.std.proofs.Common.{◌∙◌, arith}
use Rattle.listing.specs.Listings.{line_of, file_line}
use Rattle.listing.proofs.Pieces.{line_from}
use Rattle.listing.proofs.line.file_line.Goals as goal

pub returns : goal.returns
unfolding file_line
returns c =
    let name = c.name_text.ensures in
    let long = c.right_in_five.ensures in
    let marked = c.mark.ensures in
    let date = c.date_text.ensures in
    line_from c.name_text.result c.right_in_five.result c.mark.result c.date_text.result (omega arith) (omega arith) (omega arith)
    c.put.ensures c.put-2.ensures c.put-3.ensures c.put-4.ensures c.put-5.ensures
    ∙ (λ t. line_of (name t) (long t) (marked t) (date t))
