use Rattle.std.proofs.Common.{◌/◌, sym, refl, ap, ◌∙◌, arith}
use Rattle.codec.specs.Words.{written}
use Rattle.codec.proofs.Written.{written-two}
use Rattle.listing.specs.Listings.{plain}
use Rattle.listing.proofs.Spelled.{one_digit, digit_more}
use Rattle.listing.proofs.digits.+put_plain.Goals as goal
use Rattle.listing.proofs.digits.+put_plain.Goals.{then-n-lt10, else-n-lt10}

pub returns-clause-after : goal.returns-clause-after
returns-clause-after t c =
    rw (c.put.ensures, c.digit.ensures, c.from.ensures)
    (elim c.if-n-lt10.branch [
      | then-n-lt10 w ↦ rw (w.out-is, w.last-is) (ap (written c.args.out.now c.args.at) (sym (one_digit c.args.n w.if-n-lt10.true)))
      | else-n-lt10 w ↦
          written-two c.args.out.now c.args.at (plain (c.args.n / 10)) _ _ c.if-n-lt10.last (w.out-is ∙ w.put_plain-last.ensures.after) refl refl
          (sym (w.last-is ∙ w.put_plain-last.ensures.behind)) (omega (arith, c.requires))
          ∙ ap (written c.args.out.now c.args.at) (sym (digit_more c.args.n w.if-n-lt10.false (omega arith)))
    ])
