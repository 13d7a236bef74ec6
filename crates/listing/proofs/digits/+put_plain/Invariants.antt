use Rattle.listing.proofs.digits.+put_plain.Given as goal

abbrev pub decreases-put_plain : goal.decreases-put_plain
decreases-put_plain l = l.n
