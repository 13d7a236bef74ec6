use Rattle.std.proofs.Common.{◌≡◌, ◌+◌, ◌-◌, take, drop, sym, ap, ◌∙◌, arith}
use Rattle.std.proofs.lemmas.List.{drop-take}
use Rattle.slots.proofs.bytes.last_entries.Goals as goal

pub returns-clause-entries : goal.returns-clause-entries
returns-clause-entries c =
    let n = c.args.n in
    let count = c.args.s.now.count in
    let whole : n + (count - n) ≡ count = omega arith in
    sym (drop-take n (count - n) c.args.s.now.entries) ∙ ap (λ m. drop n (take m c.args.s.now.entries)) whole
