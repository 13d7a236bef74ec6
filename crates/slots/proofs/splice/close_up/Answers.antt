use Rattle.std.proofs.Common.{◌≡◌, ◌-◌, ◌++◌, take, drop, ap, ◌∙◌, subst, arith}
use Rattle.volume.proofs.Encoding.{no_entry}
use Rattle.slots.proofs.Shifts.{close_more, close_all}
use Rattle.slots.proofs.splice.close_up.Goals as goal

pub loop-k-preserved : goal.loop-k-preserved
loop-k-preserved c = (
  omega arith,
  close_more c.loop-k.entries c.loop-k.j c.loop-k.k no_entry (omega arith) (omega arith) ∙ c.loop-k.invariant.1,
)

pub returns : goal.returns
returns c =
    let ys = c.loop-k.entries in
    let xs = c.args.entries.now in
    let end : c.loop-k.k ≡ c.args.count = omega (arith, c.loop-k.auto.k-end (omega arith)) in
    let j : c.args.count - (c.args.to - c.args.from) ≡ c.loop-k.j = omega arith in
    ap (λ n. take n ys) j
    ∙ close_all xs ys c.args.count c.args.from c.args.to c.loop-k.j (omega arith) (omega arith) (omega arith) (omega arith) (omega arith)
    (subst (λ z. take c.loop-k.j ys ++ drop z ys ≡ take c.args.from xs ++ drop c.args.to xs) end c.loop-k.invariant.1)
