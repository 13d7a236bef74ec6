use Rattle.std.proofs.Common.{◌≡◌, ◌+◌, ◌∷◌, ◌++◌, take, drop, refl, ◌∙◌, subst, arith}
use Rattle.std.specs.List.{insert}
use Rattle.volume.proofs.Encoding.{no_entry}
use Rattle.slots.proofs.Shifts.{insert_more, insert_all}
use Rattle.slots.proofs.splice.insert.Goals as goal

pub loop-k-init : goal.loop-k-init
loop-k-init c = refl

pub loop-k-preserved : goal.loop-k-preserved
loop-k-preserved c = insert_more c.loop-k.entries c.loop-k.k c.loop-k.carried no_entry (omega arith) ∙ c.loop-k.invariant

pub returns : goal.returns
returns c =
    let ys = c.loop-k.entries in
    let y = c.loop-k.carried in
    let end : c.loop-k.k ≡ c.args.count + 1 = omega (arith, c.loop-k.auto.k-end (omega arith)) in
    insert_all c.args.entries.now ys c.args.count c.args.i c.args.e y (omega arith) (omega arith) (omega arith)
    (subst (λ z. take z ys ++ y ∷ drop z ys ≡ insert c.args.entries.now c.args.i c.args.e) end c.loop-k.invariant)
