use Rattle.std.proofs.Common.{◌≡◌, ℕ, suc, ◌+◌, ◌%◌, List, refl, ap, ◌∙◌, add-one, arith}
use Rattle.volume.proofs.Homes.{bytes_sum, bytes_even, bytes_odd, sums}
use Rattle.volume.proofs.home.checksum.Goals as goal
use Rattle.volume.proofs.home.checksum.Goals.{then-i-eq0, else-i-eq0}

pub loop-i-init : goal.loop-i-init
unfolding bytes_sum
loop-i-init c = (refl, omega arith)

pub loop-i-preserved : goal.loop-i-preserved
loop-i-preserved c =
    let bs : List ℕ = c.args.block.now in
    let i : ℕ = c.loop-i.i in
    let next : bytes_sum bs (i + 1) ≡ bytes_sum bs (suc i) = ap (bytes_sum bs) (add-one i) in
    elim c.if-i-eq0.branch [
      | then-i-eq0 w ↦ (omega (arith, w.sum-is, next, bytes_even bs i w.if-i-eq0.true), omega (arith, w.sum-is))
      | else-i-eq0 w ↦ (omega (arith, w.sum-is, next, bytes_odd bs i w.if-i-eq0.false), omega (arith, w.sum-is))
    ]

pub returns : goal.returns
returns c =
    let bs : List ℕ = c.args.block.now in
    let e : c.loop-i.i ≡ 510 = omega arith in
    ap (λ (z : ℕ). z % 65536) (c.loop-i.invariant.0 ∙ ap (bytes_sum bs) e ∙ sums bs 255)
