use Rattle.std.proofs.Common.{ℕ, ◌+◌, set, replicate, refl, ap, subst, arith, List}
use Rattle.device.specs.Blocks.{Block, good}
use Rattle.device.specs.Stacks.{shown, Became}
use Rattle.device.proofs.Steps.{became_none, became_shown}
use Rattle.volume.specs.Transfers.{overwritten}
use Rattle.volume.proofs.Stretches.{good_still, became_more, overwritten_more, overwritten_all}
use Rattle.volume.proofs.transfer.zero_blocks.Goals as goal

pub loop-k-init : goal.loop-k-init
loop-k-init g c =
    let h = g.D.Device.held c.args.d.now in
    (became_none h.stack h.whole, ap (λ (m : ℕ). overwritten (shown h.stack) c.args.b (replicate m (replicate 512 0))) (omega arith), refl)

pub write_known-requires : goal.write_known-requires
write_known-requires g c =
    let s = (g.D.Device.held c.args.d.now).stack in
    let k = (g.D.Device.held c.loop-k.d).stack in
    let b : ℕ = c.args.b in
    λ y p q. good_still s (shown k) k c.loop-k.invariant.0 b (b + c.args.n) c.requires.known y (omega arith) (omega arith)

pub loop-k-preserved : goal.loop-k-preserved
loop-k-preserved g c =
    let s = (g.D.Device.held c.args.d.now).stack in
    let k = (g.D.Device.held c.loop-k.d).stack in
    let j = (g.D.Device.held c.write_known.new.d).stack in
    let b : ℕ = c.loop-k.k in
    let m = set (shown k) b (good (replicate 512 0)) in
    let e = c.in_ok-write_known.ensures in (
      became_more s k m j c.loop-k.invariant.0 e.after,
      overwritten_more (shown k) b (c.args.b + c.args.n) (replicate 512 0) _ c.loop-k.invariant.1 (shown j) (omega arith) (became_shown k m j e.after),
      cc (e.fixed, c.loop-k.invariant.2),
    )

pub returns-clause-after : goal.returns-clause-after
returns-clause-after g c =
    let s = (g.D.Device.held c.args.d.now).stack in
    let k = (g.D.Device.held c.loop-k.d).stack in
    let e = overwritten_all (shown k) c.loop-k.k (c.args.b + c.args.n) (replicate 512 0)
    (overwritten (shown s) c.args.b (replicate c.args.n (replicate 512 0))) c.loop-k.invariant.1 (omega arith) in
    subst (λ (z : List Block). Became s z k) e c.loop-k.invariant.0
