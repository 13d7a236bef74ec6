use Rattle.std.proofs.Common.{ℕ, ◌+◌, ◌∙◌, arith, zero-add}
use Rattle.std.proofs.lemmas.Result.{err_from_is_err_and}
use Rattle.device.specs.Held.{shows}
use Rattle.volume.proofs.Stretches.{readable_more, readable_fault, readable_all}
use Rattle.volume.proofs.transfer.sweep.Goals as goal

pub loop-k-preserved : goal.loop-k-preserved
loop-k-preserved g c =
    let bs = shows (g.D.Device.held c.args.d.now) in
    let end : ℕ = c.args.b + c.args.n in
    simp zero-add at (readable_more bs 0 c.loop-k.k end (omega arith) (simp zero-add c.in_ok-read.ensures.answer)) ∙ c.loop-k.invariant

pub returns : goal.returns
returns g c =
    let bs = shows (g.D.Device.held c.args.d.now) in
    let end : ℕ = c.args.b + c.args.n in
    simp zero-add at (readable_all bs 0 c.loop-k.k end (omega arith)) ∙ c.loop-k.invariant

pub returns-in_err-read : goal.returns-in_err-read
returns-in_err-read g c =
    let bs = shows (g.D.Device.held c.args.d.now) in
    let end : ℕ = c.args.b + c.args.n in
    let p = err_from_is_err_and c.from_residual.result c.from_residual.ensures.1 in
    rw (p.1, p.2)
    (simp zero-add at (readable_fault bs 0 c.loop-k.k end c.in_err-read.field-0.0 (omega arith) (simp zero-add c.in_err-read.ensures.answer)) ∙ c.loop-k.invariant)
