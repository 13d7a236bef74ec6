use Rattle.std.proofs.Common.{◌≡◌, ℕ, ◌*◌, List, refl, ◌∙◌, subst, arith}
use Rattle.std.proofs.lemmas.Result.{err_from_is_err_and}
use Rattle.device.specs.Blocks.{Block}
use Rattle.device.specs.Held.{shows}
use Rattle.volume.proofs.Stretches.{readable_more, readable_fault, readable_all}
use Rattle.level.specs.Loads.{Holds}
use Rattle.level.proofs.Fetching.{whole_shown, brought_bytes, holds_more}
use Rattle.level.proofs.load.read_blocks.Goals as goal

pub loop-i-init : goal.loop-i-init
loop-i-init g c = (refl, c.requires.before)

pub loop-i-preserved : goal.loop-i-preserved
loop-i-preserved g c =
    let bs : List Block = shows (g.D.Device.held c.args.d.now) in
    let i : ℕ = c.loop-i.i in
    let e = c.in_ok-read_to.ensures in
    let p = brought_bytes _ _ _ _ e.answer e.workspace in (
      readable_more bs 6 i c.args.to (omega arith) e.answer ∙ c.loop-i.invariant.0,
      holds_more bs i c.loop-i.work p.0 _ (whole_shown (g.D.Device.held c.args.d.now)) c.loop-i.invariant.1 p.1 p.2 (omega arith),
    )

pub returns : goal.returns
returns g c =
    let bs : List Block = shows (g.D.Device.held c.args.d.now) in
    let e : c.loop-i.i ≡ c.args.to = omega arith in
    record {
      answer = readable_all bs 6 c.loop-i.i c.args.to (omega arith) ∙ c.loop-i.invariant.0;
      bytes = subst (λ (z : ℕ). Holds bs (512 * z) c.loop-i.work) e c.loop-i.invariant.1;
    }

pub returns-in_err-read_to : goal.returns-in_err-read_to
returns-in_err-read_to g c =
    let bs : List Block = shows (g.D.Device.held c.args.d.now) in
    let p = err_from_is_err_and c.from_residual.result c.from_residual.ensures.1 in
    rw (p.1, p.2) record {
      answer = readable_fault bs 6 c.loop-i.i c.args.to _ (omega arith) c.in_err-read_to.ensures.answer ∙ c.loop-i.invariant.0;
      bytes = tt;
    }
