use Rattle.std.proofs.Common.{length, refl, arith}
use Rattle.files.specs.States.{state_of}
use Rattle.run.proofs.Steps.{run_long, work_small, run_plays}
use Rattle.run.proofs.play.run.Goals as goal

pub returns-then-run-gt262144 : goal.returns-then-run-gt262144
returns-then-run-gt262144 g c =
    rw
    (run_long (state_of g.D.Device.held c.args.pack.now) c.args.run.now (length c.args.work.now) c.args.report.now (omega arith))
    record { lines = refl; end = refl; state = refl; report = refl; fixed = refl; fits = omega arith }

pub returns-then-work-lt-WORKSPACE : goal.returns-then-work-lt-WORKSPACE
returns-then-work-lt-WORKSPACE g c =
    rw
    (work_small (state_of g.D.Device.held c.args.pack.now) c.args.run.now (length c.args.work.now) c.args.report.now (omega arith) (omega arith))
    record { lines = refl; end = refl; state = refl; report = refl; fixed = refl; fits = omega arith }

pub returns : goal.returns
returns g c =
    rw
    (run_plays (state_of g.D.Device.held c.args.pack.now) c.args.run.now (length c.args.work.now) c.args.report.now (omega arith) (omega arith))
    c.run_fields.ensures
