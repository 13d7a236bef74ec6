use Rattle.std.proofs.Common.{false, refl}
use Rattle.device.proofs.Fetches.{laid-good, laid_read}
use Rattle.device.proofs.scratch.ScratchDevice.read.Goals as goal

pub returns-clause-buffer : goal.returns-clause-buffer
returns-clause-buffer c =
    rw (laid-good 40 (λ b. false) c.args.self.now.bytes c.args.b c.in_ok-check.ensures.inside refl)
    (laid_read 40 (λ b. false) c.args.self.now.bytes c.args.b c.load.new.into c.load.array_long c.load.ensures)
