use Rattle.std.proofs.Common.{false, refl}
use Rattle.device.proofs.Fetches.{laid-good, bottom_path, laid_write}
use Rattle.device.proofs.scratch.ScratchDevice.write.Goals as goal

pub returns-clause-stack : goal.returns-clause-stack
returns-clause-stack c =
    let h = c.in_ok-check.ensures.inside in
    rw (laid-good 40 (λ b. false) c.args.self.now.bytes c.args.b h refl)
    (bottom_path _ _ (laid_write 40 (λ b. false) c.args.self.now.bytes c.args.b c.args.from.now c.store.new.memory h refl c.told-from c.store.ensures))
