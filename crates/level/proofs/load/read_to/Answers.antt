use Rattle.std.proofs.lemmas.Result.{err_from_is_err_and}
use Rattle.device.specs.Answers.{fetch}
use Rattle.device.specs.Held.{shows}
use Rattle.level.proofs.Fetching.{brought_ok, brought_err}
use Rattle.level.proofs.load.read_to.Goals as goal

pub returns : goal.returns
returns g c =
    let f = fetch (shows (g.D.Device.held c.args.d.now)) c.args.b in
    let e = c.in_ok-read.ensures in
    record { answer = e.answer; workspace = brought_ok f _ _ c.args.work.now _ c.args.at e.answer e.buffer c.put.ensures }

pub returns-in_err-read : goal.returns-in_err-read
returns-in_err-read g c =
    let f = fetch (shows (g.D.Device.held c.args.d.now)) c.args.b in
    let p = err_from_is_err_and c.from_residual.result c.from_residual.ensures.1 in
    let e = c.in_err-read.ensures in
    rw (p.1, p.2) record { answer = e.answer; workspace = brought_err f _ c.args.work.now c.args.at e.answer }
