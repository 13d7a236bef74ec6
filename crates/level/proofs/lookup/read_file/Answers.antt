use Rattle.std.proofs.Common.{ℕ, ◌+◌, List, length, Result, ap, ◌∙◌, arith}
use Rattle.std.proofs.lemmas.Result.{err_from_is_err_and}
use Rattle.device.specs.Held.{shows}
use Rattle.device.specs.Answers.{fetch}
use Rattle.volume.specs.declared.fault.FileFault.{FileFault}
use Rattle.level.specs.Lookups.{read_answer, read_buffer}
use Rattle.level.proofs.Looking.{read_refused, read_past, read_block, turned_ok, turned_err, turned-filled}
use Rattle.level.proofs.lookup.read_file.Goals as goal

pub returns-in_err-start : goal.returns-in_err-start
returns-in_err-start g c =
    let p = err_from_is_err_and c.from_residual.result c.from_residual.ensures.1 in
    let e = read_refused (length c.args.work.now) (shows (g.D.Device.held c.args.d.now)) c.args.output c.args.name.now c.args.block _ c.in_err-start.ensures.answer in
    rw (p.1, p.2) (record { answer = ap read_answer e; buffer = ap (λ (z : Result (List ℕ) FileFault). read_buffer z c.args.into.now) e })

pub returns-then-block-blocks : goal.returns-then-block-blocks
returns-then-block-blocks g c =
    let e = read_past (length c.args.work.now) (shows (g.D.Device.held c.args.d.now)) c.args.output c.args.name.now c.args.block _ c.in_ok-start.ensures.answer (omega arith) in
    record { answer = ap read_answer e; buffer = ap (λ (z : Result (List ℕ) FileFault). read_buffer z c.args.into.now) e }

pub returns-in_err-read : goal.returns-in_err-read
returns-in_err-read g c =
    let p = err_from_is_err_and c.from_residual-in_err-read.result c.from_residual-in_err-read.ensures.1 in
    let e = read_block (length c.args.work.now) (shows (g.D.Device.held c.args.d.now)) c.args.output c.args.name.now c.args.block _ c.in_ok-start.ensures.answer (omega arith) in
    let r = c.in_err-read.ensures in
    rw (p.1, p.2) (record {
      answer = turned_err (fetch (shows (g.D.Device.held c.args.d.now)) (c.in_ok-start.start + c.args.block)) _ r.answer ∙ ap read_answer e;
      buffer = turned-filled (fetch (shows (g.D.Device.held c.args.d.now)) (c.in_ok-start.start + c.args.block)) c.args.into.now _ r.buffer ∙ ap (λ (z : Result (List ℕ) FileFault). read_buffer z c.args.into.now) e;
    })

pub returns : goal.returns
returns g c =
    let e = read_block (length c.args.work.now) (shows (g.D.Device.held c.args.d.now)) c.args.output c.args.name.now c.args.block _ c.in_ok-start.ensures.answer (omega arith) in
    let r = c.in_ok-read.ensures in
    record {
      answer = turned_ok (fetch (shows (g.D.Device.held c.args.d.now)) (c.in_ok-start.start + c.args.block)) r.answer ∙ ap read_answer e;
      buffer = turned-filled (fetch (shows (g.D.Device.held c.args.d.now)) (c.in_ok-start.start + c.args.block)) c.args.into.now _ r.buffer ∙ ap (λ (z : Result (List ℕ) FileFault). read_buffer z c.args.into.now) e;
    }
