use Rattle.std.proofs.Common.{length, Some, None, sym, ◌∙◌, subst, arith}
use Rattle.std.proofs.lemmas.Result.{err_from_is_err_and}
use Rattle.device.specs.Held.{shows}
use Rattle.directory.specs.Sounds.{SoundBytes}
use Rattle.level.proofs.Looking.{look_small, look_unnamed, look_refused, look_found}
use Rattle.level.proofs.lookup.lookup.Goals as goal

pub returns-then-work-lt-WORKSPACE : goal.returns-then-work-lt-WORKSPACE
returns-then-work-lt-WORKSPACE g c = record { answer = look_small (length c.args.work.now) (shows (g.D.Device.held c.args.d.now)) c.args.output c.args.name.now (omega arith); start = tt }

pub returns-in_err-name : goal.returns-in_err-name
returns-in_err-name g c =
    let p = err_from_is_err_and c.from_residual.result c.from_residual.ensures.1 in
    rw (p.1, p.2) (record { answer = look_unnamed (length c.args.work.now) (shows (g.D.Device.held c.args.d.now)) c.args.output c.args.name.now (omega arith) _ c.in_err-name.ensures; start = tt })

pub returns-in_err-total : goal.returns-in_err-total
returns-in_err-total g c =
    let p = err_from_is_err_and c.from_residual-in_err-total.result c.from_residual-in_err-total.ensures.1 in
    rw (p.1, p.2) (record { answer = look_refused (length c.args.work.now) (shows (g.D.Device.held c.args.d.now)) c.args.output c.args.name.now (omega arith) _ c.in_ok-name.ensures _ c.in_err-total.ensures.answer; start = tt })

pub new-directory-requires : goal.new-directory-requires
new-directory-requires g c = subst SoundBytes (sym c.directory_of.ensures) c.in_ok-total.ensures.sound

pub returns-in_default : goal.returns-in_default
returns-in_default g c =
    record {
      answer = look_found (length c.args.work.now) (shows (g.D.Device.held c.args.d.now)) c.args.output c.args.name.now (omega arith) _ c.in_ok-name.ensures _ c.in_ok-total.ensures.answer None _ c.in_default.ensures.file (c.new-directory.ensures ∙ c.directory_of.ensures ∙ c.in_ok-total.ensures.bytes);
      start = tt;
    }

pub returns : goal.returns
returns g c =
    record {
      answer = look_found (length c.args.work.now) (shows (g.D.Device.held c.args.d.now)) c.args.output c.args.name.now (omega arith) _ c.in_ok-name.ensures _ c.in_ok-total.ensures.answer (Some c.in-Some.file) _ c.in-Some.ensures.file (c.new-directory.ensures ∙ c.directory_of.ensures ∙ c.in_ok-total.ensures.bytes);
      start = c.in-Some.ensures.start;
    }
