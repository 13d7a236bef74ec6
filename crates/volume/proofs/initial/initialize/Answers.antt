use Rattle.std.proofs.Common.{◌≡◌, ℕ, ◌*◌, replicate, Ok, Err, refl}
use Rattle.std.proofs.lemmas.Result.{err_from_is_err_and}
use Rattle.device.specs.Answers.{fetch}
use Rattle.device.specs.Held.{shows}
use Rattle.volume.proofs.Stretches.{read_ok, read_err, fetch_is_good, readable-good}
use Rattle.volume.proofs.Initials.{init_range, init_is, init_refused, init_done}
use Rattle.volume.proofs.initial.initialize.Goals as goal

pub returns-then-not-segments_fit : goal.returns-then-not-segments_fit
returns-then-not-segments_fit g c =
    let h = g.D.Device.held c.args.d.now in
    let t : ℕ = c.args.segments in
    let a = init_range t c.level_size-blocks.result (shows h) c.level_size-blocks.ensures c.if-not-segments_fit.ensures in
    record { answer = a; after = init_refused t h.stack _ h.whole a; fixed = cc }

pub returns-in_err-read : goal.returns-in_err-read
returns-in_err-read g c =
    let h = g.D.Device.held c.args.d.now in
    let t : ℕ = c.args.segments in
    let e = c.in_err-read.field-0.0 in
    let p = err_from_is_err_and c.from_residual.result c.from_residual.ensures.1 in
    let f : fetch (shows h) 1 ≡ Err e = read_err (fetch (shows h) 1) e c.in_err-read.ensures.answer in
    let a = init_is t c.level_size-blocks.result (shows h) c.level_size-blocks.ensures (Err e) _ c.if-not-segments_fit.ensures f refl in
    rw (p.1, p.2) (record { answer = a; after = init_refused t h.stack _ h.whole a; fixed = cc })

pub returns-in_err-sweep : goal.returns-in_err-sweep
returns-in_err-sweep g c =
    let h = g.D.Device.held c.args.d.now in
    let t : ℕ = c.args.segments in
    let old = c.read.new.into in
    let p = err_from_is_err_and c.from_residual-in_err-sweep.result c.from_residual-in_err-sweep.ensures.1 in
    let r = c.in_ok-read.ensures in
    let f : fetch (shows h) 1 ≡ Ok old = read_ok (fetch (shows h) 1) (replicate 512 0) old r.answer r.buffer in
    let a = init_is t c.level_size-blocks.result (shows h) c.level_size-blocks.ensures (Ok old) (Err c.in_err-sweep.field-0.0) c.if-not-segments_fit.ensures f c.in_err-sweep.ensures in
    rw (p.1, p.2) (record { answer = a; after = init_refused t h.stack _ h.whole a; fixed = cc })

pub lay_out-requires-clause-block : goal.lay_out-requires-clause-block
lay_out-requires-clause-block g c =
    let bs = shows (g.D.Device.held c.args.d.now) in
    let r = c.in_ok-read.ensures in
    fetch_is_good bs 1 c.read.new.into (read_ok (fetch bs 1) (replicate 512 0) c.read.new.into r.answer r.buffer)

pub lay_out-requires-clause-directory : goal.lay_out-requires-clause-directory
lay_out-requires-clause-directory g c = readable-good (shows (g.D.Device.held c.args.d.now)) 6 (2 * c.args.segments) c.in_ok-sweep.ensures

pub returns : goal.returns
returns g c =
    let h = g.D.Device.held c.args.d.now in
    let t : ℕ = c.args.segments in
    let v = c.level_size-blocks.result in
    let old = c.read.new.into in
    let k = (g.D.Device.held c.lay_out.new.d).stack in
    let r = c.in_ok-read.ensures in
    let f : fetch (shows h) 1 ≡ Ok old = read_ok (fetch (shows h) 1) (replicate 512 0) old r.answer r.buffer in
    let a = init_is t v (shows h) c.level_size-blocks.ensures (Ok old) (Ok tt) c.if-not-segments_fit.ensures f c.in_ok-sweep.ensures in
    let e = c.in_ok-lay_out.ensures in
    record { answer = a; after = init_done t v h.stack k old c.level_size-blocks.ensures f a e.after; fixed = e.fixed }
