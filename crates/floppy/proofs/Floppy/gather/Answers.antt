use Rattle.std.proofs.Common.{◌≡◌, ◌≤◌, true, false, List, length, is_ok, is_err, Ok, Err, Result, refl, arith, rules}
use Rattle.std.proofs.lemmas.Result.{err_from_is_err_and}
use Rattle.device.specs.declared.fault.DeviceFault.{DeviceFault}
use Rattle.device.specs.declared.fault.DeviceFault.TheVariants.{BadBlock}
use Rattle.device.specs.Blocks.{Block}
use Rattle.device.specs.Held.{shows}
use Rattle.floppy.specs.Held.{length-floppy}
use Rattle.floppy.proofs.Places.{standing, gathered_more, gathered_past, gathered_bad, gathered_all}
use Rattle.floppy.proofs.Floppy.gather.Goals as goal

refused : (r : Result (Unit {0}) DeviceFault) → false ≡ is_ok r → true ≡ is_err r
refused (Ok u) p = cc
refused (Err e) p = refl

accepted : (r : Result (Unit {0}) DeviceFault) → true ≡ is_ok r → false ≡ is_err r
accepted (Ok u) p = refl
accepted (Err e) p = cc

pub returns-then-b-size : goal.returns-then-b-size
returns-then-b-size g c = gathered_past (shows (g.D.Device.held c.args.self.now.below)) c.args.b (omega (arith, length-floppy))

pub returns-in_err-map_err : goal.returns-in_err-map_err
returns-in_err-map_err g c =
    let bs : List Block = shows (g.D.Device.held c.args.self.now.below) in
    let s : 501 ≤ length bs = (standing (length bs) c.args.b (omega (arith, length-floppy))).0 in
    let p = err_from_is_err_and c.from_residual.result c.from_residual.ensures.1 in
    let v : false ≡ is_ok c.seek.result = c.in_err-map_err.ensures.variant in
    let bad : c.in_err-map_err.field-0.0 ≡ BadBlock c.args.b = search rules in
    rw (p.1, p.2, bad)
    (gathered_bad bs c.args.b (omega (arith, length-floppy)) c.loop-i.i c.sector_at-place.result c.seek.result (omega arith) c.sector_at-place.ensures.place
    (omega arith) c.seek.ensures.answer (refused c.seek.result v))

pub loop-i-preserved : goal.loop-i-preserved
loop-i-preserved g c =
    let bs : List Block = shows (g.D.Device.held c.args.self.now.below) in
    let s : 501 ≤ length bs = (standing (length bs) c.args.b (omega (arith, length-floppy))).0 in
    let v : true ≡ is_ok c.seek.result = c.in_ok-map_err.ensures.variant in
    gathered_more bs c.args.b c.loop-i.i c.sector_at-place.result c.loop-i.held c.seek.new.self c.seek.result c.loop-i.bytes
    c.copy_sector.new.to c.loop-i.invariant c.sector_at-place.ensures.place (omega arith) c.seek.ensures.answer c.seek.ensures.buffer
    (accepted c.seek.result v) c.copy_sector.ensures

pub returns : goal.returns
returns g c =
    gathered_all (shows (g.D.Device.held c.args.self.now.below)) c.args.b (omega (arith, length-floppy)) c.loop-i.i c.loop-i.held c.loop-i.bytes
    (omega arith) c.loop-i.invariant
