use Rattle.std.proofs.Common.{ℕ, ◌≤◌, List, length, sym, ◌∙◌, arith}
use Rattle.std.proofs.lemmas.Result.{err_from_is_err_and}
use Rattle.device.specs.Blocks.{Block}
use Rattle.device.specs.Held.{shows}
use Rattle.level.proofs.Checking.{check_refused, check_rule, judged_rule, part_long, part_total, part_sound}
use Rattle.level.proofs.check.check.Goals as goal

pub returns-in_err-total : goal.returns-in_err-total
returns-in_err-total g c =
    let n : ℕ = length c.args.work.now in
    let bs : List Block = shows (g.D.Device.held c.args.d.now) in
    let p = err_from_is_err_and c.from_residual.result c.from_residual.ensures.1 in
    rw (p.1, p.2) (record { answer = check_refused n bs c.args.output _ c.in_err-total.ensures.answer; bytes = tt; sound = tt; good = tt; range = tt })

pub check_rules-requires : goal.check_rules-requires
check_rules-requires g c =
    let h = c.in_ok-total.ensures in
    let long : 32768 ≤ length c.load.new.work = omega arith in
    let n = part_long _ c.load.new.work c.in_ok-total.total c.directory_of.ensures h.range.0 h.range.1 long h.range.3 in
    let t = part_total _ c.load.new.work c.in_ok-total.total c.directory_of.ensures h.range.0 h.range.1 long h.range.3 in
    (omega (arith, n), (omega (arith, t), omega (arith, n, t)))

pub returns : goal.returns
returns g c =
    let n : ℕ = length c.args.work.now in
    let bs : List Block = shows (g.D.Device.held c.args.d.now) in
    let h = c.in_ok-total.ensures in
    let long : 32768 ≤ length c.load.new.work = omega arith in
    let s : ℕ = c.in_ok-total.total in
    let d = c.directory_of.ensures ∙ h.bytes in
    record {
      answer = check_rule n bs c.args.output s c.level_size.result 0 _ h.answer d c.level_size.ensures c.in_ok-check_rules.ensures;
      bytes = h.bytes;
      sound = part_sound _ c.load.new.work c.in_ok-total.total c.directory_of.ensures h.range.0 h.range.1 long h.range.3 c.level_size.result c.args.output (sym c.in_ok-check_rules.ensures);
      good = h.good;
      range = (h.range.0, h.range.1, h.range.2);
    }

pub returns-in_err-check_rules : goal.returns-in_err-check_rules
returns-in_err-check_rules g c =
    let n : ℕ = length c.args.work.now in
    let bs : List Block = shows (g.D.Device.held c.args.d.now) in
    let h = c.in_ok-total.ensures in
    let s : ℕ = c.in_ok-total.total in
    let d = c.directory_of.ensures ∙ h.bytes in
    let p = err_from_is_err_and c.from_residual-in_err-check_rules.result c.from_residual-in_err-check_rules.ensures.1 in
    let r = check_rule n bs c.args.output s c.level_size.result _ _ h.answer d c.level_size.ensures c.in_err-check_rules.ensures in
    rw (p.1, p.2) (record { answer = sym (judged_rule s _) ∙ r; bytes = tt; sound = tt; good = tt; range = tt })
