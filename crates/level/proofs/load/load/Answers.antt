use Rattle.std.proofs.Common.{◌≡◌, ℕ, ◌-◌, ◌*◌, ◌≤◌, List, length, sym, ◌∙◌, subst, arith}
use Rattle.std.proofs.lemmas.Bool.Decides.{nat_tests}
use Rattle.std.proofs.lemmas.Result.{err_from_is_err_and}
use Rattle.device.specs.Blocks.{Block}
use Rattle.device.specs.Held.{shows}
use Rattle.volume.proofs.Stretches.{readable-good}
use Rattle.level.specs.Loads.{Holds, segments}
use Rattle.level.proofs.Fetching.{holds_list, segments_held}
use Rattle.level.proofs.Loading.{good_join, load_small, load_one, load_first, load_two, load_other, load_all}
use Rattle.level.proofs.load.load.Goals as goal

pub returns-then-work-lt-WORKSPACE : goal.returns-then-work-lt-WORKSPACE
returns-then-work-lt-WORKSPACE g c =
    record { answer = load_small (length c.args.work.now) (shows (g.D.Device.held c.args.d.now)) (omega arith); bytes = tt; good = tt; range = tt }

pub returns-then-blocks-lt9 : goal.returns-then-blocks-lt9
returns-then-blocks-lt9 g c =
    let n : ℕ = length c.args.work.now in
    let bs : List Block = shows (g.D.Device.held c.args.d.now) in
    record { answer = load_one n bs (omega arith) (omega arith); bytes = tt; good = tt; range = tt }

pub returns-in_err-read_blocks : goal.returns-in_err-read_blocks
returns-in_err-read_blocks g c =
    let n : ℕ = length c.args.work.now in
    let bs : List Block = shows (g.D.Device.held c.args.d.now) in
    let p = err_from_is_err_and c.from_residual.result c.from_residual.ensures.1 in
    rw (p.1, p.2) (record { answer = load_first n bs (omega arith) (omega arith) _ c.in_err-read_blocks.ensures.answer; bytes = tt; good = tt; range = tt })

pub returns-then-not-segments_fit : goal.returns-then-not-segments_fit
returns-then-not-segments_fit g c =
    let n : ℕ = length c.args.work.now in
    let bs : List Block = shows (g.D.Device.held c.args.d.now) in
    let h = c.in_ok-read_blocks.ensures in
    record {
      answer = load_two n bs (omega arith) (omega arith) h.answer c.word_at-total.result c.level_size-blocks.result
          (c.word_at-total.ensures ∙ segments_held bs 1024 _ h.bytes (omega arith)) c.level_size-blocks.ensures c.if-not-segments_fit.ensures;
      bytes = tt;
      good = tt;
      range = tt;
    }

pub returns-in_err-read_blocks-2 : goal.returns-in_err-read_blocks-2
returns-in_err-read_blocks-2 g c =
    let n : ℕ = length c.args.work.now in
    let bs : List Block = shows (g.D.Device.held c.args.d.now) in
    let h = c.in_ok-read_blocks.ensures in
    let p = err_from_is_err_and c.from_residual-in_err-read_blocks-2.result c.from_residual-in_err-read_blocks-2.ensures.1 in
    rw (p.1, p.2) (record {
      answer = load_other n bs (omega arith) (omega arith) h.answer c.word_at-total.result c.level_size-blocks.result
          (c.word_at-total.ensures ∙ segments_held bs 1024 _ h.bytes (omega arith)) c.level_size-blocks.ensures c.if-not-segments_fit.ensures _
          c.in_err-read_blocks-2.ensures.answer;
      bytes = tt;
      good = tt;
      range = tt;
    })

pub returns : goal.returns
returns g c =
    let n : ℕ = length c.args.work.now in
    let bs : List Block = shows (g.D.Device.held c.args.d.now) in
    let h = c.in_ok-read_blocks.ensures in
    let k = c.in_ok-read_blocks-2.ensures in
    let w : ℕ = c.word_at-total.result in
    let t = c.if-not-segments_fit.ensures in
    let least : 1 ≤ w = grind (arith, nat_tests) in
    let most : w ≤ 31 = grind (arith, nat_tests) in
    let e : 512 * (2 * w) ≡ 1024 * w = omega arith in
    let all : Holds bs (1024 * w) c.read_blocks-2.new.work = subst (λ (z : ℕ). Holds bs z c.read_blocks-2.new.work) e k.bytes in
    let is : w ≡ segments bs = c.word_at-total.ensures ∙ segments_held bs 1024 _ h.bytes (omega arith) in
    record {
      answer = load_all n bs (omega arith) (omega arith) h.answer w c.level_size-blocks.result
          is c.level_size-blocks.ensures c.if-not-segments_fit.ensures
          k.answer;
      bytes = holds_list bs w _ all (omega arith);
      good = good_join bs 8 (2 * w) (readable-good bs 6 2 h.answer) (readable-good bs 8 (2 * w - 2) k.answer) (omega arith);
      range = (least, most, omega arith, segments_held bs (1024 * w) _ all (omega arith) ∙ sym is);
    }
