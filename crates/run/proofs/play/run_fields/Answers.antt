use Rattle.std.proofs.Common.{ap, ◌∙◌, arith}
use Rattle.std.proofs.lemmas.Bool.{le-leb, lt-leb}
use Rattle.run.specs.Play.{Played}
use Rattle.run.proofs.Steps.{at_end, at_full, at_rump, one_more}
use Rattle.run.proofs.play.run_fields.Goals as goal

pub returns-then-report-lines-lt20 : goal.returns-then-report-lines-lt20
returns-then-report-lines-lt20 g c =
    let q = at_full _ _ _ c.loop-field.invariant.3 _ c.in-Some.ensures.steps (lt-leb _ _ (omega arith)) in
    record {
      lines = ap (λ (x : Played). x.lines) q;
      end = ap (λ (x : Played). x.end) q;
      state = ap (λ (x : Played). x.pack) q;
      report = ap (λ (x : Played). x.report) q;
      fixed = c.loop-field.invariant.4;
      fits = c.loop-field.invariant.2;
    }

pub returns-in_default : goal.returns-in_default
returns-in_default g c =
    let q = at_rump _ _ _ c.loop-field.invariant.3 c.in_default.is c.in-Some.ensures.steps (le-leb _ _ (omega arith)) in
    record {
      lines = ap (λ (x : Played). x.lines) q;
      end = ap (λ (x : Played). x.end) q;
      state = ap (λ (x : Played). x.pack) q;
      report = ap (λ (x : Played). x.report) q;
      fixed = c.loop-field.invariant.4;
      fits = c.loop-field.invariant.2;
    }

pub loop-field-preserved : goal.loop-field-preserved
loop-field-preserved g c = (
  tt,
  tt,
  omega arith,
  one_more _ _ _ c.loop-field.invariant.3 c.in-Ok.is c.in-Some.ensures.steps (le-leb _ _ (omega arith)) c.report_field.ensures.state c.report_field.ensures.report,
  c.report_field.ensures.fixed ∙ c.loop-field.invariant.4,
)

pub returns : goal.returns
returns g c =
    let q = at_end _ _ _ c.loop-field.invariant.3 c.in-None.ensures.steps.0 in
    record {
      lines = ap (λ (x : Played). x.lines) q;
      end = ap (λ (x : Played). x.end) q;
      state = ap (λ (x : Played). x.pack) q;
      report = ap (λ (x : Played). x.report) q;
      fixed = c.loop-field.invariant.4;
      fits = c.loop-field.invariant.2;
    }
