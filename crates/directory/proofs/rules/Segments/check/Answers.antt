use Rattle.std.proofs.Common.{sym, arith}
use Rattle.std.proofs.lemmas.Bool.Decides.{nat_tests}
use Rattle.directory.specs.Walks.{InDirectory, Readable}
use Rattle.directory.specs.Rules.{lawful_at}
use Rattle.directory.proofs.Tests.{all_both}
use Rattle.directory.proofs.rules.Segments.check.Goals as goal

pub invariant_of-check : goal.invariant_of-check
invariant_of-check c =
    let s = c.args.self in
    let t = c.if-not-extra_sound.ensures in
    record {
      readable =
          all_both (InDirectory s.dir.now) (lawful_at s.extra s.dir.now) (Readable s.extra s.dir.now) (λ k p q. (p.0, p.1, q)) s.order.now s.inside
          (sym c.if-not-all_lawful.ensures);
      short = grind (arith, nat_tests);
    }
