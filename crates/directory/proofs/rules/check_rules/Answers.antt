use Rattle.std.proofs.Common.{◌≤◌, sym, ap, subst, arith, length}
use Rattle.std.specs.List.{AllByRecursion}
use Rattle.std.proofs.lemmas.Bool.Decides.{nat_tests}
use Rattle.segment.specs.Chains.{order_of}
use Rattle.directory.specs.Walks.{InDirectory}
use Rattle.directory.proofs.Breaking.{in_range, few_taken}
use Rattle.directory.proofs.rules.check_rules.Goals as goal

pub invariant_of-segments : goal.invariant_of-segments
invariant_of-segments c =
    let t = c.if-not-in_use.ensures in
    let h : c.word_at-highest.result ≤ c.word_at-total.result = grind (arith, nat_tests) in
    let i = c.in-Some.ensures.inside in
    record {
      inside =
          subst (AllByRecursion (InDirectory c.args.dir.now)) (sym c.as_slice.ensures)
          (in_range (length c.args.dir.now) c.word_at-highest.result (omega arith) (order_of c.in-Some.chain) i.1);
      few = omega (arith, ap length c.as_slice.ensures, few_taken c.in-Some.chain.count c.in-Some.chain.order, i.0);
      low = omega arith;
    }
