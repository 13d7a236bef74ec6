use Rattle.std.proofs.Common.{◌≡◌, ℕ, ◌+◌, take, set, Some, sym, refl, ◌∙◌, subst, arith, length-take}
use Rattle.std.proofs.lemmas.List.{length-set}
use Rattle.segment.specs.Chains.{next_of, chain_from}
use Rattle.segment.proofs.Chains.{Met, met_more, met_bad, met_all, met-long}
use Rattle.segment.proofs.Rule4.{chain_inside}
use Rattle.segment.proofs.chain.chain_of.Goals as goal

pub returns-then-k-eq0 : goal.returns-then-k-eq0
returns-then-k-eq0 c =
    record {
      order = met_bad c.args.highest (next_of c.args.dir.now) c.loop-i.order c.loop-i.i c.loop-i.k c.loop-i.invariant.1 (omega arith) c.then-k-eq0.either;
      inside = tt;
      long = tt;
    }

pub loop-i-preserved : goal.loop-i-preserved
loop-i-preserved c =
    let h : ℕ = c.args.highest in
    let i : ℕ = c.loop-i.i in
    let k : ℕ = c.loop-i.k in
    let next = next_of c.args.dir.now in
    let ks = c.loop-i.order in (
      simp length-set c.loop-i.invariant.0,
      subst (Met h next (set ks i k) (i + 1)) (sym c.next_of-k.ensures)
          (met_more h next ks i k c.loop-i.invariant.1 (omega arith) (omega arith) (λ z. omega arith) (omega arith)),
    )

pub returns-then-k-ne0 : goal.returns-then-k-ne0
returns-then-k-ne0 c =
    record {
      order = met-long c.args.highest (next_of c.args.dir.now) c.loop-i.order c.loop-i.i c.loop-i.k c.loop-i.invariant.1 (omega arith) c.if-k-ne0.true;
      inside = tt;
      long = tt;
    }

pub returns : goal.returns
returns c =
    let h : ℕ = c.args.highest in
    let next = next_of c.args.dir.now in
    let ks = c.loop-i.order in
    let all : Some (take h ks) ≡ chain_from h h next 1
    = met_all h next ks c.loop-i.i c.loop-i.k c.loop-i.invariant.1 (omega arith) c.if-k-ne0.false in
    record { order = all; inside = (refl, chain_inside h next h 1 (take h ks) (sym all)); long = length-take h ks ∙ omega (arith, c.loop-i.invariant.0) }
