use Rattle.std.proofs.Common.{◌≡◌, Ok, Err, sym, refl, ap, ◌∙◌}
use Rattle.std.proofs.lemmas.Result.{err_from_is_err_and}
use Rattle.files.specs.States.{State, state_of}
use Rattle.runfile.specs.declared.fault.FieldFault.TheVariants.{UnknownTag}
use Rattle.runfile.specs.Orders.{order_in, initialize}
use Rattle.run.specs.Fields.{obeyed, performed, refused, turned}
use Rattle.run.proofs.Steps.{unknown, said, not_built}
use Rattle.run.proofs.perform.perform.Goals as goal

pub returns-then-not-is_known : goal.returns-then-not-is_known
returns-then-not-is_known g c = rw (unknown _ _ _ (sym c.if-not-is_known.ensures)) record { answer = refl; state = refl; fixed = refl }

pub returns-in_err-field : goal.returns-in_err-field
unfolding obeyed
returns-in_err-field g c =
    let s : State = state_of g.D.Device.held c.args.pack.now in
    let p = err_from_is_err_and c.from_residual.result c.from_residual.ensures.1 in
    let e = said s c.args.tag c.args.body.now (Err c.in_err-field.field-0.0) (sym c.if-not-is_known.ensures) c.in_err-field.ensures in
    rw (e, p.1, p.2) record { answer = refl; state = refl; fixed = refl }

pub returns-in_err-initialize-in-Initialize : goal.returns-in_err-initialize-in-Initialize
unfolding obeyed
returns-in_err-initialize-in-Initialize g c =
    let s : State = state_of g.D.Device.held c.args.pack.now in
    let p = err_from_is_err_and c.from_residual-in_err-initialize-in-Initialize.result c.from_residual-in_err-initialize-in-Initialize.ensures.1 in
    let o : ◌≡◌ (Ok (order_in c.in_ok-field.field)) (Ok (initialize c.in-Initialize.segments)) = ap (λ f. Ok (order_in f)) c.in-Initialize.is in
    let e = said s c.args.tag c.args.body.now (Ok (initialize c.in-Initialize.segments)) (sym c.if-not-is_known.ensures) (sym o ∙ c.in_ok-field.ensures) in
    rw (e, p.1, p.2)
    record {
      answer = ap turned c.in_err-initialize-in-Initialize.ensures.answer;
      state = c.in_err-initialize-in-Initialize.ensures.state;
      fixed = c.in_err-initialize-in-Initialize.ensures.fixed;
    }

pub returns-in_default : goal.returns-in_default
returns-in_default g c =
    let s : State = state_of g.D.Device.held c.args.pack.now in
    let e : performed s c.args.tag c.args.body.now ≡ refused s UnknownTag
    = said s c.args.tag c.args.body.now (Ok (order_in c.in_ok-field.field)) (sym c.if-not-is_known.ensures) c.in_ok-field.ensures
    ∙ not_built c.in_ok-field.field s c.in_default.not-Initialize in
    rw e record { answer = refl; state = refl; fixed = refl }

pub returns : goal.returns
unfolding obeyed
returns g c =
    let s : State = state_of g.D.Device.held c.args.pack.now in
    let o : ◌≡◌ (Ok (order_in c.in_ok-field.field)) (Ok (initialize c.in-Initialize.segments)) = ap (λ f. Ok (order_in f)) c.in-Initialize.is in
    let e = said s c.args.tag c.args.body.now (Ok (initialize c.in-Initialize.segments)) (sym c.if-not-is_known.ensures) (sym o ∙ c.in_ok-field.ensures) in
    rw e
    record {
      answer = ap turned c.in_ok-initialize-in-Initialize.ensures.answer;
      state = c.in_ok-initialize-in-Initialize.ensures.state;
      fixed = c.in_ok-initialize-in-Initialize.ensures.fixed;
    }
