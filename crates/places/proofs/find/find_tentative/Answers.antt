use Rattle.std.proofs.Common.{◌≡◌, ℕ, ◌≤◌, IfSome, Some, Option, tests, rules, sym, ap, ◌∙◌, subst}
use Rattle.std.specs.Option.{option_map}
use Rattle.directory.specs.declared.placed.Placed.{Placed}
use Rattle.directory.specs.Finds.{is_tentative}
use Rattle.places.specs.declared.place.EntryPlace.{EntryPlace}
use Rattle.places.specs.Searches.{entry_told, chained_of, first_passing}
use Rattle.places.proofs.Searching.{first_found, low_found}
use Rattle.places.proofs.Found.{tentative_found}
use Rattle.places.proofs.find.find_tentative.Goals as goal

pub returns-in_err-place : goal.returns-in_err-place
unfolding chained_of
returns-in_err-place c =
    let q : c.find.result ≡ first_passing is_tentative (chained_of c.args.dir.bytes.now)
    = first_found is_tentative c.new.result c.find.new.self _ c.find.result c.find.ensures.ran (λ x b q k. search (rules, tests))
    ∙ ap (first_passing is_tentative) (c.new.ensures ∙ c.entries.ensures.chain) in
    rw c.from_residual.ensures
    (record { entry = ap (option_map entry_told) (sym c.in_err-place.was ∙ q) ∙ tentative_found c.args.dir.bytes.now; start = tt })

pub returns : goal.returns
unfolding chained_of
returns c =
    let q : c.find.result ≡ first_passing is_tentative (chained_of c.args.dir.bytes.now)
    = first_found is_tentative c.new.result c.find.new.self _ c.find.result c.find.ensures.ran (λ x b q k. search (rules, tests))
    ∙ ap (first_passing is_tentative) (c.new.ensures ∙ c.entries.ensures.chain) in
    let low : IfSome (Some (c.in_ok-place.place, c.in_ok-place.entry)) (λ (e : ℕ × Placed). e.1.start ≤ 200000000)
    = subst (λ (r : Option (ℕ × Placed)). IfSome r (λ e. e.1.start ≤ 200000000)) c.in_ok-place.was
    (low_found c.find.ensures.ran.2.0 c.find.new.self c.find.result c.find.ensures.ran.2.2) in
    record {
      entry = ap (λ z. Some z) c.entry_told.ensures ∙ ap (option_map entry_told) (sym c.in_ok-place.was ∙ q) ∙ tentative_found c.args.dir.bytes.now;
      start = subst (λ (f : EntryPlace). f.start ≤ 200000000) (sym c.entry_told.ensures) low;
    }
