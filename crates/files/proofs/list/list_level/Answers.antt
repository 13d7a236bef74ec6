use Rattle.std.proofs.Common.{◌≡◌, ℕ, ◌≤◌, List, length, IfOk, None, Result, sym, ap, ◌∙◌, subst, arith}
use Rattle.std.proofs.lemmas.Result.{err_from_is_err_and}
use Rattle.device.specs.Blocks.{Block}
use Rattle.device.specs.Held.{shows}
use Rattle.volume.specs.declared.fault.FileFault.{FileFault}
use Rattle.directory.specs.declared.placed.Placed.{Placed}
use Rattle.directory.specs.Entries.{entries_left}
use Rattle.directory.specs.Sounds.{SoundBytes, placed_of}
use Rattle.level.specs.Loads.{directory}
use Rattle.listing.specs.Listings.{listing, listing_answer, listing_after}
use Rattle.files.specs.Directories.{fitted, directory_answer, directory_after}
use Rattle.files.proofs.Listing.{list_refused, list_made, ok_or_fitted, fitted_within}
use Rattle.files.proofs.list.list_level.Goals as goal

pub returns-in_err-total : goal.returns-in_err-total
returns-in_err-total g c =
    let p = err_from_is_err_and c.from_residual.result c.from_residual.ensures.1 in
    let e = list_refused (length c.args.work.now) (shows (g.D.Device.held c.args.d.now)) None _ c.in_err-total.ensures.answer in
    rw (p.1, p.2) (record {
      answer = ap (λ (z : Result (List ℕ) FileFault). directory_answer z (length c.args.listing.now)) e;
      listing = ap (λ (z : Result (List ℕ) FileFault). directory_after z c.args.listing.now) e;
      fits = tt;
    })

pub new-directory-requires : goal.new-directory-requires
new-directory-requires g c = subst SoundBytes (sym c.directory_of.ensures) c.in_ok-total.ensures.sound

pub returns : goal.returns
returns g c =
    let s : ℕ = c.in_ok-total.total in
    let bs : List Block = shows (g.D.Device.held c.args.d.now) in
    let all : entries_left c.entries.result ≡ placed_of (directory bs s)
    = c.entries.ensures.entries ∙ ap placed_of (c.new-directory.ensures ∙ c.directory_of.ensures ∙ c.in_ok-total.ensures.bytes) in
    let told = c.write_listing.ensures.answer ∙ ap (λ (z : List Placed). listing_answer (listing z) (length c.args.listing.now)) all in
    let l = list_made (length c.args.work.now) bs None s c.in_ok-total.ensures.answer in
    let r = c.ok_or.ensures.value ∙ ok_or_fitted c.write_listing.result in
    record {
      answer = r ∙ ap fitted told ∙ ap (λ (z : Result (List ℕ) FileFault). directory_answer z (length c.args.listing.now)) l;
      listing = c.write_listing.ensures.after ∙ ap (λ (z : List Placed). listing_after (listing z) c.args.listing.now) all
          ∙ ap (λ (z : Result (List ℕ) FileFault). directory_after z c.args.listing.now) l;
      fits = subst (λ (z : Result ℕ FileFault). IfOk z (λ n. n ≤ length c.write_listing.new.out)) (sym r)
          (subst (λ (m : ℕ). IfOk (fitted c.write_listing.result) (λ n. n ≤ m)) (omega arith) (fitted_within _ _ _ told));
    }
