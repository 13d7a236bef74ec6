-- The answers of DIRECTORY, by where it ends.
use Rattle.std.proofs.Common.{◌≡◌, ℕ, ◌≤◌, Bool, true, false, cond, leb, List, length, Some, None, Ok, Err, IfOk, Option, refl, ap, arith}
use Rattle.std.specs.Option.{ok_or}
use Rattle.std.proofs.lemmas.Bool.{leb-true}
use Rattle.device.specs.Blocks.{Block}
use Rattle.volume.specs.declared.fault.FileFault.{FileFault}
use Rattle.volume.specs.declared.fault.FileFault.TheVariants.{ListingTooSmall}
use Rattle.directory.specs.declared.pending.Pending.{Pending}
use Rattle.directory.specs.Sounds.{placed_of}
use Rattle.level.specs.Loads.{directory}
use Rattle.level.specs.Checks.{check_answer}
use Rattle.listing.specs.Listings.{listing, listing_answer}
use Rattle.files.specs.Directories.{listed, level_listing, fitted}

module _ (n : ℕ) (bs : List Block) (o : Option Pending) where
  pub list_refused : (e : FileFault) → Err e ≡ check_answer n bs o → Err e ≡ level_listing n bs o
  unfolding level_listing
  list_refused e q = ap (listed bs) q

  pub list_made : (s : ℕ) → Ok s ≡ check_answer n bs o → Ok (listing (placed_of (directory bs s))) ≡ level_listing n bs o
  unfolding level_listing
  list_made s q = ap (listed bs) q

pub ok_or_fitted : (o : Option ℕ) → ok_or o ListingTooSmall ≡ fitted o
ok_or_fitted None = refl
ok_or_fitted (Some n) = refl

-- a listing that was written is no longer than the buffer
within : (text : List ℕ) (room n : ℕ) → Some n ≡ listing_answer text room → n ≤ room
within text room n = go (leb (length text) room) refl
  where
    go : (t : Bool) → leb (length text) room ≡ t → Some n ≡ cond t (Some (length text)) None → n ≤ room
    go true e q = let m : n ≡ length text = cc in omega (arith, m, leb-true (length text) room e)
    go false e q = absurd (let z : ◌≡◌ {A = ℕ} 0 1 = cc in omega arith)

pub fitted_within : (text : List ℕ) (room : ℕ) (o : Option ℕ) → o ≡ listing_answer text room → IfOk (fitted o) (λ n. n ≤ room)
fitted_within text room None q = tt
fitted_within text room (Some n) q = within text room n q
