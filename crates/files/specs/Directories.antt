-- DIRECTORY: the workspace, the level, and last the room for the listing.
use Rattle.std.specs.Prelude.{ℕ, List, Some, None, Ok, Err, Option, Result}
use Rattle.device.specs.Blocks.{Block}
use Rattle.volume.specs.declared.fault.FileFault.{FileFault}
use Rattle.volume.specs.declared.fault.FileFault.TheVariants.{ListingTooSmall}
use Rattle.directory.specs.declared.pending.Pending.{Pending}
use Rattle.directory.specs.Sounds.{placed_of}
use Rattle.level.specs.Loads.{directory}
use Rattle.level.specs.Checks.{check_answer}
use Rattle.listing.specs.Listings.{listing, listing_answer, listing_after}

abbrev pub listed : List Block → Result ℕ FileFault → Result (List ℕ) FileFault
listed bs (Ok s) = Ok (listing (placed_of (directory bs s)))
listed bs (Err e) = Err e

-- the listing of a level, with a workspace of n bytes, or the refusal
unfoldable pub level_listing : ℕ → List Block → Option Pending → Result (List ℕ) FileFault
level_listing n bs o = listed bs (check_answer n bs o)

abbrev pub fitted : Option ℕ → Result ℕ FileFault
fitted (Some n) = Ok n
fitted None = Err ListingTooSmall

-- its length, where the caller's buffer has room for it
abbrev pub directory_answer : Result (List ℕ) FileFault → ℕ → Result ℕ FileFault
directory_answer (Ok l) room = fitted (listing_answer l room)
directory_answer (Err e) room = Err e

-- what the buffer holds then
abbrev pub directory_after : Result (List ℕ) FileFault → List ℕ → List ℕ
directory_after (Ok l) buffer = listing_after l buffer
directory_after (Err e) buffer = buffer
