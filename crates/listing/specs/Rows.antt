-- Worked rows of a listing.
use Rattle.std.specs.Prelude.{◌≡◌, ℕ, [], ◌∷◌, ◌++◌, codes}
use Rattle.volume.specs.declared.entry.Status.{Status}
use Rattle.volume.specs.declared.entry.Status.TheVariants.{Empty, Permanent, Protected}
use Rattle.directory.specs.declared.placed.Placed.{Placed}
use Rattle.listing.specs.Listings.{file_line, listing}

-- KIT.DSK with a status, a length and a date word
abbrev pub kit : Status → ℕ → ℕ → Placed
kit status long word =
    record { status = status; name = record { first = 17980; second = 0; kind = 7171 }; length = long; date = word; segment = 1; index = 0; start = 8 }

abbrev pub free : ℕ → Placed
free blocks =
    record { status = Empty; name = record { first = 0; second = 0; kind = 0 }; length = blocks; date = 0; segment = 1; index = 1; start = 48 }

pub record ListingRows : Type 0 where
  pub row_undated : file_line (kit Protected 65535 0) ≡ codes "KIT   .DSK 65535P            " ++ (10 ∷ [])
  pub row_unlawful : file_line (kit Permanent 7 1) ≡ codes "KIT   .DSK     7  ??-???-????" ++ (10 ∷ [])
  pub row_none : listing (free 92 ∷ []) ≡ codes "Files 0 Used 0 Free 92" ++ (10 ∷ [])
  pub row_one : listing (kit Permanent 40 3117 ∷ free 52 ∷ [])
      ≡ codes "KIT   .DSK    40  01-Mar-1985" ++ (10 ∷ (codes "Files 1 Used 40 Free 52" ++ (10 ∷ [])))
