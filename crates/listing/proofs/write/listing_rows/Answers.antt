use Rattle.std.proofs.Common.{refl}
use Rattle.std.specs.Fmt.{digits}
use Rattle.codec.specs.Dates.{dated_of}
use Rattle.codec.specs.Names.{shown}
use Rattle.directory.specs.Finds.{blocks_in}
use Rattle.listing.specs.Listings.{day_text, date_text, name_text, file_line, total_line, last_line, listing}
use Rattle.listing.proofs.write.listing_rows.Goals as goal

pub returns : goal.returns
unfolding digits dated_of shown blocks_in day_text date_text name_text file_line total_line last_line listing
returns c = record { row_undated = refl; row_unlawful = refl; row_none = refl; row_one = refl }
