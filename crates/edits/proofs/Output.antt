-- Where an open output lies.
use Rattle.std.proofs.Common.{◌≡◌, ℕ, [], ◌++◌, take, Some, ap, ◌∙◌, arith}
use Rattle.std.proofs.lemmas.Bool.{both_ways}
use Rattle.edits.specs.Entries.{is_tentative, is_named, count, standing}
use Rattle.edits.specs.Directories.{Directory, flat, place_entries, entries_of, first_block, Lawful}
use Rattle.edits.specs.Edits.{spliced, Output}
use Rattle.edits.specs.Laws.{Opened, output_start, OutputClear}
use Rattle.edits.proofs.Counts.{count_yes, standing_here}
use Rattle.edits.proofs.Edited.{edit_parts, spliced_edit}
use Rattle.edits.proofs.Places.{stands_inside}
use Rattle.edits.proofs.Named.{named_shuns_tentative}
use Rattle.edits.proofs.Kept.{altered-edited}
use Rattle.edits.proofs.Apart.{places_inside, places_apart}

pub output_stands : (v : ℕ) (d : Directory) (out : Output) → Lawful 1 v d → Opened d out
    → standing is_tentative (first_block d) (entries_of d) ≡ Some (record { start = output_start d out; entry = out.entry })
output_stands v d out l o =
    let ss = d.segments in
    let k = out.segment in
    let i = out.index in
    let t = out.entry in
    let es = place_entries ss k in
    let before = flat (take k ss) ++ take i es in
    let e = (altered-edited ss k (spliced i 1 []) (stands_inside ss k i t o.here) (spliced_edit i t [] es o.here)).edit in
    let front : count is_tentative before ≡ 0 =
    omega (arith, edit_parts e is_tentative, count_yes is_tentative t [] o.tentative, l.settled) in
    ap (standing is_tentative (first_block d)) e.was
    ∙ standing_here is_tentative (first_block d) before t e.after front o.tentative

pub output_clear : OutputClear
output_clear v d out l o =
    let at = output_stands v d out l o in
    let i = rw at at (places_inside is_tentative (first_block d) (entries_of d)) in
    record {
      behind = i.1;
      inside = omega (arith, i.2, l.filled);
      apart = λ m.
          rw at at (places_apart is_tentative (is_named m)
          (λ e t n. both_ways (is_named m e) (named_shuns_tentative m e t) n) (first_block d) (entries_of d));
    }
