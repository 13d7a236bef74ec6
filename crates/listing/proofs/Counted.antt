-- Totals along the entries.
use Rattle.std.proofs.Common.{◌≡◌, suc, ◌+◌, ◌*◌, ◌<◌, ◌≤◌, cond, List, [], ◌∷◌, length, sym, subst, arith}
use Rattle.std.proofs.lemmas.List.{length-append}
use Rattle.std.specs.List.{flat_map}
use Rattle.volume.specs.declared.entry.Status.{Status}
use Rattle.volume.specs.declared.entry.Status.TheVariants.{Tentative, Empty, Permanent, Protected}
use Rattle.directory.specs.declared.placed.Placed.{Placed}
use Rattle.directory.specs.Finds.{file_status, blocks_in}
use Rattle.listing.specs.declared.totals.Totals.{Totals}
use Rattle.listing.specs.Listings.{file_line, empty_status, files_in, empties_in, file_lines}
use Rattle.listing.specs.Adding.{with_blocks, with_entry}
use Rattle.listing.proofs.Lengths.{length_line}

-- totals so far, and what is left, add up to the totals of all
pub record Adds (t : Totals) (rest all : List Placed) : Type 0 where
  pub files : t.files + length (files_in rest) ≡ length (files_in all)
  pub used : t.used + blocks_in (files_in rest) ≡ blocks_in (files_in all)
  pub free : t.free + blocks_in (empties_in rest) ≡ blocks_in (empties_in all)
  pub lines : 30 * t.files + length (file_lines rest) ≡ length (file_lines all)
  pub few : t.files + length rest ≤ length all
  pub small : t.used + t.free + 65535 * length rest ≤ 65535 * length all

pub adds_none : (t : Totals) (ps : List Placed) → (t.files ≡ 0) × ((t.used ≡ 0) × (t.free ≡ 0)) → Adds t ps ps
adds_none t ps h =
    record {
      files = omega (arith, h);
      used = omega (arith, h);
      free = omega (arith, h);
      lines = omega (arith, h);
      few = omega (arith, h);
      small = omega (arith, h);
    }

-- one entry more, by its status
abbrev Next : Totals → Placed → List Placed → List Placed → Status → Type 0
Next t p rest all s =
    (t.files + length (cond (file_status s) (p ∷ files_in rest) (files_in rest)) ≡ length (files_in all))
    → (t.used + blocks_in (cond (file_status s) (p ∷ files_in rest) (files_in rest)) ≡ blocks_in (files_in all))
    → (t.free + blocks_in (cond (empty_status s) (p ∷ empties_in rest) (empties_in rest)) ≡ blocks_in (empties_in all))
    → (30 * t.files + length (flat_map file_line (cond (file_status s) (p ∷ files_in rest) (files_in rest))) ≡ length (file_lines all))
    → (t.files + suc (length rest) ≤ length all)
    → (t.used + t.free + 65535 * suc (length rest) ≤ 65535 * length all)
    → Adds (with_blocks t p.length s) rest all

next : (t : Totals) (p : Placed) (rest all : List Placed) (s : Status) → p.length < 65536 → Next t p rest all s
unfolding blocks_in
next t p rest all Tentative h a b c d e f =
    record { files = a; used = b; free = c; lines = d; few = omega arith; small = omega arith }
next t p rest all Empty h a b c d e f =
    record { files = a; used = b; free = omega arith; lines = d; few = omega arith; small = omega arith }
next t p rest all Permanent h a b c d e f =
    record {
      files = omega arith;
      used = omega arith;
      free = c;
      lines = omega (arith, length-append (file_line p) (file_lines rest), length_line p h);
      few = omega arith;
      small = omega arith;
    }
next t p rest all Protected h a b c d e f =
    record {
      files = omega arith;
      used = omega arith;
      free = c;
      lines = omega (arith, length-append (file_line p) (file_lines rest), length_line p h);
      few = omega arith;
      small = omega arith;
    }

pub adds_next : (t t' : Totals) (l : List Placed) {p : Placed} {rest : List Placed} (all : List Placed) → t' ≡ with_entry t p → l ≡ p ∷ rest
    → p.length < 65536 → Adds t l all → Adds t' rest all
adds_next t t' l {p} {rest} all q e h a =
    let a' : Adds t (p ∷ rest) all = subst (λ (z : List Placed). Adds t z all) e a in
    subst (λ (z : Totals). Adds z rest all) (sym q) (next t p rest all p.status h a'.files a'.used a'.free a'.lines a'.few a'.small)

-- at the end the totals are those of all
pub adds_all : (t : Totals) (l all : List Placed) → l ≡ [] → Adds t l all
    → (t.files ≡ length (files_in all))
    × (t.used ≡ blocks_in (files_in all))
    × (t.free ≡ blocks_in (empties_in all))
    × (30 * t.files ≡ length (file_lines all))
unfolding blocks_in
adds_all t l all e a =
    let a' : Adds t [] all = subst (λ (z : List Placed). Adds t z all) e a in
    (omega (arith, a'.files), omega (arith, a'.used), omega (arith, a'.free), omega (arith, a'.lines))
