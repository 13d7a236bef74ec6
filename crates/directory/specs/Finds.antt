-- What is asked of entries in their places.
use Rattle.std.specs.Prelude.{ℕ, ◌+◌, Bool, true, false, cond, not, ◌&&◌, ◌||◌, List, [], ◌∷◌, Some, None, Option, ◌==◌, nat_lt}
use Rattle.std.specs.List.{list_all, find}
use Rattle.codec.specs.declared.name.Name.{Name}
pub use Rattle.volume.specs.Entries.{file_status, tentative_status}
use Rattle.directory.specs.declared.placed.Placed.{Placed}

abbrev pub is_file : Placed → Bool
is_file p = file_status p.status

abbrev pub is_tentative : Placed → Bool
is_tentative p = tentative_status p.status

-- two names are one where their words are
abbrev pub same_name : Name → Name → Bool
same_name a b = a.first == b.first && (a.second == b.second && a.kind == b.kind)

abbrev pub is_named : Name → Placed → Bool
is_named n p = is_file p && same_name n p.name

-- the first file of a name
unfoldable pub first_named : Name → List Placed → Option Placed
first_named n ps = find (is_named n) ps

-- how many are tentative
unfoldable pub tentatives : List Placed → ℕ
tentatives [] = 0
tentatives (p ∷ ps) = cond (is_tentative p) 1 0 + tentatives ps

-- the blocks of all together
unfoldable pub blocks_in : List Placed → ℕ
blocks_in [] = 0
blocks_in (p ∷ ps) = p.length + blocks_in ps

-- a file's name words are below 64,000
abbrev pub well_named : Placed → Bool
well_named p = not (is_file p) || (nat_lt p.name.first 64000 && (nat_lt p.name.second 64000 && nat_lt p.name.kind 64000))

unfoldable pub all_well_named : List Placed → Bool
all_well_named ps = list_all well_named ps

abbrev pub none : Option Placed → Bool
none None = true
none (Some p) = false

-- no file behind it has its name
abbrev pub alone : Placed → List Placed → Bool
alone p ps = not (is_file p) || none (first_named p.name ps)

-- no two files have one name
unfoldable pub all_apart : List Placed → Bool
all_apart [] = true
all_apart (p ∷ ps) = alone p ps && all_apart ps
