-- Totals with one entry more.
use Rattle.std.specs.Prelude.{ℕ, ◌+◌}
use Rattle.volume.specs.declared.entry.Status.{Status}
use Rattle.volume.specs.declared.entry.Status.TheVariants.{Tentative, Empty, Permanent, Protected}
use Rattle.directory.specs.declared.placed.Placed.{Placed}
use Rattle.listing.specs.declared.totals.Totals.{Totals}

-- a file more
abbrev pub with_file : Totals → ℕ → Totals
with_file t n = record { files = t.files + 1; used = t.used + n; free = t.free }

-- so many blocks more of a status
abbrev pub with_blocks : Totals → ℕ → Status → Totals
with_blocks t n Tentative = t
with_blocks t n Empty = record { files = t.files; used = t.used; free = t.free + n }
with_blocks t n Permanent = with_file t n
with_blocks t n Protected = with_file t n

abbrev pub with_entry : Totals → Placed → Totals
with_entry t p = with_blocks t p.length p.status
