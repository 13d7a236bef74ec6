use Rattle.std.proofs.Common.{◌≡◌, ◌+◌, ◌*◌, ◌++◌, length, take, replicate}
use Rattle.std.specs.List.{flat_map}
use Rattle.codec.specs.Words.{written}
use Rattle.volume.specs.Entries.{entry_bytes}
use Rattle.volume.specs.Segments.{header_bytes}
use Rattle.volume.proofs.segment.encode_segment.Given as goal

abbrev pub invariant-loop-i : goal.invariant-loop-i
invariant-loop-i l =
    (length (header_bytes l.h ++ flat_map (entry_bytes l.extra) (take l.i l.entries)) ≡ 10 + l.i * (14 + l.extra))
    × (l.out ≡ written (replicate 1024 0) 0 (header_bytes l.h ++ flat_map (entry_bytes l.extra) (take l.i l.entries)))
