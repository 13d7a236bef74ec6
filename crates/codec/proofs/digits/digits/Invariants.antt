use Rattle.std.proofs.Common.{◌≡◌, ◌++◌, length, drop}
use Rattle.codec.specs.Digits.{digits_of}
use Rattle.codec.proofs.digits.digits.Given as goal

-- the digits that are left to write, in front of those written, make all
abbrev pub invariant-loop-place : goal.invariant-loop-place
invariant-loop-place g l =
    (length l.digits ≡ g.row.N) × (digits_of l.place l.left ++ drop l.place l.digits ≡ digits_of g.row.N l.n)
