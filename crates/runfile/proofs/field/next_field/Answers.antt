use Rattle.std.proofs.Common.{◌≡◌, ◌+◌, ◌*◌, get_or, drop, refl, arith}
use Rattle.std.proofs.lemmas.List.{take_rest}
use Rattle.std.proofs.lemmas.Bool.{ltb-false, ltb-true}
use Rattle.runfile.proofs.Pieces.{piece_at, sized_whole}
use Rattle.runfile.proofs.field.next_field.Goals as goal

pub returns-else-size-rest : goal.returns-else-size-rest
returns-else-size-rest c =
    let run = c.args.run.now in
    let rest = take_rest run 3 in
    let piece = piece_at run (get_or run 1 0) (get_or run 2 0) (omega (arith, ltb-false, ltb-true)) refl refl in
    let size : c.from-size.result ≡ get_or run 1 0 + 256 * get_or run 2 0 = omega (arith, c.from-size.ensures, c.from_le_bytes.ensures) in
    let fits = sized_whole (get_or run 0 0) _ (drop 3 run) (rw rest at c.if-size-rest.false) in
    let front = c.split_at.ensures.front in
    let back = c.split_at.ensures.back in
    cc
