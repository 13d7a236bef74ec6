use Rattle.std.proofs.Common.{rules, arith}
use Rattle.std.specs.Coded.{×_prop, le_prop}
use Rattle.std.proofs.Math.Logic.{∥∥₁_elim}
use Rattle.directory.proofs.Sounding.{highest, way_found}
use Rattle.directory.proofs.sound.Sound.chain.Goals as goal

pub chain_of-requires : goal.chain_of-requires
chain_of-requires c =
    let dir = c.args.self.bytes.now in
    ∥∥₁_elim c.args.self.sound (×_prop le_prop le_prop)
    (λ s. (omega (arith, c.word_at.ensures, highest dir s, s.few), omega (arith, c.word_at.ensures, highest dir s, s.long)))

pub returns-clause-way : goal.returns-clause-way
returns-clause-way c = way_found c.args.self.bytes.now c.args.self.sound c.word_at.result c.word_at.ensures _ (search rules)
