use Rattle.std.proofs.Common.{◌≡◌, ◌+◌, ◌*◌, ap, ◌∙◌, refl}
use Rattle.std.proofs.Math.Logic.{∥∥₁_elim}
use Rattle.codec.specs.Words.{word_at}
use Rattle.segment.specs.Directories.{chain_of}
use Rattle.directory.specs.Walks.{spot, OnWay-prop}
use Rattle.directory.specs.Sounds.{placed_of}
use Rattle.directory.proofs.Sounding.{chain_way}
use Rattle.directory.proofs.sound.Sound.entries.Goals as goal

pub new-requires : goal.new-requires
new-requires c =
    let dir = c.args.self.bytes.now in
    let k : c.as_slice.result.now ≡ chain_of dir = c.as_slice.ensures ∙ c.requires in
    let s : c.first_spot.result ≡ spot 0 0 (6 + 2 * word_at dir 0) = c.first_spot.ensures ∙ ap (spot 0 0) c.first_block.ensures in
    ∥∥₁_elim c.args.self.sound (OnWay-prop c.word_at.result dir c.as_slice.result.now c.first_spot.result) (λ t. rw (c.word_at.ensures, k, s) (chain_way dir t))

pub returns : goal.returns
unfolding placed_of
returns c =
    let dir = c.args.self.bytes.now in
    let k : c.as_slice.result.now ≡ chain_of dir = c.as_slice.ensures ∙ c.requires in
    let s : c.first_spot.result ≡ spot 0 0 (6 + 2 * word_at dir 0) = c.first_spot.ensures ∙ ap (spot 0 0) c.first_block.ensures in
    record {
      entries = c.new.ensures.entries ∙ rw (c.word_at.ensures, k, s) refl;
      chain = c.new.ensures.chain ∙ rw (c.word_at.ensures, k, s) refl;
    }
