use Rattle.std.proofs.Common.{ap, ◌∙◌, arith}
use Rattle.codec.specs.Words.{written}
use Rattle.codec.proofs.Written.{bytes_are, written-none, word_more}
use Rattle.codec.proofs.words.put_words.Goals as goal

pub loop-i-init : goal.loop-i-init
loop-i-init c = written-none _ _

pub loop-i-preserved : goal.loop-i-preserved
loop-i-preserved c =
    word_more _ _ _ _ _ _ (omega arith) (omega arith) c.loop-i.invariant
    (c.put.ensures ∙ ap (written _ _) (c.to_le_bytes.ensures ∙ bytes_are _ (omega (arith, c.type_inv.words c.loop-i.i))))
