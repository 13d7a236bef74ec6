use Rattle.std.proofs.Common.{rules, ◌≡◌, ℕ, ◌+◌, ◌*◌, ◌<◌, ◌≤◌, length, IfSome, Option, None, Some, List, Bor, arith, ◌∙◌}
use Rattle.std.proofs.iter.runs.Made.{chains}
use Rattle.std.specs.List.{IsSubsliceAt}
use Rattle.std.specs.Option.{option_map}
use Rattle.std.specs.Slice.Iter.{chunks_exact_rest, chunks_exact_size}
use Rattle.codec.specs.Words.{word_at}
use Rattle.manual.proofs.sectors.is_filled.Goals as goal

-- a pair of bytes is the word at its place
word_of : (ys pair : List ℕ) (n k : ℕ) → n ≡ 2 → IsSubsliceAt n ys (k * n) pair → word_at ys (2 * k) ≡ word_at pair 0
word_of ys pair n k two sub =
    let first = sub.2 0 0 (omega arith) in
    let second = sub.2 1 0 (omega arith) in
    let place : k * n ≡ 2 * k = grind arith in
    grind arith

-- a pair that was read there says which word is there
said : (ys : List ℕ) (n k w : ℕ) (o : Option (Bor (List ℕ))) (x : Bor (List ℕ)) → n ≡ 2 → option_map (λ y. y) o ≡ Some x → IfSome o (λ y. word_at y.now 0 ≡ w) → IfSome o (λ y. (length y.now ≡ n) × (k * n + n ≤ length ys) × IsSubsliceAt n ys (k * n) y.now) → word_at ys (2 * k) ≡ w
said ys n k w (Some y) x two read filled piece = word_of ys y.now n k two piece.2 ∙ filled
said ys n k w None x two read filled piece = search rules

pub returns : goal.returns
returns c t k h =
    let p = c.all.ensures.runs.0 in
    let below : k < p.len = search (rules, chains) in
    let read = p.reads k c.args.sector below in
    let filled : IfSome (p.at k) (λ x. word_at x.now 0 ≡ c.args.word) = search (rules, chains) in
    let pieces = (c.chunks_exact.ensures.runs p p.seen (search (rules, chains))).2 k in
    let two : chunks_exact_size p.from ≡ 2 = cc in
    let fact = said (chunks_exact_rest p.from) _ k _ (p.at k) _ two read filled pieces in
    search (rules, fact)
