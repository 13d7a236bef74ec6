use Rattle.std.proofs.Common.{◌≡◌, ℕ, ◌+◌, ◌*◌, [], ◌∷◌, ◌++◌, length, get_or, take, replicate, sym, refl, ap, ◌∙◌, zero-mul, arith}
use Rattle.std.specs.List.{flat_map}
use Rattle.std.proofs.lemmas.List.{append-nil, length-append, take_all}
use Rattle.codec.specs.Words.{written}
use Rattle.codec.proofs.Written.{written-two, written_zeros}
use Rattle.volume.specs.Entries.{entry_bytes}
use Rattle.volume.specs.Segments.{header_bytes, used_bytes, segment_bytes}
use Rattle.volume.proofs.Encoding.{no_entry, room_all, next_start, entries_more}
use Rattle.volume.proofs.segment.encode_segment.Goals as goal

pub loop-i-init : goal.loop-i-init
unfolding header_bytes
loop-i-init c =
    let zeros : c.fill.new.self ≡ replicate 1024 0 = c.fill.ensures.after (λ y h. h) ∙ ap (λ n. replicate n 0) c.requires.0 in (
      omega (arith, zero-mul (14 + c.args.h.now.extra)),
      c.put_words.ensures ∙ ap (λ z. written z 0 (header_bytes c.args.h.now)) zeros
          ∙ ap (written (replicate 1024 0) 0) (sym (append-nil (header_bytes c.args.h.now))),
    )

pub encode_entry-requires : goal.encode_entry-requires
encode_entry-requires c =
    let x : ℕ = c.args.h.now.extra in
    let i : ℕ = c.loop-i.i in
    (omega (arith, next_start x i, room_all x (i + 1) (omega arith)), c.requires.1.0)

pub loop-i-preserved : goal.loop-i-preserved
loop-i-preserved c =
    let es = c.args.entries.now in
    let i : ℕ = c.loop-i.i in
    let h = header_bytes c.args.h.now in
    let x : ℕ = c.args.h.now.extra in
    let done = h ++ flat_map (entry_bytes x) (take i es) in
    let more = entries_more x h es i no_entry c.loop-i-test.true in
    let start : 0 + length done ≡ 10 + i * (14 + x) = omega (arith, c.loop-i.invariant.0) in (
      rw (← more) (omega (arith, length-append done (entry_bytes x (get_or es i no_entry)), c.encode_entry.ensures.long, c.loop-i.invariant.0, next_start x i)),
      written-two (replicate 1024 0) 0 done _ _ _ c.loop-i.invariant.1 c.encode_entry.ensures.after refl start (omega arith)
          ∙ ap (written (replicate 1024 0) 0) more,
    )

pub returns : goal.returns
unfolding segment_bytes used_bytes
returns c =
    let h = header_bytes c.args.h.now in
    let x : ℕ = c.args.h.now.extra in
    let es = c.args.entries.now in
    let count : c.loop-i.i ≡ length es = omega arith in
    let start : 0 + length (h ++ flat_map (entry_bytes x) (take c.loop-i.i es)) ≡ 10 + length es * (14 + x)
    = omega (arith, c.loop-i.invariant.0, ap (λ (n : ℕ). n * (14 + x)) count) in
    let all : take c.loop-i.i es ≡ es = take_all c.loop-i.i es c.loop-i-test.false in
    written-two (replicate 1024 0) 0 (h ++ flat_map (entry_bytes x) (take c.loop-i.i es)) (0 ∷ 8 ∷ []) _ _
    c.loop-i.invariant.1 c.put_words-2.ensures refl start (omega arith)
    ∙ ap (λ z. written (replicate 1024 0) 0 (h ++ flat_map (entry_bytes x) z ++ 0 ∷ 8 ∷ [])) all
    ∙ written_zeros 1024 (h ++ flat_map (entry_bytes x) es ++ 0 ∷ 8 ∷ [])
