-- Blocks that are there, and good.
use Rattle.std.proofs.Common.{◌≡◌, ℕ, ◌<◌, Bool, true, false, cond, ltb, List, length, get_or, set, Ok, Err, sym, refl, ap, ◌∙◌, arith}
use lib.Seq.{set-get_or}
use Rattle.std.proofs.lemmas.Bool.{ltb-true}
use Rattle.device.specs.declared.fault.DeviceFault.TheVariants.{PastEnd, BadBlock}
use Rattle.device.specs.Blocks.{Block, none, good, is_bad}
use Rattle.device.specs.Stacks.{Fitting}
use Rattle.device.specs.Answers.{fetch}
use Rattle.device.proofs.Fetches.{ok_err, fetch-good}
use Rattle.floppy.specs.Buffers.{Readable}

-- what is fetched is there, and good
pub fetched_readable : (bs : List Block) (b : ℕ) (bytes : List ℕ) → Ok bytes ≡ fetch bs b → Readable bs b
unfolding is_bad
fetched_readable bs b bytes = go (ltb b (length bs)) refl (get_or bs b none).bad refl
  where
    go : (t : Bool) → ltb b (length bs) ≡ t → (u : Bool) → (get_or bs b none).bad ≡ u
        → Ok bytes ≡ cond t (cond u (Err (BadBlock b)) (Ok (get_or bs b none).bytes)) (Err (PastEnd b)) → Readable bs b
    go true e false f p = record { inside = ltb-true b (length bs) e; fine = f }
    go true e true f p = absurd (ok_err bytes (BadBlock b) p)
    go false e u f p = absurd (ok_err bytes (PastEnd b) p)

pub fitting_readable : {xs ys : List Block} (b : ℕ) → Fitting xs ys → Readable xs b → Readable ys b
fitting_readable b f r = record { inside = omega (arith, f.many, r.inside); fine = f.bads b r.inside ∙ r.fine }

pub readable_fitting : (xs ys : List Block) (b : ℕ) → Fitting xs ys → Readable ys b → Readable xs b
readable_fitting xs ys b f r =
    let h : b < length xs = omega (arith, f.many, r.inside) in
    record { inside = h; fine = sym (f.bads b h) ∙ r.fine }

pub readable-fetch : (bs : List Block) (b : ℕ) → Readable bs b → fetch bs b ≡ Ok (get_or bs b none).bytes
readable-fetch bs b r = fetch-good bs b r.inside r.fine

-- block b as it is
pub readable_same : (bs : List Block) (b : ℕ) → Readable bs b → set bs b (good (get_or bs b none).bytes) ≡ bs
unfolding is_bad
readable_same bs b r =
    ap (λ (t : Bool). set bs b (record { bad = t; bytes = (get_or bs b none).bytes })) (sym r.fine) ∙ set-get_or bs b none
