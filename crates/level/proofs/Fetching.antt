-- Blocks read into a workspace.
use Rattle.std.proofs.Common.{◌≡◌, ℕ, ◌+◌, ◌-◌, ◌*◌, ◌<◌, ◌≤◌, false, ◌⊎◌, List, length, get_or, take, Ok, Err, Result, sym, refl, ap, ◌∙◌, inl, inr, arith}
use Rattle.std.proofs.lemmas.Bool.{cases_lt}
use Rattle.std.proofs.lemmas.List.{get_or_append_left, get_or-append_right, get_or-take, length-take-le, ext_get_or}
use Rattle.device.specs.declared.fault.DeviceFault.{DeviceFault}
use Rattle.device.specs.Blocks.{Block, none, Whole, is_bad, byte, table}
use Rattle.device.specs.Answers.{fetch, answered, filled}
use Rattle.device.specs.Held.{Held, shows}
use Rattle.device.specs.Tables.{length-table, get_or-table}
use Rattle.device.proofs.Fetches.{ok_err}
use Rattle.device.proofs.Made.{byte_at}
use Rattle.device.proofs.Lens.{whole_seen_all}
use Rattle.codec.specs.Words.{written, word_at}
use Rattle.volume.proofs.Stretches.{fetch_is}
use Rattle.level.specs.Loads.{brought, directory_byte, directory, Holds, segments}

-- what a device shows is whole
pub whole_shown : (h : Held) → Whole (shows h)
whole_shown h = whole_seen_all h.stack.pile h.stack.bottom h.whole

-- a block that was read to the workspace, and one that was not
pub brought_ok : (f : Result (List ℕ) DeviceFault) (old new work after : List ℕ) (at : ℕ) → Ok tt ≡ answered f → new ≡ filled f old → after ≡ written work at new
    → after ≡ brought f work at
brought_ok (Ok x) old new work after at p q e = e ∙ ap (written work at) q
brought_ok (Err d) old new work after at p q e = absurd (ok_err tt d p)

pub brought_err : (f : Result (List ℕ) DeviceFault) (e : DeviceFault) (work : List ℕ) (at : ℕ) → Err e ≡ answered f → work ≡ brought f work at
brought_err (Ok x) e work at p = absurd (ok_err tt e (sym p))
brought_err (Err d) e work at p = refl

pub brought_bytes : (f : Result (List ℕ) DeviceFault) (work after : List ℕ) (at : ℕ) → Ok tt ≡ answered f → after ≡ brought f work at
    → (x : List ℕ) × (f ≡ Ok x) × (after ≡ written work at x)
brought_bytes (Ok x) work after at p q = (x, refl, q)
brought_bytes (Err d) work after at p q = absurd (ok_err tt d p)

-- bytes that are written over others
pub written_below : (b : List ℕ) (at : ℕ) (xs : List ℕ) (a : ℕ) → a < at → at ≤ length b → get_or (written b at xs) a 0 ≡ get_or b a 0
unfolding written
written_below b at xs a h l =
    get_or_append_left (take at b) _ 0 a (omega (arith, length-take-le at b l)) ∙ get_or-take at b a 0 h

pub written_at : (b : List ℕ) (at : ℕ) (xs : List ℕ) (a : ℕ) → at ≤ a → a < at + length xs → at ≤ length b → get_or (written b at xs) a 0 ≡ get_or xs (a - at) 0
unfolding written
written_at b at xs a h k l =
    get_or-append_right (take at b) _ at a 0 (length-take-le at b l) h ∙ get_or_append_left xs _ 0 (a - at) (omega arith)

-- one block more in the workspace
pub holds_more : (bs : List Block) (i : ℕ) (work x after : List ℕ) → Whole bs → Holds bs (512 * i) work → fetch bs (6 + i) ≡ Ok x
    → after ≡ written work (512 * i) x → 512 * i + 512 ≤ length work → Holds bs (512 * (i + 1)) after
holds_more bs i work x after w h e f l = record { at = λ a k. ap (λ (z : List ℕ). get_or z a 0) f ∙ here a k (cases_lt a (512 * i)) }
  where
    p : (6 + i < length bs) × (is_bad bs (6 + i) ≡ false) × (x ≡ (get_or bs (6 + i) none).bytes)
    p = fetch_is bs (6 + i) x e

    long : length x ≡ 512
    long = ap length p.2 ∙ w (6 + i) p.0

    here : (a : ℕ) → a < 512 * (i + 1) → (a < 512 * i) ⊎ (512 * i ≤ a) → get_or (written work (512 * i) x) a 0 ≡ directory_byte bs a
    here a k (inl q) = written_below work (512 * i) x a q (omega arith) ∙ h.at a q
    here a k (inr q) =
        let o : ℕ = a - 512 * i in
        let s : 512 * (6 + i) + o ≡ 3072 + a = omega arith in
        written_at work (512 * i) x a q (omega (arith, long)) (omega arith)
        ∙ ap (λ (z : List ℕ). get_or z o 0) p.2
        ∙ sym (byte_at bs (6 + i) o (omega arith))
        ∙ ap (byte bs) s

pub holds_list : (bs : List Block) (s : ℕ) (work : List ℕ) → Holds bs (1024 * s) work → 1024 * s ≤ length work → take (1024 * s) work ≡ directory bs s
unfolding directory
holds_list bs s work h l =
    let n : ℕ = 1024 * s in
    ext_get_or 0 (take n work) (table n (directory_byte bs)) (length-take-le n work l ∙ sym (length-table n (directory_byte bs)))
    (λ a k. let m : a < n = omega (arith, length-take-le n work l) in get_or-take n work a 0 m ∙ h.at a m ∙ sym (get_or-table n (directory_byte bs) a 0 m))

-- the segments that the first two bytes tell
pub segments_held : (bs : List Block) (n : ℕ) (work : List ℕ) → Holds bs n work → 2 ≤ n → word_at work 0 ≡ segments bs
segments_held bs n work h l =
    let p : get_or work 0 0 ≡ directory_byte bs 0 = h.at 0 (omega arith) in
    let q : get_or work (0 + 1) 0 ≡ directory_byte bs 1 = h.at 1 (omega arith) in
    rw (p, q) refl
