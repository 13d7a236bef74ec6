-- The answers of LOOKUP and READ, by where they end.
use Rattle.std.proofs.Common.{◌≡◌, ℕ, ◌+◌, ◌<◌, ◌≤◌, List, Ok, Err, Option, Result, sym, refl, ap, ◌∙◌}
use Rattle.std.proofs.lemmas.Bool.{cond-true, cond-false, lt-ltb, le-ltb}
use Rattle.codec.specs.declared.name.Name.{Name}
use Rattle.codec.specs.declared.name.UnlawfulName.{UnlawfulName}
use Rattle.codec.specs.Names.{name_of}
use Rattle.device.specs.declared.fault.DeviceFault.{DeviceFault}
use Rattle.device.specs.Blocks.{Block}
use Rattle.device.specs.Answers.{fetch, answered, filled}
use Rattle.device.proofs.Fetches.{ok_err}
use Rattle.volume.specs.declared.fault.FileFault.{FileFault}
use Rattle.volume.specs.declared.fault.FileFault.TheVariants as fault
use Rattle.directory.specs.declared.pending.Pending.{Pending}
use Rattle.directory.specs.declared.placed.Placed.{Placed}
use Rattle.directory.specs.Sounds.{file_of}
use Rattle.level.specs.Loads.{directory}
use Rattle.level.specs.Checks.{check_answer}
use Rattle.level.specs.Lookups.{found_file, looked_up, lookup_named, lookup_answer, turned, block_of, read_fetched, read_answer, read_buffer}

module _ (n : ℕ) (bs : List Block) (o : Option Pending) (cs : List ℕ) where
  pub look_small : n < 32768 → Err fault.WorkspaceTooSmall ≡ lookup_answer n bs o cs
  unfolding lookup_answer
  look_small h = sym (cond-true _ _ _ (lt-ltb n 32768 h))

  module _ (h : 32768 ≤ n) where
    room : lookup_answer n bs o cs ≡ lookup_named n bs o (name_of cs)
    unfolding lookup_answer
    room = cond-false _ _ _ (le-ltb n 32768 h)

    pub look_unnamed : (e : UnlawfulName) → Err e ≡ name_of cs → Err fault.UnlawfulName ≡ lookup_answer n bs o cs
    look_unnamed e q = sym (room ∙ ap (lookup_named n bs o) (sym q))

    module _ (name : Name) (q : Ok name ≡ name_of cs) where
      named : lookup_answer n bs o cs ≡ looked_up bs name (check_answer n bs o)
      named = room ∙ ap (lookup_named n bs o) (sym q)

      pub look_refused : (e : FileFault) → Err e ≡ check_answer n bs o → Err e ≡ lookup_answer n bs o cs
      look_refused e p = sym (named ∙ ap (looked_up bs name) (sym p))

      pub look_found : (s : ℕ) → Ok s ≡ check_answer n bs o → (f : Option Placed) (dir : List ℕ) → f ≡ file_of dir name → dir ≡ directory bs s
          → found_file f ≡ lookup_answer n bs o cs
      look_found s p f dir e d = ap found_file (e ∙ ap (λ (z : List ℕ). file_of z name) d) ∙ sym (named ∙ ap (looked_up bs name) (sym p))

  module _ (b : ℕ) where
    pub read_refused : (e : FileFault) → Err e ≡ lookup_answer n bs o cs → Err e ≡ read_fetched n bs o cs b
    unfolding read_fetched
    read_refused e p = ap (block_of bs b) p

    module _ (f : ℕ × ℕ × ℕ) (p : Ok f ≡ lookup_answer n bs o cs) where
      pub read_past : f.1 ≤ b → Err fault.OutOfRange ≡ read_fetched n bs o cs b
      unfolding read_fetched
      read_past h = sym (cond-false _ _ _ (le-ltb b f.1 h)) ∙ ap (block_of bs b) p

      pub read_block : b < f.1 → turned (fetch bs (f.0 + b)) ≡ read_fetched n bs o cs b
      unfolding read_fetched
      read_block h = sym (cond-true _ _ _ (lt-ltb b f.1 h)) ∙ ap (block_of bs b) p

-- what a device answers, as a file's block
pub turned_ok : (f : Result (List ℕ) DeviceFault) → Ok tt ≡ answered f → Ok tt ≡ read_answer (turned f)
turned_ok (Ok x) q = refl
turned_ok (Err e) q = absurd (ok_err tt e q)

pub turned_err : (f : Result (List ℕ) DeviceFault) (e : DeviceFault) → Err e ≡ answered f → Err (fault.OfDevice e) ≡ read_answer (turned f)
turned_err (Ok x) e q = absurd (ok_err tt e (sym q))
turned_err (Err d) e q = let n : e ≡ d = cc in ap (λ (z : DeviceFault). Err (fault.OfDevice z)) n

pub turned-filled : (f : Result (List ℕ) DeviceFault) (old new : List ℕ) → new ≡ filled f old → new ≡ read_buffer (turned f) old
turned-filled (Ok x) old new q = q
turned-filled (Err e) old new q = q
