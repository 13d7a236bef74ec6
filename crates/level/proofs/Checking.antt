-- The answers of `check`.
use Rattle.std.proofs.Common.{◌≡◌, ℕ, ◌*◌, ◌≤◌, List, length, get_or, take, Ok, Err, Option, refl, ap, ◌∙◌, subst, arith}
use Rattle.std.proofs.lemmas.List.{length-take-le, get_or-take}
use Rattle.device.specs.Blocks.{Block}
use Rattle.codec.specs.Words.{word_at}
use Rattle.volume.specs.declared.fault.FileFault.{FileFault}
use Rattle.volume.specs.declared.fault.FileFault.TheVariants.{NotSound}
use Rattle.volume.specs.declared.rule.Rule.{Rule}
use Rattle.volume.specs.declared.rule.Rule.TheVariants.{LevelSize, DirectorySize, SegmentsInUse, Chain, ExtraBytes, Entries, Contiguous, Names, NameTwice}
use Rattle.volume.specs.Levels.{level_size}
use Rattle.volume.specs.Rules.{rule_number}
use Rattle.directory.specs.declared.pending.Pending.{Pending}
use Rattle.directory.specs.Rules.{broken_rule}
use Rattle.directory.specs.Sounds.{SoundBytes}
use Rattle.level.specs.Loads.{directory, load_answer}
use Rattle.level.specs.Checks.{judged, checked, check_answer}

pub check_refused : (n : ℕ) (bs : List Block) (o : Option Pending) (e : FileFault) → Err e ≡ load_answer n bs → Err e ≡ check_answer n bs o
unfolding check_answer
check_refused n bs o e q = ap (checked bs o) q

pub check_rule : (n : ℕ) (bs : List Block) (o : Option Pending) (s v r : ℕ) (dir : List ℕ) → Ok s ≡ load_answer n bs → dir ≡ directory bs s → v ≡ level_size bs
    → r ≡ broken_rule dir v o → judged s r ≡ check_answer n bs o
unfolding check_answer
check_rule n bs o s v r dir q d e p =
    ap (judged s) (p ∙ ap (λ (z : List ℕ). broken_rule z v o) d ∙ ap (λ (z : ℕ). broken_rule (directory bs s) z o) e) ∙ ap (checked bs o) q

-- the number of a rule is that rule's only
pub judged_rule : (s : ℕ) (r : Rule) → judged s (rule_number r) ≡ Err (NotSound r)
judged_rule s LevelSize = refl
judged_rule s DirectorySize = refl
judged_rule s SegmentsInUse = refl
judged_rule s Chain = refl
judged_rule s ExtraBytes = refl
judged_rule s Entries = refl
judged_rule s Contiguous = refl
judged_rule s Names = refl
judged_rule s NameTwice = refl

-- what is known of the directory's part of a workspace
module _ (dir work : List ℕ) (s : ℕ) (e : dir ≡ take (1024 * s) work) (h₁ : 1 ≤ s) (h₂ : s ≤ 31) (l : 32768 ≤ length work) (w : word_at work 0 ≡ s) where
  pub part_long : length dir ≡ 1024 * s
  part_long = ap length e ∙ length-take-le (1024 * s) work (omega arith)

  pub part_total : word_at dir 0 ≡ s
  part_total =
      let p : get_or (take (1024 * s) work) 0 0 ≡ get_or work 0 0 = get_or-take (1024 * s) work 0 0 (omega arith) in
      let q : get_or (take (1024 * s) work) 1 0 ≡ get_or work 1 0 = get_or-take (1024 * s) work 1 0 (omega arith) in
      ap (λ (z : List ℕ). word_at z 0) e ∙ omega (arith, p, q)

  pub part_sound : (v : ℕ) (o : Option Pending) → broken_rule dir v o ≡ 0 → SoundBytes (take (1024 * s) work)
  part_sound v o b =
      subst SoundBytes e
      (record {
        blocks = v;
        output = o;
        sound = b;
        few = omega (arith, part_total);
        long = omega (arith, part_total, part_long);
        some = omega (arith, part_long);
      })
