-- Rules 8 and 9: names, file by file.
use Rattle.std.proofs.Common.{◌≡◌, zero, suc, Bool, true, false, cond, not, ◌&&◌, eqb, ltb, ◌⊎◌, List, [], ◌∷◌, Some, Decides, Option, refl, ap, inl, inr, ⊎_elim, arith}
use Rattle.std.specs.List.{AllByRecursion}
use Rattle.std.proofs.lemmas.Bool.{false≢true}
use Rattle.std.proofs.ByRecursion.{All-get_or, All-from_get_or, Decides-by_and}
use Rattle.std.proofs.lemmas.Bool.Decides.{Decides-and, Decides-not, Decides-like, Decides-ltb, Decides-eqb}
use Rattle.codec.specs.declared.name.Name.{Name}
use Rattle.volume.specs.declared.entry.Status.{Status}
use Rattle.volume.specs.declared.entry.Status.TheVariants.{Tentative, Empty, Permanent, Protected}
use Rattle.directory.specs.declared.placed.Placed.{Placed}
use Rattle.directory.specs.Finds.{file_status, is_file, same_name, is_named, first_named, well_named, all_well_named, none, alone, all_apart}
use Rattle.rulebook.specs.Names.{IsFile, WordsBelow, FilesApart, RuleEight, RuleNine}
use Rattle.rulebook.proofs.Deciding.{decides_implies}

file-decided : (s : Status) → Decides (file_status s) ((s ≡ Permanent) ⊎ (s ≡ Protected))
file-decided Tentative = (λ e. absurd (false≢true e), ⊎_elim (λ e. cc) (λ e. cc))
file-decided Empty = (λ e. absurd (false≢true e), ⊎_elim (λ e. cc) (λ e. cc))
file-decided Permanent = (λ _. inl refl, λ _. refl)
file-decided Protected = (λ _. inr refl, λ _. refl)

words_decided : (p : Placed) → Decides (well_named p) (IsFile p → WordsBelow p.name)
words_decided p =
    let a = ltb p.name.first 64000 in
    let b = ltb p.name.second 64000 in
    let c = ltb p.name.kind 64000 in
    decides_implies (is_file p) (a && (b && c)) (file-decided p.status)
    (Decides-like (a && (b && c)) (λ h. (h.0, h.1.0, h.1.1)) (λ h. (h.0, (h.1, h.2)))
    (Decides-and a (b && c) (Decides-ltb _ _) (Decides-and b c (Decides-ltb _ _) (Decides-ltb _ _))))

pub rule_eight : RuleEight
unfolding all_well_named
rule_eight = Decides-by_and well_named (λ p. IsFile p → WordsBelow p.name) all_well_named words_decided refl (λ _ _. refl)

same_decided : (a b : Name) → Decides (same_name a b) (a ≡ b)
same_decided a b =
    let x = eqb a.first b.first in
    let y = eqb a.second b.second in
    let z = eqb a.kind b.kind in
    Decides-like (x && (y && z))
    (λ h j. record { first = h.0 j; second = h.1.0 j; kind = h.1.1 j })
    (λ e. (ap (λ (n : Name). n.first) e, (ap (λ (n : Name). n.second) e, ap (λ (n : Name). n.kind) e)))
    (Decides-and x (y && z) (Decides-eqb _ _) (Decides-and y z (Decides-eqb _ _) (Decides-eqb _ _)))

-- a file of that name
abbrev Named : Name → Placed → Type 0
Named n p = IsFile p × (n ≡ p.name)

none-cond : (b : Bool) (p : Placed) (o : Option Placed) → none (cond b (Some p) o) ≡ (not b && none o)
none-cond true p o = refl
none-cond false p o = refl

none-decided : (n : Name) (ps : List Placed) → Decides (none (first_named n ps)) (AllByRecursion (λ p. Named n p → ⊥) ps)
unfolding first_named
none-decided n =
    Decides-by_and (λ p. not (is_named n p)) (λ p. Named n p → ⊥) (λ ps. none (first_named n ps))
    (λ p. Decides-not (is_named n p) (Decides-and (is_file p) (same_name n p.name) (file-decided p.status) (same_decided n p.name)))
    refl (λ p ps. none-cond (is_named n p) p (first_named n ps))

-- the first file has a name of its own, and the others are apart
abbrev Alone : Placed → List Placed → Type 0
Alone p ps = IsFile p → AllByRecursion (λ q. Named p.name q → ⊥) ps

apart_more : (p : Placed) (ps : List Placed) → Alone p ps × FilesApart ps → FilesApart (p ∷ ps)
apart_more p ps h i zero d l m f g e = absurd (omega arith)
apart_more p ps h zero (suc j) d l m f g e = All-get_or (λ q. Named p.name q → ⊥) ps j d (omega arith) (h.0 f) (g, e)
apart_more p ps h (suc i) (suc j) d l m f g e = h.1 i j d (omega arith) (omega arith) f g e

apart_less : (p : Placed) (ps : List Placed) → FilesApart (p ∷ ps) → Alone p ps × FilesApart ps
apart_less p ps h = (
  (λ f. All-from_get_or (λ q. Named p.name q → ⊥) ps p (λ i l z. h 0 (suc i) p (omega arith) (omega arith) f z.0 z.1)),
  (λ i j d l m. h (suc i) (suc j) d (omega arith) (omega arith)),
)

pub rule_nine : RuleNine
unfolding all_apart
rule_nine [] = (λ _ i j d l m. absurd (omega arith), λ _. refl)
rule_nine (p ∷ ps) =
    Decides-like (alone p ps && all_apart ps) (apart_more p ps) (apart_less p ps)
    (Decides-and (alone p ps) (all_apart ps)
    (decides_implies (is_file p) (none (first_named p.name ps)) (file-decided p.status) (none-decided p.name ps))
    (rule_nine ps))
