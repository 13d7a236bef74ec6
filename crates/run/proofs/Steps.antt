-- The steps of a run, from field to field.
use Rattle.std.proofs.Common.{◌≡◌, ℕ, ◌+◌, ◌<◌, ◌≤◌, true, false, cond, List, [], ◌∷◌, length, Ok, Err, Result, sym, refl, ap, ◌∙◌}
use Rattle.std.proofs.lemmas.Bool.{cond-true, cond-false, lt-ltb, le-ltb}
use Rattle.files.specs.States.{State}
use Rattle.runfile.specs.declared.fault.FieldFault.{FieldFault}
use Rattle.runfile.specs.declared.fault.FieldFault.TheVariants.{UnknownTag}
use Rattle.runfile.specs.declared.field.Field.{Field}
use Rattle.runfile.specs.declared.field.Field.TheVariants as fields
use Rattle.runfile.specs.declared.field.CutShort as CutShort
use Rattle.runfile.specs.declared.field.Part.{Part}
use Rattle.runfile.specs.Items.{Item, field, rump, items, item_of}
use Rattle.runfile.specs.Orders.{Order, order_in, decoded}
use Rattle.run.specs.declared.play.Stop.TheVariants.{CutShort, ReportFull, RunTooLong, WorkspaceTooSmall}
use Rattle.run.specs.Fields.{refused, known, obeyed, performed}
use Rattle.run.specs.Play.{Played, played, play, ran, room, reported}

-- what is left of a run, with the pack, the count of lines and the report as they are, ends as `total`
module _ (p : State) (n : ℕ) (b : List ℕ) {left : List Item} {total : Played} (on : play p n b left ≡ total) where
  pub at_end : left ≡ [] → played n (Ok tt) p b ≡ total
  unfolding play
  at_end e = ap (play p n b) (sym e) ∙ on

  pub at_full : {more : List Item} (i : Item) → left ≡ i ∷ more → room n b ≡ false → played n (Err ReportFull) p b ≡ total
  unfolding play
  at_full {more} i e full = sym (stuck i) ∙ ap (play p n b) (sym e) ∙ on
    where
      stuck : (i : Item) → play p n b (i ∷ more) ≡ played n (Err ReportFull) p b
      stuck rump = ap (λ t. played n (Err (cond t CutShort ReportFull)) p b) full
      stuck (field tag body) = cond-false _ _ _ full

  pub at_rump : {more : List Item} {f : Result Part CutShort.CutShort} {e : CutShort.CutShort} → f ≡ Err e → left ≡ item_of f ∷ more → room n b ≡ true → played n (Err CutShort) p b ≡ total
  unfolding play
  at_rump {more} is e fits =
      sym (ap (play p n b) (ap (λ f. item_of f ∷ more) is) ∙ ap (λ t. played n (Err (cond t CutShort ReportFull)) p b) fits)
      ∙ ap (play p n b) (sym e) ∙ on

  -- one field more: q and c are what the code has of the pack and of the report after it
  pub one_more : {more : List Item} {f : Result Part CutShort.CutShort} {part : Part} {q : State} {c : List ℕ} → f ≡ Ok part → left ≡ item_of f ∷ more → room n b ≡ true
      → q ≡ (performed p part.tag part.body.now).after → c ≡ reported n b part.tag (performed p part.tag part.body.now)
      → play q (n + 1) c more ≡ total
  unfolding play
  one_more {more} is e fits is_q is_c =
      rw (is_q, is_c)
      (sym (cond-true _ _ _ fits) ∙ ap (play p n b) (ap (λ f. item_of f ∷ more) (sym is)) ∙ ap (play p n b) (sym e) ∙ on)

-- a field that is not built yet
pub not_built : (f : Field) (s : State) → ((n : ℕ) → f ≡ fields.Initialize n → ⊥) → obeyed s (Ok (order_in f)) ≡ refused s UnknownTag
unfolding obeyed
not_built (fields.Initialize n) s a = absurd (a n refl)
not_built (fields.Create name n date) s a = refl
not_built (fields.Store x) s a = refl
not_built (fields.Write name block bytes) s a = refl
not_built (fields.Copy old new) s a = refl
not_built (fields.Delete name) s a = refl
not_built (fields.Rename old new) s a = refl
not_built (fields.Protect name) s a = refl
not_built (fields.Unprotect name) s a = refl
not_built (fields.Mount name) s a = refl
not_built fields.Dismount s a = refl
not_built fields.Squeeze s a = refl

pub unknown : (s : State) (tag : ℕ) (body : List ℕ) → known tag ≡ false → performed s tag body ≡ refused s UnknownTag
unfolding performed
unknown s tag body e = cond-false _ _ _ e

-- what a field with a known tag says
pub said : (s : State) (tag : ℕ) (body : List ℕ) (o : Result Order FieldFault) → known tag ≡ true → o ≡ decoded tag body → performed s tag body ≡ obeyed s o
unfolding performed
said s tag body o e d = cond-true _ _ _ e ∙ ap (obeyed s) (sym d)

-- what is refused before the run is looked at
module _ (s : State) (run : List ℕ) (workspace : ℕ) (report : List ℕ) where
  pub run_long : 262144 < length run → ran s run workspace report ≡ played 0 (Err RunTooLong) s report
  unfolding ran
  run_long h = cond-true _ _ _ (lt-ltb 262144 (length run) h)

  pub work_small : length run ≤ 262144 → workspace < 32768 → ran s run workspace report ≡ played 0 (Err WorkspaceTooSmall) s report
  unfolding ran
  work_small h k = cond-false _ _ _ (le-ltb 262144 (length run) h) ∙ cond-true _ _ _ (lt-ltb workspace 32768 k)

  pub run_plays : length run ≤ 262144 → 32768 ≤ workspace → ran s run workspace report ≡ play s 0 report (items run)
  unfolding ran
  run_plays h k = cond-false _ _ _ (le-ltb 262144 (length run) h) ∙ cond-false _ _ _ (le-ltb workspace 32768 k)
