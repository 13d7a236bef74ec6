-- What a field does to a pack.
use Rattle.std.specs.Prelude.{ℕ, Bool, cond, List, Ok, Err, Result, ◌==◌}
use Rattle.volume.specs.declared.fault.FileFault.{FileFault}
use Rattle.volume.specs.Initial.{init_answer}
use Rattle.files.specs.States.{State, deepest, initialized}
use Rattle.runfile.specs.declared.fault.FieldFault.{FieldFault}
use Rattle.runfile.specs.declared.fault.FieldFault.TheVariants.{OfFile, UnknownTag}
use Rattle.runfile.specs.Orders.{Order, initialize, create, store, write, copy, delete, rename, protect, unprotect, mount, dismount, squeeze, decoded}

-- the answer of a field, and the pack after it
pub record Outcome : Type 0 where
  pub answer : Result (Unit {0}) FieldFault
  pub after : State

-- a refusal that leaves the pack as it was
abbrev pub refused : State → FieldFault → Outcome
refused s e = record { answer = Err e; after = s }

-- a file call's answer as a field's
abbrev pub turned : Result (Unit {0}) FileFault → Result (Unit {0}) FieldFault
turned (Ok u) = Ok tt
turned (Err e) = Err (OfFile e)

-- the tags that are known: a field that is not built yet counts as unknown
abbrev pub known : ℕ → Bool
known tag = tag == 1

unfoldable pub obeyed : State → Result Order FieldFault → Outcome
obeyed s (Err e) = refused s e
obeyed s (Ok (initialize n)) = record { answer = turned (init_answer n (deepest s)); after = initialized n s }
obeyed s (Ok (create name n date)) = refused s UnknownTag
obeyed s (Ok (store name ask date content)) = refused s UnknownTag
obeyed s (Ok (write name block bytes)) = refused s UnknownTag
obeyed s (Ok (copy old new)) = refused s UnknownTag
obeyed s (Ok (delete name)) = refused s UnknownTag
obeyed s (Ok (rename old new)) = refused s UnknownTag
obeyed s (Ok (protect name)) = refused s UnknownTag
obeyed s (Ok (unprotect name)) = refused s UnknownTag
obeyed s (Ok (mount name)) = refused s UnknownTag
obeyed s (Ok dismount) = refused s UnknownTag
obeyed s (Ok squeeze) = refused s UnknownTag

-- the field with a tag and a body
unfoldable pub performed : State → ℕ → List ℕ → Outcome
performed s tag body = cond (known tag) (obeyed s (decoded tag body)) (refused s UnknownTag)
