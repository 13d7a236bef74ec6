-- What a field says, by its tag and its body.
use Rattle.std.specs.Prelude.{ℕ, zero, suc, cond, List, length, take, drop, ℤ, pos, negsuc, Some, None, Ok, Err, Option, Result, ◌==◌, nat_le, slice_index}
use Rattle.std.specs.Int.{w16}
use Rattle.std.proofs.Common.{to_z}
use Rattle.codec.specs.Words.{word_at}
use Rattle.runfile.specs.declared.fault.FieldFault.{FieldFault}
use Rattle.runfile.specs.declared.fault.FieldFault.TheVariants.{UnknownTag, WrongLength}
use Rattle.runfile.specs.declared.field.Ask.{Ask}
use Rattle.runfile.specs.declared.field.Ask.TheVariants as ask
use Rattle.runfile.specs.declared.field.Field.{Field}
use Rattle.runfile.specs.declared.field.Field.TheVariants as field

-- a word of a field as an ask: -1, 0 or a number from 1
abbrev pub ask_of : ℤ → Option Ask
ask_of (pos zero) = Some ask.Half
ask_of (pos (suc n)) = Some (ask.Exact (suc n))
ask_of (negsuc zero) = Some ask.Whole
ask_of (negsuc (suc n)) = None

-- what a field says, with the bytes that it holds in the place of a part of the run
pub data Order : Type 0 where
  initialize : ℕ → Order
  create : List ℕ → ℕ → ℕ → Order
  store : List ℕ → Option Ask → ℕ → List ℕ → Order
  write : List ℕ → ℕ → List ℕ → Order
  copy : List ℕ → List ℕ → Order
  delete : List ℕ → Order
  rename : List ℕ → List ℕ → Order
  protect : List ℕ → Order
  unprotect : List ℕ → Order
  mount : List ℕ → Order
  dismount : Order
  squeeze : Order

abbrev pub name_at : List ℕ → ℕ → List ℕ
name_at body at = take 9 (drop at body)

-- that order, of a body of n bytes only
abbrev pub exactly : ℕ → List ℕ → Order → Result Order FieldFault
exactly n body order = cond (length body == n) (Ok order) (Err WrongLength)

-- that order, of a body of n bytes or more
abbrev pub from : ℕ → List ℕ → Order → Result Order FieldFault
from n body order = cond (nat_le n (length body)) (Ok order) (Err WrongLength)

-- the order of a field, or why it has none
abbrev pub decoded : ℕ → List ℕ → Result Order FieldFault
decoded tag body =
    cond (tag == 1) (exactly 1 body (initialize (slice_index body 0)))
    (cond (tag == 2) (exactly 13 body (create (name_at body 0) (word_at body 9) (word_at body 11)))
    (cond (tag == 3) (from 13 body (store (name_at body 0) (ask_of (to_z w16 (word_at body 9))) (word_at body 11) (drop 13 body)))
    (cond (tag == 4) (exactly 523 body (write (name_at body 0) (word_at body 9) (drop 11 body)))
    (cond (tag == 5) (exactly 18 body (copy (name_at body 0) (name_at body 9)))
    (cond (tag == 6) (exactly 9 body (delete (name_at body 0)))
    (cond (tag == 7) (exactly 18 body (rename (name_at body 0) (name_at body 9)))
    (cond (tag == 8) (exactly 9 body (protect (name_at body 0)))
    (cond (tag == 9) (exactly 9 body (unprotect (name_at body 0)))
    (cond (tag == 10) (exactly 9 body (mount (name_at body 0)))
    (cond (tag == 11) (exactly 0 body dismount)
    (cond (tag == 12) (exactly 0 body squeeze) (Err UnknownTag))))))))))))

abbrev pub order_in : Field → Order
order_in (field.Initialize n) = initialize n
order_in (field.Create name n date) = create name n date
order_in (field.Store s) = store s.name s.ask s.date s.content.now
order_in (field.Write name block bytes) = write name block bytes.now
order_in (field.Copy old new) = copy old new
order_in (field.Delete name) = delete name
order_in (field.Rename old new) = rename old new
order_in (field.Protect name) = protect name
order_in (field.Unprotect name) = unprotect name
order_in (field.Mount name) = mount name
order_in field.Dismount = dismount
order_in field.Squeeze = squeeze

abbrev pub order_of : Result Field FieldFault → Result Order FieldFault
order_of (Ok f) = Ok (order_in f)
order_of (Err e) = Err e
