-- Names, and tests that shun one another.
use Rattle.std.proofs.Common.{◌≡◌, Bool, true, false, ◌&&◌, eqb, sym, refl, ◌∙◌}
use Rattle.std.proofs.lemmas.Bool.{eqb-true, eq-eqb, and_parts, and_left, false≢true}
use Rattle.volume.specs.declared.entry.Status.{Status}
use Rattle.volume.specs.declared.entry.Status.TheVariants.{Tentative, Empty, Permanent, Protected}
use Rattle.codec.specs.declared.name.Name.{Name}
use Rattle.volume.specs.declared.entry.Entry.{Entry}
use Rattle.edits.specs.Entries.{file_status, empty_status, tentative_status, is_file, is_empty, is_tentative, is_named, same_name}
use Rattle.edits.proofs.Emptied.{Shuns}

pub same_is : (a b : Name) → same_name a b ≡ true → a ≡ b
unfolding same_name
same_is a b h =
    let p = and_parts (eqb a.first b.first) (eqb a.second b.second && eqb a.kind b.kind) h in
    let q = and_parts (eqb a.second b.second) (eqb a.kind b.kind) p.1 in
    let x = eqb-true a.first b.first p.0 in
    let y = eqb-true a.second b.second q.0 in
    let z = eqb-true a.kind b.kind q.1 in
    λ i. record { first = x i; second = y i; kind = z i }

pub name_same : (a : Name) → same_name a a ≡ true
unfolding same_name
name_same a =
    rw (eq-eqb a.first a.first refl, eq-eqb a.second a.second refl, eq-eqb a.kind a.kind refl)

pub named_file : (n : Name) (e : Entry) → is_named n e ≡ true → is_file e ≡ true
named_file n e h = (and_parts (is_file e) (same_name n e.name) h).0

pub named_name : (n : Name) (e : Entry) → is_named n e ≡ true → n ≡ e.name
named_name n e h = same_is n e.name (and_parts (is_file e) (same_name n e.name) h).1

-- a test that would have to pass in vain
pub fails : (b : Bool) → (b ≡ true → ⊥) → b ≡ false
fails true h = absurd (h refl)
fails false h = refl

-- the entry of one name is not that of another
pub named_other : (m n : Name) (e : Entry) → (m ≡ n → ⊥) → is_named n e ≡ true → is_named m e ≡ false
named_other m n e h y = fails (is_named m e) (λ z. h (named_name m e z ∙ sym (named_name n e y)))

empty_alone : (s : Status) → empty_status s ≡ true → (file_status s ≡ false) × (tentative_status s ≡ false)
empty_alone Tentative h = absurd (false≢true h)
empty_alone Empty h = (refl, refl)
empty_alone Permanent h = absurd (false≢true h)
empty_alone Protected h = absurd (false≢true h)

tentative_alone : (s : Status) → tentative_status s ≡ true → (file_status s ≡ false) × (empty_status s ≡ false)
tentative_alone Tentative h = (refl, refl)
tentative_alone Empty h = absurd (false≢true h)
tentative_alone Permanent h = absurd (false≢true h)
tentative_alone Protected h = absurd (false≢true h)

pub file-alone : (s : Status) → file_status s ≡ true → (tentative_status s ≡ false) × (empty_status s ≡ false)
file-alone Tentative h = absurd (false≢true h)
file-alone Empty h = absurd (false≢true h)
file-alone Permanent h = (refl, refl)
file-alone Protected h = (refl, refl)

pub tentative_shuns : Shuns is_tentative is_empty
tentative_shuns e h = (empty_alone e.status h).1

pub named_shuns : (n : Name) → Shuns (is_named n) is_empty
named_shuns n e h = and_left (is_file e) (same_name n e.name) (empty_alone e.status h).0

pub named_shuns_tentative : (n : Name) → Shuns (is_named n) is_tentative
named_shuns_tentative n e h = and_left (is_file e) (same_name n e.name) (tentative_alone e.status h).0

pub empty_shuns_file : Shuns is_empty is_file
empty_shuns_file e h = (file-alone e.status h).1

pub tentative_no_file : (e : Entry) → is_tentative e ≡ true → is_file e ≡ false
tentative_no_file e h = (tentative_alone e.status h).0

pub file_shuns : Shuns is_file is_empty
file_shuns e h = (empty_alone e.status h).0
