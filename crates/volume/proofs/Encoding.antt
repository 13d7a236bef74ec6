-- Segments, written entry by entry.
use Rattle.std.proofs.Common.{◌≡◌, ℕ, ◌+◌, ◌*◌, ◌/◌, ◌<◌, ◌≤◌, List, [], ◌++◌, length, get_or, take, replicate, sym, refl, ap, ◌∙◌, add-mul, one-mul, div-mul-le_self, arith}
use Rattle.std.specs.Array.{AllOfLen}
use Rattle.std.specs.List.{flat_map}
use Rattle.std.proofs.lemmas.Grind.{same_number_lists}
use Rattle.std.proofs.lemmas.List.{take_more, flat_map_more, length-replicate, get_or-replicate}
use Rattle.std.proofs.lemmas.Nat.{mul-le}
use Rattle.volume.specs.declared.entry.Entry.{Entry}
use Rattle.volume.specs.declared.entry.Status.TheVariants.{Tentative, Empty}
use Rattle.volume.specs.Entries.{empty_of, entry_bytes}

-- what the checker reads past the last entry
abbrev pub no_entry : Entry
no_entry = record { status = Tentative; name = record { first = 0; second = 0; kind = 0 }; length = 0; job = 0; date = 0; extra = [] }

-- there is room for n entries before the word that ends a segment
pub room_all : (x n : ℕ) → n ≤ 1012 / (14 + x) → 10 + n * (14 + x) ≤ 1022
room_all x n h = omega (arith, mul-le n (14 + x) (1012 / (14 + x)) (14 + x) h (omega arith), div-mul-le_self 1012 (14 + x))

-- where an entry ends, the next one begins
pub next_start : (x i : ℕ) → 10 + i * (14 + x) + (14 + x) ≡ 10 + (i + 1) * (14 + x)
next_start x i = omega (arith, add-mul i 1 (14 + x), one-mul (14 + x))

-- one more entry
pub entries_more : (x : ℕ) (h : List ℕ) (es : List Entry) (i : ℕ) (d : Entry) → i < length es
    → (h ++ flat_map (entry_bytes x) (take i es)) ++ entry_bytes x (get_or es i d) ≡ h ++ flat_map (entry_bytes x) (take (i + 1) es)
entries_more x h es i d l =
    flat_map_more (entry_bytes x) h (take i es) (get_or es i d) ∙ ap (λ z. h ++ flat_map (entry_bytes x) z) (sym (take_more es i d l))

-- an empty, from one whose fields are zero
zeros_are : (n : ℕ) (xs : List ℕ) → AllOfLen (λ x. x ≡ 0) xs n → xs ≡ replicate n 0
zeros_are n xs h =
    same_number_lists xs (replicate n 0) (h.long ∙ sym (length-replicate n 0))
    (λ k l. h.at k 0 (rw h.long at l) ∙ sym (get_or-replicate n k 0 0 (rw h.long at l)))

pub empty_made : (e : Entry) (n : ℕ) → e.status ≡ Empty → e.name.first ≡ 0 → e.name.second ≡ 0 → e.name.kind ≡ 0 → e.job ≡ 0 → e.date ≡ 0
    → AllOfLen (λ x. x ≡ 0) e.extra 64
    → ◌≡◌ {A = Entry} (record { status = e.status; name = e.name; length = n; job = e.job; date = e.date; extra = e.extra }) (empty_of n)
empty_made e n s f g k j d x = let z = zeros_are 64 e.extra x in rw (s, f, g, k, j, d, z) refl
