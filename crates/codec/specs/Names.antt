-- RAD50: the code of a character, three codes to a word, three words to a name.
use Rattle.std.specs.Prelude.{◌≡◌, ℕ, ◌+◌, ◌-◌, ◌*◌, ◌/◌, ◌%◌, ◌<◌, Bool, true, cond, not, ◌&&◌, ◌||◌, ◌≢◌, ◌⊎◌, List, [], ◌∷◌, ◌++◌, map, length, take, drop, Some, None, Ok, Err, codes, Option, Result, ◌==◌, nat_le, slice_index}
use Rattle.std.specs.Option.{unwrap_or}
use Rattle.std.specs.List.{AllByRecursion}
use Rattle.codec.specs.declared.name.Name.{Name}
use Rattle.codec.specs.declared.name.UnlawfulName.{UnlawfulName}

abbrev pub is_capital : ℕ → Bool
is_capital c = nat_le 65 c && nat_le c 90

abbrev pub is_digit : ℕ → Bool
is_digit c = nat_le 48 c && nat_le c 57

-- the code of a character: space is 0, A to Z are 1 to 26, $ is 27, the point is 28, digits are 30 to 39
abbrev pub code_of : ℕ → Option ℕ
code_of c =
    cond (c == 32) (Some 0)
    (cond (is_capital c) (Some (1 + (c - 65)))
    (cond (c == 36) (Some 27)
    (cond (c == 46) (Some 28)
    (cond (is_digit c) (Some (30 + (c - 48)))
    None))))

-- the character of a code; 29, and a code of 40 or more, is of none and shows as a question mark
abbrev pub character : ℕ → ℕ
character n =
    cond (n == 0) 32
    (cond (nat_le 1 n && nat_le n 26) (65 + (n - 1))
    (cond (n == 27) 36
    (cond (n == 28) 46
    (cond (nat_le 30 n && nat_le n 39) (48 + (n - 30))
    63))))

-- the same as a number; those in a lawful name all have one
unfoldable pub code : ℕ → ℕ
code c = unwrap_or (code_of c) 0

-- the word of the three characters at a place
abbrev pub rad50_at : List ℕ → ℕ → ℕ
rad50_at cs at = (code (slice_index cs at) * 40 + code (slice_index cs (at + 1))) * 40 + code (slice_index cs (at + 2))

-- the three words of nine characters
abbrev pub packed : List ℕ → Name
packed cs = record { first = rad50_at cs 0; second = rad50_at cs 3; kind = rad50_at cs 6 }

-- the three codes of a word, and its three characters
abbrev pub codes_in : ℕ → List ℕ
codes_in w = w / 1600 ∷ w / 40 % 40 ∷ w % 40 ∷ []

unfoldable pub unpacked : ℕ → List ℕ
unpacked w = map character (codes_in w)

-- the nine codes of a name, and its nine characters
abbrev pub name_codes : Name → List ℕ
name_codes n = codes_in n.first ++ (codes_in n.second ++ codes_in n.kind)

unfoldable pub shown : Name → List ℕ
shown n = map character (name_codes n)

-- what may stand in a name: capital letters, digits and $
abbrev pub is_name_character : ℕ → Bool
is_name_character c = is_capital c || (is_digit c || c == 36)

-- blanks only
unfoldable pub all_blank : List ℕ → Bool
all_blank [] = true
all_blank (c ∷ cs) = c == 32 && all_blank cs

-- a part of a name: such characters, and behind a blank blanks only
unfoldable pub is_part : List ℕ → Bool
is_part [] = true
is_part (c ∷ cs) = cond (c == 32) (all_blank cs) (is_name_character c && is_part cs)

-- six characters of name, not all blank, and three of type
unfoldable pub is_name : List ℕ → Bool
is_name cs = is_part (take 6 cs) && (is_part (take 3 (drop 6 cs)) && not (all_blank (take 6 cs)))

-- the name that nine characters spell
unfoldable pub name_of : List ℕ → Result Name UnlawfulName
name_of cs = cond (is_name cs) (Ok (packed cs)) (Err (record {}))

-- lawful names come back from their words
abbrev pub NamesComeBack : Type 0
NamesComeBack = (cs : List ℕ) (n : Name) → length cs ≡ 9 → name_of cs ≡ Ok n → shown n ≡ cs

-- code 29 is unused
abbrev pub Used : ℕ → Type 0
Used k = k ≢ 29

-- a code's character has that code, or the code is 29 and shows as a question mark
abbrev pub Told : ℕ → Type 0
Told k = (code_of (character k) ≡ Some k) ⊎ ((k ≡ 29) × (character k ≡ 63))

-- words below 64,000 hold codes below 40
pub record Rad50 (n : Name) : Type 0 where
  pub first : n.first < 64000
  pub second : n.second < 64000
  pub kind : n.kind < 64000

-- what the words of a name show: nine characters, each of its code, from which the words come back
pub record Shows (n : Name) : Type 0 where
  pub nine : length (shown n) ≡ 9
  pub told : AllByRecursion Told (name_codes n)
  pub back : AllByRecursion Used (name_codes n) → packed (shown n) ≡ n

abbrev pub WordsComeBack : Type 0
WordsComeBack = (n : Name) → Rad50 n → Shows n

-- worked rows
pub record NameRows : Type 0 where
  pub row_MAC : rad50_at (codes "MAC") 0 ≡ 20843
  pub row_999 : rad50_at (codes "999") 0 ≡ 63999
  pub row_BAD : rad50_at (codes "BAD") 0 ≡ 3244
