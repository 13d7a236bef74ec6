-- Names and their characters, there and back.
use Rattle.std.proofs.Common.{◌≡◌, ℕ, ◌+◌, ◌*◌, ◌/◌, ◌%◌, ◌<◌, ◌≤◌, Bool, true, false, cond, ◌&&◌, eqb, List, [], ◌∷◌, ◌++◌, map, length, get_or, take, drop, Ok, sym, refl, ap, ◌∙◌, arith}
use Rattle.std.specs.List.{AllByRecursion}
use Rattle.std.proofs.lemmas.List.{take-append-drop, drop_more, drop-drop, length-drop, take_all}
use Rattle.std.proofs.ByRecursion.{All-append, All-get_or, All-take, All-drop}
use Rattle.std.proofs.lemmas.Bool.{and_parts}
use Rattle.codec.specs.declared.name.Name.{Name}
use Rattle.codec.specs.Names.{code, character, rad50_at, packed, unpacked, shown, codes_in, all_blank, is_name_character, is_part, is_name, name_of, name_codes, Used, Told, Rad50, Shows}
use Rattle.codec.proofs.Codes.{code_below, told, code-character, character-code, codes_three}
use Rattle.codec.proofs.Parts.{name_lawful, name_unlawful}

-- a character that its code brings back
abbrev Kept : ℕ → Type 0
Kept c = character (code c) ≡ c

kept_blanks : (cs : List ℕ) → all_blank cs ≡ true → AllByRecursion Kept cs
unfolding all_blank
kept_blanks [] e = tt
kept_blanks (c ∷ cs) e =
    let (p, q) = and_parts (eqb c 32) (all_blank cs) e in
    (character-code c (rw p), kept_blanks cs q)

kept_part : (cs : List ℕ) → is_part cs ≡ true → AllByRecursion Kept cs
unfolding is_part
kept_part [] e = tt
kept_part (c ∷ cs) e = go (eqb c 32) refl e (kept_part cs)
  where
    go : (b : Bool) → eqb c 32 ≡ b → cond b (all_blank cs) (is_name_character c && is_part cs) ≡ true → (is_part cs ≡ true → AllByRecursion Kept cs) → AllByRecursion Kept (c ∷ cs)
    go true t f rest = (character-code c (rw t), kept_blanks cs f)
    go false t f rest =
        let (p, q) = and_parts (is_name_character c) (is_part cs) f in
        (character-code c (rw (t, p)), rest q)

-- three characters at a place
three_at : (cs : List ℕ) (at : ℕ) → at + 3 ≤ length cs → take 3 (drop at cs) ≡ get_or cs at 0 ∷ get_or cs (at + 1) 0 ∷ get_or cs (at + 2) 0 ∷ []
three_at cs at h =
    let next : (i j : ℕ) → i < length cs → i + 1 ≡ j → drop i cs ≡ get_or cs i 0 ∷ drop j cs
    = λ i j l e. drop_more cs i 0 l ∙ ap (λ m. get_or cs i 0 ∷ drop m cs) e in
    rw (next at (at + 1) (omega arith) refl, next (at + 1) (at + 2) (omega arith) (omega arith), next (at + 2) (at + 3) (omega arith) (omega arith))

unpacked_rad50 : (cs : List ℕ) (at : ℕ) → at + 3 ≤ length cs → AllByRecursion Kept cs → unpacked (rad50_at cs at) ≡ take 3 (drop at cs)
unfolding unpacked
unpacked_rad50 cs at h k =
    let kept : (i : ℕ) → i < length cs → Kept (get_or cs i 0) = λ i l. All-get_or Kept cs i 0 l k in
    ap (map character) (codes_three _ _ _ (code_below _) (code_below _) (code_below _))
    ∙ rw (kept at (omega arith), kept (at + 1) (omega arith), kept (at + 2) (omega arith)) (sym (three_at cs at h))

-- nine characters are three threes
last_three : (cs : List ℕ) → length cs ≡ 9 → take 3 (drop 6 cs) ≡ drop 6 cs
last_three cs h = take_all 3 (drop 6 cs) (simp length-drop (omega arith))

threes : (cs : List ℕ) → length cs ≡ 9 → take 3 cs ++ (take 3 (drop 3 cs) ++ take 3 (drop 6 cs)) ≡ cs
threes cs h =
    let back : take 3 (drop 3 cs) ++ drop 6 cs ≡ drop 3 cs = rw (← drop-drop 3 3 cs) (take-append-drop 3 (drop 3 cs)) in
    rw (last_three cs h, back) (take-append-drop 3 cs)

pub length-shown : (n : Name) → length (shown n) ≡ 9
unfolding shown unpacked
length-shown n = refl

pub shown_is : (n : Name) → shown n ≡ unpacked n.first ++ (unpacked n.second ++ unpacked n.kind)
unfolding shown unpacked
shown_is n = refl

shown-packed : (cs : List ℕ) → length cs ≡ 9 → AllByRecursion Kept cs → shown (packed cs) ≡ cs
shown-packed cs h k =
    rw (shown_is, unpacked_rad50 cs 0 (omega arith) k, unpacked_rad50 cs 3 (omega arith) k, unpacked_rad50 cs 6 (omega arith) k) (threes cs h)

kept_name : (cs : List ℕ) → length cs ≡ 9 → is_name cs ≡ true → AllByRecursion Kept cs
unfolding is_name
kept_name cs h e =
    let (p, q) = and_parts (is_part (take 6 cs)) _ e in
    let (r, s) = and_parts (is_part (take 3 (drop 6 cs))) _ q in
    rw (take-append-drop 6 cs) at (All-append Kept (take 6 cs) (drop 6 cs) (kept_part _ p) (rw (last_three cs h) at (kept_part _ r)))

-- what a name came from
pub name_from : (cs : List ℕ) (n : Name) → name_of cs ≡ Ok n → (is_name cs ≡ true) × (packed cs ≡ n)
name_from cs n e = go (is_name cs) refl
  where
    go : (b : Bool) → is_name cs ≡ b → (is_name cs ≡ true) × (packed cs ≡ n)
    go true t = (t, let f = name_lawful cs t in cc)
    go false t = let f = name_unlawful cs t in let z : ◌≡◌ {A = ℕ} 0 1 = cc in absurd (omega arith)

-- its words are below 64,000
pub rad50_packed : (cs : List ℕ) → Rad50 (packed cs)
rad50_packed cs = record { first = below 0; second = below 3; kind = below 6 }
  where
    below : (at : ℕ) → rad50_at cs at < 64000
    below at = omega (arith, code_below (get_or cs at 0), code_below (get_or cs (at + 1) 0), code_below (get_or cs (at + 2) 0))

pub name_rad50 : (cs : List ℕ) (n : Name) → name_of cs ≡ Ok n → Rad50 n
name_rad50 cs n e = rw (← (name_from cs n e).1) (rad50_packed cs)

-- the two round trips
pub names_come_back : (cs : List ℕ) (n : Name) → length cs ≡ 9 → name_of cs ≡ Ok n → shown n ≡ cs
names_come_back cs n h e =
    let (t, f) = name_from cs n e in
    rw (← f) (shown-packed cs h (kept_name cs h t))

told_three : (w : ℕ) → w < 64000 → AllByRecursion Told (codes_in w)
told_three w h = (told _ (omega arith), (told _ (omega arith), (told _ (omega arith), tt)))

-- a word from the characters of its codes
word_back : (w : ℕ) → w < 64000 → AllByRecursion Used (codes_in w)
    → (code (character (w / 1600)) * 40 + code (character (w / 40 % 40))) * 40 + code (character (w % 40)) ≡ w
word_back w h (a, (b, (c, _))) = rw (code-character _ (omega arith) a, code-character _ (omega arith) b, code-character _ (omega arith) c) (omega arith)

pub words_come_back : (n : Name) → Rad50 n → Shows n
unfolding shown unpacked
words_come_back n r =
    let cs : List ℕ = name_codes n in
    record {
      nine = length-shown n;
      told =
          All-append Told (codes_in n.first) (drop 3 cs) (told_three _ r.first)
          (All-append Told (codes_in n.second) (drop 6 cs) (told_three _ r.second) (told_three _ r.kind));
      back = λ k.
          let a = word_back n.first r.first (All-take Used 3 cs k) in
          let b = word_back n.second r.second (All-take Used 3 (drop 3 cs) (All-drop Used 3 cs k)) in
          let c = word_back n.kind r.kind (All-drop Used 6 cs k) in
          rw (a, b, c);
    }
