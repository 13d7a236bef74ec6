-- The parts of a name.
use Rattle.std.proofs.Common.{◌≡◌, ℕ, suc, ◌+◌, ◌<◌, Bool, true, false, cond, not, ◌&&◌, eqb, List, [], ◌∷◌, length, get_or, take, drop, Ok, Err, refl, ap, arith}
use Rattle.std.specs.List.{list_all, prefix_len}
use Rattle.std.proofs.lemmas.Bool.{cond-true, cond-false}
use Rattle.std.proofs.lemmas.Bool.Decides.{nat_tests}
use Rattle.codec.specs.Names.{all_blank, is_name_character, is_part, is_name, packed, name_of}

-- blanks only
blanks : (cs : List ℕ) → list_all (λ c. eqb c 32) cs ≡ all_blank cs
unfolding all_blank
blanks [] = refl
blanks (c ∷ cs) = ap (λ (b : Bool). eqb c 32 && b) (blanks cs)

not_blank : (c : ℕ) → is_name_character c ≡ true → eqb c 32 ≡ false
not_blank c h = grind (arith, nat_tests)

-- a part is lawful exactly when blanks alone stand behind its characters
pub parted : (cs : List ℕ) → list_all (λ c. eqb c 32) (drop (prefix_len is_name_character cs) cs) ≡ is_part cs
unfolding is_part
parted [] = refl
parted (c ∷ cs) = go (is_name_character c) refl (parted cs)
  where
    go : (t : Bool) → is_name_character c ≡ t → list_all (λ c. eqb c 32) (drop (prefix_len is_name_character cs) cs) ≡ is_part cs
        → list_all (λ c. eqb c 32) (drop (cond t (1 + prefix_len is_name_character cs) 0) (c ∷ cs)) ≡ cond (eqb c 32) (all_blank cs) (t && is_part cs)
    go true e rest = let more : 1 + prefix_len is_name_character cs ≡ suc (prefix_len is_name_character cs) = omega arith in rw (not_blank c e, more) rest
    go false e rest = elim (eqb c 32) as (λ b. (b && list_all (λ c. eqb c 32) cs) ≡ cond b (all_blank cs) false) [ true ↦ blanks cs | false ↦ refl ]

-- the name part is not all blank exactly when it does not begin with a blank
pub led : (cs : List ℕ) → 0 < length cs → is_name cs ≡ (not (eqb (get_or cs 0 0) 32) && (is_part (take 6 cs) && is_part (take 3 (drop 6 cs))))
unfolding all_blank is_part is_name
led [] h = absurd (omega arith)
led (c ∷ cs) h = spare (eqb c 32) (all_blank (take 5 cs)) (is_name_character c && is_part (take 5 cs)) (is_part (take 3 (drop 6 (c ∷ cs))))
  where
    spare : (t a p b : Bool) → (cond t a p && (b && not (t && a))) ≡ (not t && (cond t a p && b))
    spare true true p true = refl
    spare true true p false = refl
    spare true false p b = refl
    spare false a true true = refl
    spare false a true false = refl
    spare false a false b = refl

pub name_lawful : (cs : List ℕ) → is_name cs ≡ true → name_of cs ≡ Ok (packed cs)
unfolding name_of
name_lawful cs e = cond-true (is_name cs) _ _ e

pub name_unlawful : (cs : List ℕ) → is_name cs ≡ false → name_of cs ≡ Err (record {})
unfolding name_of
name_unlawful cs e = cond-false (is_name cs) _ _ e
