-- The floppy: 494 blocks of four sectors, interleaved and skewed over the tracks 1 to 76 of at least 501 blocks.
use Rattle.std.specs.Prelude.{◌≡◌, ℕ, ◌+◌, ◌-◌, ◌*◌, ◌/◌, ◌%◌, ◌<◌, ◌≤◌, Bool, true, false, cond, ◌≢◌, nat_le, refl}
use Rattle.std.proofs.Common.{sym, subst, arith}
use Rattle.std.proofs.lemmas.Bool.{leb-true, leb-false}
use Rattle.device.specs.Stacks.{Layer}
use Rattle.device.specs.declared.standing.Standing.{Standing}
use Rattle.device.specs.declared.standing.Standing.TheVariants.{Stands, DoesNotFit}

-- the interleave: of the 26 sectors of a track every second one comes first, then those between
abbrev pub interleave : ℕ → ℕ
interleave p = 2 * p + cond (nat_le 13 p) 1 0

-- the track of sector l, and which sector of it, from 1: each track is skewed by 6 sectors against the one before
abbrev pub track : ℕ → ℕ
track l = l / 26 + 1

abbrev pub slot : ℕ → ℕ
slot l = (interleave (l % 26) + 6 * (l / 26)) % 26 + 1

-- where sector l lies, counted in sectors from the start of track 0
unfoldable pub sector : ℕ → ℕ
sector l = 26 * track l + slot l - 1

pub record FloppyRows : Type 0 where
  pub row_13 : (track 13 ≡ 1) × (slot 13 ≡ 2)
  pub row_26 : (track 26 ≡ 2) × (slot 26 ≡ 7)
  pub row_1975 : (track 1975 ≡ 76) × (slot 1975 ≡ 8)

-- whether a floppy stands over n blocks, how many blocks it shows, and where the byte shown at a lies
abbrev pub floppy_standing : ℕ → Standing
floppy_standing n = cond (nat_le 501 n) Stands DoesNotFit

abbrev pub floppy_count : ℕ → ℕ
floppy_count n = cond (nat_le 501 n) 494 0

abbrev pub floppy_place : ℕ → ℕ
floppy_place a = 128 * sector (a / 128) + a % 128

-- sectors lie on tracks 1 to 76, no two at one place
pub sector_below : (l : ℕ) → l < 1976 → sector l < 2002
unfolding sector
sector_below l h = omega arith

odd_even : (p q t : ℕ) → (2 * p + 1 + 6 * t) % 26 ≢ (2 * q + 0 + 6 * t) % 26
odd_even p q t e =
    let a : ℕ = (2 * p + 1 + 6 * t) / 26 in
    let b : ℕ = (2 * q + 0 + 6 * t) / 26 in
    even_odd (p + 3 * t + 13 * b) (q + 3 * t + 13 * a) (omega arith)
  where
    even_odd : (x y : ℕ) → 2 * x + 1 ≢ 2 * y
    even_odd x y e = omega arith

-- of two numbers that are less than 13 apart
near : (p q a b : ℕ) → p < q + 13 → q < p + 13 → p + 13 * b ≡ q + 13 * a → p ≡ q
near p q a b h k e =
    let u : a ≤ b = omega arith in
    let v : b ≤ a = omega arith in
    omega arith

same_half : (p q t c : ℕ) → p < q + 13 → q < p + 13 → (2 * p + c + 6 * t) % 26 ≡ (2 * q + c + 6 * t) % 26 → p ≡ q
same_half p q t c h k e =
    let a : ℕ = (2 * p + c + 6 * t) / 26 in
    let b : ℕ = (2 * q + c + 6 * t) / 26 in
    near p q a b h k (omega arith)

interleave_apart : (p q t : ℕ) → p < 26 → q < 26 → (interleave p + 6 * t) % 26 ≡ (interleave q + 6 * t) % 26 → p ≡ q
interleave_apart p q t hp hq = go (nat_le 13 p) refl (nat_le 13 q) refl
  where
    go : (x : Bool) → nat_le 13 p ≡ x → (y : Bool) → nat_le 13 q ≡ y → (2 * p + cond x 1 0 + 6 * t) % 26 ≡ (2 * q + cond y 1 0 + 6 * t) % 26 → p ≡ q
    go true e true f h = same_half p q t 1 (omega (arith, leb-true 13 q f)) (omega (arith, leb-true 13 p e)) h
    go true e false f h = absurd (odd_even p q t h)
    go false e true f h = absurd (odd_even q p t (sym h))
    go false e false f h = same_half p q t 0 (omega (arith, leb-false 13 p e)) (omega (arith, leb-false 13 q f)) h

pub sector_apart : (l m : ℕ) → sector l ≡ sector m → l ≡ m
unfolding sector
sector_apart l m e =
    let t : l / 26 ≡ m / 26 = omega arith in
    let u : (interleave (l % 26) + 6 * (l / 26)) % 26 ≡ (interleave (m % 26) + 6 * (m / 26)) % 26 = omega arith in
    let v : (interleave (l % 26) + 6 * (l / 26)) % 26 ≡ (interleave (m % 26) + 6 * (l / 26)) % 26
    = subst (λ (x : ℕ). (interleave (l % 26) + 6 * (l / 26)) % 26 ≡ (interleave (m % 26) + 6 * x) % 26) (sym t) u in
    omega (arith, interleave_apart (l % 26) (m % 26) (l / 26) (omega arith) (omega arith) v)

pub floppy_inside : (n a : ℕ) (t : Bool) → nat_le 501 n ≡ t → a < 512 * cond t 494 0 → floppy_place a < 512 * n
floppy_inside n a true e h = omega (arith, leb-true 501 n e, sector_below (a / 128) (omega arith))
floppy_inside n a false e h = absurd (omega arith)

pub floppy_apart : (a b : ℕ) → floppy_place a ≡ floppy_place b → a ≡ b
floppy_apart a b e = omega (arith, sector_apart (a / 128) (b / 128) (omega arith))

unfoldable pub floppy : Layer
floppy =
    record {
      count = floppy_count;
      place = λ n a. floppy_place a;
      inside = λ n a h. floppy_inside n a (nat_le 501 n) refl h;
      apart = λ n a b ha hb e. floppy_apart a b e;
    }
