-- What is written of the lines.
use Rattle.std.proofs.Common.{◌≡◌, ℕ, ◌+◌, ◌*◌, ◌/◌, ◌^◌, ◌<◌, ◌≤◌, Bool, true, false, cond, List, [], ◌∷◌, ◌++◌, length, take, drop, Some, None, codes, sym, refl, ap, ◌∙◌, add-zero, zero-add, arith}
use Rattle.std.specs.List.{flat_map}
use Rattle.std.proofs.lemmas.List.{append_assoc, length-append, take-append-drop, take_at}
use Rattle.std.proofs.lemmas.Fmt.{length-decimal-le}
use Rattle.std.proofs.lemmas.Bool.{cond-true, cond-false, le-leb, lt-leb}
use Rattle.codec.specs.Words.{written}
use Rattle.codec.proofs.Written.{written-two}
use Rattle.directory.specs.declared.placed.Placed.{Placed}
use Rattle.directory.specs.Finds.{is_file, blocks_in}
use Rattle.listing.specs.declared.totals.Totals.{Totals}
use Rattle.listing.specs.Listings.{plain, file_line, files_in, empties_in, file_lines, total_line, last_line, listing, listing_answer, listing_after}
use Rattle.listing.proofs.Spelled.{one_digit, digit_more}

-- the length with one digit, and with one digit more
pub one_long : (n : ℕ) → n < 10 → length (plain n) ≡ 1
one_long n h = ap length (one_digit n h)

pub more_long : (n : ℕ) → 10 ≤ n → n < 2 ^ 32 → length (plain n) ≡ length (plain (n / 10)) + 1
more_long n h k = ap length (digit_more n h k) ∙ length-append (plain (n / 10)) _

pub plain_short : (n : ℕ) → n < 2 ^ 32 → length (plain n) ≤ 10
plain_short n h = length-decimal-le 10 n (omega arith) (omega arith) (omega arith)

-- four writes, each behind the one before
written-four : (bs x y z w : List ℕ) {b₁ b₂ b₃ b₄ : List ℕ} (p q r : ℕ) → b₁ ≡ written bs 0 x → b₂ ≡ written b₁ p y → b₃ ≡ written b₂ q z
    → b₄ ≡ written b₃ r w → p ≡ 0 + length x → q ≡ p + length y → r ≡ q + length z → b₄ ≡ written bs 0 (((x ++ y) ++ z) ++ w)
written-four bs x y z w p q r e₁ e₂ e₃ e₄ h₁ h₂ h₃ =
    let f₂ = written-two bs 0 x y y p e₁ e₂ refl (sym h₁) (omega arith) in
    let f₃ = written-two bs 0 (x ++ y) z z q f₂ e₃ refl (omega (arith, length-append x y)) (omega arith) in
    written-two bs 0 ((x ++ y) ++ z) w w r f₃ e₄ refl (omega (arith, length-append x y, length-append (x ++ y) z)) (omega arith)

four-long : (x y z w : List ℕ) (p q r : ℕ) → p ≡ 0 + length x → q ≡ p + length y → r ≡ q + length z → length w ≡ 1
    → r + 1 ≡ length (((x ++ y) ++ z) ++ w)
four-long x y z w p q r h₁ h₂ h₃ h₄ = simp length-append (omega arith)

-- the last line by its pieces
regrouped : (a f b u c e w : List ℕ) → (((a ++ f) ++ (b ++ u)) ++ (c ++ e)) ++ w ≡ a ++ (f ++ (b ++ (u ++ (c ++ (e ++ w)))))
regrouped a f b u c e w = simp append_assoc

abbrev files_piece : ℕ → List ℕ
files_piece n = codes "Files " ++ plain n

abbrev used_piece : ℕ → List ℕ
used_piece n = codes " Used " ++ plain n

abbrev free_piece : ℕ → List ℕ
free_piece n = codes " Free " ++ plain n

total_pieces : (f u e : ℕ) → ((files_piece f ++ used_piece u) ++ free_piece e) ++ (10 ∷ []) ≡ total_line f u e
unfolding total_line
total_pieces f u e = regrouped (codes "Files ") (plain f) (codes " Used ") (plain u) (codes " Free ") (plain e) (10 ∷ [])

module _ (f u e : ℕ) (p q r : ℕ) (h₁ : p ≡ 0 + length (files_piece f)) (h₂ : q ≡ p + length (used_piece u)) (h₃ : r ≡ q + length (free_piece e)) where
  pub total-written : (bs : List ℕ) {b₁ b₂ b₃ b₄ : List ℕ} → b₁ ≡ written bs 0 (files_piece f) → b₂ ≡ written b₁ p (used_piece u)
      → b₃ ≡ written b₂ q (free_piece e) → b₄ ≡ written b₃ r (10 ∷ []) → b₄ ≡ written bs 0 (total_line f u e)
  total-written bs e₁ e₂ e₃ e₄ =
      written-four bs (files_piece f) (used_piece u) (free_piece e) (10 ∷ []) p q r e₁ e₂ e₃ e₄ h₁ h₂ h₃ ∙ ap (written bs 0) (total_pieces f u e)

  pub total-long : r + 1 ≡ length (total_line f u e)
  total-long = four-long (files_piece f) (used_piece u) (free_piece e) (10 ∷ []) p q r h₁ h₂ h₃ refl ∙ ap length (total_pieces f u e)

-- the lines from one entry on
module _ (l : List Placed) {p : Placed} {rest : List Placed} (e : l ≡ p ∷ rest) where
  pub lines_on : is_file p ≡ true → file_lines l ≡ file_line p ++ file_lines rest
  lines_on h = ap file_lines e ∙ ap (λ (t : Bool). flat_map file_line (cond t (p ∷ files_in rest) (files_in rest))) h

  pub lines_off : is_file p ≡ false → file_lines l ≡ file_lines rest
  lines_off h = ap file_lines e ∙ ap (λ (t : Bool). flat_map file_line (cond t (p ∷ files_in rest) (files_in rest))) h

written_none : (bs : List ℕ) (at : ℕ) → written bs at [] ≡ bs
unfolding written
written_none bs at = ap (λ (n : ℕ). take at bs ++ drop n bs) (add-zero at) ∙ take-append-drop at bs

-- one line more, and the lines that are left behind it
pub lines_more : (out : List ℕ) (at : ℕ) (line : List ℕ) (l : List Placed) {p : Placed} {rest : List Placed} {out₁ : List ℕ} → l ≡ p ∷ rest → is_file p ≡ true
    → line ≡ file_line p → length line ≡ 30 → at ≤ length out → out₁ ≡ written out at line
    → written out₁ (at + 30) (file_lines rest) ≡ written out at (file_lines l)
lines_more out at line l {p} {rest} {out₁} e t q n h w =
    written-two out at line (file_lines rest) {b₂ = written out₁ (at + 30) (file_lines rest)} (file_lines rest) (at + 30) w refl refl (omega arith) h
    ∙ ap (λ (z : List ℕ). written out at (z ++ file_lines rest)) q
    ∙ ap (written out at) (sym (lines_on l e t))

pub length_more : (line : List ℕ) (l : List Placed) {p : Placed} {rest : List Placed} → l ≡ p ∷ rest → is_file p ≡ true → line ≡ file_line p
    → length line ≡ 30 → length (file_lines l) ≡ 30 + length (file_lines rest)
length_more line l {p} {rest} e t q n = ap length (lines_on l e t) ∙ length-append (file_line p) (file_lines rest) ∙ ap (λ (k : ℕ). k + length (file_lines rest)) (sym (ap length q) ∙ n)

pub lines_none : (out : List ℕ) (at : ℕ) (l : List Placed) → l ≡ [] → written out at (file_lines l) ≡ out
lines_none out at l e = ap (λ (z : List Placed). written out at (file_lines z)) e ∙ written_none out at

-- the listing of some entries, from their totals
module _ (ps : List Placed) (t : Totals) (n : ℕ) (files : t.files ≡ length (files_in ps)) (used : t.used ≡ blocks_in (files_in ps))
    (free : t.free ≡ blocks_in (empties_in ps)) (lines : 30 * t.files ≡ length (file_lines ps)) (long : n ≡ length (total_line t.files t.used t.free)) where
  last : List ℕ
  last = total_line t.files t.used t.free

  split : listing ps ≡ file_lines ps ++ last
  unfolding listing last_line last
  split = sym (λ j. file_lines ps ++ total_line (files j) (used j) (free j))

  listing-long : length (listing ps) ≡ 30 * t.files + n
  unfolding last
  listing-long = ap length split ∙ length-append (file_lines ps) last ∙ (λ j. sym lines j + sym long j)

  -- where there is no room
  pub none_told : (out : List ℕ) → length out < 30 * t.files + n → None ≡ listing_answer (listing ps) (length out)
  none_told out h = sym (cond-false _ _ _ (lt-leb (length (listing ps)) (length out) (omega (arith, listing-long))))

  pub none_written : (out : List ℕ) → length out < 30 * t.files + n → out ≡ listing_after (listing ps) out
  none_written out h = sym (cond-false _ _ _ (lt-leb (length (listing ps)) (length out) (omega (arith, listing-long))))

  -- where there is
  pub some_told : (out : List ℕ) → 30 * t.files + n ≤ length out → Some (30 * t.files + n) ≡ listing_answer (listing ps) (length out)
  some_told out h =
      ap Some (sym listing-long) ∙ sym (cond-true _ (Some (length (listing ps))) None (le-leb (length (listing ps)) (length out) (omega (arith, listing-long))))

  pub some_written : (out z : List ℕ) {out₁ out₂ line : List ℕ} → 30 * t.files + n ≤ length out → out₁ ≡ written out 0 (file_lines ps)
      → line ≡ written z 0 (total_line t.files t.used t.free) → out₂ ≡ written out₁ (30 * t.files) (take n line)
      → out₂ ≡ listing_after (listing ps) out
  unfolding written last
  some_written out z {out₁} {out₂} {line} h e₁ e e₂ =
      written-two out 0 (file_lines ps) last (take n line) (30 * t.files) e₁ e₂ (ap (take n) e ∙ take_at last _ n (sym long)) (omega (arith, lines)) (omega arith)
      ∙ ap (λ (xs : List ℕ). written out 0 xs) (sym split)
      ∙ ap (λ (m : ℕ). listing ps ++ drop m out) (zero-add (length (listing ps)))
      ∙ sym (cond-true _ (listing ps ++ drop (length (listing ps)) out) out (le-leb (length (listing ps)) (length out) (omega (arith, listing-long))))
