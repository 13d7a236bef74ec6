-- What a test decides, put together from its parts.
use Rattle.std.proofs.Common.{ℕ, ◌≤◌, Bool, true, false, not, ◌||◌, leb, Decides, sym, refl, true≢false}
use Rattle.std.proofs.lemmas.Bool.{leb-true, le-leb}

pub decides_leb : (a b : ℕ) → Decides (leb a b) (a ≤ b)
decides_leb a b = (leb-true a b, le-leb a b)

pub decides_implies : {P Q : Type 0} (x y : Bool) → Decides x P → Decides y Q → Decides (not x || y) (P → Q)
decides_implies true y d k = (λ e _. k.0 e, λ h. k.1 (h (d.0 refl)))
decides_implies false y d k = (λ _ p. absurd (true≢false (sym (d.1 p))), λ _. refl)
