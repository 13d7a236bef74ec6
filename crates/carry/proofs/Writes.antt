-- Segments written into the bytes of a directory.
use Rattle.std.proofs.Common.{◌≡◌, ℕ, ◌+◌, ◌-◌, ◌*◌, ◌<◌, ◌≤◌, ◌⊎◌, List, [], ◌∷◌, map, length, is_some, Option, unwrap_or, sym, refl, ap, ◌∙◌, subst, inl, inr, ⊎_elim, arith}
use Rattle.std.specs.List.{AllByRecursion}
use Rattle.codec.specs.Words.{word_at, written}
use Rattle.volume.specs.declared.entry.Entry.{Entry}
use Rattle.segment.specs.Segments.{segment_entries}
use Rattle.segment.specs.Chains.{segment_at}
use Rattle.segment.specs.Directories.{Directory}
use Rattle.segment.proofs.RoundTrip.{length_segment, header_back, segment_back}
use Rattle.segment.proofs.Workspace.{word_in_first, next_in}
use Rattle.edits.specs.Directories.{highest}
use Rattle.edits.specs.Laid.{Laid, laid}
use Rattle.edits.specs.Values.{cleaned}
use Rattle.carry.specs.Carries.{Member, Carries, header_of, image, imaged}
use Rattle.carry.specs.Writes.{Fits, Among, Settled, Heads, WrittenCarries}
use Rattle.carry.proofs.Bytes.{segment_same, segment_other, over-long}

module _ (d : Directory) where
  pub image-long : (n : ℕ) (m : Laid) → Fits n d.extra m → length (image d m) ≡ 1024
  unfolding image
  image-long n m f = length_segment (header_of d m) m.entries f.few f.lawful

  -- the other segments stay
  pub imaged-long : (dir : List ℕ) (ms : List Laid) → AllByRecursion (Fits (length dir) d.extra) ms → length (imaged dir d ms) ≡ length dir
  unfolding imaged
  imaged-long dir [] a = refl
  imaged-long dir (m ∷ ms) a =
      let l = image-long (length dir) m a.0 in
      let o = over-long dir m.number (image d m) l a.0.some a.0.inside in
      imaged-long (written dir (1024 * (m.number - 1)) (image d m)) ms
      (subst (λ (n : ℕ). AllByRecursion (Fits n d.extra) ms) (sym o) a.1)
      ∙ o

  pub imaged_other : (dir : List ℕ) (ms : List Laid) → AllByRecursion (Fits (length dir) d.extra) ms → (j : ℕ) → 1 ≤ j → AllByRecursion (λ m. m.number ≡ j → ⊥) ms
      → segment_at (imaged dir d ms) j ≡ segment_at dir j
  unfolding imaged
  imaged_other dir [] a j p q = refl
  imaged_other dir (m ∷ ms) a j p q =
      let l = image-long (length dir) m a.0 in
      let o = over-long dir m.number (image d m) l a.0.some a.0.inside in
      imaged_other (written dir (1024 * (m.number - 1)) (image d m)) ms
      (subst (λ (n : ℕ). AllByRecursion (Fits n d.extra) ms) (sym o) a.1) j p q.1
      ∙ segment_other dir m.number (image d m) l a.0.some a.0.inside j p (λ e. q.0 (sym e))

  -- a segment that is written, by the last of those of its number
  pub imaged-here : (dir : List ℕ) (ms : List Laid) → AllByRecursion (Fits (length dir) d.extra) ms → Settled ms → (m : Laid) → Among ms m
      → segment_at (imaged dir d ms) m.number ≡ image d m
  unfolding imaged
  imaged-here dir [] a s m h = absurd h
  imaged-here dir (w ∷ ms) a s m h =
      let l = image-long (length dir) w a.0 in
      let o = over-long dir w.number (image d w) l a.0.some a.0.inside in
      let dir' : List ℕ = written dir (1024 * (w.number - 1)) (image d w) in
      let b = subst (λ (n : ℕ). AllByRecursion (Fits n d.extra) ms) (sym o) a.1 in
      ⊎_elim
      (λ (e : m ≡ w).
      ap (λ (z : Laid). segment_at (imaged dir' d ms) z.number) e
      ∙ (imaged_other dir' ms b w.number a.0.some s.0
      ∙ (segment_same dir w.number (image d w) l a.0.some a.0.inside ∙ ap (image d) (sym e))))
      (λ (g : Among ms m). imaged-here dir' ms b s.1 m g)
      h

  -- such a segment is there
  pub member_written : (dir : List ℕ) (n : ℕ) (m : Laid) → Fits n d.extra m → n ≤ length dir → segment_at dir m.number ≡ image d m
      → Member d.extra dir m
  unfolding image
  member_written dir n m f l e =
      let h = header_back (header_of d m) m.entries in
      let r = ap (segment_entries d.extra) e ∙ segment_back (header_of d m) m.entries f.few f.lawful in
      record {
        some = f.some;
        inside = omega (arith, f.inside, l);
        next = next_in dir m.number ∙ (ap (λ (z : List ℕ). word_at z 2) e ∙ h.next);
        extra = ap (λ (z : List ℕ). word_at z 6) e ∙ h.extra;
        start = ap (λ (z : List ℕ). word_at z 8) e ∙ h.start;
        readable = ap is_some r;
        entries = ap (λ (o : Option (List Entry)). map cleaned (unwrap_or o [])) r ∙ f.clean;
      }

-- a segment whose bytes stay is still there
pub member_kept : (x : ℕ) (dir dir' : List ℕ) (m : Laid) → length dir' ≡ length dir → segment_at dir' m.number ≡ segment_at dir m.number
    → Member x dir m → Member x dir' m
member_kept x dir dir' m l e h =
    record {
      some = h.some;
      inside = omega (arith, l, h.inside);
      next = next_in dir' m.number ∙ (ap (λ (z : List ℕ). word_at z 2) e ∙ (sym (next_in dir m.number) ∙ h.next));
      extra = ap (λ (z : List ℕ). word_at z 6) e ∙ h.extra;
      start = ap (λ (z : List ℕ). word_at z 8) e ∙ h.start;
      readable = ap (λ (z : List ℕ). is_some (segment_entries x z)) e ∙ h.readable;
      entries = ap (λ (z : List ℕ). map cleaned (unwrap_or (segment_entries x z) [])) e ∙ h.entries;
    }

module _ (dir : List ℕ) (old new : Directory) (ms : List Laid) (c : Carries dir old) (t : new.total ≡ old.total) (x : new.extra ≡ old.extra)
    (a : AllByRecursion (Fits (length dir) new.extra) ms) (s : Settled ms) where
  abbrev after : List ℕ
  after = imaged dir new ms

  each : (ls : List Laid) → AllByRecursion (λ m. Among ms m ⊎ (AllByRecursion (λ w. w.number ≡ m.number → ⊥) ms × Member new.extra dir m)) ls
      → AllByRecursion (Fits (length dir) new.extra) ms → AllByRecursion (Member new.extra (imaged dir new ms)) ls
  each [] h f = tt
  each (m ∷ ls) h f = (go h.0, each ls h.1 f)
    where
      fit : (ws : List Laid) → AllByRecursion (Fits (length dir) new.extra) ws → Among ws m → Fits (length dir) new.extra m
      fit [] b g = absurd g
      fit (w ∷ ws) b g = ⊎_elim (λ (e : m ≡ w). subst (Fits (length dir) new.extra) (sym e) b.0) (λ (k : Among ws m). fit ws b.1 k) g

      go : Among ms m ⊎ (AllByRecursion (λ w. w.number ≡ m.number → ⊥) ms × Member new.extra dir m) → Member new.extra (imaged dir new ms) m
      go (inl g) =
          member_written new (imaged dir new ms) (length dir) m (fit ms a g) (omega (arith, imaged-long new dir ms a)) (imaged-here new dir ms a s m g)
      go (inr g) =
          member_kept new.extra dir (imaged dir new ms) m (imaged-long new dir ms a) (imaged_other new dir ms a m.number g.1.some g.0) g.1

  pub all_members : AllByRecursion (λ m. Among ms m ⊎ (AllByRecursion (λ w. w.number ≡ m.number → ⊥) ms × Member new.extra dir m)) (laid new)
      → AllByRecursion (Member new.extra (imaged dir new ms)) (laid new)
  all_members h = each (laid new) h a

  words : Heads old new ms → (word_at (imaged dir new ms) 0 ≡ new.total) × (word_at (imaged dir new ms) 4 ≡ highest new) × (word_at (imaged dir new ms) 6 ≡ new.extra)
  unfolding image
  words (inl h) =
      let m : Laid = h.0 in
      let e : segment_at (imaged dir new ms) 1 ≡ image new m = ap (segment_at (imaged dir new ms)) (sym h.2) ∙ imaged-here new dir ms a s m h.1 in
      let b = header_back (header_of new m) m.entries in (
        sym (word_in_first after 0 (omega arith)) ∙ (ap (λ (z : List ℕ). word_at z 0) e ∙ b.total),
        sym (word_in_first after 4 (omega arith)) ∙ (ap (λ (z : List ℕ). word_at z 4) e ∙ b.highest),
        sym (word_in_first after 6 (omega arith)) ∙ (ap (λ (z : List ℕ). word_at z 6) e ∙ b.extra),
      )
  words (inr h) =
      let e : segment_at (imaged dir new ms) 1 ≡ segment_at dir 1 = imaged_other new dir ms a 1 (omega arith) h.0 in
      let same : (i : ℕ) → i + 1 < 1024 → word_at (imaged dir new ms) i ≡ word_at dir i
      = λ i l. sym (word_in_first after i l) ∙ (ap (λ (z : List ℕ). word_at z i) e ∙ word_in_first dir i l) in (
        same 0 (omega arith) ∙ (c.total ∙ sym t),
        same 4 (omega arith) ∙ (c.used ∙ sym h.1),
        same 6 (omega arith) ∙ (c.extra ∙ sym x),
      )

pub written_carries : WrittenCarries
written_carries dir old new ms c t x a s h k =
    let w = words dir old new ms c t x a s h in
    record { total = w.0; used = w.1; extra = w.2; members = all_members dir old new ms c t x a s k }
