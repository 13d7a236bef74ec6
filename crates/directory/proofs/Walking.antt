-- One step along the chain.
use Rattle.std.proofs.Common.{◌≡◌, ℕ, zero, suc, ◌+◌, ◌-◌, ◌<◌, ◌≤◌, Bool, true, false, cond, eqb, ◌⊎◌, List, [], ◌∷◌, ◌++◌, map, length, get_or, drop, is_some, Some, None, Option, unwrap_or, sym, refl, ap, ◌∙◌, subst, inl, inr, add-zero, add_assoc, arith}
use Rattle.std.proofs.lemmas.List.{drop_all, drop_more}
use Rattle.std.proofs.ByRecursion.{All-get_or}
use Rattle.std.proofs.lemmas.Bool.{cases_lt, eqb-true}
use Rattle.codec.specs.Words.{word_at}
use Rattle.volume.specs.declared.entry.Entry.{Entry}
use Rattle.volume.specs.Segments.{capacity_of}
use Rattle.volume.proofs.Encoding.{no_entry}
use Rattle.codec.specs.declared.name.Name.{Name}
use Rattle.volume.specs.declared.entry.Status.{Status}
use Rattle.segment.specs.Entries.{entry_of, status_in, name_in, length_in, date_in}
use Rattle.segment.specs.Segments.{entry_start, before, entries_in, segment_entries}
use Rattle.segment.specs.Chains.{segment_at}
use Rattle.segment.specs.Directories.{entries_at}
use Rattle.segment.proofs.Fields.{word_here, Fields}
use Rattle.segment.proofs.Walks.{front, segment_walked, segment_few, fields_at}
use Rattle.directory.specs.declared.placed.Placed.{Placed}
use Rattle.directory.specs.Walks.{placed, spot, blocks_of, placed_in, left_from, left, chained_from, chained, Readable, OnWay}

-- nothing is left of a segment at its end word only
pub ended : (n x : ℕ) (bs : List ℕ) → entries_in n x bs ≡ Some [] → word_at bs 0 ≡ 2048
unfolding entries_in
ended zero x bs h = go (eqb (word_at bs 0) 2048) refl h
  where
    go : (t : Bool) → eqb (word_at bs 0) 2048 ≡ t → ◌≡◌ {A = Option (List Entry)} (cond t (Some []) None) (Some []) → word_at bs 0 ≡ 2048
    go true e q = eqb-true (word_at bs 0) 2048 e
    go false e q = absurd (let z : ◌≡◌ {A = ℕ} 0 1 = cc in omega arith)
ended (suc n) x bs h = go (eqb (word_at bs 0) 2048) refl h
  where
    none_before : (o : Option Entry) (r : Option (List Entry)) → before o r ≡ Some [] → ⊥
    none_before None r q = let z : ◌≡◌ {A = ℕ} 0 1 = cc in omega arith
    none_before (Some e) None q = let z : ◌≡◌ {A = ℕ} 0 1 = cc in omega arith
    none_before (Some e) (Some es) q = let z : ◌≡◌ {A = ℕ} 0 1 = cc in omega arith

    go : (t : Bool) → eqb (word_at bs 0) 2048 ≡ t → ◌≡◌ {A = Option (List Entry)} (cond t (Some []) (before (entry_of x bs) (entries_in n x (drop (14 + x) bs)))) (Some [])
        → word_at bs 0 ≡ 2048
    go true e q = eqb-true (word_at bs 0) 2048 e
    go false e q = absurd (none_before (entry_of x bs) (entries_in n x (drop (14 + x) bs)) q)

-- the entries of a readable segment
pub entries_read : (x : ℕ) (dir : List ℕ) (k : ℕ) → is_some (segment_entries x (segment_at dir k)) ≡ true
    → segment_entries x (segment_at dir k) ≡ Some (entries_at x dir k)
entries_read x dir k = go (segment_entries x (segment_at dir k))
  where
    go : (o : Option (List Entry)) → is_some o ≡ true → o ≡ Some (unwrap_or o [])
    go (Some es) h = refl
    go None h = absurd (let z : ◌≡◌ {A = ℕ} 0 1 = cc in omega arith)

injected : {A : Type 0} {x y : A} → ◌≡◌ {A = Option A} (Some x) (Some y) → x ≡ y
injected q = cc

module _ {x : ℕ} {dir ks : List ℕ} {p i at : ℕ} (w : OnWay x dir ks (spot p i at)) (h : p < length ks) where
  abbrev pub k : ℕ
  k = get_or ks p 0

  abbrev pub es : List Entry
  es = entries_at x dir (get_or ks p 0)

  abbrev pub seg : List ℕ
  seg = segment_at dir (get_or ks p 0)

  pub here : Readable x dir (get_or ks p 0)
  here = All-get_or (Readable x dir) ks p 0 h w.all

  pub read : segment_entries x seg ≡ Some es
  read = entries_read x dir k here.2

  pub within : i ≤ capacity_of x
  within = omega (arith, w.inside h, segment_few x seg es read)

  unrolled : (j b : ℕ) → left x dir ks (spot p j b) ≡ placed_in k j b (drop j es) ++ left_from x dir 0 (b + blocks_of (drop j es)) (drop (p + 1) ks)
  unfolding left_from
  unrolled j b = ap (left_from x dir j b) (drop_more ks p 0 h)

  -- the rest of a segment and of the chain behind it, with places
  rest : ℕ → ℕ → List Entry → List (ℕ × Placed)
  rest j b l = map (λ q. (p, q)) (placed_in k j b l) ++ chained_from x dir (p + 1) 0 (b + blocks_of l) (drop (p + 1) ks)

  chain_unrolled : (j b : ℕ) → chained x dir ks (spot p j b) ≡ rest j b (drop j es)
  unfolding chained_from rest
  chain_unrolled j b = ap (chained_from x dir p j b) (drop_more ks p 0 h)

  -- at an entry
  module _ {a v : ℕ} {bs : List ℕ} (s : a ≡ entry_start x i) (b : bs ≡ segment_at dir (get_or ks p 0)) (m : v ≡ word_at bs a) (n : v ≡ 2048 → ⊥) where
    g : word_at seg a ≡ 2048 → ⊥
    g q = n (m ∙ ap (λ (z : List ℕ). word_at z a) b ∙ q)

    pub goes_on : i < length es
    goes_on = go (cases_lt i (length es))
      where
        go : (i < length es) ⊎ (length es ≤ i) → i < length es
        go (inl l) = l
        go (inr l) =
            absurd (g (sym (word_here seg a)
            ∙ ap (λ (z : ℕ). word_at (drop z seg) 0) s
            ∙ ended (capacity_of x - i) x (drop (entry_start x i) seg) (segment_walked x seg es read i (w.inside h) ∙ ap Some (drop_all i es l))))

    pub room : i < capacity_of x
    room = omega (arith, goes_on, segment_few x seg es read)

    abbrev pub e : Entry
    e = get_or es i no_entry

    pub fields : Fields (drop a seg) e
    fields = subst (λ (z : ℕ). Fields (drop z seg) e) (sym s) (fields_at x seg es read i goes_on)

    pub first-left : left x dir ks (spot p i at) ≡ placed k i at e ∷ left x dir ks (spot p (i + 1) (at + e.length))
    unfolding placed_in blocks_of
    first-left =
        unrolled i at
        ∙ ap (λ (z : List Entry). placed_in k i at z ++ left_from x dir 0 (at + blocks_of z) (drop (p + 1) ks)) (drop_more es i no_entry goes_on)
        ∙ ap (λ (z : ℕ). placed k i at e ∷ (placed_in k (i + 1) (at + e.length) (drop (i + 1) es) ++ left_from x dir 0 z (drop (p + 1) ks)))
        (sym (add_assoc at e.length (blocks_of (drop (i + 1) es))))
        ∙ ap (λ (z : List Placed). placed k i at e ∷ z) (sym (unrolled (i + 1) (at + e.length)))

    pub first-chained : chained x dir ks (spot p i at) ≡ (p, placed k i at e) ∷ chained x dir ks (spot p (i + 1) (at + e.length))
    unfolding placed_in blocks_of rest
    first-chained =
        chain_unrolled i at
        ∙ ap (rest i at) (drop_more es i no_entry goes_on)
        ∙ ap (λ (z : ℕ). (p, placed k i at e) ∷ (map (λ q. (p, q)) (placed_in k (i + 1) (at + e.length) (drop (i + 1) es)) ++ chained_from x dir (p + 1) 0 z (drop (p + 1) ks)))
        (sym (add_assoc at e.length (blocks_of (drop (i + 1) es))))
        ∙ ap (λ (z : List (ℕ × Placed)). (p, placed k i at e) ∷ z) (sym (chain_unrolled (i + 1) (at + e.length)))

    pub on : e.length ≤ 65535 → OnWay x dir ks (spot p (i + 1) (at + e.length))
    on l =
        record {
          all = w.all;
          inside = λ _. omega (arith, goes_on);
          bound = omega (arith, w.bound, ap length first-left);
        }

    pub fits : at + 65535 ≤ 200000000
    fits = omega (arith, w.bound, ap length first-left)

    -- what the code has of the entry
    module _ {ws : List ℕ} (w₁ : ws ≡ drop a bs) where
      behind : ws ≡ drop a seg
      behind = w₁ ∙ ap (drop a) b

      pub not_none : None ≡ status_in ws → ⊥
      not_none q = let z : ◌≡◌ {A = Option Status} None (Some e.status) = q ∙ ap status_in behind ∙ fields.status in let y : ◌≡◌ {A = ℕ} 0 1 = cc in omega arith

    module _ {ws : List ℕ} {st : Status} {nm : Name} {len dt : ℕ} (w₁ : ws ≡ drop a bs) (s₁ : Some st ≡ status_in ws) (n₁ : nm ≡ name_in ws)
        (l₁ : len ≡ length_in ws) (d₁ : dt ≡ date_in ws) (fit : len ≤ 65535) where
      long : len ≡ e.length
      long = l₁ ∙ ap length_in (behind w₁) ∙ fields.length

      same : ◌≡◌ {A = Placed} (placed k i at e) (record { status = st; name = nm; length = len; date = dt; segment = k; index = i; start = at })
      same =
          let p₀ : e.status ≡ st = injected (sym fields.status ∙ sym (s₁ ∙ ap status_in (behind w₁))) in
          let p₁ : e.name ≡ nm = sym (n₁ ∙ ap name_in (behind w₁) ∙ fields.name) in
          let p₂ : e.date ≡ dt = sym (d₁ ∙ ap date_in (behind w₁) ∙ fields.date) in
          λ j. record { status = p₀ j; name = p₁ j; length = sym long j; date = p₂ j; segment = k; index = i; start = at }

      pub stepped : (left x dir ks (spot p i at)
          ≡ record { status = st; name = nm; length = len; date = dt; segment = k; index = i; start = at } ∷ left x dir ks (spot p (i + 1) (at + len)))
          × OnWay x dir ks (spot p (i + 1) (at + len))
          × (chained x dir ks (spot p i at)
          ≡ (p, record { status = st; name = nm; length = len; date = dt; segment = k; index = i; start = at }) ∷ chained x dir ks (spot p (i + 1) (at + len)))
      stepped = (
        first-left ∙ ap (λ (z : Placed). z ∷ left x dir ks (spot p (i + 1) (at + e.length))) same
            ∙ ap (λ (z : ℕ). record { status = st; name = nm; length = len; date = dt; segment = k; index = i; start = at } ∷ left x dir ks (spot p (i + 1) (at + z))) (sym long),
        subst (λ (z : ℕ). OnWay x dir ks (spot p (i + 1) (at + z))) (sym long) (on (omega (arith, long))),
        first-chained ∙ ap (λ (z : Placed). (p, z) ∷ chained x dir ks (spot p (i + 1) (at + e.length))) same
            ∙ ap (λ (z : ℕ). (p, record { status = st; name = nm; length = len; date = dt; segment = k; index = i; start = at }) ∷ chained x dir ks (spot p (i + 1) (at + z))) (sym long),
      )

  -- at the end of a segment
  module _ {a v : ℕ} {bs : List ℕ} (s : a ≡ entry_start x i) (b : bs ≡ segment_at dir (get_or ks p 0)) (m : v ≡ word_at bs a) (n : v ≡ 2048) where
    ends : word_at seg a ≡ 2048
    ends = sym (m ∙ ap (λ (z : List ℕ). word_at z a) b) ∙ n

    over : length es ≤ i
    over = go (cases_lt i (length es))
      where
        go : (i < length es) ⊎ (length es ≤ i) → length es ≤ i
        go (inr l) = l
        go (inl l) =
            absurd ((front (capacity_of x - i) x (drop (entry_start x i) seg) (get_or es i no_entry) (drop (i + 1) es)
            (segment_walked x seg es read i (w.inside h) ∙ ap Some (drop_more es i no_entry l))).goes_on
            (ap (λ (z : ℕ). word_at (drop z seg) 0) (sym s) ∙ word_here seg a ∙ ends))

    pub next_left : left x dir ks (spot (p + 1) 0 at) ≡ left x dir ks (spot p i at)
    unfolding placed_in blocks_of
    next_left =
        sym
        (unrolled i at
        ∙ ap (λ (z : List Entry). placed_in k i at z ++ left_from x dir 0 (at + blocks_of z) (drop (p + 1) ks)) (drop_all i es over)
        ∙ ap (λ (z : ℕ). left_from x dir 0 z (drop (p + 1) ks)) (add-zero at))

    pub next_chained : chained x dir ks (spot (p + 1) 0 at) ≡ chained x dir ks (spot p i at)
    unfolding placed_in blocks_of rest
    next_chained =
        sym
        (chain_unrolled i at
        ∙ ap (rest i at) (drop_all i es over)
        ∙ ap (λ (z : ℕ). chained_from x dir (p + 1) 0 z (drop (p + 1) ks)) (add-zero at))

    pub on_next : OnWay x dir ks (spot (p + 1) 0 at)
    on_next = record { all = w.all; inside = λ _. omega arith; bound = omega (arith, w.bound, ap length next_left) }

-- at the end of the chain
pub none_left : (x : ℕ) (dir ks : List ℕ) (p i at : ℕ) → length ks ≤ p → left x dir ks (spot p i at) ≡ []
unfolding left_from
none_left x dir ks p i at h = ap (left_from x dir i at) (drop_all p ks h)

pub none_chained : (x : ℕ) (dir ks : List ℕ) (p i at : ℕ) → length ks ≤ p → chained x dir ks (spot p i at) ≡ []
unfolding chained_from
none_chained x dir ks p i at h = ap (chained_from x dir p i at) (drop_all p ks h)
