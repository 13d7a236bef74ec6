-- What is written is read back.
use Rattle.std.proofs.Common.{◌≡◌, ℕ, ◌+◌, ◌-◌, ◌*◌, ◌/◌, ◌%◌, ◌≤◌, List, [], ◌∷◌, ◌++◌, length, take, drop, replicate, Some, sym, refl, ap, ◌∙◌, add-mul, one-mul, zero-mul, arith}
use Rattle.std.specs.List.{flat_map, AllByRecursion}
use Rattle.std.specs.Option.{option_map}
use Rattle.std.proofs.lemmas.List.{append_assoc, take_at, drop_at, length-take-le, length-append, length-replicate}
use Rattle.codec.specs.declared.name.Name.{Name}
use Rattle.codec.specs.Words.{word_at, word_bytes}
use Rattle.volume.specs.declared.entry.Status.{Status}
use Rattle.volume.specs.declared.entry.Status.TheVariants.{Tentative, Empty, Permanent, Protected}
use Rattle.volume.specs.declared.entry.Entry.{Entry}
use Rattle.volume.specs.declared.segment.Header.{Header}
use Rattle.volume.specs.Entries.{status_word, head_bytes, entry_bytes}
use Rattle.volume.specs.Segments.{capacity_of, header_bytes, used_bytes, segment_bytes}
use Rattle.segment.specs.Entries.{status_of, extra_of, LawfulEntry}
use Rattle.segment.specs.Segments.{entries_in}
use Rattle.segment.specs.RoundTrip.{EntryReadsBack, HeaderReadsBack, SegmentReadsBack, ReadAreLawful, RewrittenReadsBack}
use Rattle.segment.proofs.Fields.{entry_is}
use Rattle.segment.proofs.Walks.{entries_end, entries_more, segment_few, room_for}
use Rattle.segment.proofs.Lawful.{lawful-entries}

word_back : (w : ℕ) → w ≡ w % 256 + 256 * (w / 256)
word_back w = omega arith

name_back : (a b c : ℕ)
    → ◌≡◌ {A = Name} (record { first = a; second = b; kind = c })
    (record { first = a % 256 + 256 * (a / 256); second = b % 256 + 256 * (b / 256); kind = c % 256 + 256 * (c / 256) })
name_back a b c = cc (word_back a, word_back b, word_back c)

status_back : (s : Status) → Some s ≡ status_of (status_word s % 256 + 256 * (status_word s / 256))
status_back Tentative = refl
status_back Empty = refl
status_back Permanent = refl
status_back Protected = refl

-- no status word ends a segment
not_end : (s : Status) → status_word s % 256 + 256 * (status_word s / 256) ≡ 2048 → ⊥
not_end Tentative h = omega arith
not_end Empty h = omega arith
not_end Permanent h = omega arith
not_end Protected h = omega arith

entry_not_end : (x : ℕ) (e : Entry) (rest : List ℕ) → word_at (entry_bytes x e ++ rest) 0 ≡ 2048 → ⊥
unfolding entry_bytes head_bytes
entry_not_end x e rest h = not_end e.status h

pub length_entry : (x : ℕ) (e : Entry) → LawfulEntry x e → length (entry_bytes x e) ≡ 14 + x
unfolding entry_bytes head_bytes
length_entry x e l = omega (arith, length-take-le x e.extra l.wide)

pub entry_back : EntryReadsBack
unfolding entry_bytes head_bytes
entry_back x e rest l =
    sym (entry_is x (entry_bytes x e ++ rest) (status_back e.status)
    (name_back e.name.first e.name.second e.name.kind) (word_back e.length) (word_back e.job) (word_back e.date)
    (l.padded ∙ ap extra_of (sym (take_at (take x e.extra) rest x (length-take-le x e.extra l.wide)))))

entries_back : (x : ℕ) (es : List Entry) (n : ℕ) (rest : List ℕ) → length es ≤ n → AllByRecursion (LawfulEntry x) es → word_at rest 0 ≡ 2048
    → entries_in n x (flat_map (entry_bytes x) es ++ rest) ≡ Some es
entries_back x [] n rest l a h = entries_end n x rest h
entries_back x (e ∷ es) n rest l a h =
    let tail : List ℕ = flat_map (entry_bytes x) es ++ rest in
    let split : (entry_bytes x e ++ flat_map (entry_bytes x) es) ++ rest ≡ entry_bytes x e ++ tail
    = append_assoc (entry_bytes x e) (flat_map (entry_bytes x) es) rest in
    let past : drop (14 + x) (entry_bytes x e ++ tail) ≡ tail = drop_at (entry_bytes x e) tail (14 + x) (length_entry x e a.0) in
    let one : entries_in n x (entry_bytes x e ++ tail) ≡ option_map (λ ys. e ∷ ys) (entries_in (n - 1) x (drop (14 + x) (entry_bytes x e ++ tail)))
    = entries_more n x (entry_bytes x e ++ tail) (Some e) (entry_not_end x e tail) (omega arith) (sym (entry_back x e tail a.0)) in
    ap (entries_in n x) split
    ∙ one
    ∙ ap (λ z. option_map (λ ys. e ∷ ys) (entries_in (n - 1) x z)) past
    ∙ ap (option_map (λ ys. e ∷ ys)) (entries_back x es (n - 1) rest (omega arith) a.1 h)

length-entries : (x : ℕ) (es : List Entry) → AllByRecursion (LawfulEntry x) es → length (flat_map (entry_bytes x) es) ≡ length es * (14 + x)
length-entries x [] a = sym (zero-mul (14 + x))
length-entries x (e ∷ es) a =
    length-append (entry_bytes x e) (flat_map (entry_bytes x) es)
    ∙ omega (arith, length_entry x e a.0, length-entries x es a.1, add-mul (length es) 1 (14 + x), one-mul (14 + x))

length_used : (h : Header) (es : List Entry) → AllByRecursion (LawfulEntry h.extra) es → length (used_bytes h es) ≡ 12 + length es * (14 + h.extra)
unfolding used_bytes header_bytes
length_used h es a =
    let js : List ℕ = flat_map (entry_bytes h.extra) es in
    omega (arith, length-append js (word_bytes 2048), length-entries h.extra es a)

zeros_behind : (bs : List ℕ) (n : ℕ) → length bs ≤ n → length (bs ++ replicate (n - length bs) 0) ≡ n
zeros_behind bs n h = simp (length-append, length-replicate) (omega arith)

-- a segment has 1,024 bytes
pub length_segment : (h : Header) (es : List Entry) → length es ≤ capacity_of h.extra → AllByRecursion (LawfulEntry h.extra) es
    → length (segment_bytes h es) ≡ 1024
unfolding segment_bytes
length_segment h es l a = zeros_behind (used_bytes h es) 1024 (omega (arith, length_used h es a, room_for h.extra (length es) l))

pub header_back : HeaderReadsBack
unfolding segment_bytes used_bytes header_bytes
header_back h es =
    record {
      total = sym (word_back h.total);
      next = sym (word_back h.next);
      highest = sym (word_back h.highest);
      extra = sym (word_back h.extra);
      start = sym (word_back h.start);
    }

pub segment_back : SegmentReadsBack
unfolding segment_bytes used_bytes header_bytes
segment_back h es l a =
    let zeros : List ℕ = replicate (1024 - length (used_bytes h es)) 0 in
    let js : List ℕ = flat_map (entry_bytes h.extra) es in
    ap (entries_in (capacity_of h.extra) h.extra) (append_assoc js (word_bytes 2048) zeros)
    ∙ entries_back h.extra es (capacity_of h.extra) (word_bytes 2048 ++ zeros) l a refl

pub read_lawful : ReadAreLawful
read_lawful x bs es h e = (segment_few x bs es e, lawful-entries x h (capacity_of x) (drop 10 bs) es e)

pub rewritten_back : RewrittenReadsBack
rewritten_back h bs es l e = let r = read_lawful h.extra bs es l e in segment_back h es r.0 r.1
