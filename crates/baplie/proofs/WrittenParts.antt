-- The parts of a message whose segments have no fault.
use Rattle.std.proofs.Common.{◌≡◌, ◌≢◌, ℕ, ◌+◌, ◌^◌, ◌<◌, ◌≤◌, ◌==◌, List, [], ◌∷◌, ◌++◌, length, refl, sym, ap, subst, ◌∙◌, arith, cond, true, false, Bool, Option, Some, None, append_assoc, slice_get, codes}
use Rattle.std.proofs.lemmas.Bool.{true≢false, eqb-true}
use Rattle.std.proofs.lemmas.Bool.Decides.{nat_tests}
use Rattle.std.proofs.lemmas.List.Elements.{All-head, All-tail}
use Rattle.std.proofs.lemmas.Fmt.{digits_decimal}
use Rattle.std.specs.Prelude.{All}
use Rattle.std.specs.Fmt.{decimal}
use Rattle.std.specs.List.{flat_map, list_any, list_all}
use Rattle.std.specs.Option.{option_or}
use Rattle.edifact_segments.specs.Canonical.{canonical}
use Rattle.edifact_segments.specs.Grammar.{IsInterchange}
use Rattle.edifact_segments.specs.Grammar as grammar
use Rattle.edifact_segments.specs.Characters.{is_control}
use Rattle.edifact_segments.specs.ReadBack.{IsPrintable, IsPrintableElement, IsWritable, AreWritable}
use Rattle.edifact_segments.specs.Written.{written}
use Rattle.edifact_segments.specs.declared.segments.Segment.{Segment}
use Rattle.edifact_segments.proofs.CanonicalLemmas.{canonical-canonical}
use Rattle.edifact_segments.proofs.ReadBackLemmas.{reads_back}
use Rattle.baplie.specs.declared.causes.Cause.{Cause}
use Rattle.baplie.specs.declared.causes.Cause.TheVariants.{NotBaplie, CountWrong}
use Rattle.baplie.specs.declared.parts.Message.{Message}
use Rattle.baplie.specs.Faults.{rest, body, head, groups, is_titled, count_of, HasCause}
use Rattle.baplie.specs.Finding.{scan, groups_fault, end_cause, least_of, reference_cause, first_behind_title, first_fault}
use Rattle.baplie.specs.Segments.{element, same_text, has_tag, is_title, is_unt, is_unz, closes}
use Rattle.stow_data.specs.Digits.{is_digit, value}
use Rattle.baplie.specs.Texts.{is_number, number_of}
use Rattle.baplie.proofs.Least.{Outcome, outcome}
use Rattle.baplie.specs.Whole.{trailer, content, unt, unz, segments_of}
use Rattle.baplie.proofs.Counts.{both, few_digits, some_digits, numerals}
use Rattle.baplie.proofs.Scans.{none≢some, scan-append, scan-front, scan-first, any-append, neither}
use Rattle.baplie.proofs.Trailers.{printable-canonical, printable-at, trimmed-element, is_trailer}

abbrev pub Faultless : List Segment → Type 0
Faultless segments = (n : ℕ) (c : Cause) → HasCause segments n c → ⊥

pub none_found : (segments : List Segment) → Faultless segments → first_fault segments ≡ None
none_found segments f = go (first_fault segments) refl (outcome segments)
  where
    go : (r : Option (ℕ × Cause)) → first_fault segments ≡ r → Outcome segments r → first_fault segments ≡ None
    go None e o = e
    go (Some x) e o = absurd (f x.0 x.1 o.has)

pub faultless : (segments : List Segment) → first_fault segments ≡ None → Faultless segments
faultless segments e =
    let P : Option (ℕ × Cause) → Type 0 = λ r. Outcome segments r in
    subst P e (outcome segments)

-- nothing is found in any part
pub record IsClean (segments : List Segment) : Type 0 where
  pub titled : is_titled (slice_get segments 1) ≡ true
  pub groups : groups_fault (3 + length (head (body segments))) (groups (body segments)) ≡ None
  pub ends : scan (end_cause segments) 3 [] (rest segments) ≡ None

pub clean : (segments : List Segment) → first_fault segments ≡ None → IsClean segments
clean segments h = go (is_titled (slice_get segments 1)) refl h
  where
    parts : (r later : Option (ℕ × Cause)) → option_or r later ≡ None → (r ≡ None) × (later ≡ None)
    parts None later e = (refl, e)
    parts (Some x) later e = absurd (none≢some e)

    go : (t : Bool) → is_titled (slice_get segments 1) ≡ t → cond t (first_behind_title segments) (Some (2, NotBaplie)) ≡ None → IsClean segments
    go false e k = absurd (none≢some k)
    go true e k =
        let p = parts (groups_fault (3 + length (head (body segments))) (groups (body segments))) (scan (end_cause segments) 3 [] (rest segments)) k in
        record { titled = e; groups = p.0; ends = p.1 }

pub unclean : (segments : List Segment) → IsClean segments → first_fault segments ≡ None
unclean segments c =
    ap (λ t. cond t (first_behind_title segments) (Some (2, NotBaplie))) c.titled
    ∙ ap (λ r. option_or r (scan (end_cause segments) 3 [] (rest segments))) c.groups ∙ c.ends

-- ## What stands before UNT

-- no UNZ stands where no UNT stands before it
before_unt : (b z t : Bool) (count : Option ℕ) (found : ℕ) (same : Bool) → b ≡ false → least_of b z t count found same ≡ None → z ≡ false
before_unt false false t count found same e h = refl
before_unt false true t count found same e h = absurd (none≢some h)
before_unt true z t count found same e h = absurd (true≢false e)

-- UNT is the first one, and its count is right
at_unt : (b : Bool) (count : Option ℕ) (found : ℕ) (same : Bool) → least_of b false true count found same ≡ None → (b ≡ false) × (count ≡ Some found)
at_unt true count found same h = absurd (none≢some h)
at_unt false None found same h = absurd (none≢some h)
at_unt false (Some said) found same h = (refl, go (said == found) refl h)
  where
    go : (t : Bool) → (said == found) ≡ t → option_or (cond t None (Some (CountWrong said found))) (reference_cause same) ≡ None → Some said ≡ Some found
    go true e k = ap (λ n. Some n) (eqb-true said found e)
    go false e k = absurd (none≢some k)

-- segments among which is no UNT have no UNZ
no_end : (segments : List Segment) (n : ℕ) (before xs : List Segment) → list_any is_unt before ≡ false → list_any is_unt xs ≡ false → scan (end_cause segments) n before xs ≡ None → list_any closes xs ≡ false
no_end segments n before [] b u h = refl
no_end segments n before (x ∷ xs) b u h =
    let p = neither (is_unt x) (list_any is_unt xs) u in
    let f = scan-first (end_cause segments) n before xs x h in
    let z : is_unz x ≡ false = before_unt (list_any is_unt before) (is_unz x) (is_unt x) _ _ _ b f.0 in
    let one : list_any is_unt (x ∷ []) ≡ false = rw p.0 refl in
    let more = no_end segments (n + 1) (before ++ x ∷ []) xs (any-append is_unt before (x ∷ []) b one) p.1 f.1 in
    rw (p.0, z, more) refl

-- a count that is read has few digits
read_few : (n : ℕ) → number_of (decimal n) ≡ Some n → n < 10 ^ 9
read_few n h = go (is_number (decimal n)) refl h
  where
    short : (ds : List ℕ) → is_number ds ≡ true → length ds ≤ 9
    short ds e = grind (arith, nat_tests)

    go : (t : Bool) → is_number (decimal n) ≡ t → cond {A = Option ℕ} t (Some (value (decimal n))) None ≡ Some n → n < 10 ^ 9
    go true e k = few_digits n (short (decimal n) e)
    go false e k = absurd (none≢some (sym k))

pub record IsOpen (m : Message) : Type 0 where
  pub titled : is_title m.title ≡ true
  pub open_content : list_any closes (content m) ≡ false
  pub few : length (content m) + 2 < 10 ^ 9

pub is_open : (m : Message) → canonical m.title.elements ≡ m.title.elements → Faultless (segments_of m) → IsOpen m
is_open m w f =
    let c = clean (segments_of m) (none_found (segments_of m) f) in
    let pick = end_cause (segments_of m) in
    let front : scan pick 3 [] (content m) ≡ None = scan-front pick 3 [] (content m) (unt m ∷ unz m ∷ []) c.ends in
    let back : scan pick (3 + length (content m)) (content m) (unt m ∷ unz m ∷ []) ≡ None = sym (scan-append pick 3 [] (content m) (unt m ∷ unz m ∷ []) front) ∙ c.ends in
    let here = scan-first pick (3 + length (content m)) (content m) (unz m ∷ []) (unt m) back in
    let u = at_unt (list_any is_unt (content m)) (count_of (element (unt m) 1)) (length (content m) + 2) _ here.0 in
    let t = is_trailer (codes "UNT") (length (content m) + 2) (element m.title 1) (some_digits (length (content m) + 2)) (trimmed-element m.title 1 w) in
    record {
      titled = c.titled;
      open_content = no_end (segments_of m) 3 [] (content m) refl u.0 front;
      few = read_few (length (content m) + 2) (sym (ap count_of t.counts) ∙ u.1);
    }

-- ## Reading back

-- a byte of a number is no control byte
printable_digits : (ds : List ℕ) → list_all is_digit ds ≡ true → IsPrintable ds
printable_digits [] h = tt
printable_digits (d ∷ ds) h =
    let p = both (is_digit d) (list_all is_digit ds) h in
    (calm d p.0, printable_digits ds p.1)
  where
    calm : (b : ℕ) → is_digit b ≡ true → is_control b ≡ false
    calm b h = grind (arith, nat_tests)

trailer-writable : (tag : List ℕ) (count : ℕ) (reference : List (List ℕ)) → grammar.IsTag tag → count < 10 ^ 9 → IsPrintableElement reference → IsWritable (trailer tag count reference)
trailer-writable tag count reference t few p =
    let small : count < 2 ^ 64 = omega arith in
    (t, canonical-canonical ((decimal count ∷ []) ∷ reference ∷ []), printable-canonical ((decimal count ∷ []) ∷ reference ∷ []) ((printable_digits (decimal count) (digits_decimal numerals count small), tt), (p, tt)))

-- a segment that isn't UNZ
other_tag : (s : Segment) → is_unz s ≡ false → s.tag ≢ grammar.unz
other_tag s h e = true≢false (sym (ap (λ t. same_text t (codes "UNZ")) e) ∙ h)

service_tag : (s : Segment) → s.tag ≡ grammar.unb → is_unz s ≡ false
service_tag s h = ap (λ t. same_text t (codes "UNZ")) h

title_tag : (s : Segment) → is_title s ≡ true → s.tag ≢ grammar.unz
title_tag s h e =
    let p = both (has_tag s (codes "UNH")) _ h in
    true≢false (sym p.0 ∙ ap (λ t. same_text t (codes "UNH")) e)

are_writable : (xs ys : List Segment) → All IsWritable xs → list_any closes xs ≡ false → AreWritable ys → AreWritable (xs ++ ys)
are_writable [] ys a c w = w
are_writable (x ∷ xs) ys a c w =
    let p = neither (closes x) (list_any closes xs) c in
    let q = neither (is_unt x) (is_unz x) p.0 in
    (All-head IsWritable x xs a, other_tag x q.1, are_writable xs ys (All-tail IsWritable x xs a) p.1 w)

pub interchange : (m : Message) → m.service.tag ≡ grammar.unb → All IsWritable (m.service ∷ m.title ∷ content m) → Faultless (segments_of m) → IsInterchange (flat_map written (segments_of m)) (segments_of m)
interchange m b a f =
    let ws : IsWritable m.service = All-head IsWritable m.service (m.title ∷ content m) a in
    let behind : All IsWritable (m.title ∷ content m) = All-tail IsWritable m.service (m.title ∷ content m) a in
    let wt : IsWritable m.title = All-head IsWritable m.title (content m) behind in
    let o = is_open m wt.1 f in
    let wu : IsWritable (unt m) = trailer-writable (codes "UNT") (length (content m) + 2) (element m.title 1) (85, 78, 84, refl, refl, refl, refl) o.few (printable-at m.title.elements 0 wt.2) in
    let wz : IsWritable (unz m) = trailer-writable (codes "UNZ") 1 (element m.service 5) (85, 78, 90, refl, refl, refl, refl) (omega arith) (printable-at m.service.elements 4 ws.2) in
    let front : AreWritable (content m ++ unt m ∷ []) = are_writable (content m) (unt m ∷ []) (All-tail IsWritable m.title (content m) behind) o.open_content (wu, other_tag (unt m) refl, tt) in
    let e : m.service ∷ m.title ∷ (content m ++ unt m ∷ []) ++ unz m ∷ [] ≡ segments_of m = ap (λ xs. m.service ∷ m.title ∷ xs) (append_assoc (content m) (unt m ∷ []) (unz m ∷ [])) in
    let P : List Segment → Type 0 = λ xs. IsInterchange (flat_map written xs) xs in
    subst P e (reads_back (m.service ∷ m.title ∷ (content m ++ unt m ∷ [])) (unz m) (ws, other_tag m.service (service_tag m.service b), (wt, title_tag m.title o.titled, front)) wz refl b)
