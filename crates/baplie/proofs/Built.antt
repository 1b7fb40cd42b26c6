-- A message is read from its segments where its parts are those of one.
use Rattle.std.proofs.Common.{◌≡◌, ℕ, ◌+◌, ◌^◌, ◌<◌, ◌||◌, List, [], ◌∷◌, ◌++◌, length, map, refl, sym, ap, ◌∙◌, arith, true, false, Bool, Option, Some, None, codes}
use Rattle.std.proofs.lemmas.Bool.{eq-eqb}
use Rattle.std.specs.List.{list_any}
use Rattle.std.specs.Option.{option_or}
use Rattle.edifact_segments.specs.Canonical.{canonical}
use Rattle.edifact_segments.specs.declared.segments.Segment.{Segment}
use Rattle.baplie.specs.declared.parts.Message.{Message}
use Rattle.baplie.specs.Faults.{body, head, groups, count_of}
use Rattle.baplie.specs.Finding.{scan, groups_fault, end_cause, least_of, count_cause, reference_cause}
use Rattle.baplie.specs.Groups.{cell_group}
use Rattle.baplie.specs.Messages.{IsMessage}
use Rattle.baplie.specs.Segments.{element, same_text, same_element, is_title, is_unt, is_unz, closes}
use Rattle.baplie.specs.Whole.{content, unt, unz, segments_of}
use Rattle.baplie.proofs.Counts.{number_of-decimal, some_digits}
use Rattle.baplie.proofs.WrittenParts.{unclean, faultless}
use Rattle.baplie.proofs.Scans.{scan-append, scan-cons, any-append, neither, cut-at_end}
use Rattle.baplie.proofs.Trailers.{trimmed-element, is_trailer}

-- the content of a message is its head and its groups, without a fault in them
pub record AreParts (m : Message) : Type 0 where
  pub titled : is_title m.title ≡ true
  pub open_content : list_any closes (content m) ≡ false
  pub head_is : head (content m) ≡ m.head
  pub groups_are : map cell_group (groups (content m)) ≡ m.groups
  pub faultless_groups : groups_fault (3 + length (head (content m))) (groups (content m)) ≡ None
  pub few : length (content m) + 2 < 10 ^ 9
  pub canonical_title : canonical m.title.elements ≡ m.title.elements
  pub canonical_service : canonical m.service.elements ≡ m.service.elements

-- ## Tests

text-refl : (t : List ℕ) → same_text t t ≡ true
text-refl [] = refl
text-refl (b ∷ bs) = rw (eq-eqb b b refl, text-refl bs) refl

pub element-refl : (e : List (List ℕ)) → same_element e e ≡ true
element-refl [] = refl
element-refl (t ∷ ts) = rw (text-refl t, element-refl ts) refl

-- segments that don't close have no UNT
no_unt : (xs : List Segment) → list_any closes xs ≡ false → list_any is_unt xs ≡ false
no_unt [] h = refl
no_unt (x ∷ xs) h =
    let p = neither (closes x) (list_any closes xs) h in
    let q = neither (is_unt x) (is_unz x) p.0 in
    rw (q.0, no_unt xs p.1) refl

some_unt : (xs : List Segment) (u : Segment) → is_unt u ≡ true → list_any is_unt (xs ++ u ∷ []) ≡ true
some_unt [] u h = rw h refl
some_unt (x ∷ xs) u h = go (is_unt x) (some_unt xs u h)
  where
    go : (t : Bool) → list_any is_unt (xs ++ u ∷ []) ≡ true → (t || list_any is_unt (xs ++ u ∷ [])) ≡ true
    go true k = refl
    go false k = k

-- ## The ends

-- segments that don't close are no cause
quiet : (segments : List Segment) (n : ℕ) (before xs : List Segment) → list_any is_unt before ≡ false → list_any closes xs ≡ false → scan (end_cause segments) n before xs ≡ None
quiet segments n before [] b h = refl
quiet segments n before (x ∷ xs) b h =
    let p = neither (closes x) (list_any closes xs) h in
    let q = neither (is_unt x) (is_unz x) p.0 in
    let none : end_cause segments before x ≡ None = calm (list_any is_unt before) (is_unz x) (is_unt x) _ _ _ b q.1 q.0 in
    let one : list_any is_unt (x ∷ []) ≡ false = rw q.0 refl in
    scan-cons (end_cause segments) n before xs x none ∙ quiet segments (n + 1) (before ++ x ∷ []) xs (any-append is_unt before (x ∷ []) b one) p.1
  where
    calm : (b z t : Bool) (count : Option ℕ) (found : ℕ) (same : Bool) → b ≡ false → z ≡ false → t ≡ false → least_of b z t count found same ≡ None
    calm b z t count found same e f g = rw (e, f, g) refl

-- the right count and reference are no cause
right : (count : Option ℕ) (found : ℕ) (same : Bool) → count ≡ Some found → same ≡ true → option_or (count_cause found count) (reference_cause same) ≡ None
right count found same e f = rw (e, f, eq-eqb found found refl) refl

at_unt : (b : Bool) (count : Option ℕ) (found : ℕ) (same : Bool) → b ≡ false → count ≡ Some found → same ≡ true → least_of b false true count found same ≡ None
at_unt b count found same e f g = rw e (right count found same f g)

at_unz : (b : Bool) (count : Option ℕ) (found : ℕ) (same : Bool) → b ≡ true → count ≡ Some found → same ≡ true → least_of b true false count found same ≡ None
at_unz b count found same e f g = rw e (right count found same f g)

ends : (m : Message) → AreParts m → scan (end_cause (segments_of m)) 3 [] (content m ++ unt m ∷ unz m ∷ []) ≡ None
ends m a =
    let pick = end_cause (segments_of m) in
    let n : ℕ = length (content m) in
    let u = is_trailer (codes "UNT") (n + 2) (element m.title 1) (some_digits (n + 2)) (trimmed-element m.title 1 a.canonical_title) in
    let z = is_trailer (codes "UNZ") 1 (element m.service 5) (some_digits 1) (trimmed-element m.service 5 a.canonical_service) in
    let front = quiet (segments_of m) 3 [] (content m) refl a.open_content in
    let here : pick (content m) (unt m) ≡ None =
    at_unt (list_any is_unt (content m)) (count_of (element (unt m) 1)) (n + 2) (same_element (element (unt m) 2) (element m.title 1)) (no_unt (content m) a.open_content)
    (ap count_of u.counts ∙ number_of-decimal (n + 2) a.few) (ap (λ e. same_element e (element m.title 1)) u.refers ∙ element-refl (element m.title 1)) in
    let last : pick (content m ++ unt m ∷ []) (unz m) ≡ None =
    at_unz (list_any is_unt (content m ++ unt m ∷ [])) (count_of (element (unz m) 1)) 1 (same_element (element (unz m) 2) (element m.service 5)) (some_unt (content m) (unt m) refl)
    (ap count_of z.counts ∙ number_of-decimal 1 (omega arith)) (ap (λ e. same_element e (element m.service 5)) z.refers ∙ element-refl (element m.service 5)) in
    scan-append pick 3 [] (content m) (unt m ∷ unz m ∷ []) front
    ∙ scan-cons pick (3 + n) (content m) (unz m ∷ []) (unt m) here
    ∙ scan-cons pick ((3 + n) + 1) (content m ++ unt m ∷ []) [] (unz m) last

body-is : (m : Message) → list_any closes (content m) ≡ false → body (segments_of m) ≡ content m
body-is m h = cut-at_end (content m) (unz m ∷ []) (unt m) h refl

pub read_by_parts : (m : Message) → AreParts m → IsMessage (segments_of m) m
read_by_parts m a =
    let b = body-is m a.open_content in
    record {
      faultless = faultless (segments_of m) (unclean (segments_of m) (record {
        titled = a.titled;
        groups = ap (λ xs. groups_fault (3 + length (head xs)) (groups xs)) b ∙ a.faultless_groups;
        ends = ends m a;
      }));
      service = refl;
      title = refl;
      head = sym a.head_is ∙ ap head (sym b);
      groups = sym a.groups_are ∙ ap (λ xs. map cell_group (groups xs)) (sym b);
    }
