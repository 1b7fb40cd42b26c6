-- What the reader finds is what the grammar says.
use Rattle.std.proofs.Common.{◌≡◌, ◌≢◌, ℕ, suc, ◌+◌, ◌-◌, ◌<◌, ◌≤◌, Bool, true, false, cond, ◌==◌, ◌&&◌, not, List, [], ◌∷◌, ◌++◌, length, drop, get_or, refl, sym, ap, ◌∙◌, arith, append_assoc, inl, inr, ◌⊎◌, length-drop, subst, Option, Some, None, Ok, Err}
use Rattle.std.proofs.lemmas.Bool.{true≢false, false≢true, eqb-true, eqb-false}
use Rattle.std.proofs.lemmas.List.{drop_more, drop_all, append-nil, length_push}
use Rattle.edifact_segments.specs.Characters.{Character, Plain, Released, is_control, is_release, spelling, spelled, AreCharacters, IsCharacter}
use Rattle.edifact_segments.specs.Canonical.{canonical}
use Rattle.edifact_segments.specs.Drafts.{IsDraft, IsTagOf, Reads, Finds}
use Rattle.edifact_segments.specs.Grammar.{is_gap_byte, IsGap, IsOpen, IsTag, IsSegmentOf, TakesSegment, Starts, Begins, Closes, IsInterchange, HasFault, unz, unb, IsHeaded}
use Rattle.edifact_segments.specs.declared.draft.Draft.{Draft}
use Rattle.edifact_segments.specs.declared.faults.SegFault.{SegFault}
use Rattle.edifact_segments.specs.declared.faults.SegFault.TheVariants.{NoHeader, BadUna, Unterminated, ControlByte, BadTag, NoTrailer, Trailing, NoMemory}
use Rattle.edifact_segments.proofs.DraftLemmas.{canonical-element}
use Rattle.edifact_segments.specs.Scanning.{skip, Front, Complete, Broken, Unended, with_character, front}
use Rattle.edifact_segments.specs.declared.segments.Segment.{Segment}
use Rattle.edifact_segments.specs.declared.service.Service.{Service}

list_head : {A : Type 0} (x y : A) (xs ys : List A) → x ∷ xs ≡ y ∷ ys → x ≡ y
list_head x y xs ys e = cc

none≢some : {A : Type 0} {x : A} → None ≡ Some x → ⊥
none≢some e = cc

-- ## Gaps

pub skipped : (xs : List ℕ) → (gap : List ℕ) × (xs ≡ gap ++ skip xs) × IsGap gap
skipped [] = ([], refl, tt)
skipped (b ∷ bs) = go (is_gap_byte b) refl (skipped bs)
  where
    go : (t : Bool) → is_gap_byte b ≡ t → ((gap : List ℕ) × (bs ≡ gap ++ skip bs) × IsGap gap) → (gap : List ℕ) × (b ∷ bs ≡ gap ++ cond t (skip bs) (b ∷ bs)) × IsGap gap
    go true e h = (b ∷ h.0, ap (λ x. b ∷ x) h.1, (e, h.2))
    go false e h = ([], refl, tt)

pub skip-skip : (xs : List ℕ) → skip (skip xs) ≡ skip xs
skip-skip [] = refl
skip-skip (b ∷ bs) = go (is_gap_byte b) refl (skip-skip bs)
  where
    go : (t : Bool) → is_gap_byte b ≡ t → skip (skip bs) ≡ skip bs → skip (cond t (skip bs) (b ∷ bs)) ≡ cond t (skip bs) (b ∷ bs)
    go true e h = h
    go false e h = rw e refl

-- what isn't skipped doesn't begin with a gap
pub no_gap : (c : ℕ) (more : List ℕ) → skip (c ∷ more) ≡ c ∷ more → is_gap_byte c ≡ false
no_gap c more h = go (is_gap_byte c) h
  where
    shorter : (xs : List ℕ) → length (skip xs) ≤ length xs
    shorter [] = omega arith
    shorter (b ∷ bs) = at (is_gap_byte b) (shorter bs)
      where
        at : (t : Bool) → length (skip bs) ≤ length bs → length (cond t (skip bs) (b ∷ bs)) ≤ suc (length bs)
        at true h = omega arith
        at false h = omega arith

    go : (t : Bool) → cond t (skip more) (c ∷ more) ≡ c ∷ more → t ≡ false
    go true e = absurd (omega (arith, ap length e, shorter more))
    go false e = refl

-- ## The text of a segment

-- What is found tells of the text.
abbrev pub Tells : Service → Front → List ℕ → Type 0
Tells s (Complete cs next) xs = AreCharacters s cs × (xs ≡ spelling s cs ++ s.terminator ∷ next)
Tells s (Broken left) xs = (body : List ℕ) × (c : ℕ) × (more : List ℕ) × IsOpen s body × (xs ≡ body ++ left) × (left ≡ c ∷ more) × (is_control c ≡ true)
Tells s Unended xs = IsOpen s xs

open-character : (s : Service) (c : Character) (xs : List ℕ) → IsCharacter s c → IsOpen s xs → IsOpen s (spelled s c ++ xs)
open-character s c xs k h = (c ∷ h.0, (k, h.1), elim h.2 [ inl e ↦ inl (ap (λ x. spelled s c ++ x) e) | inr w ↦ inr (ap (λ x. spelled s c ++ x) w.0 ∙ sym (append_assoc (spelled s c) (spelling s h.0) (s.release ∷ [])), w.1) ])

tells-character : (s : Service) (c : Character) (f : Front) (xs : List ℕ) → IsCharacter s c → Tells s f xs → Tells s (with_character c f) (spelled s c ++ xs)
tells-character s c (Complete cs next) xs k h = ((k, h.0), ap (λ x. spelled s c ++ x) h.1 ∙ sym (append_assoc (spelled s c) (spelling s cs) (s.terminator ∷ next)))
tells-character s c (Broken left) xs k h = (spelled s c ++ h.0, h.1, h.2, open-character s c h.0 k h.3, ap (λ x. spelled s c ++ x) h.4 ∙ sym (append_assoc (spelled s c) h.0 left), h.5, h.6)
tells-character s c Unended xs k h = open-character s c xs k h

-- the text with the release character in front of a byte that is released
abbrev pub behind_release : Service → Bool → List ℕ → List ℕ
behind_release s true xs = s.release ∷ xs
behind_release s false xs = xs

release_is : (s : Service) (b : ℕ) → is_release s b ≡ true → (b ≡ s.release) × ((s.release == 32) ≡ false)
release_is s b e = go (b == s.release) (b == 32) refl refl e
  where
    go : (p q : Bool) → (b == s.release) ≡ p → (b == 32) ≡ q → (p && not q) ≡ true → (b ≡ s.release) × ((s.release == 32) ≡ false)
    go true true ep eq e = absurd (false≢true e)
    go true false ep eq e =
        let same : b ≡ s.release = eqb-true b s.release ep in
        (same, rw (← same) eq)
    go false q ep eq e = absurd (false≢true e)

not_true : {P : Type 0} → false ≡ true → P
not_true e = absurd (false≢true e)

pub tells : (s : Service) (r : Bool) (xs : List ℕ) → (r ≡ true → (s.release == 32) ≡ false) → Tells s (front s r xs) (behind_release s r xs)
tells s true [] h = ([], tt, inr (refl, eqb-false s.release 32 (h refl)))
tells s false [] h = ([], tt, inl refl)
tells s true (b ∷ bs) h = go (is_control b) refl (tells s false bs not_true)
  where
    go : (t : Bool) → is_control b ≡ t → Tells s (front s false bs) bs → Tells s (cond t (Broken (b ∷ bs)) (with_character (Released b) (front s false bs))) (s.release ∷ b ∷ bs)
    go true e k = (s.release ∷ [], b, bs, ([], tt, inr (refl, eqb-false s.release 32 (h refl))), refl, refl, e)
    go false e k = tells-character s (Released b) (front s false bs) bs (e, h refl) k
tells s false (b ∷ bs) h = go (is_control b) (is_release s b) (b == s.terminator) refl refl refl (tells s false bs not_true) (λ k. tells s true bs (λ _. k))
  where
    go : (t u v : Bool) → is_control b ≡ t → is_release s b ≡ u → (b == s.terminator) ≡ v → Tells s (front s false bs) bs → ((s.release == 32) ≡ false → Tells s (front s true bs) (s.release ∷ bs)) → Tells s (cond t (Broken (b ∷ bs)) (cond u (front s true bs) (cond v (Complete [] bs) (with_character (Plain b) (front s false bs))))) (b ∷ bs)
    go true u v e f g k j = ([], b, bs, ([], tt, inl refl), refl, refl, e)
    go false true v e f g k j =
        let r = release_is s b f in
        rw r.0 (j r.1)
    go false false true e f g k j = (tt, ap (λ x. x ∷ bs) (eqb-true b s.terminator g))
    go false false false e f g k j = tells-character s (Plain b) (front s false bs) bs (e, f, g) k

pub tells-front : (s : Service) (xs : List ℕ) (f : Front) → front s false xs ≡ f → Tells s f xs
tells-front s xs f e =
    let P : Front → Type 0 = λ x. Tells s x xs in
    subst P e (tells s false xs not_true)

pub finds-err : (s : Service) (bytes : List ℕ) (from number : ℕ) (d : Draft) (e : SegFault) → Reads s bytes from d (Err e) → Finds s bytes from number (Err e)
finds-err s bytes from number d (Unterminated at) h = (tells-front s (drop from bytes) Unended h.0, h.1)
finds-err s bytes from number d (ControlByte at) h =
    let t = tells-front s (drop from bytes) (Broken (drop at bytes)) h.0 in
    let left : length (drop at bytes) ≡ length bytes - at = length-drop at bytes in
    let place : at + length (drop at bytes) ≡ length bytes = omega (arith, h.1, left) in
    (t.0, t.1, t.2, t.4 ∙ ap (λ x. t.0 ++ x) t.5, t.3, t.6, ap (λ x. at + length x) (sym t.5) ∙ place)
finds-err s bytes from number d NoMemory h = tt
finds-err s bytes from number d NoHeader h = h
finds-err s bytes from number d BadUna h = h
finds-err s bytes from number d (BadTag n) h = absurd h
finds-err s bytes from number d (NoTrailer n) h = h
finds-err s bytes from number d (Trailing at) h = h

module _ (d : Draft) (elements : List (List (List ℕ))) where
  pub no_tag : (closed : List (List (List ℕ))) → IsDraft d closed [] → elements ≡ closed → d.tag ≡ None → (s : Segment) → IsSegmentOf elements s → ⊥
  no_tag [] h e n s k = absurd (omega (arith, ap length (sym e ∙ k.1)))
  no_tag (first ∷ closed) h e n s k =
      let P : Option (List ℕ) → Type 0 = λ t. IsTagOf t first in
      let none : IsTagOf None first = subst P n h.tag in
      let same : first ≡ s.tag ∷ [] = list_head first (s.tag ∷ []) closed k.0 (sym e ∙ k.1) in
      none s.tag same k.2

  pub has_tag : (closed : List (List (List ℕ))) (tag : List ℕ) → IsDraft d closed [] → elements ≡ closed → d.tag ≡ Some tag → (rest : List (List (List ℕ))) × (elements ≡ (tag ∷ []) ∷ rest) × IsTag tag × (d.elements ≡ canonical rest)
  has_tag [] tag h e n = absurd (none≢some (sym h.tag ∙ n))
  has_tag (first ∷ closed) tag h e n =
      let P : Option (List ℕ) → Type 0 = λ t. IsTagOf t first in
      let some : IsTagOf (Some tag) first = subst P n h.tag in
      (closed, e ∙ ap (λ x. x ∷ closed) some.0, some.1, h.elements ∙ canonical-element closed)

-- ## The interchange

pub begin : (s : Service) (xs rest : List ℕ) (segments : List Segment) → segments ≡ [] → rest ≡ skip xs → (gap : List ℕ) × Begins s xs segments (gap ++ rest) × IsGap gap
begin s xs rest segments e r =
    let k = skipped xs in
    let P : List Segment → Type 0 = λ ss. Begins s xs ss (k.0 ++ rest) in
    (k.0, subst P (sym e) (k.1 ∙ ap (λ x. k.0 ++ x) (sym r)), k.2)

pub settle : (xs rest : List ℕ) → rest ≡ skip xs → skip rest ≡ rest
settle xs rest e = ap skip e ∙ skip-skip xs ∙ sym e

pub few-none : (segments : List Segment) (n : ℕ) → segments ≡ [] → length segments ≤ n
few-none segments n e = omega (arith, ap length e)

pub headed-none : (segments : List Segment) → segments ≡ [] → IsHeaded segments
headed-none segments e = let P : List Segment → Type 0 = λ ss. IsHeaded ss in subst P (sym e) tt

pub begins-push : (s : Service) (text rest : List ℕ) (segments : List Segment) (x : Segment) (next : List ℕ) → Begins s text segments rest → TakesSegment s rest x next → x.tag ≢ unz → Begins s text (segments ++ x ∷ []) next
begins-push s text rest [] x next b t u = (next, let P : List ℕ → Type 0 = λ y. TakesSegment s y x next in subst P (sym b) t, u, refl)
begins-push s text rest (y ∷ segments) x next b t u = (b.0, b.1, b.2, begins-push s b.0 rest segments x next b.3 t u)

pub headed-push : (segments : List Segment) (x : Segment) → IsHeaded segments → (segments ≡ [] → x.tag ≡ unb) → IsHeaded (segments ++ x ∷ [])
headed-push [] x h k = k refl
headed-push (y ∷ segments) x h k = h

pub from_none : (s : Service) (text rest : List ℕ) (segments : List Segment) → segments ≡ [] → Begins s text segments rest → text ≡ rest
from_none s text rest [] e b = b
from_none s text rest (y ∷ segments) e b = absurd (omega (arith, ap length e))

module _ (bytes : List ℕ) (s : Service) (start at : ℕ) (segments : List Segment) (gap : List ℕ) (starts : Starts bytes s (drop start bytes)) (begun : Begins s (drop start bytes) segments (gap ++ drop at bytes)) (is_gap : IsGap gap) (headed : IsHeaded segments) (settled : skip (drop at bytes) ≡ drop at bytes) (more : at < length bytes) where
  pub fault_of : (number : ℕ) (e : SegFault) → Finds s bytes at number (Err e) → number ≡ length segments + 1 → (e ≡ NoMemory) ⊎ HasFault bytes e
  fault_of number (Unterminated p) h en =
      let left : length (drop at bytes) ≡ length bytes - at = length-drop at bytes in
      inr (s, segments, gap, drop at bytes, (drop start bytes, starts, begun, headed), is_gap, h.0, omega (arith, left, more), omega (arith, left, more, h.1))
  fault_of number (ControlByte p) h en =
      let P : List ℕ → Type 0 = λ y. Begins s (drop start bytes) segments (gap ++ y) in
      inr (s, segments, gap, h.0, h.1, h.2, (drop start bytes, starts, subst P h.3 begun, headed), is_gap, h.4, h.5, (λ g n. true≢false (sym g ∙ no_gap h.1 h.2 (plain n))), h.6)
    where
      plain : h.0 ≡ [] → skip (h.1 ∷ h.2) ≡ h.1 ∷ h.2
      plain n =
          let here : drop at bytes ≡ h.1 ∷ h.2 = h.3 ∙ ap (λ y. y ++ h.1 ∷ h.2) n in
          sym (ap skip here) ∙ settled ∙ here
  fault_of number (BadTag n) h en =
      inr (s, segments, gap ++ drop at bytes, h.0, h.1, (drop start bytes, starts, begun, headed), (gap, ap (λ y. gap ++ y) h.2, is_gap, h.3), h.4, h.5 ∙ en)
  fault_of number NoMemory h en = inl refl
  fault_of number NoHeader h en = absurd h
  fault_of number BadUna h en = absurd h
  fault_of number (NoTrailer n) h en = absurd h
  fault_of number (Trailing p) h en = absurd h

  module _ (number : ℕ) (x : Segment) (next : ℕ) (found : Finds s bytes at number (Ok (x, next))) where
    taken : TakesSegment s (gap ++ drop at bytes) x (drop next bytes)
    taken = (found.0, (gap, ap (λ y. gap ++ y) found.1, is_gap, found.2), found.3)

    pub no_header : segments ≡ [] → x.tag ≢ unb → HasFault bytes NoHeader
    no_header e u =
        let P : List ℕ → Type 0 = λ y. TakesSegment s y x (drop next bytes) in
        (s, drop start bytes, starts, inr (x, drop next bytes, subst P (sym (from_none s (drop start bytes) (gap ++ drop at bytes) segments e begun)) taken, u))

    module _ (first : segments ≡ [] → x.tag ≡ unb) where
      closes : x.tag ≡ unz → Closes bytes segments x (drop next bytes)
      closes z = (s, gap ++ drop at bytes, (drop start bytes, starts, begun, headed), taken, z, headed-push segments x headed first)

      module _ (at' : ℕ) (jump : drop at' bytes ≡ skip (drop next bytes)) where
        pub trailing : x.tag ≡ unz → at' < length bytes → HasFault bytes (Trailing at')
        trailing z lt =
            let k = skipped (drop next bytes) in
            let here : drop at' bytes ≡ get_or bytes at' 0 ∷ drop (at' + 1) bytes = drop_more bytes at' 0 lt in
            let split : drop next bytes ≡ k.0 ++ get_or bytes at' 0 ∷ drop (at' + 1) bytes = k.1 ∙ ap (λ y. k.0 ++ y) (sym jump ∙ here) in
            let P : List ℕ → Type 0 = λ y. Closes bytes segments x y in
            let left : length (drop at' bytes) ≡ length bytes - at' = length-drop at' bytes in
            let plain : skip (get_or bytes at' 0 ∷ drop (at' + 1) bytes) ≡ get_or bytes at' 0 ∷ drop (at' + 1) bytes = sym (ap skip here) ∙ settle (drop next bytes) (drop at' bytes) jump ∙ here in
            (segments, x, k.0, get_or bytes at' 0, drop (at' + 1) bytes, subst P split (closes z), k.2, no_gap (get_or bytes at' 0) (drop (at' + 1) bytes) plain, ap (λ y. at' + length y) (sym here) ∙ omega (arith, left, lt))

        pub is_interchange : (all : List Segment) → all ≡ segments ++ x ∷ [] → x.tag ≡ unz → length bytes ≤ at' → IsInterchange bytes all
        is_interchange all ea z le =
            let k = skipped (drop next bytes) in
            let none : drop next bytes ≡ k.0 = k.1 ∙ ap (λ y. k.0 ++ y) (sym jump ∙ drop_all at' bytes le) ∙ append-nil k.0 in
            let P : List ℕ → Type 0 = λ y. IsGap y in
            (segments, x, drop next bytes, ea, closes z, subst P (sym none) k.2)

        pub begun-more : (all : List Segment) → all ≡ segments ++ x ∷ [] → x.tag ≢ unz → (gap' : List ℕ) × Begins s (drop start bytes) all (gap' ++ drop at' bytes) × IsGap gap'
        begun-more all ea z =
            let k = skipped (drop next bytes) in
            let P : List Segment → Type 0 = λ ss. Begins s (drop start bytes) ss (k.0 ++ drop at' bytes) in
            let Q : List ℕ → Type 0 = λ y. Begins s (drop start bytes) (segments ++ x ∷ []) y in
            (k.0, subst P (sym ea) (subst Q (k.1 ∙ ap (λ y. k.0 ++ y) (sym jump)) (begins-push s (drop start bytes) (gap ++ drop at bytes) segments x (drop next bytes) begun taken z)), k.2)

        pub headed-more : (all : List Segment) → all ≡ segments ++ x ∷ [] → IsHeaded all
        headed-more all ea = let P : List Segment → Type 0 = λ ss. IsHeaded ss in subst P (sym ea) (headed-push segments x headed first)

        pub few-more : (all : List Segment) → all ≡ segments ++ x ∷ [] → length segments ≤ at → next ≤ at' → length all ≤ at'
        few-more all ea few le = omega (arith, ap length ea, length_push segments x, found.4)

-- the number of the first segment is 1
pub first-of : (segments : List Segment) (n : ℕ) → n ≡ length segments → n + 1 ≡ 1 → segments ≡ []
first-of [] n e h = refl
first-of (s ∷ segments) n e h = absurd (omega (arith, e, h))
