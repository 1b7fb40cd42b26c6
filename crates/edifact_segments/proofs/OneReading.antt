-- A text has one reading.
use Rattle.std.proofs.Common.{◌≡◌, ◌≢◌, ℕ, ◌+◌, ◌<◌, Bool, true, false, ◌==◌, ◌&&◌, not, List, [], ◌∷◌, ◌++◌, length, refl, sym, ap, ◌∙◌, subst, arith, append_assoc, inl, inr, ◌⊎◌, Option, Some, None, Result, Ok, Err}
use Rattle.std.proofs.lemmas.Bool.{false≢true, eq-eqb}
use Rattle.std.proofs.lemmas.Bool.Decides.{nat_tests}
use Rattle.std.proofs.lemmas.List.{append-nil}
use Rattle.edifact_segments.specs.Canonical.{canonical}
use Rattle.edifact_segments.specs.Characters.{Character, Plain, Released, is_control, is_release, spelling, spelled, AreCharacters, IsCharacter, elements_of}
use Rattle.edifact_segments.specs.Grammar.{is_mark, IsService, is_gap_byte, IsGap, IsOpen, IsSegmentOf, HasNoTag, Completes, TakesSegment, una, advice, Starts, Begins, Reaches, IsInterchange, HasFault, unz, unb, IsHeaded}
use Rattle.edifact_segments.specs.Scanning.{skip, Front, Complete, Broken, Unended, with_character, front}
use Rattle.edifact_segments.specs.declared.faults.SegFault.{SegFault}
use Rattle.edifact_segments.specs.declared.faults.SegFault.TheVariants.{NoHeader, BadUna, Unterminated, ControlByte, BadTag, NoTrailer, Trailing, NoMemory}
use Rattle.edifact_segments.specs.declared.segments.Segment.{Segment}
use Rattle.edifact_segments.specs.declared.service.Service.{Service}
use Rattle.edifact_segments.proofs.ScanLemmas.{with_characters, with_characters-complete, with_characters-broken, with_characters-unended}

-- ## Service characters aren't control bytes

pub record IsCalm (s : Service) : Type 0 where
  pub release : is_control s.release ≡ false
  pub terminator : is_control s.terminator ≡ false
  pub apart : is_release s s.terminator ≡ false

mark_calm : (b : ℕ) → is_mark b ≡ true → is_control b ≡ false
mark_calm b e = grind (arith, nat_tests)

both : (p q : Bool) → (p && q) ≡ true → (p ≡ true) × (q ≡ true)
both true true e = (refl, refl)
both true false e = absurd (false≢true e)
both false q e = absurd (false≢true e)

calm : (s : Service) → IsService s → IsCalm s
calm s h =
    let a = both _ _ h.0 in
    let b = both _ _ a.0 in
    let c = both _ _ b.0 in
    let d = both _ _ c.0 in
    let e = both _ _ d.0 in
    let f = both _ _ h.1 in
    let ne : (s.release == s.terminator) ≡ false = not_true (s.release == s.terminator) f.1 in
    record { release = mark_calm s.release e.1; terminator = mark_calm s.terminator d.1; apart = apart s.release s.terminator ne }
  where
    not_true : (b : Bool) → not b ≡ true → b ≡ false
    not_true true e = absurd (false≢true e)
    not_true false e = refl

    apart : (r t : ℕ) → (r == t) ≡ false → (t == r && not (t == 32)) ≡ false
    apart r t e = grind (arith, nat_tests)

starts_calm : (bytes text : List ℕ) (s : Service) → Starts bytes s text → IsCalm s
starts_calm bytes text s (inl a) = calm s a.0
starts_calm bytes text s (inr d) = let P : Service → Type 0 = λ x. IsCalm x in subst P (sym d.1) (record { release = refl; terminator = refl; apart = refl })

-- ## What is found in a text

front-character : (s : Service) (c : Character) (xs : List ℕ) → IsCalm s → IsCharacter s c → front s false (spelled s c ++ xs) ≡ with_character c (front s false xs)
front-character s (Plain b) xs h k = rw (k.0, k.1, k.2) refl
front-character s (Released b) xs h k =
    let r : is_release s s.release ≡ true = rw (eq-eqb s.release s.release refl, k.1) refl in
    rw (h.release, r, k.0) refl

front-characters : (s : Service) (cs : List Character) (xs : List ℕ) → IsCalm s → AreCharacters s cs → front s false (spelling s cs ++ xs) ≡ with_characters cs (front s false xs)
front-characters s [] xs h k = refl
front-characters s (c ∷ cs) xs h k = ap (front s false) (append_assoc (spelled s c) (spelling s cs) xs) ∙ front-character s c (spelling s cs ++ xs) h k.0 ∙ ap (with_character c) (front-characters s cs xs h k.1)

pub front-complete : (s : Service) (cs : List Character) (next : List ℕ) → IsCalm s → AreCharacters s cs → front s false (spelling s cs ++ s.terminator ∷ next) ≡ Complete cs next
front-complete s cs next h k =
    let f : front s false (s.terminator ∷ next) ≡ Complete [] next = rw (h.terminator, h.apart, eq-eqb s.terminator s.terminator refl) refl in
    front-characters s cs (s.terminator ∷ next) h k ∙ ap (with_characters cs) f ∙ with_characters-complete cs next

dangling : (s : Service) (xs : List ℕ) → IsCalm s → s.release ≢ 32 → front s false (s.release ∷ xs) ≡ front s true xs
dangling s xs h ne =
    let r : is_release s s.release ≡ true = released s.release ne in
    rw (h.release, r) refl
  where
    released : (r : ℕ) → r ≢ 32 → (r == r && not (r == 32)) ≡ true
    released r n = grind (arith, nat_tests)

front-open : (s : Service) (x : List ℕ) → IsCalm s → IsOpen s x → front s false x ≡ Unended
front-open s x h (cs, k, inl e) = ap (front s false) (e ∙ sym (append-nil (spelling s cs))) ∙ front-characters s cs [] h k ∙ with_characters-unended cs
front-open s x h (cs, k, inr e) = ap (front s false) e.0 ∙ front-characters s cs (s.release ∷ []) h k ∙ ap (with_characters cs) (dangling s [] h e.1) ∙ with_characters-unended cs

front-broken : (s : Service) (x : List ℕ) (c : ℕ) (more : List ℕ) → IsCalm s → IsOpen s x → is_control c ≡ true → front s false (x ++ c ∷ more) ≡ Broken (c ∷ more)
front-broken s x c more h (cs, k, inl e) t =
    let f : front s false (c ∷ more) ≡ Broken (c ∷ more) = rw t refl in
    ap (λ y. front s false (y ++ c ∷ more)) e ∙ front-characters s cs (c ∷ more) h k ∙ ap (with_characters cs) f ∙ with_characters-broken cs (c ∷ more)
front-broken s x c more h (cs, k, inr e) t =
    let f : front s true (c ∷ more) ≡ Broken (c ∷ more) = rw t refl in
    ap (λ y. front s false (y ++ c ∷ more)) e.0 ∙ ap (front s false) (append_assoc (spelling s cs) (s.release ∷ []) (c ∷ more)) ∙ front-characters s cs (s.release ∷ c ∷ more) h k ∙ ap (with_characters cs) (dangling s (c ∷ more) h e.1 ∙ f) ∙ with_characters-broken cs (c ∷ more)

-- ## What stands at a place

gap_calm : (b : ℕ) → is_control b ≡ false → is_gap_byte b ≡ false
gap_calm b e = grind (arith, nat_tests)

skip-gap : (gap xs : List ℕ) → IsGap gap → skip (gap ++ xs) ≡ skip xs
skip-gap [] xs h = refl
skip-gap (b ∷ gap) xs h = rw h.0 (skip-gap gap xs h.1)

skip-calm : (b : ℕ) (xs : List ℕ) → is_gap_byte b ≡ false → skip (b ∷ xs) ≡ b ∷ xs
skip-calm b xs e = rw e refl

look' : Service → List ℕ → Option Front
look' s [] = None
look' s (b ∷ bs) = Some (front s false (b ∷ bs))

-- what is found behind CR and LF, if anything
look : Service → List ℕ → Option Front
look s rest = look' s (skip rest)

-- a text that begins with no CR or LF
data IsSolid : List ℕ → Type 0 where
  solid : (b : ℕ) (bs : List ℕ) → is_gap_byte b ≡ false → IsSolid (b ∷ bs)

look-solid : (s : Service) (rest gap xs : List ℕ) → rest ≡ gap ++ xs → IsGap gap → IsSolid xs → (look s rest ≡ Some (front s false xs)) × (skip rest ≡ xs)
unfolding look look'
look-solid s rest gap xs e g (solid b bs n) =
    let k : skip rest ≡ b ∷ bs = ap skip e ∙ skip-gap gap (b ∷ bs) g ∙ skip-calm b bs n in
    (ap (look' s) k, k)

look-gap : (s : Service) (rest : List ℕ) → IsGap rest → look s rest ≡ None
unfolding look look'
look-gap s rest g = ap (λ x. look' s (skip x)) (sym (append-nil rest)) ∙ ap (look' s) (skip-gap rest [] g)

solid-complete : (s : Service) (cs : List Character) (next : List ℕ) → IsCalm s → AreCharacters s cs → IsSolid (spelling s cs ++ s.terminator ∷ next)
solid-complete s [] next h k = solid s.terminator next (gap_calm s.terminator h.terminator)
solid-complete s (Plain b ∷ cs) next h k = solid b (spelling s cs ++ s.terminator ∷ next) (gap_calm b k.0.0)
solid-complete s (Released b ∷ cs) next h k = solid s.release (b ∷ (spelling s cs ++ s.terminator ∷ next)) (gap_calm s.release h.release)

-- characters in front of something solid
solid-spelling : (s : Service) (cs : List Character) (xs : List ℕ) → IsCalm s → AreCharacters s cs → (0 < length cs) ⊎ IsSolid xs → IsSolid (spelling s cs ++ xs)
solid-spelling s [] xs h k (inl l) = absurd (omega arith)
solid-spelling s [] xs h k (inr l) = l
solid-spelling s (Plain b ∷ cs) xs h k l = solid b (spelling s cs ++ xs) (gap_calm b k.0.0)
solid-spelling s (Released b ∷ cs) xs h k l = solid s.release (b ∷ (spelling s cs ++ xs)) (gap_calm s.release h.release)

pub data Sight : Type 0 where
  KEnd : Sight
  KOpen : List ℕ → Sight
  KBroken : List ℕ → Sight
  KBad : Sight
  KTakes : Segment → List ℕ → Sight

-- what is seen is what is found
pub Shown : Service → List ℕ → Sight → Type 0
Shown s rest KEnd = look s rest ≡ None
Shown s rest (KOpen left) = (look s rest ≡ Some Unended) × (skip rest ≡ left)
Shown s rest (KBroken left) = look s rest ≡ Some (Broken left)
Shown s rest KBad = (cs : List Character) × (next : List ℕ) × (look s rest ≡ Some (Complete cs next)) × HasNoTag s cs
Shown s rest (KTakes x next) = (cs : List Character) × (look s rest ≡ Some (Complete cs next)) × IsSegmentOf (elements_of s cs) x

segment_one : (elements : List (List (List ℕ))) (x y : Segment) → IsSegmentOf elements x → IsSegmentOf elements y → x ≡ y
segment_one elements x y h k =
    let e : (x.tag ∷ []) ∷ h.0 ≡ (y.tag ∷ []) ∷ k.0 = sym h.1 ∙ k.1 in
    let tag : x.tag ≡ y.tag = cc in
    let rest : h.0 ≡ k.0 = cc in
    let es : x.elements ≡ y.elements = h.3 ∙ ap canonical rest ∙ sym k.3 in
    let make : List ℕ → List (List (List ℕ)) → Segment = λ t e. record { tag = t; elements = e } in
    ap (λ t. make t x.elements) tag ∙ ap (make y.tag) es

pub shown_one : (s : Service) (rest : List ℕ) (k j : Sight) → Shown s rest k → Shown s rest j → k ≡ j
unfolding Shown
shown_one s rest KEnd KEnd h g = refl
shown_one s rest KEnd (KOpen l') h g = let e = sym h ∙ g.0 in cc
shown_one s rest KEnd (KBroken l') h g = let e = sym h ∙ g in cc
shown_one s rest KEnd KBad h g = let e = sym h ∙ g.2 in cc
shown_one s rest KEnd (KTakes x' n') h g = let e = sym h ∙ g.1 in cc
shown_one s rest (KOpen l) KEnd h g = let e = sym h.0 ∙ g in cc
shown_one s rest (KOpen l) (KOpen l') h g = ap KOpen (sym h.1 ∙ g.1)
shown_one s rest (KOpen l) (KBroken l') h g = let e = sym h.0 ∙ g in cc
shown_one s rest (KOpen l) KBad h g = let e = sym h.0 ∙ g.2 in cc
shown_one s rest (KOpen l) (KTakes x' n') h g = let e = sym h.0 ∙ g.1 in cc
shown_one s rest (KBroken l) KEnd h g = let e = sym h ∙ g in cc
shown_one s rest (KBroken l) (KOpen l') h g = let e = sym h ∙ g.0 in cc
shown_one s rest (KBroken l) (KBroken l') h g = let e : Some (Broken l) ≡ Some (Broken l') = sym h ∙ g in cc
shown_one s rest (KBroken l) KBad h g = let e = sym h ∙ g.2 in cc
shown_one s rest (KBroken l) (KTakes x' n') h g = let e = sym h ∙ g.1 in cc
shown_one s rest KBad KEnd h g = let e = sym h.2 ∙ g in cc
shown_one s rest KBad (KOpen l') h g = let e = sym h.2 ∙ g.0 in cc
shown_one s rest KBad (KBroken l') h g = let e = sym h.2 ∙ g in cc
shown_one s rest KBad KBad h g = refl
shown_one s rest KBad (KTakes x' n') h g = let e : Some (Complete h.0 h.1) ≡ Some (Complete g.0 n') = sym h.2 ∙ g.1 in let cs : h.0 ≡ g.0 = cc in let P : List Character → Type 0 = λ c. HasNoTag s c in absurd (subst P cs h.3 x' g.2)
shown_one s rest (KTakes x n) KEnd h g = let e = sym h.1 ∙ g in cc
shown_one s rest (KTakes x n) (KOpen l') h g = let e = sym h.1 ∙ g.0 in cc
shown_one s rest (KTakes x n) (KBroken l') h g = let e = sym h.1 ∙ g in cc
shown_one s rest (KTakes x n) KBad h g = let e : Some (Complete h.0 n) ≡ Some (Complete g.0 g.1) = sym h.1 ∙ g.2 in let cs : h.0 ≡ g.0 = cc in let P : List Character → Type 0 = λ c. HasNoTag s c in absurd (subst P (sym cs) g.3 x h.2)
shown_one s rest (KTakes x n) (KTakes x' n') h g = let e : Some (Complete h.0 n) ≡ Some (Complete g.0 n') = sym h.1 ∙ g.1 in let cs : h.0 ≡ g.0 = cc in let en : n ≡ n' = cc in let P : List Character → Type 0 = λ c. IsSegmentOf (elements_of s c) x in let ex : x ≡ x' = segment_one (elements_of s g.0) x x' (subst P cs h.2) g.2 in ap (λ y. KTakes y n) ex ∙ ap (KTakes x') en

-- ## What the grammar says of a place is seen there

sees-solid : (s : Service) (rest gap xs : List ℕ) (f : Front) → rest ≡ gap ++ xs → IsGap gap → IsSolid xs → front s false xs ≡ f → look s rest ≡ Some f
sees-solid s rest gap xs f e g so fe = (look-solid s rest gap xs e g so).0 ∙ ap Some fe

sees-takes : (s : Service) (rest : List ℕ) (x : Segment) (next : List ℕ) → IsCalm s → TakesSegment s rest x next → Shown s rest (KTakes x next)
unfolding Shown
sees-takes s rest x next h t =
    (t.0, sees-solid s rest t.1.0 (spelling s t.0 ++ s.terminator ∷ next) (Complete t.0 next) t.1.1 t.1.2 (solid-complete s t.0 next h t.1.3) (front-complete s t.0 next h t.1.3), t.2)

sees-bad : (s : Service) (rest : List ℕ) (cs : List Character) (next : List ℕ) → IsCalm s → Completes s rest cs next → HasNoTag s cs → Shown s rest KBad
unfolding Shown
sees-bad s rest cs next h t n =
    (cs, next, sees-solid s rest t.0 (spelling s cs ++ s.terminator ∷ next) (Complete cs next) t.1 t.2 (solid-complete s cs next h t.3) (front-complete s cs next h t.3), n)

subst-solid : (xs ys : List ℕ) → xs ≡ ys → IsSolid ys → IsSolid xs
subst-solid xs ys e h = let P : List ℕ → Type 0 = λ z. IsSolid z in subst P (sym e) h

solid-open : (s : Service) (xs : List ℕ) → IsCalm s → IsOpen s xs → 0 < length xs → IsSolid xs
solid-open s xs h ([], k, inl e) l = absurd (omega (arith, ap length e))
solid-open s xs h (c ∷ cs, k, inl e) l =
    let some : 0 < length (c ∷ cs) = omega arith in
    subst-solid xs (spelling s (c ∷ cs) ++ []) (e ∙ sym (append-nil (spelling s (c ∷ cs)))) (solid-spelling s (c ∷ cs) [] h k (inl some))
solid-open s xs h (cs, k, inr e) l = subst-solid xs (spelling s cs ++ s.release ∷ []) e.0 (solid-spelling s cs (s.release ∷ []) h k (inr (solid s.release [] (gap_calm s.release h.release))))

sees-open : (s : Service) (rest gap left : List ℕ) → IsCalm s → rest ≡ gap ++ left → IsGap gap → IsOpen s left → 0 < length left → Shown s rest (KOpen left)
unfolding Shown
sees-open s rest gap left h e g o l =
    let so = solid-open s left h o l in
    (sees-solid s rest gap left Unended e g so (front-open s left h o), (look-solid s rest gap left e g so).1)

no_gap_byte : (c : ℕ) (P : Type 0) → (is_gap_byte c ≡ true → P → ⊥) → P → is_gap_byte c ≡ false
no_gap_byte c P f p = go (is_gap_byte c) refl
  where
    go : (t : Bool) → is_gap_byte c ≡ t → t ≡ false
    go true e = absurd (f e p)
    go false e = refl

solid-broken : (s : Service) (body : List ℕ) (c : ℕ) (more : List ℕ) → IsCalm s → IsOpen s body → (is_gap_byte c ≡ true → body ≢ []) → IsSolid (body ++ c ∷ more)
solid-broken s body c more h ([], k, inl e) n = subst-solid (body ++ c ∷ more) (c ∷ more) (ap (λ y. y ++ c ∷ more) e) (solid c more (no_gap_byte c (body ≡ []) n e))
solid-broken s body c more h (d ∷ cs, k, inl e) n =
    let some : 0 < length (d ∷ cs) = omega arith in
    subst-solid (body ++ c ∷ more) (spelling s (d ∷ cs) ++ c ∷ more) (ap (λ y. y ++ c ∷ more) e) (solid-spelling s (d ∷ cs) (c ∷ more) h k (inl some))
solid-broken s body c more h (cs, k, inr e) n = subst-solid (body ++ c ∷ more) (spelling s cs ++ s.release ∷ c ∷ more) (ap (λ y. y ++ c ∷ more) e.0 ∙ append_assoc (spelling s cs) (s.release ∷ []) (c ∷ more)) (solid-spelling s cs (s.release ∷ c ∷ more) h k (inr (solid s.release (c ∷ more) (gap_calm s.release h.release))))

sees-broken : (s : Service) (rest gap body : List ℕ) (c : ℕ) (more : List ℕ) → IsCalm s → rest ≡ gap ++ (body ++ c ∷ more) → IsGap gap → IsOpen s body → is_control c ≡ true → (is_gap_byte c ≡ true → body ≢ []) → Shown s rest (KBroken (c ∷ more))
unfolding Shown
sees-broken s rest gap body c more h e g o t n = sees-solid s rest gap (body ++ c ∷ more) (Broken (c ∷ more)) e g (solid-broken s body c more h o n) (front-broken s body c more h o t)

sees-end : (s : Service) (rest : List ℕ) → IsGap rest → Shown s rest KEnd
unfolding Shown
sees-end s rest g = look-gap s rest g

-- ## Two readings of one text

-- a further segment stands there, which isn't UNZ
abbrev GoesOn : Service → List ℕ → List Segment → List Segment → Type 0
GoesOn s rest before before' = (x : Segment) × (n : List ℕ) × (more : List Segment) × TakesSegment s rest x n × (x.tag ≢ unz) × (before' ≡ before ++ x ∷ more)

abbrev Compared : Service → List ℕ → List ℕ → List Segment → List Segment → Type 0
Compared s rest rest' before before' = ((before ≡ before') × (rest ≡ rest')) ⊎ (GoesOn s rest before before' ⊎ GoesOn s rest' before' before)

takes_one : (s : Service) (text : List ℕ) (x y : Segment) (n m : List ℕ) → IsCalm s → TakesSegment s text x n → TakesSegment s text y m → (x ≡ y) × (n ≡ m)
takes_one s text x y n m h t u =
    let e : KTakes x n ≡ KTakes y m = shown_one s text (KTakes x n) (KTakes y m) (sees-takes s text x n h t) (sees-takes s text y m h u) in
    let ex : x ≡ y = cc in
    let en : n ≡ m = cc in
    (ex, en)

moved : (s : Service) (rest rest' : List ℕ) (x y : Segment) (xs ys : List Segment) → x ≡ y → Compared s rest rest' xs ys → Compared s rest rest' (x ∷ xs) (y ∷ ys)
moved s rest rest' x y xs ys e (inl w) = inl (ap (λ z. z ∷ xs) e ∙ ap (λ zs. y ∷ zs) w.0, w.1)
moved s rest rest' x y xs ys e (inr (inl w)) = inr (inl (w.0, w.1, w.2, w.3, w.4, ap (λ z. z ∷ ys) (sym e) ∙ ap (λ zs. x ∷ zs) w.5))
moved s rest rest' x y xs ys e (inr (inr w)) = inr (inr (w.0, w.1, w.2, w.3, w.4, ap (λ z. z ∷ xs) e ∙ ap (λ zs. y ∷ zs) w.5))

compare_runs : (s : Service) (text rest rest' : List ℕ) (before before' : List Segment) → IsCalm s → Begins s text before rest → Begins s text before' rest' → Compared s rest rest' before before'
compare_runs s text rest rest' [] [] h b c = inl (refl, sym b ∙ c)
compare_runs s text rest rest' [] (y ∷ ys) h b c =
    let P : List ℕ → Type 0 = λ z. TakesSegment s z y c.0 in
    inr (inl (y, c.0, ys, subst P b c.1, c.2, refl))
compare_runs s text rest rest' (x ∷ xs) [] h b c =
    let P : List ℕ → Type 0 = λ z. TakesSegment s z x b.0 in
    inr (inr (x, b.0, xs, subst P c b.1, b.2, refl))
compare_runs s text rest rest' (x ∷ xs) (y ∷ ys) h b c =
    let one = takes_one s text x y b.0 c.0 h b.1 c.1 in
    let P : List ℕ → Type 0 = λ z. Begins s z ys rest' in
    moved s rest rest' x y xs ys one.0 (compare_runs s b.0 rest rest' xs ys h b.3 (subst P (sym one.1) c.3))

-- ## What is answered for what is seen

abbrev pub Answer : Type 0
Answer = Result (List Segment) SegFault

abbrev pub Ends : ℕ → List Segment → Segment → List ℕ → Answer → Type 0
Ends n before x next o = ((skip next ≡ []) × (o ≡ Ok (before ++ x ∷ []))) ⊎ ((at : ℕ) × (0 < length (skip next)) × (at + length (skip next) ≡ n) × (o ≡ Err (Trailing at)))

abbrev pub Decides : ℕ → List Segment → Sight → Answer → Type 0
Decides n before KEnd o = ((before ≡ []) × (o ≡ Err NoHeader)) ⊎ ((0 < length before) × (o ≡ Err (NoTrailer (length before))))
Decides n before (KOpen left) o = (at : ℕ) × (at + length left ≡ n) × (o ≡ Err (Unterminated at))
Decides n before (KBroken left) o = (at : ℕ) × (at + length left ≡ n) × (o ≡ Err (ControlByte at))
Decides n before KBad o = o ≡ Err (BadTag (length before + 1))
Decides n before (KTakes x next) o = ((before ≡ []) × (x.tag ≢ unb) × (o ≡ Err NoHeader)) ⊎ ((x.tag ≡ unz) × (before ≡ [] → x.tag ≡ unb) × Ends n before x next o)

same_place : (at at' m n : ℕ) → at + m ≡ n → at' + m ≡ n → at ≡ at'
same_place at at' m n e f = omega arith

empty_some : {A : Type 0} (xs : List A) → xs ≡ [] → 0 < length xs → ⊥
empty_some xs e l = absurd (omega (arith, ap length e))

ends_one : (n : ℕ) (before : List Segment) (x : Segment) (next : List ℕ) (o o' : Answer) → Ends n before x next o → Ends n before x next o' → o ≡ o'
ends_one n before x next o o' (inl h) (inl g) = h.1 ∙ sym g.1
ends_one n before x next o o' (inl h) (inr g) = absurd (empty_some (skip next) h.0 g.1)
ends_one n before x next o o' (inr h) (inl g) = absurd (empty_some (skip next) g.0 h.1)
ends_one n before x next o o' (inr h) (inr g) = h.3 ∙ ap (λ at. Err (Trailing at)) (same_place h.0 g.0 (length (skip next)) n h.2 g.2) ∙ sym g.3

decides_one : (n : ℕ) (before : List Segment) (k : Sight) (o o' : Answer) → Decides n before k o → Decides n before k o' → o ≡ o'
decides_one n before KEnd o o' (inl h) (inl g) = h.1 ∙ sym g.1
decides_one n before KEnd o o' (inl h) (inr g) = absurd (empty_some before h.0 g.0)
decides_one n before KEnd o o' (inr h) (inl g) = absurd (empty_some before g.0 h.0)
decides_one n before KEnd o o' (inr h) (inr g) = h.1 ∙ sym g.1
decides_one n before (KOpen l) o o' h g = h.2 ∙ ap (λ at. Err (Unterminated at)) (same_place h.0 g.0 (length l) n h.1 g.1) ∙ sym g.2
decides_one n before (KBroken l) o o' h g = h.2 ∙ ap (λ at. Err (ControlByte at)) (same_place h.0 g.0 (length l) n h.1 g.1) ∙ sym g.2
decides_one n before KBad o o' h g = h ∙ sym g
decides_one n before (KTakes x next) o o' (inl h) (inl g) = h.2 ∙ sym g.2
decides_one n before (KTakes x next) o o' (inl h) (inr g) = absurd (h.1 (g.1 h.0))
decides_one n before (KTakes x next) o o' (inr h) (inl g) = absurd (g.1 (h.1 g.0))
decides_one n before (KTakes x next) o o' (inr h) (inr g) = ends_one n before x next o o' h.2 g.2

-- where the text goes on, nothing is answered yet
goes_on : (n : ℕ) (s : Service) (rest : List ℕ) (before before' : List Segment) (k : Sight) (o : Answer) → IsCalm s → Shown s rest k → Decides n before k o → GoesOn s rest before before' → IsHeaded before' → ⊥
goes_on n s rest before before' k o h k' d g hd =
    let e : k ≡ KTakes g.0 g.1 = shown_one s rest k (KTakes g.0 g.1) k' (sees-takes s rest g.0 g.1 h g.3) in
    let P : Sight → Type 0 = λ z. Decides n before z o in
    go (subst P e d)
  where
    first : before ≡ [] → g.0.tag ≡ unb
    first b = let P : List Segment → Type 0 = λ z. IsHeaded z in subst P (g.5 ∙ ap (λ z. z ++ g.0 ∷ g.2) b) hd

    go : Decides n before (KTakes g.0 g.1) o → ⊥
    go (inl w) = w.1 (first w.0)
    go (inr w) = g.4 w.0

-- ## The text of a service

starts_one : (bytes : List ℕ) (s s' : Service) (t t' : List ℕ) → Starts bytes s t → Starts bytes s' t' → (s ≡ s') × (t ≡ t')
starts_one bytes s s' t t' (inl a) (inl b) =
    let e : una (advice s a.1 a.2 ++ t) ≡ una (advice s' b.1 b.2 ++ t') = sym a.3 ∙ b.3 in
    let ec : s.component ≡ s'.component = cc in
    let ee : s.element ≡ s'.element = cc in
    let er : s.release ≡ s'.release = cc in
    let et : s.terminator ≡ s'.terminator = cc in
    let ex : t ≡ t' = cc in
    let make : ℕ → ℕ → ℕ → ℕ → Service = λ c e r t. record { component = c; element = e; release = r; terminator = t } in
    (ap (λ x. make x s.element s.release s.terminator) ec ∙ ap (λ x. make s'.component x s.release s.terminator) ee ∙ ap (λ x. make s'.component s'.element x s.terminator) er ∙ ap (make s'.component s'.element s'.release) et, ex)
starts_one bytes s s' t t' (inl a) (inr b) = absurd (b.0 (advice s a.1 a.2 ++ t, a.3))
starts_one bytes s s' t t' (inr a) (inl b) = absurd (a.0 (advice s' b.1 b.2 ++ t', b.3))
starts_one bytes s s' t t' (inr a) (inr b) = (a.1 ∙ sym b.1, sym a.2 ∙ b.2)

-- ## One answer

abbrev pub Has : List ℕ → Answer → Type 0
Has bytes o = (s : Service) × (before : List Segment) × (rest : List ℕ) × (k : Sight) × Reaches bytes s before rest × Shown s rest k × Decides (length bytes) before k o

pub has_one : (bytes : List ℕ) (o o' : Answer) → Has bytes o → Has bytes o' → o ≡ o'
has_one bytes o o' (s, before, rest, k, r, sh, d) (s', before', rest', k', r', sh', d') =
    let h = starts_calm bytes r.0 s r.1 in
    let st = starts_one bytes s s' r.0 r'.0 r.1 r'.1 in
    let P : Service → Type 0 = λ z. Begins z r'.0 before' rest' in
    let Q : List ℕ → Type 0 = λ z. Begins s z before' rest' in
    let S : Service → Type 0 = λ z. Shown z rest' k' in
    let b' : Begins s r.0 before' rest' = subst Q (sym st.1) (subst P (sym st.0) r'.2) in
    let sh'' : Shown s rest' k' = subst S (sym st.0) sh' in
    go h sh'' (compare_runs s r.0 rest rest' before before' h r.2 b')
  where
    go : IsCalm s → Shown s rest' k' → Compared s rest rest' before before' → o ≡ o'
    go h sh'' (inl w) =
        let A : List ℕ → Type 0 = λ z. Shown s z k' in
        let ek : k ≡ k' = shown_one s rest k k' sh (subst A (sym w.1) sh'') in
        let B : List Segment → Type 0 = λ z. Decides (length bytes) z k' o' in
        let C : Sight → Type 0 = λ z. Decides (length bytes) before z o' in
        decides_one (length bytes) before k o o' d (subst C (sym ek) (subst B (sym w.0) d'))
    go h sh'' (inr (inl w)) = absurd (goes_on (length bytes) s rest before before' k o h sh d w r'.3)
    go h sh'' (inr (inr w)) = absurd (goes_on (length bytes) s rest' before' before k' o' h sh'' d' w r.3)

skip-end : (gap : List ℕ) → IsGap gap → skip gap ≡ []
skip-end gap g = ap skip (sym (append-nil gap)) ∙ skip-gap gap [] g

headed_first : (before : List Segment) (x : Segment) → IsHeaded (before ++ x ∷ []) → before ≡ [] → x.tag ≡ unb
headed_first [] x h e = h
headed_first (y ∷ before) x h e = absurd (omega (arith, ap length e))

pub has_good : (bytes : List ℕ) (segments : List Segment) → IsInterchange bytes segments → Has bytes (Ok segments)
has_good bytes segments (before, last, next, e, c, g) =
    let r = c.2 in
    (c.0, before, c.1, KTakes last next, r, sees-takes c.0 c.1 last next (starts_calm bytes r.0 c.0 r.1) c.3, inr (c.4, headed_first before last c.5, inl (skip-end next g, ap Ok e)))

pub has_bad : (bytes : List ℕ) (f : SegFault) → HasFault bytes f → f ≢ BadUna → Has bytes (Err f)
has_bad bytes NoHeader (s, text, st, inl g) n = (s, [], text, KEnd, (text, st, refl, tt), sees-end s text g, inl (refl, refl))
has_bad bytes NoHeader (s, text, st, inr w) n = (s, [], text, KTakes w.0 w.1, (text, st, refl, tt), sees-takes s text w.0 w.1 (starts_calm bytes text s st) w.2, inl (refl, w.3, refl))
has_bad bytes BadUna h n = absurd (n refl)
has_bad bytes (Unterminated at) (s, before, gap, left, r, g, o, lt, place) n = (s, before, gap ++ left, KOpen left, r, sees-open s (gap ++ left) gap left (starts_calm bytes r.0 s r.1) refl g o lt, (at, place, refl))
has_bad bytes (ControlByte at) (s, before, gap, body, c, more, r, g, o, t, ng, place) n = (s, before, gap ++ (body ++ c ∷ more), KBroken (c ∷ more), r, sees-broken s (gap ++ (body ++ c ∷ more)) gap body c more (starts_calm bytes r.0 s r.1) refl g o t ng, (at, place, refl))
has_bad bytes (BadTag m) (s, before, rest, cs, next, r, co, none, en) n = (s, before, rest, KBad, r, sees-bad s rest cs next (starts_calm bytes r.0 s r.1) co none, ap (λ k. Err (BadTag k)) en)
has_bad bytes (NoTrailer m) (s, before, rest, r, g, lt, en) n =
    let some : 0 < length before = omega (arith, lt, en) in
    (s, before, rest, KEnd, r, sees-end s rest g, inr (some, ap (λ k. Err (NoTrailer k)) en))
has_bad bytes (Trailing at) (before, last, gap, c, more, cl, g, ng, place) n =
    let r = cl.2 in
    let k : skip (gap ++ c ∷ more) ≡ c ∷ more = skip-gap gap (c ∷ more) g ∙ skip-calm c more ng in
    let some : 0 < length (skip (gap ++ c ∷ more)) = rw k (omega arith) in
    (cl.0, before, cl.1, KTakes last (gap ++ c ∷ more), r, sees-takes cl.0 cl.1 last (gap ++ c ∷ more) (starts_calm bytes r.0 cl.0 r.1) cl.3, inr (cl.4, headed_first before last cl.5, inr (at, some, ap (λ y. at + length y) k ∙ place, refl)))
has_bad bytes NoMemory h n = absurd h

una_or_not : (f : SegFault) → (f ≡ BadUna) ⊎ (f ≢ BadUna)
una_or_not BadUna = inl refl
una_or_not NoHeader = inr (λ e. cc)
una_or_not (Unterminated at) = inr (λ e. cc)
una_or_not (ControlByte at) = inr (λ e. cc)
una_or_not (BadTag n) = inr (λ e. cc)
una_or_not (NoTrailer n) = inr (λ e. cc)
una_or_not (Trailing at) = inr (λ e. cc)
una_or_not NoMemory = inr (λ e. cc)

-- a bad UNA leaves nothing to read
una_apart : (bytes : List ℕ) (f : SegFault) (o : Answer) → f ≡ BadUna → HasFault bytes f → Has bytes o → ⊥
una_apart bytes f o e h g =
    let P : SegFault → Type 0 = λ x. HasFault bytes x in
    let bad : HasFault bytes BadUna = subst P e h in
    bad.1 g.0 g.4.0 g.4.1

pub one_interchange : (bytes : List ℕ) (s t : List Segment) → IsInterchange bytes s → IsInterchange bytes t → s ≡ t
one_interchange bytes s t h g =
    let e : Ok s ≡ Ok t = has_one bytes (Ok s) (Ok t) (has_good bytes s h) (has_good bytes t g) in
    cc

pub one_fault : (bytes : List ℕ) (f g : SegFault) → HasFault bytes f → HasFault bytes g → f ≡ g
one_fault bytes f g h k = go (una_or_not f) (una_or_not g)
  where
    go : (f ≡ BadUna) ⊎ (f ≢ BadUna) → (g ≡ BadUna) ⊎ (g ≢ BadUna) → f ≡ g
    go (inl e) (inl e') = e ∙ sym e'
    go (inl e) (inr n) = absurd (una_apart bytes f (Err g) e h (has_bad bytes g k n))
    go (inr n) (inl e) = absurd (una_apart bytes g (Err f) e k (has_bad bytes f h n))
    go (inr n) (inr n') =
        let e : Err f ≡ Err g = has_one bytes (Err f) (Err g) (has_bad bytes f h n) (has_bad bytes g k n') in
        cc

pub never_both : (bytes : List ℕ) (s : List Segment) (f : SegFault) → IsInterchange bytes s → HasFault bytes f → ⊥
never_both bytes s f h k = go (una_or_not f)
  where
    go : (f ≡ BadUna) ⊎ (f ≢ BadUna) → ⊥
    go (inl e) = una_apart bytes f (Ok s) e k (has_good bytes s h)
    go (inr n) =
        let e : Ok s ≡ Err f = has_one bytes (Ok s) (Err f) (has_good bytes s h) (has_bad bytes f k n) in
        cc
