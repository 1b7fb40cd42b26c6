-- Every list of segments is a message or has exactly one least fault.
use Rattle.std.proofs.Common.{◌≡◌, ◌⊎◌, inl, inr, ℕ, ◌+◌, arith, refl, sym, ap, subst, true, false, List, [], ◌∷◌, length, map, take, Option, Some, None, slice_get, ◌∙◌}
use Rattle.edifact_segments.specs.declared.segments.Segment.{Segment}
use Rattle.baplie.specs.declared.causes.Cause.{Cause}
use Rattle.baplie.specs.Groups.{cell_group}
use Rattle.baplie.specs.declared.causes.Cause.TheVariants.{NotBaplie, ManyMessages, NoUnt, BadCell, AgencyLeftOut, TwoContainers, BreakbulkLeftOut, NoId, NameTooLong, LengthLeftOut, UnitLeftOut, BadWeight, NoWeightOrPort, BadCount, CountWrong, ReferenceWrong}
use Rattle.baplie.specs.Segments.{element}
use Rattle.baplie.specs.Faults.{rest, body, head, groups, count_of, counted, IsAtEnd, HasCause, number, IsUpTo, IsLeastFault}
use Rattle.baplie.specs.Finding.{first_fault}
use Rattle.baplie.specs.Messages.{IsRead}
use Rattle.baplie.proofs.Least.{Outcome, outcome, some-same}

false≢true : false ≡ true → ⊥
false≢true e = cc

no_fault : (segments : List Segment) → Outcome segments None → IsRead segments
no_fault [] h = absurd (h 2 NotBaplie (inl (record { number = refl; kind = refl; untitled = refl })))
no_fault (a ∷ []) h = absurd (h 2 NotBaplie (inl (record { number = refl; kind = refl; untitled = refl })))
no_fault (a ∷ b ∷ more) h = (
  record { service = a; title = b; head = head (body (a ∷ b ∷ more)); groups = map cell_group (groups (body (a ∷ b ∷ more))) },
  record { faultless = h; service = refl; title = refl; head = refl; groups = refl },
)

pub either : (segments : List Segment) → IsRead segments ⊎ ((n : ℕ) × (cause : Cause) × IsLeastFault segments n cause)
either segments = go (first_fault segments) (outcome segments)
  where
    go : (r : Option (ℕ × Cause)) → Outcome segments r → IsRead segments ⊎ ((n : ℕ) × (cause : Cause) × IsLeastFault segments n cause)
    go None h = inl (no_fault segments h)
    go (Some x) h = inr (x.0, x.1, h)

pub not_both : (segments : List Segment) (n : ℕ) (cause : Cause) → IsRead segments → IsLeastFault segments n cause → ⊥
not_both segments n cause r f = r.1.faultless n cause f.has

-- a wrong count stands at the end
at_end : (segments : List Segment) (n said found : ℕ) → HasCause segments n (CountWrong said found) → IsAtEnd segments n (CountWrong said found)
at_end segments n said found (inl i) = absurd (other i.kind)
  where
    other : CountWrong said found ≡ NotBaplie → ⊥
    other e = cc
at_end segments n said found (inr (inl i)) = absurd (false≢true i.is_cause)
at_end segments n said found (inr (inr i)) = i

-- a segment has one wrong count
one_count : (segments : List Segment) (n said found other counts : ℕ) → IsAtEnd segments n (CountWrong said found) → IsAtEnd segments n (CountWrong other counts) → CountWrong said found ≡ CountWrong other counts
one_count segments n said found other counts i j =
    let places : i.place ≡ j.place = omega (arith, i.number, j.number) in
    let found_first : slice_get (rest segments) i.place ≡ Some i.segment = i.is_segment in
    let found_second : slice_get (rest segments) j.place ≡ Some j.segment = j.is_segment in
    let Q : ℕ → Type 0 = λ k. slice_get (rest segments) k ≡ Some i.segment in
    let segment : i.segment ≡ j.segment = some-same (sym (subst Q places found_first) ∙ found_second) in
    let count : said ≡ other = some-same (sym i.is_cause.1 ∙ ap (λ s. count_of (element s 1)) segment ∙ j.is_cause.1) in
    let counted_same : counted (length (take i.place (rest segments)) + 2) i.segment ≡ counted (length (take j.place (rest segments)) + 2) j.segment =
    ap (λ k. counted (length (take k (rest segments)) + 2) i.segment) places ∙ ap (λ s. counted (length (take j.place (rest segments)) + 2) s) segment in
    let counts_same : found ≡ counts = i.is_cause.2 ∙ counted_same ∙ sym j.is_cause.2 in
    ap (λ x. CountWrong x found) count ∙ ap (λ x. CountWrong other x) counts_same

-- causes of one number at one segment are the same
same_kind : (c d : Cause) → number c ≡ number d → ((said found other counts : ℕ) → c ≡ CountWrong said found → d ≡ CountWrong other counts → c ≡ d) → c ≡ d
same_kind NotBaplie NotBaplie e h = refl
same_kind ManyMessages ManyMessages e h = refl
same_kind NoUnt NoUnt e h = refl
same_kind BadCell BadCell e h = refl
same_kind AgencyLeftOut AgencyLeftOut e h = refl
same_kind TwoContainers TwoContainers e h = refl
same_kind BreakbulkLeftOut BreakbulkLeftOut e h = refl
same_kind NoId NoId e h = refl
same_kind NameTooLong NameTooLong e h = refl
same_kind LengthLeftOut LengthLeftOut e h = refl
same_kind UnitLeftOut UnitLeftOut e h = refl
same_kind BadWeight BadWeight e h = refl
same_kind NoWeightOrPort NoWeightOrPort e h = refl
same_kind BadCount BadCount e h = refl
same_kind ReferenceWrong ReferenceWrong e h = refl
same_kind (CountWrong said found) (CountWrong other counts) e h = h said found other counts refl refl
same_kind c d e h = absurd (omega (arith, e))

pub one : (segments : List Segment) (n m : ℕ) (cause other : Cause) → IsLeastFault segments n cause → IsLeastFault segments m other → (n ≡ m) × (cause ≡ other)
one segments n m cause other f g =
    let s = same (f.least m other g.has) (g.least n cause f.has) in
    (s.0, same_kind cause other s.1 (counts s.0))
  where
    same : IsUpTo n cause m other → IsUpTo m other n cause → (n ≡ m) × (number cause ≡ number other)
    same (inl a) (inl b) = absurd (omega (arith, a, b))
    same (inl a) (inr b) = absurd (omega (arith, a, b.0))
    same (inr a) (inl b) = absurd (omega (arith, a.0, b))
    same (inr a) (inr b) = (a.0, omega (arith, a.1, b.1))

    counts : n ≡ m → (said found x y : ℕ) → cause ≡ CountWrong said found → other ≡ CountWrong x y → cause ≡ other
    counts e said found x y p q =
        let P : Cause → Type 0 = λ c. HasCause segments n c in
        let R : Cause → Type 0 = λ c. HasCause segments m c in
        let S : ℕ → Type 0 = λ k. HasCause segments k (CountWrong x y) in
        p ∙ one_count segments n said found x y (at_end segments n said found (subst P p f.has)) (at_end segments n x y (subst S (sym e) (subst R q g.has))) ∙ sym q
