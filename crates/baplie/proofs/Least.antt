-- What is found is the least fault.
use Rattle.std.proofs.Common.{◌≡◌, ◌⊎◌, inl, inr, ℕ, suc, zero, ◌+◌, ◌≤◌, ◌<◌, arith, refl, sym, ap, subst, cond, Bool, true, false, ◌||◌, ◌==◌, not, List, [], ◌∷◌, ◌++◌, length, take, Option, Some, None, slice_get, append_assoc, find, ◌∙◌}
use Rattle.std.proofs.lemmas.List.{append-nil}
use Rattle.std.proofs.lemmas.Bool.{eqb-true, eqb-false}
use Rattle.std.specs.List.{list_any, position_or_len}
use Rattle.std.specs.Option.{option_or}
use Rattle.edifact_segments.specs.declared.segments.Segment.{Segment}
use Rattle.baplie.specs.declared.causes.Cause.{Cause}
use Rattle.baplie.specs.declared.causes.Prior.{Prior}
use Rattle.baplie.specs.declared.causes.Cause.TheVariants.{NotBaplie, ManyMessages, NoUnt, BadCell, AgencyLeftOut, TwoContainers, BreakbulkLeftOut, NoId, NameTooLong, LengthLeftOut, UnitLeftOut, BadWeight, NoWeightOrPort, BadCount, CountWrong, ReferenceWrong}
use Rattle.baplie.specs.Segments.{is_unt, is_unz, closes, opens, element, same_element}
use Rattle.baplie.specs.Groups.{prior, shows}
use Rattle.baplie.specs.Faults.{rest, body, head, groups, numbered, numbered_groups, is_titled, count_of, counted, referred, IsInGroup, IsEndCause, IsAtEnd, IsUntitled, HasCause, number, IsUpTo, IsLeastFault}
use Rattle.baplie.specs.Finding.{or_later, scan, group_causes, group_cause, groups_fault, count_cause, reference_cause, least_of, end_cause, first_behind_title, first_fault}

none≢some : {A : Type 0} {x : A} → None ≡ Some x → ⊥
none≢some e = cc

pub some-same : {A : Type 0} {x y : A} → Some x ≡ Some y → x ≡ y
some-same e = cc

false≢true : false ≡ true → ⊥
false≢true e = cc

-- ## One segment

-- the cause that is picked is the least that there is
abbrev pub Picks : Option Cause → (Cause → Type 0) → Type 0
Picks None P = (c : Cause) → P c → ⊥
Picks (Some c) P = P c × ((d : Cause) → P d → number c ≤ number d)

-- ## Segments one after the other

pub record Hit (n : ℕ) (before xs : List Segment) (P : List Segment → Segment → Cause → Type 0) (m : ℕ) (c : Cause) : Type 0 where
  pub place : ℕ
  pub number : m ≡ n + place
  pub segment : Segment
  pub is_segment : slice_get xs place ≡ Some segment
  pub is_cause : P (before ++ take place xs) segment c

abbrev pub Found : ℕ → List Segment → List Segment → (List Segment → Segment → Cause → Type 0) → Option (ℕ × Cause) → Type 0
Found n before xs P None = (j : ℕ) (s : Segment) (c : Cause) → slice_get xs j ≡ Some s → P (before ++ take j xs) s c → ⊥
Found n before xs P (Some x) = Hit n before xs P x.0 x.1 × ((j : ℕ) (s : Segment) (d : Cause) → slice_get xs j ≡ Some s → P (before ++ take j xs) s d → IsUpTo x.0 x.1 (n + j) d)

here : (P : List Segment → Segment → Cause → Type 0) (before : List Segment) (s t : Segment) (c : Cause) → Some s ≡ Some t → P (before ++ []) t c → P before s c
here P before s t c e h =
    let Q : List Segment → Type 0 = λ b. P b s c in
    let R : Segment → Type 0 = λ x. P (before ++ []) x c in
    subst Q (append-nil before) (subst R (sym (some-same e)) h)

beyond : (P : List Segment → Segment → Cause → Type 0) (before : List Segment) (s t : Segment) (ss : List Segment) (c : Cause) → P (before ++ s ∷ ss) t c → P ((before ++ s ∷ []) ++ ss) t c
beyond P before s t ss c h =
    let Q : List Segment → Type 0 = λ b. P b t c in
    subst Q (sym (append_assoc before (s ∷ []) ss)) h

back : (P : List Segment → Segment → Cause → Type 0) (before : List Segment) (s t : Segment) (ss : List Segment) (c : Cause) → P ((before ++ s ∷ []) ++ ss) t c → P (before ++ s ∷ ss) t c
back P before s t ss c h =
    let Q : List Segment → Type 0 = λ b. P b t c in
    subst Q (append_assoc before (s ∷ []) ss) h

at_front : (P : List Segment → Segment → Cause → Type 0) (n : ℕ) (before : List Segment) (s : Segment) (ss : List Segment) (c : Cause) → Picks (Some c) (P before s)
    → (j : ℕ) (t : Segment) (d : Cause) → slice_get (s ∷ ss) j ≡ Some t → P (before ++ take j (s ∷ ss)) t d → IsUpTo n c (n + j) d
at_front P n before s ss c p zero t d e h = inr (omega arith, p.1 d (here P before s t d e h))
at_front P n before s ss c p (suc j) t d e h = inl (omega arith)

step : (P : List Segment → Segment → Cause → Type 0) (n : ℕ) (before : List Segment) (s : Segment) (ss : List Segment) (r : Option Cause) (later : Option (ℕ × Cause))
    → Picks r (P before s) → Found (n + 1) (before ++ s ∷ []) ss P later → Found n before (s ∷ ss) P (or_later n r later)
step P n before s ss (Some c) later p f =
    let Q : List Segment → Type 0 = λ b. P b s c in
    (record { place = 0; number = omega arith; segment = s; is_segment = refl; is_cause = subst Q (sym (append-nil before)) p.0 }, at_front P n before s ss c p)
step P n before s ss None None p f = go
  where
    go : (j : ℕ) (t : Segment) (c : Cause) → slice_get (s ∷ ss) j ≡ Some t → P (before ++ take j (s ∷ ss)) t c → ⊥
    go zero t c e h = p c (here P before s t c e h)
    go (suc j) t c e h = f j t c e (beyond P before s t (take j ss) c h)
step P n before s ss None (Some x) p f = (record { place = suc f.0.place; number = omega (arith, f.0.number); segment = f.0.segment; is_segment = f.0.is_segment; is_cause = back P before s f.0.segment (take f.0.place ss) x.1 f.0.is_cause }, go)
  where
    nearer : (j : ℕ) (d : Cause) → IsUpTo x.0 x.1 ((n + 1) + j) d → IsUpTo x.0 x.1 (n + suc j) d
    nearer j d (inl a) = inl (omega (arith, a))
    nearer j d (inr a) = inr (omega (arith, a.0), a.1)

    go : (j : ℕ) (t : Segment) (d : Cause) → slice_get (s ∷ ss) j ≡ Some t → P (before ++ take j (s ∷ ss)) t d → IsUpTo x.0 x.1 (n + j) d
    go zero t d e h = absurd (p d (here P before s t d e h))
    go (suc j) t d e h = nearer j d (f.1 j t d e (beyond P before s t (take j ss) d h))

pub found : (P : List Segment → Segment → Cause → Type 0) (pick : List Segment → Segment → Option Cause) → ((b : List Segment) (s : Segment) → Picks (pick b s) (P b s))
    → (n : ℕ) (before xs : List Segment) → Found n before xs P (scan pick n before xs)
found P pick h n before [] = λ j s c e k. none≢some e
found P pick h n before (s ∷ ss) = step P n before s ss (pick before s) (scan pick (n + 1) (before ++ s ∷ []) ss) (h before s) (found P pick h (n + 1) (before ++ s ∷ []) ss)

-- ## The causes in a group

abbrev pub EachOf : (Cause → Type 0) → List Cause → Type 0
EachOf P [] = Unit {0}
EachOf P (c ∷ cs) = P c × EachOf P cs

-- the causes go by number
abbrev pub IsRising : List Cause → Type 0
IsRising [] = Unit {0}
IsRising (c ∷ cs) = EachOf (λ d. number c ≤ number d) cs × IsRising cs

abbrev pub Tells : (Cause → Bool) → List Cause → Option Cause → Type 0
Tells t cs None = EachOf (λ d. t d ≡ true → ⊥) cs
Tells t cs (Some c) = (t c ≡ true) × EachOf (λ d. t d ≡ true → number c ≤ number d) cs

weaker : (t : Cause → Bool) (c : Cause) (cs : List Cause) → EachOf (λ d. number c ≤ number d) cs → EachOf (λ d. t d ≡ true → number c ≤ number d) cs
weaker t c [] h = tt
weaker t c (d ∷ cs) h = (λ _. h.0, weaker t c cs h.1)

tells : (t : Cause → Bool) (cs : List Cause) → IsRising cs → Tells t cs (find t cs)
tells t [] h = tt
tells t (c ∷ cs) h = go (t c) refl (find t cs) (tells t cs h.1)
  where
    go : (b : Bool) → t c ≡ b → (r : Option Cause) → Tells t cs r → Tells t (c ∷ cs) (cond b (Some c) r)
    go true e r k = (e, (λ _. omega arith, weaker t c cs h.0))
    go false e None k = (λ e'. false≢true (sym e ∙ e'), k)
    go false e (Some d) k = (k.0, (λ e'. absurd (false≢true (sym e ∙ e')), k.1))

rising : IsRising group_causes
rising = search arith

-- what holds of each cause in a group holds of each that is shown
shown : (P : Cause → Type 0) (p : Prior) (s : Segment) → EachOf P group_causes → (d : Cause) → shows p s d ≡ true → P d
shown P p s h BadCell e = h.0
shown P p s h AgencyLeftOut e = h.1.0
shown P p s h TwoContainers e = h.1.1.0
shown P p s h BreakbulkLeftOut e = h.1.1.1.0
shown P p s h NoId e = h.1.1.1.1.0
shown P p s h NameTooLong e = h.1.1.1.1.1.0
shown P p s h LengthLeftOut e = h.1.1.1.1.1.1.0
shown P p s h UnitLeftOut e = h.1.1.1.1.1.1.1.0
shown P p s h BadWeight e = h.1.1.1.1.1.1.1.1.0
shown P p s h NoWeightOrPort e = h.1.1.1.1.1.1.1.1.1.0
shown P p s h NotBaplie e = absurd (false≢true e)
shown P p s h ManyMessages e = absurd (false≢true e)
shown P p s h NoUnt e = absurd (false≢true e)
shown P p s h BadCount e = absurd (false≢true e)
shown P p s h (CountWrong said other) e = absurd (false≢true e)
shown P p s h ReferenceWrong e = absurd (false≢true e)

picks-told : (p : Prior) (s : Segment) (r : Option Cause) → Tells (shows p s) group_causes r → Picks r (λ c. shows p s c ≡ true)
picks-told p s None h = λ c e. shown (λ d. shows p s d ≡ true → ⊥) p s h c e e
picks-told p s (Some c) h = (h.0, λ d e. shown (λ x. shows p s x ≡ true → number c ≤ number x) p s h.1 d e e)

abbrev pub Shows : List Segment → List Segment → Segment → Cause → Type 0
Shows group before s c = shows (prior group before) s c ≡ true

picks-group : (group before : List Segment) (s : Segment) → Picks (group_cause group before s) (Shows group before s)
picks-group group before s = picks-told (prior group before) s (group_cause group before s) (tells (shows (prior group before) s) group_causes rising)

-- ## The groups

abbrev pub GroupsFound : List (ℕ × List Segment) → Option (ℕ × Cause) → Type 0
GroupsFound listed None = (m : ℕ) (c : Cause) → IsInGroup listed m c → ⊥
GroupsFound listed (Some x) = IsInGroup listed x.0 x.1 × ((m : ℕ) (d : Cause) → IsInGroup listed m d → IsUpTo x.0 x.1 m d)

-- in the first group, or in one of the others
abbrev pub IsHere : ℕ → List Segment → ℕ → Cause → Type 0
IsHere n g m c = (j : ℕ) × (s : Segment) × (m ≡ n + j) × (slice_get g j ≡ Some s) × Shows g (take j g) s c

place_of : (listed : List (ℕ × List Segment)) (n : ℕ) (g : List Segment) (m : ℕ) (c : Cause) (index first : ℕ) (group : List Segment) → slice_get ((n, g) ∷ listed) index ≡ Some (first, group)
    → (place : ℕ) → m ≡ first + place → (s : Segment) → slice_get group place ≡ Some s → Shows group (take place group) s c → IsHere n g m c ⊎ IsInGroup listed m c
place_of listed n g m c zero first group e place k s is h =
    let same : ◌≡◌ {A = ℕ × List Segment} (n, g) (first, group) = some-same e in
    let numbers : n ≡ first = ap (λ (p : ℕ × List Segment). p.0) same in
    let lists : group ≡ g = sym (ap (λ (p : ℕ × List Segment). p.1) same) in
    let Q : List Segment → Type 0 = λ x. slice_get x place ≡ Some s in
    let R : List Segment → Type 0 = λ x. Shows x (take place x) s c in
    inl (place, s, omega (arith, k, numbers), subst Q lists is, subst R lists h)
place_of listed n g m c (suc index) first group e place k s is h =
    inr (record { index = index; first = first; group = group; is_group = e; place = place; number = k; segment = s; is_segment = is; is_cause = h })

split : (listed : List (ℕ × List Segment)) (n : ℕ) (g : List Segment) (m : ℕ) (c : Cause) → IsInGroup ((n, g) ∷ listed) m c → IsHere n g m c ⊎ IsInGroup listed m c
split listed n g m c i = place_of listed n g m c i.index i.first i.group i.is_group i.place i.number i.segment i.is_segment i.is_cause

in-first : (listed : List (ℕ × List Segment)) (n : ℕ) (g : List Segment) (m : ℕ) (c : Cause) → Hit n [] g (Shows g) m c → IsInGroup ((n, g) ∷ listed) m c
in-first listed n g m c h = record { index = 0; first = n; group = g; is_group = refl; place = h.place; number = h.number; segment = h.segment; is_segment = h.is_segment; is_cause = h.is_cause }

in-later : (listed : List (ℕ × List Segment)) (n : ℕ) (g : List Segment) (m : ℕ) (c : Cause) → IsInGroup listed m c → IsInGroup ((n, g) ∷ listed) m c
in-later listed n g m c i = record { index = suc i.index; first = i.first; group = i.group; is_group = i.is_group; place = i.place; number = i.number; segment = i.segment; is_segment = i.is_segment; is_cause = i.is_cause }

within : (xs : List Segment) (j : ℕ) (s : Segment) → slice_get xs j ≡ Some s → j < length xs
within [] j s e = absurd (none≢some e)
within (x ∷ xs) zero s e = omega arith
within (x ∷ xs) (suc j) s e = omega (arith, within xs j s e)

abbrev pub total : List (List Segment) → ℕ
total [] = 0
total (g ∷ gs) = length g + total gs

-- the causes of groups from number n on stand from n on, and before the end of the groups
in_range : (n : ℕ) (gs : List (List Segment)) (m : ℕ) (c : Cause) → IsInGroup (numbered n gs) m c → (n ≤ m) × (m < n + total gs)
in_range n [] m c i = absurd (none≢some i.is_group)
in_range n (g ∷ gs) m c i = go (split (numbered (n + length g) gs) n g m c i) (in_range (n + length g) gs m c)
  where
    go : IsHere n g m c ⊎ IsInGroup (numbered (n + length g) gs) m c → (IsInGroup (numbered (n + length g) gs) m c → (n + length g ≤ m) × (m < (n + length g) + total gs)) → (n ≤ m) × (m < n + (length g + total gs))
    go (inl h) k =
        let w = within g h.0 h.1 h.3 in
        (omega (arith, h.2), omega (arith, h.2, w))
    go (inr h) k =
        let b = k h in
        (omega (arith, b.0), omega (arith, b.1))

before_all : (n : ℕ) (g : List Segment) (gs : List (List Segment)) (x : ℕ × Cause) → Found n [] g (Shows g) (Some x) → (m : ℕ) (d : Cause) → IsHere n g m d ⊎ IsInGroup (numbered (n + length g) gs) m d → IsUpTo x.0 x.1 m d
before_all n g gs x f m d (inl h) =
    let Q : ℕ → Type 0 = λ k. IsUpTo x.0 x.1 k d in
    subst Q (sym h.2) (f.1 h.0 h.1 d h.3 h.4)
before_all n g gs x f m d (inr h) =
    let w = within g f.0.place f.0.segment f.0.is_segment in
    let b = in_range (n + length g) gs m d h in
    inl (omega (arith, f.0.number, w, b.0))

none_here : (n : ℕ) (g : List Segment) → Found n [] g (Shows g) None → (m : ℕ) (c : Cause) → IsHere n g m c → ⊥
none_here n g f m c h = f h.0 h.1 c h.3 h.4

groups_found : (n : ℕ) (gs : List (List Segment)) → GroupsFound (numbered n gs) (groups_fault n gs)
groups_found n [] = λ m c i. none≢some i.is_group
groups_found n (g ∷ gs) = go (scan (group_cause g) n [] g) (groups_fault (n + length g) gs) (found (Shows g) (group_cause g) (picks-group g) n [] g) (groups_found (n + length g) gs)
  where
    go : (r later : Option (ℕ × Cause)) → Found n [] g (Shows g) r → GroupsFound (numbered (n + length g) gs) later → GroupsFound ((n, g) ∷ numbered (n + length g) gs) (option_or r later)
    go (Some x) later f k = (in-first (numbered (n + length g) gs) n g x.0 x.1 f.0, λ m d i. before_all n g gs x f m d (split (numbered (n + length g) gs) n g m d i))
    go None None f k = λ m c i. elim (split (numbered (n + length g) gs) n g m c i) [ inl h ↦ none_here n g f m c h | inr h ↦ k m c h ]
    go None (Some x) f k = (in-later (numbered (n + length g) gs) n g x.0 x.1 k.0, λ m d i. elim (split (numbered (n + length g) gs) n g m d i) [ inl h ↦ absurd (none_here n g f m d h) | inr h ↦ k.1 m d h ])

-- ## The end

-- what a cause at the end comes to, over what is looked at
abbrev pub EndCause : Bool → Bool → Bool → Option ℕ → ℕ → Bool → Cause → Type 0
EndCause after unz unt count counts same ManyMessages = (after ≡ true) × (unz ≡ false)
EndCause after unz unt count counts same NoUnt = (after ≡ false) × (unz ≡ true)
EndCause after unz unt count counts same BadCount = ((unt || unz) ≡ true) × (count ≡ None)
EndCause after unz unt count counts same (CountWrong said other) = ((unt || unz) ≡ true) × (count ≡ Some said) × (other ≡ counts) × (said ≡ other → ⊥)
EndCause after unz unt count counts same ReferenceWrong = ((unt || unz) ≡ true) × (same ≡ false)
EndCause after unz unt count counts same NotBaplie = ⊥
EndCause after unz unt count counts same BadCell = ⊥
EndCause after unz unt count counts same AgencyLeftOut = ⊥
EndCause after unz unt count counts same TwoContainers = ⊥
EndCause after unz unt count counts same BreakbulkLeftOut = ⊥
EndCause after unz unt count counts same NoId = ⊥
EndCause after unz unt count counts same NameTooLong = ⊥
EndCause after unz unt count counts same LengthLeftOut = ⊥
EndCause after unz unt count counts same UnitLeftOut = ⊥
EndCause after unz unt count counts same BadWeight = ⊥
EndCause after unz unt count counts same NoWeightOrPort = ⊥

-- nothing comes before a second message
many : (unt : Bool) (count : Option ℕ) (counts : ℕ) (same : Bool) (d : Cause) → EndCause true false unt count counts same d → 2 ≤ number d
many unt count counts same NotBaplie h = absurd h
many unt count counts same d h = omega arith

no_unt : (unt : Bool) (count : Option ℕ) (counts : ℕ) (same : Bool) (d : Cause) → EndCause false true unt count counts same d → 3 ≤ number d
no_unt unt count counts same NotBaplie h = absurd h
no_unt unt count counts same ManyMessages h = absurd (false≢true h.0)
no_unt unt count counts same d h = omega arith

-- the segments whose count and reference are looked at
abbrev pub IsRepeating : Bool → Bool → Bool → Type 0
IsRepeating after unz unt = (after ≡ unz) × ((unt || unz) ≡ true)

true≢false : true ≡ false → ⊥
true≢false e = cc

ruled_out : (after unz unt : Bool) (count : Option ℕ) (counts : ℕ) (same : Bool) → IsRepeating after unz unt → (d : Cause) → EndCause after unz unt count counts same d → 14 ≤ number d
ruled_out after unz unt count counts same r NotBaplie h = absurd h
ruled_out after unz unt count counts same r ManyMessages h = absurd (true≢false (sym h.0 ∙ r.0 ∙ h.1))
ruled_out after unz unt count counts same r NoUnt h = absurd (false≢true (sym h.0 ∙ r.0 ∙ h.1))
ruled_out after unz unt count counts same r BadCell h = absurd h
ruled_out after unz unt count counts same r AgencyLeftOut h = absurd h
ruled_out after unz unt count counts same r TwoContainers h = absurd h
ruled_out after unz unt count counts same r BreakbulkLeftOut h = absurd h
ruled_out after unz unt count counts same r NoId h = absurd h
ruled_out after unz unt count counts same r NameTooLong h = absurd h
ruled_out after unz unt count counts same r LengthLeftOut h = absurd h
ruled_out after unz unt count counts same r UnitLeftOut h = absurd h
ruled_out after unz unt count counts same r BadWeight h = absurd h
ruled_out after unz unt count counts same r NoWeightOrPort h = absurd h
ruled_out after unz unt count counts same r BadCount h = omega arith
ruled_out after unz unt count counts same r (CountWrong said other) h = omega arith
ruled_out after unz unt count counts same r ReferenceWrong h = omega arith

-- with a count that can be read, no fault is below 15; with the right one, none is below 16
readable : (after unz unt : Bool) (said counts : ℕ) (same : Bool) → IsRepeating after unz unt → (d : Cause) → EndCause after unz unt (Some said) counts same d → 15 ≤ number d
readable after unz unt said counts same r BadCount h = absurd (none≢some (sym h.1))
readable after unz unt said counts same r d h = omega (arith, ruled_out after unz unt (Some said) counts same r d h)

right : (after unz unt : Bool) (said counts : ℕ) (same : Bool) → said ≡ counts → IsRepeating after unz unt → (d : Cause) → EndCause after unz unt (Some said) counts same d → 16 ≤ number d
right after unz unt said counts same e r BadCount h = absurd (none≢some (sym h.1))
right after unz unt said counts same e r (CountWrong x other) h = absurd (h.3 (sym (some-same h.1) ∙ e ∙ sym h.2))
right after unz unt said counts same e r ReferenceWrong h = omega arith
right after unz unt said counts same e r d h = omega (arith, ruled_out after unz unt (Some said) counts same r d h)

repeated : (after unz unt : Bool) (count : Option ℕ) (counts : ℕ) (same : Bool) → IsRepeating after unz unt → Picks (option_or (count_cause counts count) (reference_cause same)) (EndCause after unz unt count counts same)
repeated after unz unt None counts same r = ((r.1, refl), ruled_out after unz unt None counts same r)
repeated after unz unt (Some said) counts same r = go (said == counts) refl same
  where
    go : (t : Bool) → (said == counts) ≡ t → (same : Bool) → Picks (option_or (cond t None (Some (CountWrong said counts))) (reference_cause same)) (EndCause after unz unt (Some said) counts same)
    go false e same = ((r.1, refl, refl, eqb-false said counts e), readable after unz unt said counts same r)
    go true e false = ((r.1, refl), right after unz unt said counts false (eqb-true said counts e) r)
    go true e true = λ d h. no_more d h (right after unz unt said counts true (eqb-true said counts e) r d h)
      where
        no_more : (d : Cause) → EndCause after unz unt (Some said) counts true d → 16 ≤ number d → ⊥
        no_more ReferenceWrong h k = true≢false h.1
        no_more d h k = omega (arith, k)

nothing : (count : Option ℕ) (counts : ℕ) (same : Bool) (d : Cause) → EndCause false false false count counts same d → ⊥
nothing count counts same ManyMessages h = false≢true h.0
nothing count counts same NoUnt h = false≢true h.1
nothing count counts same BadCount h = false≢true h.0
nothing count counts same (CountWrong said other) h = false≢true h.0
nothing count counts same ReferenceWrong h = false≢true h.0
nothing count counts same d h = h

picks-least : (after unz unt : Bool) (count : Option ℕ) (counts : ℕ) (same : Bool) → Picks (least_of after unz unt count counts same) (EndCause after unz unt count counts same)
picks-least true false unt count counts same = ((refl, refl), many unt count counts same)
picks-least false true unt count counts same = ((refl, refl), no_unt unt count counts same)
picks-least false false false count counts same = nothing count counts same
picks-least true true true count counts same = repeated true true true count counts same (refl, refl)
picks-least true true false count counts same = repeated true true false count counts same (refl, refl)
picks-least false false true count counts same = repeated false false true count counts same (refl, refl)

-- an IsEndCause by what is looked at
end_to : (segments before : List Segment) (s : Segment) (d : Cause) → IsEndCause segments before s d → EndCause (list_any is_unt before) (is_unz s) (is_unt s) (count_of (element s 1)) (counted (length before + 2) s) (same_element (element s 2) (referred segments s)) d
end_to segments before s ManyMessages h = h
end_to segments before s NoUnt h = h
end_to segments before s BadCount h = h
end_to segments before s (CountWrong said other) h = h
end_to segments before s ReferenceWrong h = h
end_to segments before s d h = h

end_from : (segments before : List Segment) (s : Segment) (d : Cause) → EndCause (list_any is_unt before) (is_unz s) (is_unt s) (count_of (element s 1)) (counted (length before + 2) s) (same_element (element s 2) (referred segments s)) d → IsEndCause segments before s d
end_from segments before s ManyMessages h = h
end_from segments before s NoUnt h = h
end_from segments before s BadCount h = h
end_from segments before s (CountWrong said other) h = h
end_from segments before s ReferenceWrong h = h
end_from segments before s d h = h

picks-end : (segments before : List Segment) (s : Segment) → Picks (end_cause segments before s) (IsEndCause segments before s)
picks-end segments before s = go (end_cause segments before s) (picks-least (list_any is_unt before) (is_unz s) (is_unt s) (count_of (element s 1)) (counted (length before + 2) s) (same_element (element s 2) (referred segments s)))
  where
    go : (r : Option Cause) → Picks r (EndCause (list_any is_unt before) (is_unz s) (is_unt s) (count_of (element s 1)) (counted (length before + 2) s) (same_element (element s 2) (referred segments s))) → Picks r (IsEndCause segments before s)
    go None h = λ c k. h c (end_to segments before s c k)
    go (Some c) h = (end_from segments before s c h.0, λ d k. h.1 d (end_to segments before s d k))

abbrev pub EndFound : List Segment → Option (ℕ × Cause) → Type 0
EndFound segments None = (m : ℕ) (c : Cause) → IsAtEnd segments m c → ⊥
EndFound segments (Some x) = IsAtEnd segments x.0 x.1 × ((m : ℕ) (d : Cause) → IsAtEnd segments m d → IsUpTo x.0 x.1 m d)

end_found : (segments : List Segment) (r : Option (ℕ × Cause)) → Found 3 [] (rest segments) (IsEndCause segments) r → EndFound segments r
end_found segments None f = λ m c i. f i.place i.segment c i.is_segment i.is_cause
end_found segments (Some x) f = (record { place = f.0.place; number = f.0.number; segment = f.0.segment; is_segment = f.0.is_segment; is_cause = f.0.is_cause }, go)
  where
    go : (m : ℕ) (d : Cause) → IsAtEnd segments m d → IsUpTo x.0 x.1 m d
    go m d i =
        let Q : ℕ → Type 0 = λ k. IsUpTo x.0 x.1 k d in
        subst Q (sym i.number) (f.1 i.place i.segment d i.is_segment i.is_cause)

-- ## Groups come before the end

or-right : (p q : Bool) → q ≡ true → (p || q) ≡ true
or-right true q e = refl
or-right false q e = e

or-left : (p q : Bool) → p ≡ true → (p || q) ≡ true
or-left true q e = refl
or-left false q e = absurd (false≢true e)

-- a cause at the end closes the groups, or stands behind what does
closing : (segments before : List Segment) (s : Segment) (d : Cause) → IsEndCause segments before s d → (closes s ≡ true) ⊎ (list_any is_unt before ≡ true)
closing segments before s ManyMessages h = inr h.0
closing segments before s NoUnt h = inl (or-right (is_unt s) (is_unz s) h.1)
closing segments before s BadCount h = inl h.0
closing segments before s (CountWrong said other) h = inl h.0
closing segments before s ReferenceWrong h = inl h.0
closing segments before s d h = absurd h

first_at : (xs : List Segment) (j : ℕ) (s : Segment) → slice_get xs j ≡ Some s → closes s ≡ true → position_or_len closes xs ≤ j
first_at [] j s e h = omega arith
first_at (x ∷ xs) zero s e h =
    let Q : Segment → Type 0 = λ y. closes y ≡ true in
    go (closes x) (subst Q (sym (some-same e)) h)
  where
    go : (t : Bool) → t ≡ true → cond (not t) (1 + position_or_len closes xs) 0 ≤ 0
    go true k = omega arith
    go false k = absurd (false≢true k)
first_at (x ∷ xs) (suc j) s e h = go (closes x) (first_at xs j s e h)
  where
    go : (t : Bool) → position_or_len closes xs ≤ j → cond (not t) (1 + position_or_len closes xs) 0 ≤ suc j
    go true k = omega arith
    go false k = omega (arith, k)

first_behind : (xs : List Segment) (j : ℕ) → list_any is_unt (take j xs) ≡ true → position_or_len closes xs ≤ j
first_behind [] j h = omega arith
first_behind (x ∷ xs) zero h = absurd (false≢true h)
first_behind (x ∷ xs) (suc j) h = go (is_unt x) (is_unz x) h (first_behind xs j)
  where
    go : (t u : Bool) → (t || list_any is_unt (take j xs)) ≡ true → (list_any is_unt (take j xs) ≡ true → position_or_len closes xs ≤ j) → cond (not (t || u)) (1 + position_or_len closes xs) 0 ≤ suc j
    go true u e k = omega arith
    go false true e k = omega arith
    go false false e k = omega (arith, k e)

length-take-most : (p : ℕ) (xs : List Segment) → length (take p xs) ≤ p
length-take-most zero xs = omega arith
length-take-most (suc p) [] = omega arith
length-take-most (suc p) (x ∷ xs) = omega (arith, length-take-most p xs)

length-parts : (xs : List Segment) → length (head xs) + total (groups xs) ≡ length xs
length-parts [] = refl
length-parts (x ∷ xs) = go (opens x) (length-parts xs)
  where
    go : (t : Bool) → length (head xs) + total (groups xs) ≡ length xs → length (cond t [] (x ∷ head xs)) + total (cond t ((x ∷ head xs) ∷ groups xs) (groups xs)) ≡ suc (length xs)
    go true h = omega (arith, h)
    go false h = omega (arith, h)

group_ends : (segments : List Segment) (m : ℕ) (c : Cause) → IsInGroup (numbered_groups segments) m c → (3 ≤ m) × (m < 3 + length (body segments))
group_ends segments m c i =
    let r = in_range (3 + length (head (body segments))) (groups (body segments)) m c i in
    (omega (arith, r.0), omega (arith, r.1, length-parts (body segments)))

end_begins : (segments : List Segment) (m : ℕ) (c : Cause) → IsAtEnd segments m c → 3 + length (body segments) ≤ m
end_begins segments m c i = go (closing segments (take i.place (rest segments)) i.segment c i.is_cause)
  where
    short : length (body segments) ≤ position_or_len closes (rest segments)
    short = length-take-most (position_or_len closes (rest segments)) (rest segments)

    go : (closes i.segment ≡ true) ⊎ (list_any is_unt (take i.place (rest segments)) ≡ true) → 3 + length (body segments) ≤ m
    go (inl h) = omega (arith, i.number, short, first_at (rest segments) i.place i.segment i.is_segment h)
    go (inr h) = omega (arith, i.number, short, first_behind (rest segments) i.place h)

-- ## The whole list

-- what is found is the least fault, or there is none
abbrev pub Outcome : List Segment → Option (ℕ × Cause) → Type 0
Outcome segments None = (n : ℕ) (c : Cause) → HasCause segments n c → ⊥
Outcome segments (Some x) = IsLeastFault segments x.0 x.1

one_least : (d : Cause) → 1 ≤ number d
one_least NotBaplie = omega arith
one_least d = omega arith

titled : (segments : List Segment) → is_titled (slice_get segments 1) ≡ true → (n : ℕ) (c : Cause) → IsUntitled segments n c → ⊥
titled segments e n c i = true≢false (sym e ∙ i.untitled)

untitled_least : (segments : List Segment) (m : ℕ) (d : Cause) → HasCause segments m d → IsUpTo 2 NotBaplie m d
untitled_least segments m d (inl i) = inr (sym i.number, one_least d)
untitled_least segments m d (inr (inl i)) = inl (omega (arith, (group_ends segments m d i).0))
untitled_least segments m d (inr (inr i)) = inl (omega (arith, i.number))

behind_title : (segments : List Segment) → is_titled (slice_get segments 1) ≡ true → (r later : Option (ℕ × Cause)) → GroupsFound (numbered_groups segments) r → EndFound segments later → Outcome segments (option_or r later)
behind_title segments e (Some x) later f k = record { has = inr (inl f.0); least = go }
  where
    go : (m : ℕ) (d : Cause) → HasCause segments m d → IsUpTo x.0 x.1 m d
    go m d (inl i) = absurd (titled segments e m d i)
    go m d (inr (inl i)) = f.1 m d i
    go m d (inr (inr i)) = inl (omega (arith, (group_ends segments x.0 x.1 f.0).1, end_begins segments m d i))
behind_title segments e None (Some x) f k = record { has = inr (inr k.0); least = go }
  where
    go : (m : ℕ) (d : Cause) → HasCause segments m d → IsUpTo x.0 x.1 m d
    go m d (inl i) = absurd (titled segments e m d i)
    go m d (inr (inl i)) = absurd (f m d i)
    go m d (inr (inr i)) = k.1 m d i
behind_title segments e None None f k = go
  where
    go : (m : ℕ) (d : Cause) → HasCause segments m d → ⊥
    go m d (inl i) = titled segments e m d i
    go m d (inr (inl i)) = f m d i
    go m d (inr (inr i)) = k m d i

pub outcome : (segments : List Segment) → Outcome segments (first_fault segments)
outcome segments = go (is_titled (slice_get segments 1)) refl
  where
    go : (t : Bool) → is_titled (slice_get segments 1) ≡ t → Outcome segments (cond t (first_behind_title segments) (Some (2, NotBaplie)))
    go false e = record { has = inl (record { number = refl; kind = refl; untitled = e }); least = untitled_least segments }
    go true e = behind_title segments e (groups_fault (3 + length (head (body segments))) (groups (body segments))) (scan (end_cause segments) 3 [] (rest segments)) (groups_found (3 + length (head (body segments))) (groups (body segments))) (end_found segments (scan (end_cause segments) 3 [] (rest segments)) (found (IsEndCause segments) (end_cause segments) (picks-end segments) 3 [] (rest segments)))
