-- Each text is an interchange or has a fault.
use Rattle.std.proofs.Common.{◌≡◌, ◌≢◌, ℕ, suc, ◌+◌, ◌-◌, ◌<◌, ◌≤◌, Bool, true, false, ◌==◌, List, [], ◌∷◌, ◌++◌, length, refl, sym, ap, ◌∙◌, subst, arith, inl, inr, ◌⊎◌, length-append}
use Rattle.std.proofs.lemmas.Bool.{true≢false}
use Rattle.std.proofs.lemmas.Bool.Decides.{eqb_tells}
use Rattle.std.proofs.lemmas.List.{append-nil}
use Rattle.edifact_segments.specs.Canonical.{canonical}
use Rattle.edifact_segments.specs.Characters.{Character, spelling, elements_of, default_service}
use Rattle.edifact_segments.specs.Grammar.{IsService, are_marks, are_apart, is_gap_byte, IsGap, is_capital, IsTag, IsSegmentOf, HasNoTag, Completes, TakesSegment, HasUna, una, advice, Starts, Begins, IsInterchange, HasFault, unz, unb, IsHeaded}
use Rattle.edifact_segments.specs.Scanning.{skip, Front, Complete, Broken, Unended, front}
use Rattle.edifact_segments.specs.declared.faults.SegFault.{SegFault}
use Rattle.edifact_segments.specs.declared.faults.SegFault.TheVariants.{NoHeader, BadUna, Unterminated, ControlByte, BadTag, NoTrailer, Trailing}
use Rattle.edifact_segments.specs.declared.segments.Segment.{Segment}
use Rattle.edifact_segments.specs.declared.service.Service.{Service}
use Rattle.edifact_segments.proofs.GrammarLemmas.{skipped, skip-skip, no_gap, Tells, tells-front, begins-push, headed-push}

abbrev pub Read : List ℕ → Type 0
Read bytes = ((s : List Segment) × IsInterchange bytes s) ⊎ ((f : SegFault) × HasFault bytes f)

same_or_not : (xs ys : List ℕ) → (xs ≡ ys) ⊎ (xs ≢ ys)
same_or_not [] [] = inl refl
same_or_not [] (y ∷ ys) = inr (λ e. cc)
same_or_not (x ∷ xs) [] = inr (λ e. cc)
same_or_not (x ∷ xs) (y ∷ ys) = go (eqb_tells x y) (same_or_not xs ys)
  where
    go : (((x == y) ≡ true) × (x ≡ y)) ⊎ (((x == y) ≡ false) × (x ≢ y)) → (xs ≡ ys) ⊎ (xs ≢ ys) → (x ∷ xs ≡ y ∷ ys) ⊎ (x ∷ xs ≢ y ∷ ys)
    go (inl a) (inl b) = inl (let e : x ≡ y = a.1 in cc)
    go (inl a) (inr b) = inr (λ e. let f : xs ≡ ys = cc in b f)
    go (inr a) b = inr (λ e. let f : x ≡ y = cc in a.1 f)

true_or_not : (b : Bool) → (b ≡ true) ⊎ (b ≡ false)
true_or_not true = inl refl
true_or_not false = inr refl

first_of3 : (a b c x y z : ℕ) → a ∷ b ∷ c ∷ [] ≡ x ∷ y ∷ z ∷ [] → a ≡ x
first_of3 a b c x y z e = cc

second_of3 : (a b c x y z : ℕ) → a ∷ b ∷ c ∷ [] ≡ x ∷ y ∷ z ∷ [] → b ≡ y
second_of3 a b c x y z e = cc

third_of3 : (a b c x y z : ℕ) → a ∷ b ∷ c ∷ [] ≡ x ∷ y ∷ z ∷ [] → c ≡ z
third_of3 a b c x y z e = cc

capital : (a b c : ℕ) → (is_capital a ≡ true) ⊎ (is_capital a ≡ false) → (is_capital b ≡ true) ⊎ (is_capital b ≡ false) → (is_capital c ≡ true) ⊎ (is_capital c ≡ false) → IsTag (a ∷ b ∷ c ∷ []) ⊎ (IsTag (a ∷ b ∷ c ∷ []) → ⊥)
capital a b c (inl x) (inl y) (inl z) = inl (a, b, c, refl, x, y, z)
capital a b c (inr x) y z = inr (λ t. let e : a ≡ t.0 = first_of3 a b c t.0 t.1 t.2 t.3 in true≢false (sym (ap is_capital e ∙ t.4) ∙ x))
capital a b c (inl w) (inr x) z = inr (λ t. let e : b ≡ t.1 = second_of3 a b c t.0 t.1 t.2 t.3 in true≢false (sym (ap is_capital e ∙ t.5) ∙ x))
capital a b c (inl w) (inl v) (inr x) = inr (λ t. let e : c ≡ t.2 = third_of3 a b c t.0 t.1 t.2 t.3 in true≢false (sym (ap is_capital e ∙ t.6) ∙ x))

tag_or_not : (t : List ℕ) → IsTag t ⊎ (IsTag t → ⊥)
tag_or_not (a ∷ b ∷ c ∷ []) = capital a b c (true_or_not (is_capital a)) (true_or_not (is_capital b)) (true_or_not (is_capital c))
tag_or_not [] = inr (λ t. absurd (omega (arith, ap length t.3)))
tag_or_not (a ∷ []) = inr (λ t. absurd (omega (arith, ap length t.3)))
tag_or_not (a ∷ b ∷ []) = inr (λ t. absurd (omega (arith, ap length t.3)))
tag_or_not (a ∷ b ∷ c ∷ d ∷ ds) = inr (λ t. absurd (omega (arith, ap length t.3)))

segment_or_not : (s : Service) (cs : List Character) (es : List (List (List ℕ))) → elements_of s cs ≡ es → ((x : Segment) × IsSegmentOf (elements_of s cs) x) ⊎ HasNoTag s cs
segment_or_not s cs [] e = inr (λ x k. absurd (omega (arith, ap length (sym e ∙ k.1))))
segment_or_not s cs ([] ∷ es) e = inr (λ x k. let f : [] ∷ es ≡ (x.tag ∷ []) ∷ k.0 = sym e ∙ k.1 in cc)
segment_or_not s cs ((t ∷ u ∷ ts) ∷ es) e = inr (λ x k. let f : (t ∷ u ∷ ts) ∷ es ≡ (x.tag ∷ []) ∷ k.0 = sym e ∙ k.1 in cc)
segment_or_not s cs ((t ∷ []) ∷ es) e = go (tag_or_not t)
  where
    go : IsTag t ⊎ (IsTag t → ⊥) → ((x : Segment) × IsSegmentOf (elements_of s cs) x) ⊎ HasNoTag s cs
    go (inl k) = inl (record { tag = t; elements = canonical es }, (es, e, k, refl))
    go (inr n) = inr (λ x k. let f : (t ∷ []) ∷ es ≡ (x.tag ∷ []) ∷ k.0 = sym e ∙ k.1 in let g : x.tag ≡ t = cc in let P : List ℕ → Type 0 = λ z. IsTag z in n (subst P g k.2))

module _ (bytes : List ℕ) (s : Service) (text : List ℕ) (starts : Starts bytes s text) where
  -- what stands behind UNZ
  closed : (before : List Segment) (rest : List ℕ) (x : Segment) (next : List ℕ) → Begins s text before rest → IsHeaded before → (before ≡ [] → x.tag ≡ unb) → TakesSegment s rest x next → x.tag ≡ unz → length next ≤ length bytes → Read bytes
  closed before rest x next b h f t z le = go (skip next) refl
    where
      k : (gap : List ℕ) × (next ≡ gap ++ skip next) × IsGap gap
      k = skipped next

      go : (y : List ℕ) → skip next ≡ y → Read bytes
      go [] e =
          let P : List ℕ → Type 0 = λ w. IsGap w in
          let n : next ≡ k.0 = k.1 ∙ ap (λ w. k.0 ++ w) e ∙ append-nil k.0 in
          inl (before ++ x ∷ [], (before, x, next, refl, (s, rest, (text, starts, b, h), t, z, headed-push before x h f), subst P (sym n) k.2))
      go (c ∷ more) e =
          let n : next ≡ k.0 ++ c ∷ more = k.1 ∙ ap (λ w. k.0 ++ w) e in
          let plain : skip (c ∷ more) ≡ c ∷ more = sym (ap skip e) ∙ skip-skip next ∙ e in
          let P : List ℕ → Type 0 = λ w. TakesSegment s rest x w in
          let fit : length (c ∷ more) ≤ length bytes = omega (arith, le, ap length n, length-append k.0 (c ∷ more)) in
          inr (Trailing (length bytes - length (c ∷ more)), (before, x, k.0, c, more, (s, rest, (text, starts, b, h), subst P n t, z, headed-push before x h f), k.2, no_gap c more plain, omega (arith, fit)))

  -- how the reading goes on behind a segment
  abbrev Further : List ℕ → Type 0
  Further rest = (before : List Segment) (next : List ℕ) → Begins s text before next → IsHeaded before → length next < length rest → Read bytes

  -- a complete segment
  complete : (before : List Segment) (rest : List ℕ) (cs : List Character) (next : List ℕ) → Begins s text before rest → IsHeaded before → Completes s rest cs next → length rest ≤ length bytes → length next < length rest → Further rest → Read bytes
  complete before rest cs next b h co le lt more = tagged (segment_or_not s cs (elements_of s cs) refl)
    where
      trailer : (x : Segment) → IsSegmentOf (elements_of s cs) x → (before ≡ [] → x.tag ≡ unb) → (x.tag ≡ unz) ⊎ (x.tag ≢ unz) → Read bytes
      trailer x k f (inl z) = closed before rest x next b h f (cs, co, k) z (omega (arith, le, lt))
      trailer x k f (inr z) = more (before ++ x ∷ []) next (begins-push s text rest before x next b (cs, co, k) z) (headed-push before x h f) lt

      header : (x : Segment) → IsSegmentOf (elements_of s cs) x → (ys : List Segment) → before ≡ ys → (x.tag ≡ unb) ⊎ (x.tag ≢ unb) → Read bytes
      header x k ys e (inl u) = trailer x k (λ _. u) (same_or_not x.tag unz)
      header x k (y ∷ ys) e (inr u) = trailer x k (λ n. absurd (omega (arith, ap length (sym e ∙ n)))) (same_or_not x.tag unz)
      header x k [] e (inr u) =
          let P : List Segment → Type 0 = λ w. Begins s text w rest in
          let here : text ≡ rest = subst P e b in
          let Q : List ℕ → Type 0 = λ w. TakesSegment s w x next in
          inr (NoHeader, (s, text, starts, inr (x, next, subst Q (sym here) (cs, co, k), u)))

      tagged : ((x : Segment) × IsSegmentOf (elements_of s cs) x) ⊎ HasNoTag s cs → Read bytes
      tagged (inl w) = header w.0 w.1 before refl (same_or_not w.0.tag unb)
      tagged (inr n) = inr (BadTag (length before + 1), (s, before, rest, cs, next, (text, starts, b, h), co, n, refl))

  -- what stands from a place on
  step : (before : List Segment) (rest : List ℕ) → Begins s text before rest → IsHeaded before → length rest ≤ length bytes → Further rest → Read bytes
  step before rest b h le more = at_gap (skip rest) refl before refl
    where
      k : (gap : List ℕ) × (rest ≡ gap ++ skip rest) × IsGap gap
      k = skipped rest

      found : (c : ℕ) (cs : List ℕ) → skip rest ≡ c ∷ cs → (f : Front) → front s false (c ∷ cs) ≡ f → Tells s f (c ∷ cs) → Read bytes
      found c cs e Unended fe t =
          let r : rest ≡ k.0 ++ c ∷ cs = k.1 ∙ ap (λ w. k.0 ++ w) e in
          let P : List ℕ → Type 0 = λ w. Begins s text before w in
          let fit : length (c ∷ cs) ≤ length bytes = omega (arith, le, ap length r, length-append k.0 (c ∷ cs)) in
          inr (Unterminated (length bytes - length (c ∷ cs)), (s, before, k.0, c ∷ cs, (text, starts, subst P r b, h), k.2, t, omega arith, omega (arith, fit)))
      found c cs e (Broken left) fe t =
          let whole : c ∷ cs ≡ t.0 ++ t.1 ∷ t.2 = t.4 ∙ ap (λ w. t.0 ++ w) t.5 in
          let r : rest ≡ k.0 ++ (t.0 ++ t.1 ∷ t.2) = k.1 ∙ ap (λ w. k.0 ++ w) (e ∙ whole) in
          let P : List ℕ → Type 0 = λ w. Begins s text before w in
          let fit : length (t.1 ∷ t.2) ≤ length bytes = omega (arith, le, ap length r, length-append k.0 (t.0 ++ t.1 ∷ t.2), length-append t.0 (t.1 ∷ t.2)) in
          let plain : skip (c ∷ cs) ≡ c ∷ cs = sym (ap skip e) ∙ skip-skip rest ∙ e in
          inr (ControlByte (length bytes - length (t.1 ∷ t.2)), (s, before, k.0, t.0, t.1, t.2, (text, starts, subst P r b, h), k.2, t.3, t.6, (λ g n. at_front g (whole ∙ ap (λ w. w ++ t.1 ∷ t.2) n) plain), omega (arith, fit)))
        where
          at_front : is_gap_byte t.1 ≡ true → c ∷ cs ≡ t.1 ∷ t.2 → skip (c ∷ cs) ≡ c ∷ cs → ⊥
          at_front g w plain = true≢false (sym g ∙ no_gap t.1 t.2 (sym (ap skip w) ∙ plain ∙ w))
      found c cs e (Complete cs' next) fe t =
          let r : rest ≡ k.0 ++ (spelling s cs' ++ s.terminator ∷ next) = k.1 ∙ ap (λ w. k.0 ++ w) (e ∙ t.1) in
          let lt : length next < length rest = omega (arith, ap length r, length-append k.0 (spelling s cs' ++ s.terminator ∷ next), length-append (spelling s cs') (s.terminator ∷ next)) in
          complete before rest cs' next b h (k.0, r, k.2, t.0) le lt more

      at_gap : (y : List ℕ) → skip rest ≡ y → (ys : List Segment) → before ≡ ys → Read bytes
      at_gap [] e [] eb =
          let P : List Segment → Type 0 = λ w. Begins s text w rest in
          let here : text ≡ rest = subst P eb b in
          let Q : List ℕ → Type 0 = λ w. IsGap w in
          let n : text ≡ k.0 = here ∙ k.1 ∙ ap (λ w. k.0 ++ w) e ∙ append-nil k.0 in
          inr (NoHeader, (s, text, starts, inl (subst Q (sym n) k.2)))
      at_gap [] e (y ∷ ys) eb =
          let Q : List ℕ → Type 0 = λ w. IsGap w in
          let n : rest ≡ k.0 = k.1 ∙ ap (λ w. k.0 ++ w) e ∙ append-nil k.0 in
          let some : 0 < length before = omega (arith, ap length eb) in
          inr (NoTrailer (length before), (s, before, rest, (text, starts, b, h), subst Q (sym n) k.2, some, refl))
      at_gap (c ∷ cs) e ys eb = found c cs e (front s false (c ∷ cs)) refl (tells-front s (c ∷ cs) (front s false (c ∷ cs)) refl)

  walk : (fuel : ℕ) (before : List Segment) (rest : List ℕ) → Begins s text before rest → IsHeaded before → length rest ≤ length bytes → length rest < fuel → Read bytes
  walk ℕ.zero before rest b h le lt = absurd (omega arith)
  walk (suc n) before rest b h le lt = step before rest b h le (λ before' next b' h' shorter. walk n before' next b' h' (omega (arith, le, shorter)) (omega (arith, lt, shorter)))

una_or_not : (bytes : List ℕ) → HasUna bytes ⊎ (HasUna bytes → ⊥)
una_or_not [] = inr (λ h. absurd (omega (arith, ap length h.1)))
una_or_not (a ∷ []) = inr (λ h. absurd (omega (arith, ap length h.1)))
una_or_not (a ∷ b ∷ []) = inr (λ h. absurd (omega (arith, ap length h.1)))
una_or_not (a ∷ b ∷ c ∷ more) = go (same_or_not (a ∷ b ∷ c ∷ []) (85 ∷ 78 ∷ 65 ∷ []))
  where
    go : (a ∷ b ∷ c ∷ [] ≡ 85 ∷ 78 ∷ 65 ∷ []) ⊎ (a ∷ b ∷ c ∷ [] ≢ 85 ∷ 78 ∷ 65 ∷ []) → HasUna (a ∷ b ∷ c ∷ more) ⊎ (HasUna (a ∷ b ∷ c ∷ more) → ⊥)
    go (inl e) = inl (more, ap (λ x. x ++ more) e)
    go (inr n) = inr (λ h. n (heads h.0 h.1))
      where
        heads : (rest : List ℕ) → a ∷ b ∷ c ∷ more ≡ una rest → a ∷ b ∷ c ∷ [] ≡ 85 ∷ 78 ∷ 65 ∷ []
        heads rest e =
            let ea : a ≡ 85 = cc in
            let eb : b ≡ 78 = cc in
            let ec : c ≡ 65 = cc in
            cc

short_una : (bytes more : List ℕ) → bytes ≡ una more → length more < 6 → HasFault bytes BadUna
short_una bytes more e lt = ((more, e), no)
  where
    no : (s : Service) (t : List ℕ) → Starts bytes s t → ⊥
    no s t (inl a) = absurd (omega (arith, lt, ap length (sym e ∙ a.3)))
    no s t (inr b) = b.0 (more, e)

start : (bytes more : List ℕ) → bytes ≡ una more → ((s : Service) × (text : List ℕ) × Starts bytes s text) ⊎ HasFault bytes BadUna
start bytes [] e = inr (short_una bytes [] e (omega arith))
start bytes (a ∷ []) e = inr (short_una bytes (a ∷ []) e (omega arith))
start bytes (a ∷ b ∷ []) e = inr (short_una bytes (a ∷ b ∷ []) e (omega arith))
start bytes (a ∷ b ∷ c ∷ []) e = inr (short_una bytes (a ∷ b ∷ c ∷ []) e (omega arith))
start bytes (a ∷ b ∷ c ∷ d ∷ []) e = inr (short_una bytes (a ∷ b ∷ c ∷ d ∷ []) e (omega arith))
start bytes (a ∷ b ∷ c ∷ d ∷ f ∷ []) e = inr (short_una bytes (a ∷ b ∷ c ∷ d ∷ f ∷ []) e (omega arith))
start bytes (a ∷ b ∷ c ∷ d ∷ f ∷ g ∷ text) e = go (true_or_not (are_marks sv)) (true_or_not (are_apart sv))
  where
    sv : Service
    sv = record { component = a; element = b; release = d; terminator = g }

    same : (s : Service) (x y : ℕ) (t : List ℕ) → bytes ≡ una (advice s x y ++ t) → s ≡ sv
    same s x y t h =
        let q : una (advice s x y ++ t) ≡ una (a ∷ b ∷ c ∷ d ∷ f ∷ g ∷ text) = sym h ∙ e in
        let ea : s.component ≡ a = cc in
        let eb : s.element ≡ b = cc in
        let ed : s.release ≡ d = cc in
        let eg : s.terminator ≡ g = cc in
        let make : ℕ → ℕ → ℕ → ℕ → Service = λ k l m n. record { component = k; element = l; release = m; terminator = n } in
        ap (λ z. make z s.element s.release s.terminator) ea ∙ ap (λ z. make a z s.release s.terminator) eb ∙ ap (λ z. make a b z s.terminator) ed ∙ ap (make a b d) eg

    none : (IsService sv → ⊥) → (s : Service) (t : List ℕ) → Starts bytes s t → ⊥
    none n s t (inl w) = let P : Service → Type 0 = λ z. IsService z in n (subst P (same s w.1 w.2 t w.3) w.0)
    none n s t (inr w) = w.0 (a ∷ b ∷ c ∷ d ∷ f ∷ g ∷ text, e)

    go : (are_marks sv ≡ true) ⊎ (are_marks sv ≡ false) → (are_apart sv ≡ true) ⊎ (are_apart sv ≡ false) → ((s : Service) × (t : List ℕ) × Starts bytes s t) ⊎ HasFault bytes BadUna
    go (inl m) (inl p) = inl (sv, text, inl ((m, p), c, f, e))
    go (inr m) p = inr ((a ∷ b ∷ c ∷ d ∷ f ∷ g ∷ text, e), none (λ k. true≢false (sym k.0 ∙ m)))
    go (inl m) (inr p) = inr ((a ∷ b ∷ c ∷ d ∷ f ∷ g ∷ text, e), none (λ k. true≢false (sym k.1 ∙ p)))

shorter_text : (bytes : List ℕ) (s : Service) (text : List ℕ) → Starts bytes s text → length text ≤ length bytes
shorter_text bytes s text (inl a) = omega (arith, ap length a.3)
shorter_text bytes s text (inr b) = omega (arith, ap length b.2)

pub read_each : (bytes : List ℕ) → Read bytes
read_each bytes = go (una_or_not bytes)
  where
    from : (s : Service) (text : List ℕ) → Starts bytes s text → Read bytes
    from s text h = walk bytes s text h (suc (length text)) [] text refl tt (shorter_text bytes s text h) (omega arith)

    with_una : ((s : Service) × (text : List ℕ) × Starts bytes s text) ⊎ HasFault bytes BadUna → Read bytes
    with_una (inl w) = from w.0 w.1 w.2
    with_una (inr b) = inr (BadUna, b)

    go : HasUna bytes ⊎ (HasUna bytes → ⊥) → Read bytes
    go (inl u) = with_una (start bytes u.0 u.1)
    go (inr n) = from default_service bytes (inr (n, refl, refl))
