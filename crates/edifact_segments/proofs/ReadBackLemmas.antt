-- What is written reads back.
use Rattle.std.proofs.Common.{◌≡◌, ℕ, Bool, true, false, ◌==◌, cond, List, [], ◌∷◌, ◌++◌, map, refl, sym, ap, ◌∙◌, subst, arith, append_assoc, inr}
use Rattle.std.specs.List.{flat_map}
use Rattle.std.proofs.lemmas.Bool.{eqb-false}
use Rattle.std.proofs.lemmas.Bool.Decides.{nat_tests}
use Rattle.edifact_segments.specs.Canonical.{trimmed, canonical}
use Rattle.edifact_segments.specs.Characters.{Character, Plain, Released, is_control, is_release, spelling, AreCharacters, IsCharacter, with_byte, elements_of, default_service}
use Rattle.edifact_segments.specs.Grammar.{is_capital, IsGap, TakesSegment, HasUna, Begins, IsInterchange, unz, unb, IsHeaded}
use Rattle.edifact_segments.specs.ReadBack.{IsPrintable, IsPrintableElement, ArePrintable, IsWritable, AreWritable}
use Rattle.edifact_segments.specs.Written.{is_service, written_elements, written}
use Rattle.edifact_segments.specs.declared.segments.Segment.{Segment}
use Rattle.edifact_segments.proofs.CanonicalLemmas.{canonical-canonical}
use Rattle.edifact_segments.proofs.Determined.{character, characters, element_characters, shown, spelling-characters, elements_of-characters, map-trimmed-shown, none_of}

are-append : (xs ys : List Character) → AreCharacters default_service xs → AreCharacters default_service ys → AreCharacters default_service (xs ++ ys)
are-append [] ys f g = g
are-append (x ∷ xs) ys f g = (f.0, are-append xs ys f.1 g)

are-text : (t : List ℕ) → IsPrintable t → AreCharacters default_service (map character t)
are-text [] h = tt
are-text (b ∷ bs) h = go (is_service b) refl (are-text bs h.1)
  where
    go : (t : Bool) → is_service b ≡ t → AreCharacters default_service (map character bs) → AreCharacters default_service (cond t (Released b) (Plain b) ∷ map character bs)
    go true e rest = ((h.0, refl), rest)
    go false e rest =
        let no = none_of (b == 58) (b == 43) (b == 63) (b == 39) e in
        ((h.0, rw no.2 refl, no.3), rest)

are-element : (e : List (List ℕ)) → IsPrintableElement e → AreCharacters default_service (element_characters e)
are-element [] h = tt
are-element (c ∷ []) h = are-text c h.0
are-element (c ∷ d ∷ cs) h = are-append (map character c) (Plain 58 ∷ element_characters (d ∷ cs)) (are-text c h.0) ((refl, refl, refl), are-element (d ∷ cs) h.1)

are-elements : (es : List (List (List ℕ))) → ArePrintable es → AreCharacters default_service (characters es)
are-elements [] h = tt
are-elements (e ∷ es) h = ((refl, refl, refl), are-append (element_characters e) (characters es) (are-element e h.0) (are-elements es h.1))

module _ (a : ℕ) (k : is_capital a ≡ true) where
  capital_calm : is_control a ≡ false
  capital_calm = grind (arith, nat_tests)

  capital_plain : is_release default_service a ≡ false
  capital_plain = grind (arith, nat_tests)

  capital_open : (a == 39) ≡ false
  capital_open = grind (arith, nat_tests)

  capital_element : (a == 43) ≡ false
  capital_element = grind (arith, nat_tests)

  capital_component : (a == 58) ≡ false
  capital_component = grind (arith, nat_tests)

  capital_character : IsCharacter default_service (Plain a)
  capital_character = (capital_calm, capital_plain, capital_open)

  capital_first : (cs : List Character) → elements_of default_service (Plain a ∷ cs) ≡ with_byte a (elements_of default_service cs)
  capital_first cs = rw (capital_element, capital_component) refl

takes_written : (gap tail : List ℕ) (x : Segment) → IsGap gap → IsWritable x → TakesSegment default_service (gap ++ (written x ++ tail)) x (10 ∷ tail)
takes_written gap tail x g w = (cs, (gap, ap (λ y. gap ++ y) text, g, are), (map shown es, whole, w.0, same))
  where
    a : ℕ
    a = w.0.0

    b : ℕ
    b = w.0.1

    c : ℕ
    c = w.0.2

    es : List (List (List ℕ))
    es = canonical x.elements

    cs : List Character
    cs = Plain a ∷ Plain b ∷ Plain c ∷ characters es

    text : written x ++ tail ≡ spelling default_service cs ++ 39 ∷ 10 ∷ tail
    text = append_assoc (x.tag ++ written_elements es) (39 ∷ 10 ∷ []) tail ∙ ap (λ t. t ++ written_elements es ++ 39 ∷ 10 ∷ tail) w.0.3 ∙ ap (λ t. (a ∷ b ∷ c ∷ t) ++ 39 ∷ 10 ∷ tail) (sym (spelling-characters es))

    printable : ArePrintable es
    printable = let P : List (List (List ℕ)) → Type 0 = λ z. ArePrintable z in subst P (sym w.1) w.2

    are : AreCharacters default_service cs
    are = (capital_character a w.0.4, (capital_character b w.0.5, (capital_character c w.0.6, are-elements es printable)))

    whole : elements_of default_service cs ≡ (x.tag ∷ []) ∷ map shown es
    whole = capital_first a w.0.4 (Plain b ∷ Plain c ∷ characters es) ∙ ap (with_byte a) (capital_first b w.0.5 (Plain c ∷ characters es)) ∙ ap (λ z. with_byte a (with_byte b z)) (capital_first c w.0.6 (characters es) ∙ ap (with_byte c) (elements_of-characters es)) ∙ ap (λ t. (t ∷ []) ∷ map shown es) (sym w.0.3)

    same : x.elements ≡ canonical (map shown es)
    same = sym (ap trimmed (map-trimmed-shown es) ∙ canonical-canonical x.elements ∙ w.1)

begins_written : (gap tail : List ℕ) (segments : List Segment) → IsGap gap → AreWritable segments → (gap' : List ℕ) × Begins default_service (gap ++ (flat_map written segments ++ tail)) segments (gap' ++ tail) × IsGap gap'
begins_written gap tail [] g w = (gap, refl, g)
begins_written gap tail (x ∷ segments) g w = add (begins_written (10 ∷ []) tail segments (refl, tt) w.2)
  where
    regroup : gap ++ (flat_map written (x ∷ segments) ++ tail) ≡ gap ++ (written x ++ (flat_map written segments ++ tail))
    regroup = ap (λ t. gap ++ t) (append_assoc (written x) (flat_map written segments) tail)

    add : ((gap' : List ℕ) × Begins default_service (10 ∷ (flat_map written segments ++ tail)) segments (gap' ++ tail) × IsGap gap') → (gap' : List ℕ) × Begins default_service (gap ++ (flat_map written (x ∷ segments) ++ tail)) (x ∷ segments) (gap' ++ tail) × IsGap gap'
    add h =
        let P : List ℕ → Type 0 = λ t. TakesSegment default_service t x (10 ∷ (flat_map written segments ++ tail)) in
        (h.0, (10 ∷ (flat_map written segments ++ tail), subst P (sym regroup) (takes_written gap (flat_map written segments ++ tail) x g w.0), w.1, h.1), h.2)

not_una : (x : Segment) (rest : List ℕ) → x.tag ≡ unb → HasUna (written x ++ rest) → ⊥
not_una x rest e h =
    let t : written x ++ rest ≡ 85 ∷ 78 ∷ 66 ∷ (written_elements (canonical x.elements) ++ 39 ∷ 10 ∷ [] ++ rest) = ap (λ z. z ++ written_elements (canonical x.elements) ++ 39 ∷ 10 ∷ [] ++ rest) e in
    let eq : 66 ≡ 65 = third 66 65 _ _ (sym t ∙ h.1) in
    eqb-false 66 65 refl eq
  where
    third : (m n : ℕ) (xs ys : List ℕ) → 85 ∷ 78 ∷ m ∷ xs ≡ 85 ∷ 78 ∷ n ∷ ys → m ≡ n
    third m n xs ys e = cc

flat-append : (xs ys : List Segment) → flat_map written (xs ++ ys) ≡ flat_map written xs ++ flat_map written ys
flat-append [] ys = refl
flat-append (x ∷ xs) ys = ap (λ t. written x ++ t) (flat-append xs ys) ∙ sym (append_assoc (written x) (flat_map written xs) (flat_map written ys))

no_una : (before : List Segment) (last : Segment) → IsHeaded (before ++ last ∷ []) → HasUna (flat_map written (before ++ last ∷ [])) → ⊥
no_una [] last h u = not_una last [] h u
no_una (x ∷ before) last h u = not_una x (flat_map written (before ++ last ∷ [])) h u

pub reads_back : (before : List Segment) (last : Segment) → AreWritable before → IsWritable last → last.tag ≡ unz → IsHeaded (before ++ last ∷ []) → IsInterchange (flat_map written (before ++ last ∷ [])) (before ++ last ∷ [])
reads_back before last w v z h =
    let b = begins_written [] (written last ++ []) before tt w in
    let e : flat_map written (before ++ last ∷ []) ≡ flat_map written before ++ (written last ++ []) = flat-append before (last ∷ []) in
    let P : List ℕ → Type 0 = λ t. Begins default_service t before (b.0 ++ (written last ++ [])) in
    (before, last, 10 ∷ [], refl, (default_service, b.0 ++ (written last ++ []), (flat_map written (before ++ last ∷ []), inr (no_una before last h, refl, refl), subst P (sym e) b.1, headed before h), takes_written b.0 [] last b.2 v, z, h), (refl, tt))
  where
    headed : (xs : List Segment) → IsHeaded (xs ++ last ∷ []) → IsHeaded xs
    headed [] k = tt
    headed (x ∷ xs) k = k
