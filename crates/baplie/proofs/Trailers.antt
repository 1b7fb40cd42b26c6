-- UNT and UNZ as they are written.
use Rattle.std.proofs.Common.{◌≡◌, ℕ, suc, ◌-◌, ◌<◌, List, [], ◌∷◌, ◌++◌, length, map, get_or, refl, sym, ap, ◌∙◌, arith}
use Rattle.std.specs.Fmt.{decimal}
use Rattle.edifact_segments.specs.Canonical.{in_front, trimmed, canonical}
use Rattle.edifact_segments.specs.ReadBack.{IsPrintable, IsPrintableElement, ArePrintable}
use Rattle.edifact_segments.specs.Written.{written, written_elements}
use Rattle.edifact_segments.specs.declared.segments.Segment.{Segment}
use Rattle.edifact_segments.proofs.CanonicalLemmas.{canonical-canonical, map-trimmed-canonical}
use Rattle.baplie.specs.Segments.{element}
use Rattle.baplie.specs.Whole.{trailer}

-- elements are written in canonical form
pub written-trailer : (tag : List ℕ) (count : ℕ) (reference : List (List ℕ)) → written (record { tag = tag; elements = (decimal count ∷ []) ∷ reference ∷ [] }) ≡ written (trailer tag count reference)
written-trailer tag count reference = ap (λ es. tag ++ written_elements es ++ 39 ∷ 10 ∷ []) (sym (canonical-canonical ((decimal count ∷ []) ∷ reference ∷ [])))

-- the same for a segment that is given by its parts
pub written-as_trailer : (s : Segment) (tag : List ℕ) (count : ℕ) (reference : List (List ℕ)) → s.tag ≡ tag → s.elements ≡ (decimal count ∷ []) ∷ reference ∷ [] → written s ≡ written (trailer tag count reference)
written-as_trailer s tag count reference t e = ap (λ u. u ++ written_elements (canonical s.elements) ++ 39 ∷ 10 ∷ []) t ∙ ap (λ es. tag ++ written_elements (canonical es) ++ 39 ∷ 10 ∷ []) e ∙ written-trailer tag count reference

-- ## Without control bytes

printable-front : (e : List (List ℕ)) (es : List (List (List ℕ))) → IsPrintableElement e → ArePrintable es → ArePrintable (in_front e es)
printable-front [] [] h k = tt
printable-front [] (e ∷ es) h k = (tt, k)
printable-front (c ∷ cs) es h k = (h, k)

printable_component-front : (c : List ℕ) (cs : List (List ℕ)) → IsPrintable c → IsPrintableElement cs → IsPrintableElement (in_front c cs)
printable_component-front [] [] h k = tt
printable_component-front [] (e ∷ es) h k = (tt, k)
printable_component-front (c ∷ cs) es h k = (h, k)

printable-trimmed : (e : List (List ℕ)) → IsPrintableElement e → IsPrintableElement (trimmed e)
printable-trimmed [] h = tt
printable-trimmed (c ∷ cs) h = printable_component-front c (trimmed cs) h.0 (printable-trimmed cs h.1)

pub printable-canonical : (es : List (List (List ℕ))) → ArePrintable es → ArePrintable (canonical es)
printable-canonical [] h = tt
printable-canonical (e ∷ es) h = printable-front (trimmed e) (canonical es) (printable-trimmed e h.0) (printable-canonical es h.1)

pub printable-at : (es : List (List (List ℕ))) (n : ℕ) → ArePrintable es → IsPrintableElement (get_or es n [])
printable-at [] n h = tt
printable-at (e ∷ es) ℕ.zero h = h.0
printable-at (e ∷ es) (suc n) h = printable-at es n h.1

-- ## The elements

-- an element of canonical elements is without empty components at its end
trimmed-at : (es : List (List (List ℕ))) (n : ℕ) → map trimmed es ≡ es → trimmed (get_or es n []) ≡ get_or es n []
trimmed-at [] n h = refl
trimmed-at (e ∷ es) ℕ.zero h = ap (λ ys. get_or ys 0 []) h
trimmed-at (e ∷ es) (suc n) h = trimmed-at es n (rest e es h)
  where
    rest : (e : List (List ℕ)) (es : List (List (List ℕ))) → trimmed e ∷ map trimmed es ≡ e ∷ es → map trimmed es ≡ es
    rest e es h = cc

pub trimmed-element : (s : Segment) (n : ℕ) → canonical s.elements ≡ s.elements → trimmed (element s n) ≡ element s n
trimmed-element s n h = trimmed-at s.elements (n - 1) (sym (ap (map trimmed) h) ∙ map-trimmed-canonical s.elements ∙ h)

-- a count has digits
pub record IsTrailer (s : Segment) (count : ℕ) (reference : List (List ℕ)) : Type 0 where
  pub counts : element s 1 ≡ decimal count ∷ []
  pub refers : element s 2 ≡ reference

trailed : (tag digits : List ℕ) (reference : List (List ℕ)) → 0 < length digits → trimmed reference ≡ reference → (get_or (canonical ((digits ∷ []) ∷ reference ∷ [])) 0 [] ≡ digits ∷ []) × (get_or (canonical ((digits ∷ []) ∷ reference ∷ [])) 1 [] ≡ reference)
trailed tag [] reference h t = absurd (omega arith)
trailed tag (d ∷ ds) reference h t = rw t (go reference)
  where
    go : (r : List (List ℕ)) → (get_or (((d ∷ ds) ∷ []) ∷ in_front r []) 0 [] ≡ (d ∷ ds) ∷ []) × (get_or (((d ∷ ds) ∷ []) ∷ in_front r []) 1 [] ≡ r)
    go [] = (refl, refl)
    go (c ∷ cs) = (refl, refl)

pub is_trailer : (tag : List ℕ) (count : ℕ) (reference : List (List ℕ)) → 0 < length (decimal count) → trimmed reference ≡ reference → IsTrailer (trailer tag count reference) count reference
is_trailer tag count reference h t =
    let p = trailed tag (decimal count) reference h t in
    record { counts = p.0; refers = p.1 }
