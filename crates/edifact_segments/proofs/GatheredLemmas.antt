-- Segments whose elements stand in one list, as the list grows.
use Rattle.std.proofs.Common.{◌≡◌, ℕ, suc, ◌-◌, ◌<◌, ◌≤◌, List, [], ◌∷◌, ◌++◌, length, take, drop, get_or, slice_range, refl, sym, ap, ◌∙◌, arith, append_assoc, length-append}
use Rattle.std.proofs.lemmas.List.{map_push}
use Rattle.edifact_segments.specs.declared.gathered.Part.{Part}
use Rattle.edifact_segments.specs.declared.segments.Segment.{Segment}
use Rattle.edifact_segments.specs.Elements.{segment}
use Rattle.edifact_segments.specs.Gathered.{segment_of, segments_of, AreWithin}
use Rattle.edifact_segments.proofs.PieceLemmas.{range-append, range-append_last}

pub within-at : (ps : List Part) (n i : ℕ) (d : Part) → AreWithin ps n → i < length ps → ((get_or ps i d).from ≤ (get_or ps i d).to) × ((get_or ps i d).to ≤ n)
within-at [] n i d a h = absurd (omega arith)
within-at (p ∷ ps) n ℕ.zero d a h = (a.0, a.1)
within-at (p ∷ ps) n (suc i) d a h = within-at ps n i d a.2 (omega arith)

pub within-more : (ps : List Part) (n m : ℕ) → AreWithin ps n → n ≤ m → AreWithin ps m
within-more [] n m a h = tt
within-more (p ∷ ps) n m a h = (a.0, omega (arith, a.1, h), within-more ps n m a.2 h)

pub within-push : (ps : List Part) (p : Part) (n m : ℕ) → AreWithin ps n → n ≤ m → p.from ≤ p.to → p.to ≤ m → AreWithin (ps ++ p ∷ []) m
within-push [] p n m a h o w = (o, w, tt)
within-push (q ∷ ps) p n m a h o w = (a.0, omega (arith, a.1, h), within-push ps p n m a.2 h o w)

-- what is put behind the elements changes no segment
grown : (es ys : List (List (List ℕ))) (ps : List Part) → AreWithin ps (length es) → segments_of (es ++ ys) ps ≡ segments_of es ps
grown es ys [] a = refl
grown es ys (p ∷ ps) a =
    ap (λ x. segment p.tag x ∷ segments_of (es ++ ys) ps) (range-append es ys p.from p.to a.0 a.1) ∙ ap (λ x. segment p.tag (slice_range es p.from p.to) ∷ x) (grown es ys ps a.2)

whole : (es ys : List (List (List ℕ))) → slice_range (es ++ ys) (length es) (length (es ++ ys)) ≡ ys
whole es ys =
    let none : length es - length es ≡ 0 = omega arith in
    range-append_last es ys (length es) (omega arith) ∙ ap (λ k. take k (drop (length es) es) ++ ys) none

module _ (closed : List Segment) (es : List (List (List ℕ))) (ps : List Part) (now : List Segment) (shown : closed ++ segments_of es ps ≡ now) (within : AreWithin ps (length es)) where
  -- a segment more, whose elements are put behind the others
  pub shown-more : (es' ys : List (List (List ℕ))) (ps' : List Part) (p : Part) → es' ≡ es ++ ys → ps' ≡ ps ++ p ∷ [] → p.from ≡ length es → p.to ≡ length es' → closed ++ segments_of es' ps' ≡ now ++ segment p.tag ys ∷ []
  shown-more es' ys ps' p e ep ef et =
      let own : slice_range es' p.from p.to ≡ ys = ap (λ n. slice_range es' n p.to) ef ∙ ap (λ n. slice_range es' (length es) n) et ∙ ap (λ x. slice_range x (length es) (length x)) e ∙ whole es ys in
      let before : segments_of es' ps ≡ segments_of es ps = ap (λ x. segments_of x ps) e ∙ grown es ys ps within in
      ap (λ x. closed ++ segments_of es' x) ep ∙ ap (λ x. closed ++ x) (map_push (segment_of es') ps p ∙ ap (λ x. x ++ segment_of es' p ∷ []) before ∙ ap (λ x. segments_of es ps ++ segment p.tag x ∷ []) own) ∙ sym (append_assoc closed (segments_of es ps) (segment p.tag ys ∷ [])) ∙ ap (λ x. x ++ segment p.tag ys ∷ []) shown

  pub within-after : (es' ys : List (List (List ℕ))) (ps' : List Part) (p : Part) → es' ≡ es ++ ys → ps' ≡ ps ++ p ∷ [] → p.from ≡ length es → p.to ≡ length es' → AreWithin ps' (length es')
  within-after es' ys ps' p e ep ef et =
      let more : length es ≤ length es' = rw (e, length-append es ys) (omega arith) in
      rw ep (within-push ps p (length es) (length es') within more (omega (arith, ef, et, more)) (omega (arith, et)))
