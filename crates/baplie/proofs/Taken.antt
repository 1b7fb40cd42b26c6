-- The segments of an interchange can be written.
use Rattle.std.proofs.Common.{◌≡◌, ℕ, ◌==◌, List, [], ◌∷◌, sym, ap, subst, ◌∙◌, cond, true, false, Bool}
use Rattle.std.proofs.lemmas.List.Elements.{All-nil, All-cons, All-append}
use Rattle.std.specs.Prelude.{All}
use Rattle.edifact_segments.specs.Canonical.{canonical}
use Rattle.edifact_segments.specs.Characters.{Character, Plain, Released, is_control, AreCharacters, with_byte, with_component, elements_of}
use Rattle.edifact_segments.specs.Grammar.{TakesSegment, Begins, IsInterchange, IsHeaded}
use Rattle.edifact_segments.specs.ReadBack.{ArePrintable, IsWritable}
use Rattle.edifact_segments.specs.declared.segments.Segment.{Segment}
use Rattle.edifact_segments.proofs.CanonicalLemmas.{canonical-canonical}
use Rattle.baplie.proofs.Trailers.{printable-canonical}

byte_in_front : (b : ℕ) (es : List (List (List ℕ))) → is_control b ≡ false → ArePrintable es → ArePrintable (with_byte b es)
byte_in_front b [] h k = k
byte_in_front b ([] ∷ es) h k = k
byte_in_front b ((t ∷ ts) ∷ es) h k = (((h, k.0.0), k.0.1), k.1)

component_in_front : (es : List (List (List ℕ))) → ArePrintable es → ArePrintable (with_component es)
component_in_front [] k = k
component_in_front (e ∷ es) k = ((tt, k.0), k.1)

-- characters have no control byte
printable : (service : _) (cs : List Character) → AreCharacters service cs → ArePrintable (elements_of service cs)
printable service [] h = ((tt, tt), tt)
printable service (Plain b ∷ cs) h = go (b == service.element) (b == service.component) (printable service cs h.1)
  where
    es : List (List (List ℕ))
    es = elements_of service cs

    go : (t u : Bool) → ArePrintable es → ArePrintable (cond t (([] ∷ []) ∷ es) (cond u (with_component es) (with_byte b es)))
    go true u k = ((tt, tt), k)
    go false true k = component_in_front es k
    go false false k = byte_in_front b es h.0.0 k
printable service (Released b ∷ cs) h = byte_in_front b (elements_of service cs) h.0.0 (printable service cs h.1)

taken : (service : _) (text : List ℕ) (s : Segment) (next : List ℕ) → TakesSegment service text s next → IsWritable s
taken service text s next h =
    let of = h.2 in
    let P : List (List (List ℕ)) → Type 0 = λ es. ArePrintable es in
    let all : ArePrintable ((s.tag ∷ []) ∷ of.0) = subst P of.1 (printable service h.0 h.1.3) in
    (of.2, ap canonical of.3 ∙ canonical-canonical of.0 ∙ sym of.3, subst P (sym of.3) (printable-canonical of.0 all.1))

begun : (service : _) (text : List ℕ) (before : List Segment) (rest : List ℕ) → Begins service text before rest → All IsWritable before
begun service text [] rest h = All-nil IsWritable
begun service text (s ∷ before) rest h = All-cons IsWritable s before (taken service text s h.0 h.1) (begun service h.0 before rest h.3)

pub interchange_writable : (bytes : List ℕ) (segments : List Segment) → IsInterchange bytes segments → All IsWritable segments
interchange_writable bytes segments h =
    let closes = h.4 in
    let reaches = closes.2 in
    let P : List Segment → Type 0 = λ xs. All IsWritable xs in
    subst P (sym h.3) (All-append IsWritable h.0 (h.1 ∷ []) (begun closes.0 reaches.0 h.0 closes.1 reaches.2) (All-cons IsWritable h.1 [] (taken closes.0 closes.1 h.1 h.2 closes.3) (All-nil IsWritable)))

pub interchange_headed : (bytes : List ℕ) (segments : List Segment) → IsInterchange bytes segments → IsHeaded segments
interchange_headed bytes segments h =
    let P : List Segment → Type 0 = λ xs. IsHeaded xs in
    subst P (sym h.3) h.4.5
