-- A text has one bay plan, or one fault.
use Rattle.std.proofs.Common.{◌≡◌, ◌≢◌, ℕ, List, refl, sym, ap, subst, ◌∙◌}
use Rattle.std.proofs.lemmas.Option.{same_Some}
use Rattle.edifact_segments.specs.declared.segments.Segment.{Segment}
use Rattle.edifact_segments.proofs.OneReading as reading
use Rattle.baplie.specs.declared.causes.Cause.{Cause}
use Rattle.baplie.specs.declared.parts.CellGroup.{CellGroup}
use Rattle.baplie.specs.declared.parts.Message.{Message}
use Rattle.baplie.specs.Messages.{IsMessage, IsMessageOf}
use Rattle.baplie.specs.Faults.{IsLeastFault}
use Rattle.baplie.proofs.Whole.{one, not_both}
use Rattle.baplie.specs.declared.faults.BaplieFault.{BaplieFault}
use Rattle.baplie.specs.declared.faults.BaplieFault.TheVariants.{Seg, At, NoMemory}
use Rattle.baplie.specs.Reading.{IsBaplieFault}

pub message_not_fault : (bytes : List ℕ) (message : Message) (fault : BaplieFault) → fault ≢ NoMemory → IsMessageOf bytes message → IsBaplieFault bytes fault → ⊥
message_not_fault bytes message (Seg e) named h k = reading.never_both bytes h.segments e h.interchange k
message_not_fault bytes message (At n cause) named h k =
    let e = reading.one_interchange bytes k.segments h.segments k.interchange h.interchange in
    not_both h.segments n cause (message, h.is_message) (subst (λ (s : List Segment). IsLeastFault s n cause) e k.is_fault)
message_not_fault bytes message NoMemory named h k = named refl

pub one_baplie_fault : (bytes : List ℕ) (f g : BaplieFault) → f ≢ NoMemory → g ≢ NoMemory → IsBaplieFault bytes f → IsBaplieFault bytes g → f ≡ g
one_baplie_fault bytes (Seg e) (Seg d) nf ng h k = ap (λ x. Seg x) (reading.one_fault bytes e d h k)
one_baplie_fault bytes (Seg e) (At n cause) nf ng h k = absurd (reading.never_both bytes k.segments e k.interchange h)
one_baplie_fault bytes (At n cause) (Seg e) nf ng h k = absurd (reading.never_both bytes h.segments e h.interchange k)
one_baplie_fault bytes (At n cause) (At m other) nf ng h k =
    let e = reading.one_interchange bytes h.segments k.segments h.interchange k.interchange in
    let same = one k.segments n m cause other (subst (λ (s : List Segment). IsLeastFault s n cause) e h.is_fault) k.is_fault in
    ap (λ (x : ℕ). At x cause) same.0 ∙ ap (λ (c : Cause). At m c) same.1
one_baplie_fault bytes NoMemory g nf ng h k = absurd (nf refl)
one_baplie_fault bytes (Seg e) NoMemory nf ng h k = absurd (ng refl)
one_baplie_fault bytes (At n cause) NoMemory nf ng h k = absurd (ng refl)

same_parts : (m n : Message) → m.service ≡ n.service → m.title ≡ n.title → m.head ≡ n.head → m.groups ≡ n.groups → m ≡ n
same_parts m n s t h g =
    let with_service : Segment → Message = λ x. record { service = x; title = m.title; head = m.head; groups = m.groups } in
    let with_title : Segment → Message = λ x. record { service = n.service; title = x; head = m.head; groups = m.groups } in
    let with_head : List Segment → Message = λ x. record { service = n.service; title = n.title; head = x; groups = m.groups } in
    let with_groups : List CellGroup → Message = λ x. record { service = n.service; title = n.title; head = n.head; groups = x } in
    ap with_service s ∙ (ap with_title t ∙ (ap with_head h ∙ ap with_groups g))

of_segments : (segments : List Segment) (m n : Message) → IsMessage segments m → IsMessage segments n → m ≡ n
of_segments segments m n h k = same_parts m n
    (same_Some m.service n.service (sym h.service ∙ k.service))
    (same_Some m.title n.title (sym h.title ∙ k.title))
    (h.head ∙ sym k.head)
    (h.groups ∙ sym k.groups)

pub one_message : (bytes : List ℕ) (m n : Message) → IsMessageOf bytes m → IsMessageOf bytes n → m ≡ n
one_message bytes m n h k =
    let e = reading.one_interchange bytes h.segments k.segments h.interchange k.interchange in
    of_segments k.segments m n (subst (λ (s : List Segment). IsMessage s m) e h.is_message) k.is_message
