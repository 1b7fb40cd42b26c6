-- The departure file of a call is the text of a message that can be written.
use Rattle.std.proofs.Common.{◌≡◌, ℕ, ◌+◌, ◌^◌, ◌≤◌, ◌<◌, List, ◌∷◌, ◌++◌, length, length-append, map, codes, refl, ap, ◌∙◌, arith}
use Rattle.std.proofs.lemmas.List.Elements.{All-cons, All-append}
use Rattle.std.specs.Prelude.{All}
use Rattle.std.specs.List.{list_any}
use Rattle.edifact_segments.specs.ReadBack.{IsWritable}
use Rattle.edifact_segments.specs.declared.segments.Segment.{Segment}
use Rattle.stow_data.specs.Shipment.{Cargo}
use Rattle.bookings.specs.declared.shipment.Bookings.{Bookings}
use Rattle.baplie.specs.declared.parts.CellGroup.{CellGroup}
use Rattle.baplie.specs.Faults as faults
use Rattle.baplie.specs.Finding.{groups_fault}
use Rattle.baplie.specs.Groups.{cell_group}
use Rattle.baplie.specs.Segments.{closes}
use Rattle.baplie.specs.Messages.{IsMessageOf}
use Rattle.plan_files.specs.DepartureFile as file
use Rattle.plan_files.specs.DepartureFile.{port_of, file_text, message_of}
use Rattle.plan_files.specs.DepartureSegments.{unb, unh, bgm, dtm, tdt, loc}
use Rattle.baplie.specs.Whole.{IsWhole, content, segments_of}
use Rattle.baplie.proofs.Built.{AreParts, read_by_parts}
use Rattle.baplie.proofs.WrittenParts.{interchange}
use Rattle.plan_files.proofs.Good.{AllGood, joined, all_told, groups_quiet, groups-writable, head-groups, groups-groups, open-groups}
use Rattle.plan_files.proofs.Texts.{IsText, IsDate, closed}
use Rattle.plan_files.proofs.Writable.{all_writable, writable-unb, writable-unh, writable-bgm, writable-dtm, writable-tdt, writable-loc}

-- ## The head

-- none of the six opens a group, and none closes
front-head : (cargo : Cargo) (bookings : Bookings) (call : ℕ) (xs : List Segment) → faults.head (file.head cargo bookings call ++ xs) ≡ file.head cargo bookings call ++ faults.head xs
unfolding file.head bgm dtm tdt loc
front-head cargo bookings call xs = refl

front-groups : (cargo : Cargo) (bookings : Bookings) (call : ℕ) (xs : List Segment) → faults.groups (file.head cargo bookings call ++ xs) ≡ faults.groups xs
unfolding file.head bgm dtm tdt loc
front-groups cargo bookings call xs = refl

front-open : (cargo : Cargo) (bookings : Bookings) (call : ℕ) (xs : List Segment) → list_any closes (file.head cargo bookings call ++ xs) ≡ list_any closes xs
unfolding file.head bgm dtm tdt loc
front-open cargo bookings call xs = refl

-- ## The message

-- what the head of a departure file is made of
pub record IsBookedHead (cargo : Cargo) (bookings : Bookings) (call : ℕ) : Type 0 where
  pub dated : IsDate bookings.date
  pub sender : IsText 35 bookings.sender
  pub recipient : IsText 35 bookings.recipient
  pub voyage : IsText 35 bookings.voyage
  pub vessel : IsText 35 bookings.vessel
  pub here : IsText 35 (port_of cargo call)
  pub next : IsText 35 (port_of cargo (call + 1))
  pub small : call < 2 ^ 64

front-writable : (cargo : Cargo) (bookings : Bookings) (call : ℕ) → IsBookedHead cargo bookings call → All IsWritable (file.head cargo bookings call)
unfolding file.head
front-writable cargo bookings call h = all_writable (file.head cargo bookings call) (
  writable-bgm call h.small,
  (
    writable-dtm (codes "137") bookings.date (closed (codes "137") refl) h.dated.calm,
    (
      writable-tdt bookings.voyage bookings.vessel h.voyage h.vessel,
      (
        writable-loc (codes "5") (port_of cargo call) (omega arith) (closed (codes "5") refl) h.here.calm,
        (
          writable-loc (codes "61") (port_of cargo (call + 1)) (omega arith) (closed (codes "61") refl) h.next.calm,
          (writable-dtm (codes "133") bookings.date (closed (codes "133") refl) h.dated.calm, tt),
        ),
      ),
    ),
  ),
)

are_parts : (cargo : Cargo) (bookings : Bookings) (call : ℕ) (gs : List CellGroup) → IsBookedHead cargo bookings call → AllGood gs → length (joined gs) ≤ 2 ^ 29 + 24000 → AreParts (message_of cargo bookings call gs)
unfolding unh file.head
are_parts cargo bookings call gs h p few =
    let head : faults.head (content (message_of cargo bookings call gs)) ≡ file.head cargo bookings call = front-head cargo bookings call (joined gs) ∙ ap (λ xs. file.head cargo bookings call ++ xs) (head-groups gs p) in
    let groups : faults.groups (content (message_of cargo bookings call gs)) ≡ map (λ (g : CellGroup). g.segments) gs = front-groups cargo bookings call (joined gs) ∙ groups-groups gs p in
    record {
      titled = refl;
      open_content = front-open cargo bookings call (joined gs) ∙ open-groups gs p;
      head_is = head;
      groups_are = ap (λ xs. map cell_group xs) groups ∙ all_told gs p;
      faultless_groups = ap (λ xs. groups_fault (3 + length (faults.head (content (message_of cargo bookings call gs)))) xs) groups ∙ groups_quiet gs (3 + length (faults.head (content (message_of cargo bookings call gs)))) p;
      few = omega (arith, length-append (file.head cargo bookings call) (joined gs));
      canonical_title = writable-unh.1;
      canonical_service = (writable-unb bookings call h.dated h.sender h.recipient h.small).1;
    }

pub is_whole : (cargo : Cargo) (bookings : Bookings) (call : ℕ) (gs : List CellGroup) → IsBookedHead cargo bookings call → AllGood gs → length (joined gs) ≤ 2 ^ 29 + 24000 → IsWhole (message_of cargo bookings call gs)
unfolding unb
is_whole cargo bookings call gs h p few =
    let all : All IsWritable (content (message_of cargo bookings call gs)) = All-append IsWritable (file.head cargo bookings call) (joined gs) (front-writable cargo bookings call h) (groups-writable gs p) in
    record {
      headed = refl;
      writable = All-cons IsWritable (unb bookings call) (unh ∷ content (message_of cargo bookings call gs)) (writable-unb bookings call h.dated h.sender h.recipient h.small) (All-cons IsWritable unh (content (message_of cargo bookings call gs)) writable-unh all);
      read = read_by_parts (message_of cargo bookings call gs) (are_parts cargo bookings call gs h p few);
    }

pub reads_as : (cargo : Cargo) (bookings : Bookings) (call : ℕ) (gs : List CellGroup) → IsWhole (message_of cargo bookings call gs) → IsMessageOf (file_text cargo bookings call gs) (message_of cargo bookings call gs)
unfolding file_text
reads_as cargo bookings call gs w =
    let m = message_of cargo bookings call gs in
    record { segments = segments_of m; interchange = interchange m w.headed w.writable w.read.faultless; is_message = w.read }
