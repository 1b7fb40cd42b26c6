-- The group of a booked container tells it, and is read without a fault.
use Rattle.std.proofs.Common.{◌≡◌, ℕ, ◌≤◌, Bool, true, false, cond, List, [], ◌∷◌, ◌++◌, length, codes, ℤ, Option, Some, None, IfSome, refl, ap, ◌∙◌, arith}
use Rattle.std.specs.Prelude.{All, find, is_some, unwrap_or}
use Rattle.std.specs.List.{list_any}
use Rattle.edifact_segments.specs.ReadBack.{IsWritable}
use Rattle.edifact_segments.specs.declared.segments.Segment.{Segment}
use Rattle.bookings.specs.declared.shipment.Booking.{Booking}
use Rattle.baplie.specs.Groups.{cell_group, cell_in, class_from, class_in, facts_from, is_long, long_of_bay, name_of, text_in, weight_in}
use Rattle.baplie.specs.Segments.{closes, element, is_container, is_cooled, is_one, names_port, opens}
use Rattle.stow_data.specs.Types.{length_of_type}
use Rattle.baplie.specs.Texts.{cell_of}
use Rattle.baplie.specs.declared.parts.CellGroup.{CellGroup}
use Rattle.baplie.proofs.CellDigits.{cell-known}
use Rattle.plan_files.specs.DepartureFile.{Group, group_segments, cell_group_of}
use Rattle.plan_files.specs.DepartureSegments.{loc, cell_text, cell_segment, mea, tmp, temperature_segments, rff, eqd, dgs, goods_segments}
use Rattle.plan_files.proofs.Good.{IsGood}
use Rattle.plan_files.proofs.Known.{weight-known}
use Rattle.plan_files.proofs.Quiet.{IsBookedGroup, group_quiet, not_long, parts}
use Rattle.plan_files.proofs.Texts.{IsText, closed}
use Rattle.plan_files.proofs.Writable.{EachWritable, all_writable, writable-append, writable-loc, writable-cell, writable-mea, writable-temperature, writable-rff, writable-eqd, writable-goods}

named : (t : List ℕ) → is_long t ≡ false → name_of t ≡ t
named t h = ap (λ x. cond x [] t) h

-- ## What a group tells

found-container : (cell : ℕ × ℕ × ℕ) (vgm : Bool) (kg : ℕ) (t : Option ℤ) (load port id iso : List ℕ) (empty : Bool) (class : Option (List ℕ)) (unno : ℕ) → find is_container (parts cell vgm kg t load port id iso empty class unno) ≡ Some (eqd id iso empty)
unfolding cell_segment mea tmp loc rff eqd
found-container cell vgm kg None load port id iso empty class unno = refl
found-container cell vgm kg (Some z) load port id iso empty class unno = refl

-- the verified weight, or the other one where none is verified
found-weight : (cell : ℕ × ℕ × ℕ) (vgm : Bool) (kg : ℕ) (t : Option ℤ) (load port id iso : List ℕ) (empty : Bool) (class : Option (List ℕ)) (unno : ℕ) → kg ≤ 99999 → weight_in (parts cell vgm kg t load port id iso empty class unno) ≡ kg
unfolding cell_segment mea tmp loc rff eqd dgs
found-weight cell true kg t load port id iso empty class unno h = ap (λ o. unwrap_or o 0) (weight-known kg h)
found-weight cell false kg None load port id iso empty None unno h = ap (λ o. unwrap_or o 0) (weight-known kg h)
found-weight cell false kg None load port id iso empty (Some c) unno h = ap (λ o. unwrap_or o 0) (weight-known kg h)
found-weight cell false kg (Some z) load port id iso empty None unno h = ap (λ o. unwrap_or o 0) (weight-known kg h)
found-weight cell false kg (Some z) load port id iso empty (Some c) unno h = ap (λ o. unwrap_or o 0) (weight-known kg h)

-- a reefer has a temperature
found-reefer : (cell : ℕ × ℕ × ℕ) (vgm : Bool) (kg : ℕ) (t : Option ℤ) (load port id iso : List ℕ) (empty : Bool) (class : Option (List ℕ)) (unno : ℕ) → list_any is_cooled (parts cell vgm kg t load port id iso empty class unno) ≡ is_some t
unfolding cell_segment mea tmp loc rff eqd dgs
found-reefer cell vgm kg (Some z) load port id iso empty class unno = refl
found-reefer cell vgm kg None load port id iso empty None unno = refl
found-reefer cell vgm kg None load port id iso empty (Some c) unno = refl

classed : (c : List ℕ) → IsText 8 c → class_from (name_of c) ≡ Some c
classed [] k = absurd (omega (arith, k.some))
classed (b ∷ bs) k = ap class_from (named (b ∷ bs) (not_long 8 (b ∷ bs) (omega arith) k))

found-class : (cell : ℕ × ℕ × ℕ) (vgm : Bool) (kg : ℕ) (t : Option ℤ) (load port id iso : List ℕ) (empty : Bool) (class : Option (List ℕ)) (unno : ℕ) → IfSome class (IsText 8) → class_in (parts cell vgm kg t load port id iso empty class unno) ≡ class
unfolding cell_segment mea tmp loc rff eqd dgs
found-class cell vgm kg None load port id iso empty None unno h = refl
found-class cell vgm kg (Some z) load port id iso empty None unno h = refl
found-class cell vgm kg None load port id iso empty (Some c) unno h = classed c h
found-class cell vgm kg (Some z) load port id iso empty (Some c) unno h = classed c h

found-port : (cell : ℕ × ℕ × ℕ) (vgm : Bool) (kg : ℕ) (t : Option ℤ) (load port id iso : List ℕ) (empty : Bool) (class : Option (List ℕ)) (unno : ℕ) → IsText 35 port → name_of (text_in (find names_port (parts cell vgm kg t load port id iso empty class unno)) 2 1) ≡ port
unfolding cell_segment mea tmp loc rff eqd
found-port cell vgm kg t load [] id iso empty class unno k = absurd (omega (arith, k.some))
found-port cell vgm kg None load (b ∷ bs) id iso empty class unno k = named (b ∷ bs) (not_long 35 (b ∷ bs) (omega arith) k)
found-port cell vgm kg (Some z) load (b ∷ bs) id iso empty class unno k = named (b ∷ bs) (not_long 35 (b ∷ bs) (omega arith) k)

found-empty : (id iso : List ℕ) (empty : Bool) → is_one (element (eqd id iso empty) 6) (codes "4") ≡ empty
unfolding eqd
found-empty id iso true = refl
found-empty id iso false = refl

pub told : (g : Group) → IsBookedGroup g → cell_group (group_segments g) ≡ cell_group_of g
unfolding group_segments cell_segment eqd
told g p = ap with_container (found-container number b.vgm g.kg b.temperature g.load_port g.cell.port g.cell.id b.iso b.empty b.class b.unno) ∙ (λ i. record {
  bay = (cell i).0;
  row = (cell i).1;
  tier = (cell i).2;
  facts = Some (record { id = id i; iso = iso i; long = long i; empty = empty i; kg = kg i; reefer = reefer i; class = class i; dest = dest i });
  segments = group_segments g;
})
  where
    b : Booking
    b = g.booking

    number : ℕ × ℕ × ℕ
    number = (g.cell.bay, g.cell.row, g.cell.tier)

    whole : List Segment
    whole = parts number b.vgm g.kg b.temperature g.load_port g.cell.port g.cell.id b.iso b.empty b.class b.unno

    with_container : Option Segment → CellGroup
    with_container o = record { bay = (cell_in whole).0; row = (cell_in whole).1; tier = (cell_in whole).2; facts = facts_from whole o; segments = whole }

    cell : unwrap_or (cell_of (cell_text number)) (0, 0, 0) ≡ number
    cell = ap (λ o. unwrap_or o (0, 0, 0)) (cell-known g.cell.bay g.cell.row g.cell.tier p.bay p.row p.tier)

    id : name_of g.cell.id ≡ g.cell.id
    id = named g.cell.id (not_long 17 g.cell.id (omega arith) p.identified)

    iso : name_of b.iso ≡ b.iso
    iso = named b.iso (not_long 10 b.iso (omega arith) p.typed)

    long : unwrap_or (length_of_type b.iso) (long_of_bay (unwrap_or (cell_of (cell_text number)) (0, 0, 0)).0) ≡ b.long
    long = ap (λ o. unwrap_or o (long_of_bay (unwrap_or (cell_of (cell_text number)) (0, 0, 0)).0)) p.long

    empty : is_one (element (eqd g.cell.id b.iso b.empty) 6) (codes "4") ≡ b.empty
    empty = found-empty g.cell.id b.iso b.empty

    kg : weight_in whole ≡ g.kg
    kg = found-weight number b.vgm g.kg b.temperature g.load_port g.cell.port g.cell.id b.iso b.empty b.class b.unno p.kg

    reefer : list_any is_cooled whole ≡ is_some b.temperature
    reefer = found-reefer number b.vgm g.kg b.temperature g.load_port g.cell.port g.cell.id b.iso b.empty b.class b.unno

    class : class_in whole ≡ b.class
    class = found-class number b.vgm g.kg b.temperature g.load_port g.cell.port g.cell.id b.iso b.empty b.class b.unno p.classed

    dest : name_of (text_in (find names_port whole) 2 1) ≡ g.cell.port
    dest = found-port number b.vgm g.kg b.temperature g.load_port g.cell.port g.cell.id b.iso b.empty b.class b.unno p.discharged

-- ## The segments behind the first

-- the segments of a group behind the first
abbrev behind : Bool → ℕ → Option ℤ → List ℕ → List ℕ → List ℕ → List ℕ → Bool → Option (List ℕ) → ℕ → List Segment
behind vgm kg t load port id iso empty class unno = mea vgm kg ∷ (temperature_segments t ++ (loc (codes "9") load ∷ loc (codes "11") port ∷ rff ∷ eqd id iso empty ∷ goods_segments class unno))

abbrev others : Group → List Segment
others g = behind g.booking.vgm g.kg g.booking.temperature g.load_port g.cell.port g.cell.id g.booking.iso g.booking.empty g.booking.class g.booking.unno

-- none of them opens a group, and none closes
none-opens : (vgm : Bool) (kg : ℕ) (t : Option ℤ) (load port id iso : List ℕ) (empty : Bool) (class : Option (List ℕ)) (unno : ℕ) → list_any opens (behind vgm kg t load port id iso empty class unno) ≡ false
unfolding mea tmp loc rff eqd dgs
none-opens vgm kg None load port id iso empty None unno = refl
none-opens vgm kg None load port id iso empty (Some c) unno = refl
none-opens vgm kg (Some z) load port id iso empty None unno = refl
none-opens vgm kg (Some z) load port id iso empty (Some c) unno = refl

none-closes : (vgm : Bool) (kg : ℕ) (t : Option ℤ) (load port id iso : List ℕ) (empty : Bool) (class : Option (List ℕ)) (unno : ℕ) → list_any closes (behind vgm kg t load port id iso empty class unno) ≡ false
unfolding mea tmp loc rff eqd dgs
none-closes vgm kg None load port id iso empty None unno = refl
none-closes vgm kg None load port id iso empty (Some c) unno = refl
none-closes vgm kg (Some z) load port id iso empty None unno = refl
none-closes vgm kg (Some z) load port id iso empty (Some c) unno = refl

-- there are at most seven
few-behind : (vgm : Bool) (kg : ℕ) (t : Option ℤ) (load port id iso : List ℕ) (empty : Bool) (class : Option (List ℕ)) (unno : ℕ) → length (behind vgm kg t load port id iso empty class unno) ≤ 7
few-behind vgm kg None load port id iso empty None unno = omega arith
few-behind vgm kg None load port id iso empty (Some c) unno = omega arith
few-behind vgm kg (Some z) load port id iso empty None unno = omega arith
few-behind vgm kg (Some z) load port id iso empty (Some c) unno = omega arith

group-writable : (g : Group) → IsBookedGroup g → All IsWritable (group_segments g)
unfolding group_segments
group-writable g p =
    let b = g.booking in
    let last : EachWritable (eqd g.cell.id b.iso b.empty ∷ goods_segments b.class b.unno) = (writable-eqd g.cell.id b.iso b.empty p.identified.some p.typed.some p.identified.calm p.typed.calm, writable-goods b.class b.unno p.classed) in
    let ports : EachWritable (loc (codes "9") g.load_port ∷ loc (codes "11") g.cell.port ∷ rff ∷ eqd g.cell.id b.iso b.empty ∷ goods_segments b.class b.unno) =
    (writable-loc (codes "9") g.load_port (omega arith) (closed (codes "9") refl) p.loaded.calm, (writable-loc (codes "11") g.cell.port (omega arith) (closed (codes "11") refl) p.discharged.calm, (writable-rff, last))) in
    all_writable (group_segments g) (
      writable-cell (g.cell.bay, g.cell.row, g.cell.tier),
      (writable-mea b.vgm g.kg (omega (arith, p.kg)), writable-append (temperature_segments b.temperature) _ (writable-temperature b.temperature p.temperature_from p.temperature_to) ports),
    )

-- a container of bookings in its cell
pub booked_good : (g : Group) → IsBookedGroup g → IsGood (cell_group_of g)
unfolding group_segments cell_segment
booked_good g p =
    let b = g.booking in
    record {
      cut = record {
        first = cell_segment (g.cell.bay, g.cell.row, g.cell.tier);
        others = others g;
        begins = refl;
        opening = refl;
        first_open = refl;
        shut = none-opens b.vgm g.kg b.temperature g.load_port g.cell.port g.cell.id b.iso b.empty b.class b.unno;
        open_end = none-closes b.vgm g.kg b.temperature g.load_port g.cell.port g.cell.id b.iso b.empty b.class b.unno;
        writable = group-writable g p;
      };
      told = told g p;
      quiet = λ n. group_quiet g n p;
    }

pub few_segments : (g : Group) → length (group_segments g) ≤ 8
unfolding group_segments
few_segments g =
    let b = g.booking in
    omega (arith, few-behind b.vgm g.kg b.temperature g.load_port g.cell.port g.cell.id b.iso b.empty b.class b.unno)
