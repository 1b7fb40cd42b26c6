-- The segments of a group of a departure file are no fault.
use Rattle.std.proofs.Common.{◌≡◌, ℕ, suc, ◌+◌, ◌≤◌, ◌<◌, ◌==◌, Bool, true, false, List, [], ◌∷◌, ◌++◌, length, codes, ℤ, pos, negsuc, ◌≤ℤ◌, Option, Some, None, IfSome, refl, sym, ap, subst, ◌∙◌, arith}
use Rattle.std.proofs.lemmas.Bool.Decides.{nat_tests}
use Rattle.std.specs.Prelude.{find, is_none, nat_lt}
use Rattle.std.specs.List.{list_any}
use Rattle.edifact_segments.specs.declared.segments.Segment.{Segment}
use Rattle.stow_data.specs.declared.geometry.Length.{Length}
use Rattle.baplie.specs.declared.causes.Cause.{Cause}
use Rattle.baplie.specs.declared.causes.Cause.TheVariants.{NotBaplie, BadCell, NameTooLong, LengthLeftOut, BadWeight, NoWeightOrPort}
use Rattle.baplie.specs.declared.causes.Prior.{Prior}
use Rattle.baplie.specs.Finding.{scan, group_causes, group_cause}
use Rattle.baplie.specs.Groups.{is_long, lacks, prior, shows}
use Rattle.baplie.specs.Segments.{is_container, is_danger, names_port}
use Rattle.stow_data.specs.Types.{length_of_type}
use Rattle.plan_files.specs.DepartureFile.{Group, group_segments}
use Rattle.plan_files.specs.DepartureSegments.{loc, cell_segment, mea, tmp, temperature_segments, rff, eqd, dgs, goods_segments}
use Rattle.baplie.proofs.Scans.{scan-cons}
use Rattle.baplie.proofs.CellDigits.{cell-known}
use Rattle.plan_files.proofs.Known.{weight-known}
use Rattle.plan_files.proofs.Texts.{IsText}

-- what a container of bookings tells in its cell
pub record IsBookedGroup (g : Group) : Type 0 where
  pub bay : g.cell.bay < 1000
  pub row : g.cell.row < 100
  pub tier : g.cell.tier < 100
  pub identified : IsText 17 g.cell.id
  pub discharged : IsText 35 g.cell.port
  pub loaded : IsText 35 g.load_port
  pub typed : IsText 10 g.booking.iso
  pub long : length_of_type g.booking.iso ≡ Some g.booking.long
  pub kg : g.kg ≤ 99999
  pub temperature_from : IfSome g.booking.temperature (λ t. negsuc 98 ≤ℤ t)
  pub temperature_to : IfSome g.booking.temperature (λ t. t ≤ℤ pos 99)
  pub classed : IfSome g.booking.class (IsText 8)

pub not_long : (high : ℕ) (t : List ℕ) → high ≤ 35 → IsText high t → is_long t ≡ false
not_long high t h k = test (length t) (omega (arith, k.short))
  where
    test : (n : ℕ) → n ≤ 35 → nat_lt 35 n ≡ false
    test n e = grind (arith, nat_tests)

pub none_found : (f : Cause → Bool) (cs : List Cause) → ((c : Cause) → f c ≡ false) → find f cs ≡ None
none_found f [] h = refl
none_found f (c ∷ cs) h = rw (h c) (none_found f cs h)

abbrev Quiet : Prior → Segment → Type 0
Quiet p s = (c : Cause) → shows p s c ≡ false

-- what is known at the first segment of a group, and behind it
abbrev first : Bool → Prior
first lacks = record { opens = true; lacks = lacks; container = false; port = false; danger = false }

abbrev behind : Bool → Bool → Bool → Bool → Prior
behind lacks container port danger = record { opens = false; lacks = lacks; container = container; port = port; danger = danger }

quiet-cell : (lacks : Bool) (bay row tier : ℕ) → lacks ≡ false → bay < 1000 → row < 100 → tier < 100 → Quiet (first lacks) (cell_segment (bay, row, tier))
unfolding cell_segment
quiet-cell lacks bay row tier l b r t BadCell = ap is_none (cell-known bay row tier b r t)
quiet-cell lacks bay row tier l b r t NoWeightOrPort = l
quiet-cell lacks bay row tier l b r t c = refl

-- no fault behind other segments, whatever they are
abbrev QuietBehind : Segment → Type 0
QuietBehind s = (lacks container port danger : Bool) → Quiet (behind lacks container port danger) s

quiet-mea : (vgm : Bool) (kg : ℕ) → kg ≤ 99999 → QuietBehind (mea vgm kg)
unfolding mea
quiet-mea true kg h lacks container port danger BadWeight = ap is_none (weight-known kg h)
quiet-mea true kg h lacks container port danger c = refl
quiet-mea false kg h lacks container port danger BadWeight = ap is_none (weight-known kg h)
quiet-mea false kg h lacks container port danger c = refl

quiet-tmp : (z : ℤ) → QuietBehind (tmp z)
unfolding tmp
quiet-tmp z lacks container port danger NotBaplie = refl
quiet-tmp z lacks container port danger c = refl

quiet-load : (text : List ℕ) → QuietBehind (loc (codes "9") text)
unfolding loc
quiet-load text lacks container port danger NotBaplie = refl
quiet-load text lacks container port danger c = refl

quiet-port : (text : List ℕ) → is_long text ≡ false → QuietBehind (loc (codes "11") text)
unfolding loc
quiet-port [] h lacks container port danger NotBaplie = refl
quiet-port [] h lacks container port danger c = refl
quiet-port (b ∷ bs) h lacks container true danger NotBaplie = refl
quiet-port (b ∷ bs) h lacks container true danger c = refl
quiet-port (b ∷ bs) h lacks container false danger NameTooLong = h
quiet-port (b ∷ bs) h lacks container false danger c = refl

quiet-rff : QuietBehind rff
unfolding rff
quiet-rff lacks container port danger NotBaplie = refl
quiet-rff lacks container port danger c = refl

quiet-eqd : (id iso : List ℕ) (long : Length) (empty : Bool) → 0 < length id → is_long id ≡ false → is_long iso ≡ false → length_of_type iso ≡ Some long → (lacks port danger : Bool) → Quiet (behind lacks false port danger) (eqd id iso empty)
unfolding eqd
quiet-eqd [] iso long empty s i t l lacks port danger c = absurd (omega arith)
quiet-eqd (b ∷ bs) [] long empty s i t l lacks port danger c = absurd (none≢some l)
  where
    none≢some : {A : Type 0} {x : A} → None ≡ Some x → ⊥
    none≢some e = cc
quiet-eqd (b ∷ bs) (d ∷ ds) long empty s i t l lacks port danger NameTooLong = rw (i, t) refl
quiet-eqd (b ∷ bs) (d ∷ ds) long empty s i t l lacks port danger LengthLeftOut = ap is_none l
quiet-eqd (b ∷ bs) (d ∷ ds) long empty s i t l lacks port danger c = refl

quiet-dgs : (class : List ℕ) (unno : ℕ) → is_long class ≡ false → QuietBehind (dgs class unno)
unfolding dgs
quiet-dgs class unno h lacks container port true NotBaplie = refl
quiet-dgs class unno h lacks container port true c = refl
quiet-dgs class unno h lacks container port false NameTooLong = h
quiet-dgs class unno h lacks container port false c = refl

-- ## A group

-- each segment is no fault behind these others of a group
abbrev EachQuiet : List Segment → List Segment → List Segment → Type 0
EachQuiet group before [] = Unit {0}
EachQuiet group before (s ∷ ss) = Quiet (prior group before) s × EachQuiet group (before ++ s ∷ []) ss

scan-quiet : (group : List Segment) (n : ℕ) (before ss : List Segment) → EachQuiet group before ss → scan (group_cause group) n before ss ≡ None
scan-quiet group n before [] q = refl
scan-quiet group n before (s ∷ ss) q =
    scan-cons (group_cause group) n before ss s (none_found (shows (prior group before) s) group_causes q.0) ∙ scan-quiet group (n + 1) (before ++ s ∷ []) ss q.1

-- a group by its parts
abbrev pub parts : ℕ × ℕ × ℕ → Bool → ℕ → Option ℤ → List ℕ → List ℕ → List ℕ → List ℕ → Bool → Option (List ℕ) → ℕ → List Segment
parts cell vgm kg t load port id iso empty class unno =
    cell_segment cell ∷ mea vgm kg ∷ (temperature_segments t ++ (loc (codes "9") load ∷ loc (codes "11") port ∷ rff ∷ eqd id iso empty ∷ goods_segments class unno))

-- it has a container, a weight and a port
lacks-none : (cell : ℕ × ℕ × ℕ) (vgm : Bool) (kg : ℕ) (t : Option ℤ) (load port id iso : List ℕ) (empty : Bool) (class : Option (List ℕ)) (unno : ℕ) → 0 < length port → lacks (parts cell vgm kg t load port id iso empty class unno) ≡ false
unfolding cell_segment mea tmp loc rff eqd
lacks-none cell vgm kg t load [] id iso empty class unno s = absurd (omega arith)
lacks-none cell true kg None load (b ∷ bs) id iso empty class unno s = refl
lacks-none cell true kg (Some z) load (b ∷ bs) id iso empty class unno s = refl
lacks-none cell false kg None load (b ∷ bs) id iso empty class unno s = refl
lacks-none cell false kg (Some z) load (b ∷ bs) id iso empty class unno s = refl

-- behind these segments of the group
at : (group before : List Segment) (s : Segment) → QuietBehind s → Quiet (behind (lacks group) (list_any is_container before) (list_any names_port before) (list_any is_danger before)) s
at group before s q = q (lacks group) (list_any is_container before) (list_any names_port before) (list_any is_danger before)

quiet-goods : (group : List Segment) (s : Segment) (before : List Segment) (class : Option (List ℕ)) (unno : ℕ) → IfSome class (IsText 8) → EachQuiet group (s ∷ before) (goods_segments class unno)
quiet-goods group s before None unno h = tt
quiet-goods group s before (Some class) unno h = (subst Q (sym later) (at group (s ∷ before) (dgs class unno) (quiet-dgs class unno (not_long 8 class (omega arith) h))), tt)
  where
    Q : Prior → Type 0
    Q p = Quiet p (dgs class unno)

    some : (n : ℕ) → (suc n == 0) ≡ false
    some n = grind (arith, nat_tests)

    later : prior group (s ∷ before) ≡ behind (lacks group) (list_any is_container (s ∷ before)) (list_any names_port (s ∷ before)) (list_any is_danger (s ∷ before))
    later = ap (λ opens. record { opens = opens; lacks = lacks group; container = list_any is_container (s ∷ before); port = list_any names_port (s ∷ before); danger = list_any is_danger (s ∷ before) }) (some (length before))

-- no segment of the group is a fault
quiet-parts : (bay row tier : ℕ) (vgm : Bool) (kg : ℕ) (t : Option ℤ) (load port id iso : List ℕ) (long : Length) (empty : Bool) (class : Option (List ℕ)) (unno : ℕ)
    → bay < 1000 → row < 100 → tier < 100 → kg ≤ 99999 → 0 < length port → is_long port ≡ false → 0 < length id → is_long id ≡ false → is_long iso ≡ false → length_of_type iso ≡ Some long → IfSome class (IsText 8)
    → EachQuiet (parts (bay, row, tier) vgm kg t load port id iso empty class unno) [] (parts (bay, row, tier) vgm kg t load port id iso empty class unno)
unfolding cell_segment mea tmp loc rff eqd
quiet-parts bay row tier vgm kg None load port id iso long empty class unno b r x w s l a i f g h =
    let whole = parts (bay, row, tier) vgm kg None load port id iso empty class unno in
    let lacking = lacks-none (bay, row, tier) vgm kg None load port id iso empty class unno s in
    let first = cell_segment (bay, row, tier) in
    let weight = mea vgm kg in
    let from = loc (codes "9") load in
    let to = loc (codes "11") port in
    let container = eqd id iso empty in (
      quiet-cell (lacks whole) bay row tier lacking b r x,
      (
        at whole (first ∷ []) weight (quiet-mea vgm kg w),
        (
          at whole (first ∷ weight ∷ []) from (quiet-load load),
          (
            at whole (first ∷ weight ∷ from ∷ []) to (quiet-port port l),
            (
              at whole (first ∷ weight ∷ from ∷ to ∷ []) rff quiet-rff,
              (
                quiet-eqd id iso long empty a i f g (lacks whole) (list_any names_port (first ∷ weight ∷ from ∷ to ∷ rff ∷ [])) (list_any is_danger (first ∷ weight ∷ from ∷ to ∷ rff ∷ [])),
                quiet-goods whole first (weight ∷ from ∷ to ∷ rff ∷ container ∷ []) class unno h,
              ),
            ),
          ),
        ),
      ),
    )
quiet-parts bay row tier vgm kg (Some z) load port id iso long empty class unno b r x w s l a i f g h =
    let whole = parts (bay, row, tier) vgm kg (Some z) load port id iso empty class unno in
    let lacking = lacks-none (bay, row, tier) vgm kg (Some z) load port id iso empty class unno s in
    let first = cell_segment (bay, row, tier) in
    let weight = mea vgm kg in
    let cold = tmp z in
    let from = loc (codes "9") load in
    let to = loc (codes "11") port in
    let container = eqd id iso empty in (
      quiet-cell (lacks whole) bay row tier lacking b r x,
      (
        at whole (first ∷ []) weight (quiet-mea vgm kg w),
        (
          at whole (first ∷ weight ∷ []) cold (quiet-tmp z),
          (
            at whole (first ∷ weight ∷ cold ∷ []) from (quiet-load load),
            (
              at whole (first ∷ weight ∷ cold ∷ from ∷ []) to (quiet-port port l),
              (
                at whole (first ∷ weight ∷ cold ∷ from ∷ to ∷ []) rff quiet-rff,
                (
                  quiet-eqd id iso long empty a i f g (lacks whole) (list_any names_port (first ∷ weight ∷ cold ∷ from ∷ to ∷ rff ∷ [])) (list_any is_danger (first ∷ weight ∷ cold ∷ from ∷ to ∷ rff ∷ [])),
                  quiet-goods whole first (weight ∷ cold ∷ from ∷ to ∷ rff ∷ container ∷ []) class unno h,
                ),
              ),
            ),
          ),
        ),
      ),
    )

pub group_quiet : (g : Group) (n : ℕ) → IsBookedGroup g → scan (group_cause (group_segments g)) n [] (group_segments g) ≡ None
unfolding group_segments
group_quiet g n p =
    let b = g.booking in
    scan-quiet (group_segments g) n [] (group_segments g) (quiet-parts g.cell.bay g.cell.row g.cell.tier b.vgm g.kg b.temperature g.load_port g.cell.port g.cell.id b.iso b.long b.empty b.class b.unno p.bay p.row p.tier p.kg p.discharged.some (not_long 35 g.cell.port (omega arith) p.discharged) p.identified.some (not_long 17 g.cell.id (omega arith) p.identified) (not_long 10 b.iso (omega arith) p.typed) p.long p.classed)
