use Rattle.std.proofs.Common.{rules, ◌≡◌, Some, List, ◌++◌, ℕ, sym, ◌∙◌, ap, subst}
use Rattle.stow_data.specs.Ship.{Ship}
use Rattle.stow_data.specs.Profile.{IsShip}
use Rattle.zero_one_rows.specs.Variables.{Voyage}
use Rattle.row_sums.specs.Sums.{parts}
use Rattle.row_sums.specs.declared.numbering.Numbering.{Numbering}
use Rattle.row_matrix.specs.Parted.{NamesPlace, AreSumsOf, numbers_of}
use Rattle.row_matrix.proofs.PartNumbers.{parts_low, misplaced_numbered, part_numbers}
use Rattle.row_matrix.proofs.There.{there, placed}
use Rattle.row_matrix.proofs.signed.sums_of_row.Goals as goal

pub note_all-requires-clause-low : goal.note_all-requires-clause-low
note_all-requires-clause-low c =
    let m = c.args.matrix.now.voyage in
    let r = c.args.row.now in
    let obeys : IsShip m.ship = subst IsShip (c.ship.ensures ∙ ap (λ (w : Voyage). w.ship) c.sums-sums.ensures) c.obeys_rules.ensures in
    let names : NamesPlace m.ship r = subst (λ (s : Ship). NamesPlace s r) (c.ship-2.ensures ∙ ap (λ (w : Voyage). w.ship) c.sums-sums.ensures) (c.names_place.ensures.names (search rules)) in
    let are : parts m r ≡ Some c.in-Some.parts = ap (λ (w : Voyage). parts w r) (sym c.sums-sums.ensures) ∙ sym c.in-Some.ensures in
    parts_low m c.numbering-z.result r c.in-Some.parts c.numbering-z.ensures.room c.rows_are_in_range.ensures.names obeys c.requires names are

pub returns-then-not-names_place : goal.returns-then-not-names_place
returns-then-not-names_place c =
    let m = c.args.matrix.now.voyage in
    let r = c.args.row.now in
    let place : c.ship-2.result.now ≡ m.ship = c.ship-2.ensures ∙ ap (λ (w : Voyage). w.ship) c.sums-sums.ensures in
    subst (λ (ns : List ℕ). AreSumsOf m c.args.matrix.now.numbering c.args.value r ns) (sym c.new-list.ensures) (misplaced_numbered m c.args.matrix.now.numbering c.args.value r
    (λ q i t. c.names_place.ensures.refuses (search rules) (subst (λ (s : Ship). NamesPlace s r) (sym place) (placed m r q i t))))

pub returns : goal.returns
returns c =
    let m = c.args.matrix.now.voyage in
    let r = c.args.row.now in
    let obeys : IsShip m.ship = subst IsShip (c.ship.ensures ∙ ap (λ (w : Voyage). w.ship) c.sums-sums.ensures) c.obeys_rules.ensures in
    let names : NamesPlace m.ship r = subst (λ (s : Ship). NamesPlace s r) (c.ship-2.ensures ∙ ap (λ (w : Voyage). w.ship) c.sums-sums.ensures) (c.names_place.ensures.names (search rules)) in
    let are : parts m r ≡ Some c.in-Some.parts = ap (λ (w : Voyage). parts w r) (sym c.sums-sums.ensures) ∙ sym c.in-Some.ensures in
    let all : AreSumsOf m c.args.matrix.now.numbering c.args.value r (numbers_of c.args.matrix.now.numbering c.args.value c.in-Some.parts) =
    part_numbers m c.args.matrix.now.numbering c.args.value r c.in-Some.parts (λ q i. there m r q c.rows_are_in_range.ensures.names obeys c.requires names i) are in
    subst (λ (ns : List ℕ). AreSumsOf m c.args.matrix.now.numbering c.args.value r ns) (sym (c.in_ok-note_all.ensures ∙ ap (λ (ns : List ℕ). ns ++ numbers_of c.numbering-z.result c.args.value c.in-Some.parts) c.new-list.ensures ∙ ap (λ (z : Numbering). numbers_of z c.args.value c.in-Some.parts) c.numbering-z.ensures.same)) all
