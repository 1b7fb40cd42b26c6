-- The cells of a message that is read.
use Rattle.std.proofs.Common.{◌≡◌, ℕ, suc, ◌-◌, ◌^◌, ◌≤◌, ◌<◌, ◌==◌, ◌||◌, ◌&&◌, Bool, true, false, cond, List, [], ◌∷◌, length, take, drop, map, Some, None, refl, sym, ap, subst, arith, length-take, length-drop}
use Rattle.std.proofs.lemmas.Bool.Decides.{nat_tests}
use Rattle.std.proofs.lemmas.List.{length-map}
use Rattle.std.proofs.lemmas.List.Elements.{All-nil, All-cons}
use Rattle.std.specs.Prelude.{All, unwrap_or}
use Rattle.std.specs.List.{list_all, position_or_len}
use Rattle.edifact_segments.specs.Grammar.{IsInterchange}
use Rattle.edifact_segments.specs.declared.segments.Segment.{Segment}
use Rattle.edifact_segments.proofs.Lengths as lengths
use Rattle.baplie.specs.declared.parts.CellGroup.{CellGroup}
use Rattle.baplie.specs.declared.parts.Message.{Message}
use Rattle.baplie.specs.Faults.{body, groups, head, rest}
use Rattle.baplie.specs.Groups.{cell_group}
use Rattle.baplie.specs.Messages.{IsMessage}
use Rattle.baplie.specs.Segments.{opens, closes, component}
use Rattle.stow_data.specs.Digits.{digit_of, value, is_digit}
use Rattle.baplie.specs.Texts.{is_cell, cell_of}
use Rattle.stow_report.specs.Listings.{IsCell, AreListable}

digit_small : (b : ℕ) → digit_of b ≤ 9
digit_small b = omega arith

two_digits : (text : List ℕ) → length text ≤ 2 → value text < 100
two_digits [] h = omega arith
two_digits (a ∷ []) h = omega (arith, digit_small a)
two_digits (a ∷ b ∷ []) h = omega (arith, digit_small a, digit_small b)
two_digits (a ∷ b ∷ c ∷ more) h = absurd (omega (arith, h))

three_digits : (text : List ℕ) → length text ≤ 3 → value text < 1000
three_digits [] h = omega arith
three_digits (a ∷ []) h = omega (arith, digit_small a)
three_digits (a ∷ b ∷ []) h = omega (arith, digit_small a, digit_small b)
three_digits (a ∷ b ∷ c ∷ []) h = omega (arith, digit_small a, digit_small b, digit_small c)
three_digits (a ∷ b ∷ c ∷ d ∷ more) h = absurd (omega (arith, h))

abbrev IsBounded : ℕ × ℕ × ℕ → Type 0
IsBounded cell = (cell.0 < 1000) × (cell.1 < 100) × (cell.2 < 100)

cell_size : (text : List ℕ) → is_cell text ≡ true → length text ≤ 7
cell_size text h = short (length text) (list_all is_digit text) h
  where
    short : (n : ℕ) (all : Bool) → ((n == 6 || n == 7) && all) ≡ true → n ≤ 7
    short n all e = grind (arith, nat_tests)

bounded : (text : List ℕ) → IsBounded (unwrap_or (cell_of text) (0, 0, 0))
bounded text = go (is_cell text) refl
  where
    go : (t : Bool) → is_cell text ≡ t → IsBounded (unwrap_or (cond t (Some (value (take (length text - 4) text), value (take 2 (drop (length text - 4) text)), value (drop (length text - 2) text))) None) (0, 0, 0))
    go false e = (omega arith, omega arith, omega arith)
    go true e =
        let n = cell_size text e in
        (three_digits (take (length text - 4) text) (omega (arith, length-take (length text - 4) text)), two_digits (take 2 (drop (length text - 4) text)) (omega (arith, length-take 2 (drop (length text - 4) text))), two_digits (drop (length text - 2) text) (omega (arith, length-drop (length text - 2) text)))

group_bounded : (group : List Segment) → IsCell (cell_group group)
group_bounded [] = (omega arith, omega arith, omega arith)
group_bounded (s ∷ group) = bounded (component s 2 1)

all_bounded : (gs : List (List Segment)) → All IsCell (map cell_group gs)
all_bounded [] = All-nil IsCell
all_bounded (g ∷ gs) = All-cons IsCell (cell_group g) (map cell_group gs) (group_bounded g) (all_bounded gs)

groups_few : (xs : List Segment) → length (groups xs) ≤ length xs
groups_few [] = omega arith
groups_few (x ∷ xs) = go (opens x) (groups_few xs)
  where
    go : (t : Bool) → length (groups xs) ≤ length xs → length (cond t ((x ∷ head xs) ∷ groups xs) (groups xs)) ≤ suc (length xs)
    go true h = omega (arith, h)
    go false h = omega (arith, h)

pub listable : (bytes : List ℕ) (segments : List Segment) (m : Message) → length bytes ≤ 2 ^ 29 → IsInterchange bytes segments → IsMessage segments m → AreListable m.groups
listable bytes segments m h i r =
    let P : List CellGroup → Type 0 = λ gs. All IsCell gs in
    record {
      few = omega (arith, ap length r.groups, length-map (groups (body segments)) cell_group, groups_few (body segments), length-take (position_or_len closes (rest segments)) (rest segments), length-drop 2 segments, lengths.few bytes segments i);
      cells = subst P (sym r.groups) (all_bounded (groups (body segments)));
    }
