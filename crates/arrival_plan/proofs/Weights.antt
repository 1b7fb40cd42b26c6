-- The number of groups of a message that is read, and the weights that they tell.
use Rattle.std.proofs.Common.{◌≡◌, ℕ, suc, ◌^◌, ◌≤◌, Bool, true, false, cond, List, [], ◌∷◌, length, Option, Some, None, refl, sym, ap, subst, arith, length-take, length-drop}
use Rattle.std.proofs.lemmas.Bool.{leb-true}
use Rattle.std.proofs.lemmas.List.{length-map}
use Rattle.std.proofs.lemmas.List.Elements.{All-nil, All-cons}
use Rattle.std.specs.Prelude.{All, IfSome, find, map, nat_le, unwrap_or}
use Rattle.std.specs.List.{position_or_len}
use Rattle.std.specs.Option.{option_or}
use Rattle.edifact_segments.specs.declared.segments.Segment.{Segment}
use Rattle.edifact_segments.proofs.Lengths as lengths
use Rattle.baplie.specs.declared.parts.CellGroup.{CellGroup}
use Rattle.baplie.specs.declared.parts.Message.{Message}
use Rattle.baplie.specs.Faults.{body, groups, head, rest}
use Rattle.baplie.specs.Groups.{cell_group, facts_from, text_in}
use Rattle.baplie.specs.Messages.{IsMessageOf}
use Rattle.baplie.specs.Segments.{closes, is_container, is_unverified, is_verified, opens}
use Rattle.baplie.specs.Texts.{at_most, is_mark, read_at, weight_of}
use Rattle.arrival_plan.specs.Settled.{AreRead}

abbrev IsLight : CellGroup → Type 0
IsLight g = IfSome g.facts (λ f. f.kg ≤ 99999)

small : (o : Option ℕ) → unwrap_or (at_most 99999 o) 0 ≤ 99999
small None = omega arith
small (Some n) = by_test (nat_le n 99999) refl
  where
    by_test : (b : Bool) → nat_le n 99999 ≡ b → unwrap_or (cond b (Some n) None) 0 ≤ 99999
    by_test true e = leb-true n 99999 e
    by_test false e = omega arith

small_text : (text : List ℕ) → unwrap_or (weight_of text) 0 ≤ 99999
small_text text = small (read_at (position_or_len is_mark text) text)

light : (group : List Segment) → IsLight (cell_group group)
light group = by_container (find is_container group)
  where
    by_container : (o : Option Segment) → IfSome (facts_from group o) (λ f. f.kg ≤ 99999)
    by_container None = tt
    by_container (Some s) = small_text (text_in (option_or (find is_verified group) (find is_unverified group)) 3 2)

all_light : (gs : List (List Segment)) → All IsLight (map cell_group gs)
all_light [] = All-nil IsLight
all_light (g ∷ gs) = All-cons IsLight (cell_group g) (map cell_group gs) (light g) (all_light gs)

groups_few : (xs : List Segment) → length (groups xs) ≤ length xs
groups_few [] = omega arith
groups_few (x ∷ xs) = go (opens x) (groups_few xs)
  where
    go : (t : Bool) → length (groups xs) ≤ length xs → length (cond t ((x ∷ head xs) ∷ groups xs) (groups xs)) ≤ suc (length xs)
    go true h = omega (arith, h)
    go false h = omega (arith, h)

pub settleable : (bytes : List ℕ) (m : Message) → length bytes ≤ 2 ^ 29 → IsMessageOf bytes m → AreRead m.groups
settleable bytes m h is =
    let r = is.is_message in
    let segments = is.segments in
    let P : List CellGroup → Type 0 = λ gs. All IsLight gs in
    record {
      few = omega (arith, ap length r.groups, length-map (groups (body segments)) cell_group, groups_few (body segments), length-take (position_or_len closes (rest segments)) (rest segments), length-drop 2 segments, lengths.few bytes segments is.interchange);
      weights = subst P (sym r.groups) (all_light (groups (body segments)));
    }
