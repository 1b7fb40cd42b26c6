-- Filled half-cells of stacks, one stack after the other.
use Rattle.std.specs.Prelude.{◌≡◌, ℕ, ◌<◌, ◌≤◌, ◌⊎◌, ◌++◌, List, [], ◌∷◌, Option, Some, slice_get, Contains}
use Rattle.std.proofs.Common.{arith, sym, ◌∙◌, ap, subst, inl, inr, ⊎_elim}
use Rattle.std.proofs.lemmas.Bool.{cases_order}
use Rattle.std.proofs.lemmas.Option.{same_Some}
use Rattle.stow_data.specs.declared.geometry.Cover.{Cover}
use Rattle.stow_data.specs.declared.geometry.Half.{Half}
use Rattle.stow_data.specs.Ship.{Ship, halves}
use Rattle.stow_data.specs.Plans.{Plan}
use Rattle.stow_data.proofs.CellLemmas.{member_contains}
use Rattle.stow_data.proofs.CoverLemmas.{contains_member}
use Rattle.stow_data.proofs.Members.{Member, member_left, member_right, member_split}
use Rattle.stowage_rules.specs.Faults.{OfHalf}
use Rattle.voyage_meaning.specs.Numbering.{level, IsFirstFrom}
use Rattle.voyage_meaning.specs.Refusals.{Finds, IsOnCover}
use Rattle.voyage_meaning.specs.Stacks.{IsFilledOn, IsFilledOnAny}
use Rattle.voyage_meaning.proofs.Finding.{finds_same}
use Rattle.voyage_meaning.proofs.HalvesRise.{rising}

-- before the first half-cell of a stack none is of it
pub none_before : (ship : Ship) (plan : Plan) (stack first : ℕ) → IsFirstFrom ship stack 0 first → (n : ℕ) → n < first → OfHalf ship (IsFilledOn ship plan stack) n → ⊥
none_before ship plan stack first is n l x = ⊎_elim
    (λ (a : x.half.stack < stack). let e = x.holds.same_stack in omega (arith, e))
    (λ (a : (x.half.stack ≡ stack) × (level x.half < 0)). let no : level x.half < 0 = a.1 in omega (arith, no))
    ((is n x.half x.is_half).0 l)

-- where one from the first on is of another stack, none that follows is of it
pub none_behind : (ship : Ship) (plan : Plan) (stack first h : ℕ) (here : Half) → IsFirstFrom ship stack 0 first → first ≤ h → slice_get (halves ship) h ≡ Some here → (here.stack ≡ stack → ⊥) → ((n : ℕ) → n < h → OfHalf ship (IsFilledOn ship plan stack) n → ⊥) → (n : ℕ) → OfHalf ship (IsFilledOn ship plan stack) n → ⊥
none_behind ship plan stack first h here is l at other none n x = ⊎_elim
    (λ (e : n ≡ h). other (let same : x.half ≡ here = same_Some x.half here (sym x.is_half ∙ (ap (slice_get (halves ship)) e ∙ at)) in sym (ap (λ (z : Half). z.stack) same) ∙ x.holds.same_stack))
    (λ (o : (n < h) ⊎ (h < n)). ⊎_elim
    (λ (u : n < h). none n u x)
    (λ (u : h < n).
    let r = rising ship h n here x.half u at x.is_half in
    let e = x.holds.same_stack in ⊎_elim
    (λ (y : here.stack ≡ stack). other y)
    (λ (y : (here.stack < stack) ⊎ (stack < here.stack)). ⊎_elim
    (λ (z : here.stack < stack). let early : h < first = (is h here at).1 (inl z) in omega arith)
    (λ (z : stack < here.stack). omega (arith, r.0, e)) y)
    (cases_order here.stack stack)) o)
    (cases_order n h)

-- of one stack more
pub any_more : (ship : Ship) (plan : Plan) (front more : List ℕ) (s : ℕ) → more ≡ front ++ s ∷ [] → (n : ℕ) → OfHalf ship (IsFilledOnAny ship plan more) n → OfHalf ship (IsFilledOnAny ship plan front) n ⊎ OfHalf ship (IsFilledOn ship plan s) n
any_more ship plan front more s e n x = ⊎_elim
    (λ (m : Member x.half.stack front). inl (record { half = x.half; is_half = x.is_half; holds = record { listed = member_contains front x.half.stack m; taken = x.holds.taken } }))
    (λ (m : Member x.half.stack (s ∷ [])). inr (record { half = x.half; is_half = x.is_half; holds = record { same_stack = alone m; taken = x.holds.taken } }))
    (member_split x.half.stack front (s ∷ []) (contains_member (front ++ s ∷ []) x.half.stack (subst (λ (xs : List ℕ). Contains xs x.half.stack) e x.holds.listed)))
  where
    alone : Member x.half.stack (s ∷ []) → x.half.stack ≡ s
    alone m = ⊎_elim (λ (y : x.half.stack ≡ s). y) (λ (y : Member x.half.stack []). absurd y) m

pub from_front : (ship : Ship) (plan : Plan) (front more : List ℕ) (s : ℕ) → more ≡ front ++ s ∷ [] → (n : ℕ) → OfHalf ship (IsFilledOnAny ship plan front) n → OfHalf ship (IsFilledOnAny ship plan more) n
from_front ship plan front more s e n x = record { half = x.half; is_half = x.is_half; holds = record { listed = subst (λ (xs : List ℕ). Contains xs x.half.stack) (sym e) (member_contains (front ++ s ∷ []) x.half.stack (member_left x.half.stack front (s ∷ []) (contains_member front x.half.stack x.holds.listed))); taken = x.holds.taken } }

pub from_last : (ship : Ship) (plan : Plan) (front more : List ℕ) (s : ℕ) → more ≡ front ++ s ∷ [] → (n : ℕ) → OfHalf ship (IsFilledOn ship plan s) n → OfHalf ship (IsFilledOnAny ship plan more) n
from_last ship plan front more s e n x = record { half = x.half; is_half = x.is_half; holds = record { listed = subst (λ (xs : List ℕ). Contains xs x.half.stack) (sym e) (member_contains (front ++ s ∷ []) x.half.stack (member_right x.half.stack front (s ∷ []) (inl x.holds.same_stack))); taken = x.holds.taken } }

-- none of no stack
pub none_of_none : (ship : Ship) (plan : Plan) (n : ℕ) → OfHalf ship (IsFilledOnAny ship plan []) n → ⊥
none_of_none ship plan n x = let within = x.holds.listed.1 in omega (arith, within)

-- of the stacks on a cover
pub cover_finds : (ship : Ship) (plan : Plan) (k : ℕ) (cover : Cover) (stacks : List ℕ) (o : Option ℕ) → slice_get ship.covers k ≡ Some cover → stacks ≡ cover.on → Finds (OfHalf ship (IsFilledOnAny ship plan stacks)) o → Finds (OfHalf ship (IsOnCover ship plan k)) o
cover_finds ship plan k cover stacks o is e f = finds_same (OfHalf ship (IsFilledOnAny ship plan stacks)) (OfHalf ship (IsOnCover ship plan k)) o
    (λ n x. record { half = x.half; is_half = x.is_half; holds = record { on = record { cover = cover; is_cover = is; named = subst (λ (xs : List ℕ). Contains xs x.half.stack) e x.holds.listed }; taken = x.holds.taken } })
    (λ n x. record { half = x.half; is_half = x.is_half; holds = record { listed = subst (λ (xs : List ℕ). Contains xs x.half.stack) (ap (λ (z : Cover). z.on) (same_Some x.holds.on.cover cover (sym x.holds.on.is_cover ∙ is)) ∙ sym e) x.holds.on.named; taken = x.holds.taken } })
    f
