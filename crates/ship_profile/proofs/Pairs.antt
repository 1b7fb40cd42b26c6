-- Pairs of whole numbers, and the stacks that they name.
use Rattle.std.proofs.Common.{◌≡◌, ℕ, ◌+◌, ◌<◌, ◌≤◌, true, false, ◌&&◌, List, [], ◌∷◌, ◌++◌, length, get_or, drop, Err, refl, sym, ap, ◌∙◌, arith, append_assoc}
use Rattle.std.specs.Prelude.{ℤ}
use Rattle.std.proofs.lemmas.List.{drop_all, append-nil}
use Rattle.toml.specs.View.{items_view}
use Rattle.toml.specs.declared.value.Value.{Value}
use Rattle.toml_values.specs.declared.of_values.Unread.TheVariants.{BadValue}
use Rattle.stow_data.specs.declared.geometry.Stack.{Stack}
use Rattle.ship_profile.specs.declared.covers.Part.{Part}
use Rattle.ship_profile.specs.Covers.{pair_in, is_in, stands_at, stacks_from}
use Rattle.ship_profile.proofs.Rising.{front_is}

pub no_pair_below : (vs : List Value) → length vs < 2 → Err BadValue ≡ pair_in (items_view vs)
no_pair_below [] lt = refl
no_pair_below (v ∷ []) lt = refl
no_pair_below (v ∷ w ∷ vs) lt = absurd (omega arith)

pub no_pair_above : (vs : List Value) → 3 ≤ length vs → Err BadValue ≡ pair_in (items_view vs)
no_pair_above [] le = absurd (omega arith)
no_pair_above (v ∷ []) le = absurd (omega arith)
no_pair_above (v ∷ w ∷ []) le = absurd (omega arith)
no_pair_above (v ∷ w ∷ u ∷ vs) le = refl

pub stands_on : (found : List ℕ) (part : Part) (ss : List Stack) (i : ℕ) (s : Stack) (pair : ℤ × ℤ) (total : List ℕ) → i < length ss → s ≡ get_or ss i s → (is_in part s && stands_at pair.0 pair.1 s) ≡ true
    → found ++ stacks_from i part (drop i ss) pair ≡ total → (found ++ i ∷ []) ++ stacks_from (i + 1) part (drop (i + 1) ss) pair ≡ total
stands_on found part ss i s pair total lt is h so_far =
    let one : stacks_from i part (drop i ss) pair ≡ i ∷ stacks_from (i + 1) part (drop (i + 1) ss) pair = rw (front_is ss i s lt is, h) refl in
    append_assoc found (i ∷ []) (stacks_from (i + 1) part (drop (i + 1) ss) pair) ∙ ap (λ ns. found ++ ns) (sym one) ∙ so_far

pub stands_elsewhere : (found : List ℕ) (part : Part) (ss : List Stack) (i : ℕ) (s : Stack) (pair : ℤ × ℤ) (total : List ℕ) → i < length ss → s ≡ get_or ss i s → (is_in part s && stands_at pair.0 pair.1 s) ≡ false
    → found ++ stacks_from i part (drop i ss) pair ≡ total → found ++ stacks_from (i + 1) part (drop (i + 1) ss) pair ≡ total
stands_elsewhere found part ss i s pair total lt is h so_far =
    let one : stacks_from i part (drop i ss) pair ≡ stacks_from (i + 1) part (drop (i + 1) ss) pair = rw (front_is ss i s lt is, h) refl in
    ap (λ ns. found ++ ns) (sym one) ∙ so_far

pub stands_end : (found : List ℕ) (part : Part) (ss : List Stack) (i : ℕ) (pair : ℤ × ℤ) (total : List ℕ) → length ss ≤ i → found ++ stacks_from i part (drop i ss) pair ≡ total → found ≡ total
stands_end found part ss i pair total le so_far =
    let one : stacks_from i part (drop i ss) pair ≡ [] = rw (drop_all i ss le) refl in
    sym (append-nil found) ∙ ap (λ ns. found ++ ns) (sym one) ∙ so_far
