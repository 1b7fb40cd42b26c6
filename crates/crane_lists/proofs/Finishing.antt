-- What the rounds are when no task is left.
use Rattle.std.specs.Prelude.{◌≡◌, ◌≢◌, ℕ, ◌≤◌, ◌<◌, Bool, true, false, List, [], ◌∷◌, ◌++◌, All, length}
use Rattle.std.proofs.Common.{refl, sym, ◌∙◌, subst, ⊎_elim, append_assoc}
use Rattle.std.proofs.lemmas.Bool.{cases_lt}
use Rattle.std.proofs.lemmas.List.{get_or_past}
use Rattle.stow_data.specs.Ship.{Ship}
use Rattle.crane_lists.specs.declared.tasks.Task.{Task}
use Rattle.crane_lists.specs.declared.rounds.Board.{Board}
use Rattle.crane_lists.specs.Rounds.{EachPair, In, joined, IsCraneList, IsGreedy}
use Rattle.crane_lists.specs.Sharing.{IsShared, LeftOut, is_set}
use Rattle.crane_lists.proofs.Orders.{in_left, in_right, pairs_across}

set_inside : (flags : List Bool) (i : ℕ) → is_set flags i ≡ true → i < length flags
set_inside flags i set = ⊎_elim (λ (low : i < length flags). low) (λ (past : length flags ≤ i). let e : is_set flags i ≡ false = get_or_past flags i false past in let both : false ≡ true = sym e ∙ set in cc) (cases_lt i (length flags))

pub is_list : (ship : Ship) (ts : List Task) (cranes : ℕ) (b : Board) → IsShared ship ts cranes b → All (λ f. f ≡ true) b.done → IsCraneList ship ts cranes b.rounds
is_list ship ts cranes b so all = record {
  each = λ i. (
    λ low. (so.each i).0 (all i false (subst (λ (n : ℕ). i < n) (sym so.board.each_flag) low)),
    λ h. subst (λ (n : ℕ). i < n) so.board.each_flag (set_inside b.done i ((so.each i).1 h)),
  );
  once = so.once;
  shared = so.shared;
  in_order = so.in_order;
}

greedy_from : (ship : Ship) (ts : List Task) (cranes : ℕ) (done : List ℕ) (rs : List (List ℕ)) → EachPair (λ i j. i ≢ j) (done ++ joined rs) → ((j : ℕ) → In j (joined rs) → j < length ts) → LeftOut ship ts cranes done rs → IsGreedy ship ts cranes done rs
greedy_from ship ts cranes done [] once inside out = tt
greedy_from ship ts cranes done (r ∷ rs) once inside out =
    let apart : EachPair (λ i j. i ≢ j) ((done ++ r) ++ joined rs) = subst (EachPair (λ i j. i ≢ j)) (sym (append_assoc done r (joined rs))) once in (
      λ j h. out.0 j (inside j (in_right r (joined rs) j h)) (λ k. pairs_across (λ i j. i ≢ j) (done ++ r) (joined rs) apart j j (in_left done r j k) h refl) (λ k. pairs_across (λ i j. i ≢ j) (done ++ r) (joined rs) apart j j (in_right done r j k) h refl),
      greedy_from ship ts cranes (done ++ r) rs apart (λ j h. inside j (in_right r (joined rs) j h)) out.1,
    )

pub is_greedy : (ship : Ship) (ts : List Task) (cranes : ℕ) (b : Board) → IsShared ship ts cranes b → IsGreedy ship ts cranes [] b.rounds
is_greedy ship ts cranes b so = greedy_from ship ts cranes [] b.rounds so.once (λ j h. subst (λ (n : ℕ). j < n) so.board.each_flag (set_inside b.done j ((so.each j).1 h))) so.left_out
