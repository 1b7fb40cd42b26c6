-- A box without multipliers closes at 0, so one leaf is the tree of a search for less than no cost.
use Rattle.std.proofs.Common.{◌≡◌, ℕ, ◌≤◌, true, [], refl, sym, ap, subst, arith, inr}
use Rattle.std.specs.Prelude.{Result, Ok, Err, IfOk}
use Rattle.std.proofs.lemmas.Bool.{both_ways}
use borrow.Author.Differences.{ints}
use Rattle.proof_trees.specs.Boxes.{free_box}
use Rattle.proof_trees.specs.Multipliers.{Closes}
use Rattle.zero_one_rows.specs.Variables.{Voyage}
use Rattle.zero_one_rows.specs.Rows.{whole}
use Rattle.bound_checker.specs.Entries.{ProvesBound}
use Rattle.plan_search.specs.declared.run.Searched.{Searched}
use Rattle.plan_search.specs.Trees.{IsSettled, was_handled}
use Rattle.plan_search.specs.Found.{IsSearched, one_leaf}
use Rattle.plan_search.proofs.AtZero.{worth_from}
use Rattle.plan_search.proofs.Program.{costs_from}

leaf_closes : (m : Voyage) → Closes (whole m) (free_box (whole m)) [] 0
leaf_closes m = let from = worth_from (whole m) (costs_from m) (free_box (whole m)) in omega (arith, ints)

leaf_proves : (m : Voyage) → ProvesBound m one_leaf.tree 0
leaf_proves m = ((λ k d l. absurd (omega arith)), (λ k d l. absurd (omega arith)), (leaf_closes m, tt))

leaf_settled : (m : Voyage) → IsSettled m one_leaf.tree 0
leaf_settled m = ((λ k d l. absurd (omega arith)), (λ k d l. absurd (omega arith)), (leaf_closes m, tt))

pub leaf_searched : (m : Voyage) (budget : ℕ) → 1 ≤ budget → IsSearched m budget 0 one_leaf
leaf_searched m budget from = record {
  nodes = refl;
  within = from;
  few = omega arith;
  lean = (record { steps = tt; raises = omega arith }, tt);
  earnest = ((λ divides. absurd (cc)), tt);
  settled = leaf_settled m;
  empty = ((λ e. absurd (both_ways true (ap was_handled e) refl)), tt);
  proves_none = leaf_proves m;
  ended = inr (leaf_proves m);
  best = refl;
}

pub leaf_ok : {E : Type 0} (r : Result Searched E) (m : Voyage) (budget start : ℕ) → start ≡ 0 → 1 ≤ budget → IfOk r (λ s. s ≡ one_leaf) → IfOk r (IsSearched m budget start)
leaf_ok (Ok s) m budget start none from is = subst (λ (n : ℕ). IsSearched m budget n s) (sym none) (subst (IsSearched m budget 0) (sym is) (leaf_searched m budget from))
leaf_ok (Err e) m budget start none from is = tt
