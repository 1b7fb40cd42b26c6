-- What a proved bound says of solutions.
use Rattle.std.proofs.Common.{◌≡◌, ◌≢◌, ℕ, zero, suc, ◌<◌, ◌≤◌, ◌⊎◌, inl, inr, Bool, true, false, cond, List, [], ◌∷◌, map, Some, None, Result, Ok, Err, ℤ, pos, ◌≤ℤ◌, arith, refl, sym, subst}
use Rattle.std.specs.Prelude.{int_lt}
use borrow.Author.Differences.{ints}
use Rattle.certificate.specs.declared.refusals.BoundNo.TheVariants.{LeafShort}
use Rattle.std.specs.Result.{IfErr, IfOk}
use Rattle.zero_one_rows.specs.Variables.{Voyage}
use Rattle.zero_one_rows.specs.Rows.{base, whole, IsSolution, CrossingRowsHold}
use Rattle.certificate.specs.declared.tree.Record.{Record}
use Rattle.zero_one_rows.specs.declared.program.Row.{Row}
use Rattle.proof_trees.specs.Program.{cost_of}
use Rattle.proof_trees.specs.Boxes.{Box}
use Rattle.proof_trees.specs.Multipliers.{Multipliers, worth}
use Rattle.proof_trees.specs.Trees.{root}
use Rattle.proof_trees.proofs.Soundness.{proved_bound}
use Rattle.certificate.specs.declared.refusals.BoundNo.{BoundNo}
use Rattle.certificate.specs.Entries.{same_row, entry_of}
use Rattle.bound_checker.specs.Entries.{ProvesBound, IsBestBound}
use Rattle.bound_checker.specs.Faults.{needed, short_fault, first_fault}
use Rattle.bound_checker.specs.Walks.{Narrows}
use Rattle.bound_checker.proofs.FirstFault.{faultless, no_fault}

-- ## What an answer says

pub if_err_other : {A E : Type 0} (P Q : E → Type 0) → ((e : E) → P e → Q e) → (r : Result A E) → IfErr r P → IfErr r Q
if_err_other P Q f (Ok u) h = tt
if_err_other P Q f (Err e) h = f e h

pub if_ok_other : {A E : Type 0} (P Q : A → Type 0) → ((a : A) → P a → Q a) → (r : Result A E) → IfOk r P → IfOk r Q
if_ok_other P Q f (Ok a) h = f a h
if_ok_other P Q f (Err e) h = tt

pub if_err_at : {A E : Type 0} (P : E → Type 0) (r : Result A E) (e : E) → r ≡ Err e → P e → IfErr r P
if_err_at {A} {E} P r e is h = subst (λ (k : Result A E). IfErr k P) (sym is) h

-- a tree that proves the bound bounds the cost of each solution, where these meet the crossing rows
pub bounds : (m : Voyage) (records : List Record) (bound : ℕ) → ProvesBound m records bound → CrossingRowsHold m → (x : ℕ → Bool) → IsSolution m x → pos bound ≤ℤ cost_of (base m) x
bounds m records bound proves hold x sol = proved_bound same_row (whole m) x (hold x sol) bound (map (entry_of m) records) proves

pub proves_where : (m : Voyage) (records : List Record) (bound : ℕ) → first_fault m records bound ≡ None → ProvesBound m records bound
proves_where m records bound none = faultless (whole m) bound 1 (root (whole m) ∷ []) (map (entry_of m) records) none

pub proves_nowhere : (m : Voyage) (records : List Record) (bound : ℕ) (f : BoundNo) → first_fault m records bound ≡ Some f → ProvesBound m records bound → ⊥
proves_nowhere m records bound f some proves = let none : first_fault m records bound ≡ None = no_fault (whole m) bound 1 (root (whole m) ∷ []) (map (entry_of m) records) proves in let bad : ⊥ = cc in bad

-- ## The greatest bound

pub up_to : (bound best : ℕ) → (bound ≤ best) ⊎ (best < bound)
up_to zero best = inl (omega arith)
up_to (suc bound) zero = inr (omega arith)
up_to (suc bound) (suc best) = elim (up_to bound best) [ inl le ↦ inl (omega arith) | inr lt ↦ inr (omega arith) ]

pub best_of : (m : Voyage) (records : List Record) (most best : ℕ) → Narrows 0 most best (λ bound. first_fault m records bound ≡ None) (λ bound. first_fault m records bound ≢ None) → IsBestBound m records most best
best_of m records most best narrows = record {
  proves = proves_where m records best (narrows.passes best (omega arith));
  low = narrows.to;
  greatest = λ bound le proves. elim (up_to bound best) [ inl here ↦ here | inr above ↦ absurd (narrows.fails bound above le (no_fault (whole m) bound 1 (root (whole m) ∷ []) (map (entry_of m) records) proves)) ];
}

-- a box closes at each bound up to the greatest at which its dual value does
module _ (m : Voyage) (node : ℕ) (b : Box) (ms : Multipliers Row) (value : ℤ) (is : value ≡ worth (whole m) b ms) where
  no_fault_at : (bound best : ℕ) → needed best ≤ℤ value → bound ≤ best → (t : Bool) → int_lt (worth (whole m) b ms) (needed bound) ≡ t → cond t (Some (LeafShort node (worth (whole m) b ms) (needed bound))) None ≡ None
  no_fault_at bound best closes le true e = absurd (omega (arith, ints, is))
  no_fault_at bound best closes le false e = refl

  fault_at : (bound : ℕ) → (needed bound ≤ℤ value → ⊥) → (t : Bool) → int_lt (worth (whole m) b ms) (needed bound) ≡ t → cond t (Some (LeafShort node (worth (whole m) b ms) (needed bound))) None ≢ None
  fault_at bound short true e none = let bad : ⊥ = cc in bad
  fault_at bound short false e none = short (omega (arith, ints, is))

  pub closes_up_to : (low high best : ℕ) → low ≤ high → needed low ≤ℤ value → best ≤ high → needed best ≤ℤ value → ((bound : ℕ) → bound ≤ high → needed bound ≤ℤ value → bound ≤ best)
      → Narrows low high best (λ bound. short_fault (whole m) bound node b ms ≡ None) (λ bound. short_fault (whole m) bound node b ms ≢ None)
  closes_up_to low high best order from to closes greatest = record {
    from = greatest low order from;
    to = to;
    passes = λ bound le. no_fault_at bound best closes le (int_lt (worth (whole m) b ms) (needed bound)) refl;
    fails = λ bound lt le. fault_at bound (λ closes_there. absurd (let up : bound ≤ best = greatest bound le closes_there in omega arith)) (int_lt (worth (whole m) b ms) (needed bound)) refl;
  }
