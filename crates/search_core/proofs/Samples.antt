-- The samples' runs. For tests.
use Rattle.std.proofs.Common.{◌≡◌, ℕ, zero, suc, inl, inr, Bool, true, false, [], ◌∷◌, ℤ, pos, ◌≤ℤ◌, ◌<ℤ◌, int_lt, refl, sym, subst, arith}
use Rattle.std.specs.Prelude.{◌==◌}
use borrow.Author.Differences.{ints}
use Rattle.std.proofs.lemmas.Bool.Decides.{eqb_tells}
use Rattle.std.proofs.lemmas.List.Elements.{All-nil, All-cons}
use Rattle.proof_trees.specs.Program.{Meets}
use Rattle.proof_trees.specs.OneVariable.{one_variable}
use Rattle.search_core.specs.Journals.{all_nodes, Whole, Tip, preorder, Gathers, NamesRows, Settled}
use Rattle.search_core.specs.Machine.{Node, root_node, IsOpen, begin, BaseSolves, NoneNegative, Runs}
use Rattle.search_core.specs.Replays.{IsOffer, ordered, replay}
use Rattle.search_core.specs.Samples.{same_number, closing, closing_run, closed, closing_journal, no_variables, five_nodes, five_turns}

abbrev Has : ℕ → Type 0
Has r = one_variable.has r ≡ true

abbrev HasRaised : ℕ × ℤ → Type 0
HasRaised r = one_variable.has r.0 ≡ true

names : NamesRows same_number one_variable closing
names = (All-nil Has, All-cons HasRaised (0, pos 16) [] refl (All-nil HasRaised))

pub run_closes : Runs same_number one_variable (0 ∷ []) (begin 1 1 1) closing_run closed
run_closes = (
  _,
  (omega arith, (refl, refl), (root_node, [], refl, refl)),
  (
    _,
    (omega arith, (root_node, refl, refl, inl (omega arith, refl))),
    (
      _,
      (omega arith, refl),
      (
        _,
        (omega arith, (root_node, 1, (0, 16) ∷ [], refl, refl, refl, names, refl, refl, omega arith, refl)),
        refl,
      ),
    ),
  ),
)

-- ## Its premises

met_row : (x : ℕ → Bool) (r : ℕ) → r ≡ 0 → Meets one_variable x 0 → Meets one_variable x r
met_row x r is h = subst (Meets one_variable x) (sym is) h

never_both : (c : Bool) → c ≡ true → c ≡ false → ⊥
never_both c e f = cc

is_zero : (r : ℕ) → (r == 0) ≡ true → r ≡ 0
is_zero r e = elim (eqb_tells r 0) [ inl h ↦ h.1 | inr h ↦ absurd (never_both (r == 0) e h.0) ]

pub row_solves : BaseSolves one_variable (0 ∷ [])
row_solves x h r has = met_row x r (is_zero r has) h.0

pub costs_positive : NoneNegative one_variable
costs_positive v lt = omega (arith, ints)

-- ## What follows

pub nothing_open : (n : Node ℕ) → IsOpen closed n → ⊥
nothing_open n (inl (zero, inl h)) = h
nothing_open n (inl (zero, inr (inl e))) = absurd (cc)
nothing_open n (inl (zero, inr (inr h))) = h
nothing_open n (inl (suc j, inl h)) = h
nothing_open n (inl (suc j, inr (inl e))) = absurd (cc)
nothing_open n (inl (suc j, inr (inr h))) = h
nothing_open n (inr h) = h

at_least_by : (z : ℤ) (c : Bool) → int_lt z (pos 1) ≡ c → (z <ℤ pos 1 → ⊥) → pos 1 ≤ℤ z
at_least_by z true e none = absurd (none (omega (arith, ints)))
at_least_by z false e none = omega (arith, ints)

pub at_least : (z : ℤ) → (z <ℤ pos 1 → ⊥) → pos 1 ≤ℤ z
at_least z none = at_least_by z (int_lt z (pos 1)) refl none

-- ## Its journal

pub journal_whole : Whole closing_journal []
journal_whole = record { ended = (refl, tt); bag = λ h. omega arith }

pub journal_gathers : Gathers (all_nodes closing_journal []) (Tip closing)
journal_gathers = (refl, refl, refl, refl)

pub journal_settles : Settled same_number one_variable (preorder (Tip closing)) 1
journal_settles = (names.0, names.1, (omega arith, tt))

pub journal_offers : IsOffer same_number one_variable (0 ∷ []) (all_nodes closing_journal []) closing_journal 1 1
journal_offers = record { most = omega arith; from = inl refl }

pub five_replayed : replay same_number no_variables [] (ordered five_nodes) ≡ five_turns
five_replayed = refl
