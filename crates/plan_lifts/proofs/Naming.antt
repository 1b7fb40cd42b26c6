-- Containers by their numbers in a list.
use Rattle.std.specs.Prelude.{◌≡◌, ◌↔◌, ◌⊎◌, ℕ, ◌<◌, Bool, true, false, List, Some, length, slice_get, slice_set, Contains}
use Rattle.std.proofs.Common.{sym, ◌∙◌, ap, inl, inr, ⊎_elim}
use Rattle.std.proofs.lemmas.Bool.{cases_eq}
use Rattle.std.proofs.lemmas.List.{get_or-set_other, get_or-set_same}
use Rattle.std.proofs.lemmas.Option.{same_Some, slice_get_within, slice_get-get_or, get_or_from_slice_get}
use Rattle.stow_data.specs.Plans.{Plan}
use Rattle.plan_lifts.specs.Spread.{has}
use Rattle.plan_lifts.specs.Passes.{IsFlaggedAt, IsListedAt}

-- a flag that is set for an item of a list
pub named_one : (list : List ℕ) (flags new : List Bool) (i k : ℕ) → slice_get list i ≡ Some k → k < length flags → new ≡ slice_set flags k true → (j : ℕ) → (has new j ≡ true) ↔ ((has flags j ≡ true) ⊎ (slice_get list i ≡ Some j))
named_one list flags new i k item low made j =
    let read : has new j ≡ has (slice_set flags k true) j = ap (λ (x : List Bool). has x j) made in
    ⊎_elim
    (λ (e : j ≡ k). (λ h. inr (item ∙ ap Some (sym e)), λ x. read ∙ (ap (has (slice_set flags k true)) e ∙ get_or-set_same flags k true false low)))
    (λ (ne : j ≡ k → ⊥).
    let kept : has new j ≡ has flags j = read ∙ get_or-set_other flags k j true false ne in (
      λ h. inl (sym kept ∙ h),
      λ x. kept ∙ ⊎_elim (λ (h : has flags j ≡ true). h) (λ (h : slice_get list i ≡ Some j). absurd (ne (same_Some j k (sym h ∙ item)))) x,
    ))
    (cases_eq j k)

pub contains_at : (list : List ℕ) (c : ℕ) → ((i : ℕ) × (slice_get list i ≡ Some c)) ↔ Contains list c
contains_at list c = (
  λ x. (x.0, slice_get_within list x.0 c x.1, get_or_from_slice_get list x.0 c c x.1),
  λ x. (x.0, slice_get-get_or list x.0 c x.1 ∙ ap Some x.2),
)

-- places by flags are places by the list that the flags are of
pub listed_at : (plan : Plan) (list : List ℕ) (flags set : ℕ → Bool) → ((c : ℕ) → (flags c ≡ true) ↔ Contains list c) → ((p : ℕ) → (set p ≡ true) ↔ IsFlaggedAt plan flags p) → (p : ℕ) → (set p ≡ true) ↔ IsListedAt plan list p
listed_at plan list flags set names at p = (
  λ h. let w = (at p).0 h in record { container = w.container; holds = w.holds; named = (names w.container).0 w.flagged },
  λ w. (at p).1 (record { container = w.container; holds = w.holds; flagged = (names w.container).1 w.named }),
)
