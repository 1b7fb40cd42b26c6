use Rattle.std.proofs.Common.{◌≡◌, ◌≢◌, ℕ, zero, suc, ◌+◌, ◌<◌, ◌≤◌, ◌⊎◌, inl, inr, List, [], ◌∷◌, ◌++◌, length, set, get_or, refl, sym, ◌∙◌, subst, ap, arith, Option, Some, None, IfSome, IfNone}
use Rattle.std.proofs.lemmas.List.{get_or-set_same, get_or-set_other}
use Rattle.std.proofs.lemmas.Bool.Decides.{eqb_tells}
use Rattle.crossbeam_deque.specs.Handles.{Pass, view, taken}
use Rattle.certificate.specs.declared.nodes.Node.{Node}
use Rattle.shared_search.specs.declared.rule.Hand.{Hand}
use Rattle.search_core.specs.Bags.{weigh}
use Rattle.shared_search.specs.Bags.{hand, Found}
use Rattle.shared_search.specs.Racks.{stolen_weight}
use Rattle.search_core.proofs.Weights.{weigh_append}

same_or_other : (a b : ℕ) → (a ≡ b) ⊎ (a ≢ b)
same_or_other a b = elim (eqb_tells a b) [ inl h ↦ inl h.1 | inr h ↦ inr h.1 ]

module _ {A : Type 0} where
  stolen_set : (h : Node → ℕ) (ts : List (Pass Node Hand A)) (k : ℕ) (t d : Pass Node Hand A) → k < length ts → stolen_weight h (set ts k t) + weigh h (view (get_or ts k d)).took ≡ stolen_weight h ts + weigh h (view t).took
  stolen_set h [] k t d lt = absurd (omega arith)
  stolen_set h (x ∷ ts) zero t d lt = omega arith
  stolen_set h (x ∷ ts) (suc k) t d lt = omega (arith, stolen_set h ts k t d (omega arith))

  pub stolen_more : (h : Node → ℕ) (ts : List (Pass Node Hand A)) (k : ℕ) (old new : Pass Node Hand A) (x : Node) → k < length ts → old ≡ get_or ts k old
      → view new ≡ hand (view old).parts (view old).put ((view old).took ++ x ∷ []) → stolen_weight h (set ts k new) ≡ stolen_weight h ts + h x
  stolen_more h ts k old new x lt is e = omega (arith, stolen_set h ts k new old lt, ap (λ (t : Pass Node Hand A). weigh h (view {V = Hand} t).took) is, ap (λ (v : Hand). weigh h v.took) e, weigh_append h (view old).took (x ∷ []))

  pub stolen_same : (h : Node → ℕ) (ts : List (Pass Node Hand A)) (k : ℕ) (old new : Pass Node Hand A) → k < length ts → old ≡ get_or ts k old
      → view new ≡ view old → stolen_weight h (set ts k new) ≡ stolen_weight h ts
  stolen_same h ts k old new lt is e = omega (arith, stolen_set h ts k new old lt, ap (λ (t : Pass Node Hand A). weigh h (view {V = Hand} t).took) is, ap (λ (v : Hand). weigh h v.took) e)

-- what holds at each place still holds where one item was put in
pub at_each : {X : Type 0} (P : ℕ → X → Type 0) (n : ℕ) (ts : List X) (k : ℕ) (t : X) → k < length ts → P k t → ((j : ℕ) (e : X) → j < n → P j (get_or ts j e)) → (j : ℕ) (e : X) → j < n → P j (get_or (set ts k t) j e)
at_each {X} P n ts k t lt here others j e jlt = elim (same_or_other j k) [
  | inl same ↦ rw (same, get_or-set_same ts k t e lt) here
  | inr other ↦ rw (get_or-set_other ts k j t e other) (others j e jlt)
]

pub stolen_by : (meets : Node → Type 0) {A : Type 0} (r : Option Node) (ts : List (Pass Node Hand A)) (k : ℕ) (old new : Pass Node Hand A) (own : (Node → ℕ) → ℕ) → k < length ts → old ≡ get_or ts k old
    → IfSome r (λ x. (view new ≡ hand (view old).parts (view old).put ((view old).took ++ x ∷ [])) × meets x)
    → IfSome r (λ x. meets x × ((h : Node → ℕ) → own h + stolen_weight h (set ts k new) ≡ own h + stolen_weight h ts + h x))
stolen_by meets None ts k old new own lt is h = h
stolen_by meets (Some x) ts k old new own lt is h = (h.1, λ f. omega (arith, stolen_more f ts k old new x lt is h.0))

pub stolen_none : (F : Type 0) {A : Type 0} (r : Option Node) (ts : List (Pass Node Hand A)) (k : ℕ) (old new : Pass Node Hand A) (own : (Node → ℕ) → ℕ) → k < length ts → old ≡ get_or ts k old
    → IfNone r ((view new ≡ view old) × F)
    → IfNone r ((h : Node → ℕ) → own h + stolen_weight h (set ts k new) ≡ own h + stolen_weight h ts)
stolen_none F None ts k old new own lt is h = λ f. omega (arith, stolen_same f ts k old new lt is h.0)
stolen_none F (Some x) ts k old new own lt is h = h

any_default : {X : Type 0} (ts : List X) (k : ℕ) (d e : X) → k < length ts → get_or ts k d ≡ get_or ts k e
any_default [] k d e lt = absurd (omega arith)
any_default (x ∷ ts) zero d e lt = refl
any_default (x ∷ ts) (suc k) d e lt = any_default ts k d e (omega arith)

-- what a thief that took nothing found, said of its token by its place
pub few_at : (meets : Node → Type 0) {A : Type 0} (r : Option Node) (ts : List (Pass Node Hand A)) (k : ℕ) (old new : Pass Node Hand A) → k < length ts → old ≡ get_or ts k old
    → IfNone r ((view new ≡ view old) × (Found meets 1 (view old) ⊎ (taken old + 18446744073709551615 ≤ taken new)))
    → IfNone r ((d : Pass Node Hand A) → Found meets 1 (view (get_or ts k d)) ⊎ (taken (get_or ts k d) + 18446744073709551615 ≤ taken (get_or (set ts k new) k d)))
few_at meets {A} None ts k old new lt is h = λ d. rw (get_or-set_same ts k new d lt)
    (subst (λ (t : Pass Node Hand A). Found meets 1 (view t) ⊎ (taken t + 18446744073709551615 ≤ taken new)) (is ∙ any_default ts k old d lt) h.1)
few_at meets (Some x) ts k old new lt is h = h
