-- Open nodes where one worker changes.
use Rattle.std.proofs.Common.{◌≡◌, ◌≢◌, ℕ, zero, suc, ◌+◌, ◌<◌, ◌⊎◌, inl, inr, List, [], ◌∷◌, ◌++◌, length, slice_index_or, slice_set, sym, subst, ap, ◌∙◌, arith}
use Rattle.std.proofs.lemmas.Bool.Decides.{eqb_tells}
use Rattle.std.proofs.lemmas.List.{get_or-set_same, get_or-set_other}
use Rattle.search_core.specs.Bags.{weigh, In}
use Rattle.search_core.specs.Machine.{Node, Worker, idle, Holds, ticket_of}

pub same_or_other : (a b : ℕ) → (a ≡ b) ⊎ (a ≢ b)
same_or_other a b = elim (eqb_tells a b) [ inl h ↦ inl h.1 | inr h ↦ inr h.1 ]

module _ {A : Type 0} where
  pub in_left : (a : A) (xs ys : List A) → In a xs → In a (xs ++ ys)
  in_left a [] ys h = absurd h
  in_left a (x ∷ xs) ys (inl e) = inl e
  in_left a (x ∷ xs) ys (inr h) = inr (in_left a xs ys h)

  pub in_right : (a : A) (xs ys : List A) → In a ys → In a (xs ++ ys)
  in_right a [] ys h = h
  in_right a (x ∷ xs) ys h = inr (in_right a xs ys h)

  pub in_either : (a : A) (xs ys : List A) → In a (xs ++ ys) → In a xs ⊎ In a ys
  in_either a [] ys h = inr h
  in_either a (x ∷ xs) ys (inl e) = inl (inl e)
  in_either a (x ∷ xs) ys (inr h) = elim (in_either a xs ys h) [ inl k ↦ inl (inr k) | inr k ↦ inr k ]

  pub in_last : (a x : A) (xs : List A) → In a (xs ++ x ∷ []) → In a xs ⊎ (a ≡ x)
  in_last a x xs h = elim (in_either a xs (x ∷ []) h) [ inl k ↦ inl k | inr k ↦ elim k [ inl e ↦ inr e | inr none ↦ absurd none ] ]

module _ {R : Type 0} where
  abbrev pub who : List (Worker (Node R)) → ℕ → Worker (Node R)
  who ws i = slice_index_or ws i idle

  abbrev pub SomeHolds : List (Worker (Node R)) → Node R → Type 0
  SomeHolds ws n = (j : ℕ) × Holds (who ws j) n

  pub who_same : (ws : List (Worker (Node R))) (i : ℕ) (w : Worker (Node R)) → i < length ws → who (slice_set ws i w) i ≡ w
  who_same ws i w lt = get_or-set_same ws i w idle lt

  pub who_other : (ws : List (Worker (Node R))) (i j : ℕ) (w : Worker (Node R)) → j ≢ i → who (slice_set ws i w) j ≡ who ws j
  who_other ws i j w other = get_or-set_other ws i j w idle other

  -- what holds of the new worker and of the others
  pub each_who : (P : Worker (Node R) → Type 0) (ws : List (Worker (Node R))) (i j : ℕ) (w : Worker (Node R)) → i < length ws → P w → P (who ws j) → P (who (slice_set ws i w) j)
  each_who P ws i j w lt new old = elim (same_or_other j i) [
    | inl same ↦ subst (λ (k : ℕ). P (who (slice_set ws i w) k)) (sym same) (subst P (sym (who_same ws i w lt)) new)
    | inr other ↦ subst P (sym (who_other ws i j w other)) old
  ]

  pub from_new : (X : Node R → Type 0) (ws : List (Worker (Node R))) (i : ℕ) (w : Worker (Node R)) → i < length ws → ((n : Node R) → Holds w n → SomeHolds ws n ⊎ X n) → (n : Node R) → SomeHolds (slice_set ws i w) n → SomeHolds ws n ⊎ X n
  from_new X ws i w lt new n (j, h) = elim (same_or_other j i) [
    | inl same ↦ new n (subst (λ (v : Worker (Node R)). Holds v n) (who_same ws i w lt) (subst (λ (k : ℕ). Holds (who (slice_set ws i w) k) n) same h))
    | inr other ↦ inl (j, subst (λ (v : Worker (Node R)). Holds v n) (who_other ws i j w other) h)
  ]

  pub to_new : (X : Node R → Type 0) (ws : List (Worker (Node R))) (i : ℕ) (w : Worker (Node R)) → i < length ws → ((n : Node R) → Holds (who ws i) n → Holds w n ⊎ X n) → (n : Node R) → SomeHolds ws n → SomeHolds (slice_set ws i w) n ⊎ X n
  to_new X ws i w lt new n (j, h) = elim (same_or_other j i) [
    | inl same ↦ elim (new n (subst (λ (k : ℕ). Holds (who ws k) n) same h)) [
      | inl k ↦ inl (i, subst (λ (v : Worker (Node R)). Holds v n) (sym (who_same ws i w lt)) k)
      | inr gone ↦ inr gone
    ]
    | inr other ↦ inl (j, subst (λ (v : Worker (Node R)). Holds v n) (sym (who_other ws i j w other)) h)
  ]

  pub tickets_set : (ws : List (Worker (Node R))) (i : ℕ) (w : Worker (Node R)) → i < length ws → weigh ticket_of (slice_set ws i w) + ticket_of (who ws i) ≡ weigh ticket_of ws + ticket_of w
  tickets_set [] i w lt = absurd (omega arith)
  tickets_set (v ∷ ws) zero w lt = omega arith
  tickets_set (v ∷ ws) (suc i) w lt = omega (arith, tickets_set ws i w (omega arith))

  -- a field that the new worker has as the old one
  pub kept_field : {A : Type 0} (f : Worker (Node R) → A) (ws : List (Worker (Node R))) (i j : ℕ) (w : Worker (Node R)) → i < length ws → f w ≡ f (who ws i) → f (who (slice_set ws i w) j) ≡ f (who ws j)
  kept_field f ws i j w lt e = elim (same_or_other j i) [
    | inl same ↦ subst (λ (k : ℕ). f (who (slice_set ws i w) k) ≡ f (who ws k)) (sym same) (ap f (who_same ws i w lt) ∙ e)
    | inr other ↦ ap f (who_other ws i j w other)
  ]
