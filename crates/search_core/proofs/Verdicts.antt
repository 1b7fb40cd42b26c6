-- Each event is accepted or refused, and never both.
use Rattle.std.proofs.Common.{◌≡◌, ℕ, zero, suc, ◌<◌, ◌≤◌, ◌⊎◌, inl, inr, Bool, true, false, List, [], ◌∷◌, ◌++◌, length, Option, Some, None, ℤ, pos, ◌-ℤ◌, ◌*ℤ◌, ◌<ℤ◌, int_lt, All, refl, subst, ap, length-append, arith}
use borrow.Author.Differences.{ints}
use Rattle.std.proofs.lemmas.Bool.{cases_lt}
use Rattle.proof_trees.specs.Program.{Program}
use Rattle.proof_trees.specs.Boxes.{Box, at}
use Rattle.proof_trees.specs.Multipliers.{Multipliers, Closes, worth}
use Rattle.proof_trees.specs.Trees.{End, Leaf, Left, Branch, Entry, Pending}
use Rattle.search_core.specs.Journals.{branches, box_after, multipliers_after}
use Rattle.search_core.specs.Machine
use Rattle.search_core.specs.Machine.{Node, State, Event, Push, Pop, Steal, Load, Offer, Draw, Close, Divide, worker, HandFree, is_full, begins, IsEntry, Divides, Accepts}
use Rattle.search_core.specs.Refusals
use Rattle.search_core.specs.Refusals.{Refuses, IsLeafEntry, IsBranchEntry}
use Rattle.search_core.specs.declared.refused.Refused.{Refused}
use Rattle.search_core.specs.declared.refused.Refused.TheVariants.{NoWorker, HandFull, HandEmpty, DequeEmpty, HasTicket, NoTicket, NotSeen, BadEntry, NotFull, Short, NotFree, NoChild}

abbrev Told : Type 0 → Type 0
Told P = P ⊎ (P → ⊥)

both_told : {P Q : Type 0} → Told P → Told Q → Told (P × Q)
both_told (inl a) (inl b) = inl (a, b)
both_told (inr a) b = inr (λ h. a h.0)
both_told (inl a) (inr b) = inr (λ h. b h.1)

bool_told : (c : Bool) → (c ≡ true) ⊎ (c ≡ false)
bool_told true = inl refl
bool_told false = inr refl

true_told : (c : Bool) → Told (c ≡ true)
true_told true = inl refl
true_told false = inr (λ e. absurd (cc))

less_told : (a b : ℕ) → (a < b) ⊎ (b ≤ a)
less_told a b = cases_lt a b

option_told : {A : Type 0} (o : Option A) → (o ≡ None) ⊎ ((a : A) × (o ≡ Some a))
option_told None = inl refl
option_told (Some a) = inr (a, refl)

list_told : {A : Type 0} (xs : List A) → (xs ≡ []) ⊎ ((a : A) × (rest : List A) × (xs ≡ a ∷ rest))
list_told [] = inl refl
list_told (a ∷ rest) = inr (a, rest, refl)

last_told : {A : Type 0} (xs : List A) → (xs ≡ []) ⊎ ((a : A) × (rest : List A) × (xs ≡ rest ++ a ∷ []))
last_told [] = inl refl
last_told {A} (x ∷ xs) = elim (last_told xs) [
  | inl e ↦ inr (x, [], ap (λ (l : List A). x ∷ l) e)
  | inr h ↦ inr (h.0, x ∷ h.1, ap (λ (l : List A). x ∷ l) h.2)
]

none_told : {A : Type 0} (o : Option A) → Told (o ≡ None)
none_told None = inl refl
none_told (Some a) = inr (λ e. absurd (cc))

nil_told : {A : Type 0} (xs : List A) → Told (xs ≡ [])
nil_told [] = inl refl
nil_told (x ∷ xs) = inr (λ e. absurd (cc))

leaf_told : (e : End) → Told (e ≡ Leaf)
leaf_told Leaf = inl refl
leaf_told Left = inr (λ e. absurd (cc))
leaf_told (Branch v) = inr (λ e. absurd (cc))

closes_told : (a b : ℤ) (c : Bool) → int_lt a b ≡ c → Told (a <ℤ b)
closes_told a b true e = inl (omega (arith, ints))
closes_told a b false e = inr (λ h. absurd (omega (arith, ints)))

cons_all : {A : Type 0} (f : A → Bool) (x : A) (xs : List A) → f x ≡ true → All (λ a. f a ≡ true) xs → All (λ a. f a ≡ true) (x ∷ xs)
cons_all f x xs h hs zero d lt = h
cons_all f x xs h hs (suc k) d lt = hs k d (omega arith)

all_told : {A : Type 0} (f : A → Bool) (xs : List A) → Told (All (λ a. f a ≡ true) xs)
all_told f [] = inl (λ k d lt. absurd (omega arith))
all_told {A} f (x ∷ xs) = elim (true_told (f x)) [
  | inr lacks ↦ inr (λ h. lacks (h 0 x (omega arith)))
  | inl here ↦ elim (all_told f xs) [
    | inl more ↦ inl (cons_all f x xs here more)
    | inr none ↦ inr (λ h. none (λ k d lt. h (suc k) d (omega arith)))
  ]
]

pub hand_and_none : {A : Type 0} (o : Option A) (a : A) → o ≡ Some a → o ≡ None → ⊥
hand_and_none o a e f = cc

pub the_same : {A : Type 0} (o : Option A) (a b : A) → o ≡ Some a → o ≡ Some b → a ≡ b
the_same o a b e f = cc

pub true_and_false : (c : Bool) → c ≡ true → c ≡ false → ⊥
true_and_false c e f = cc

cons_and_nil : {A : Type 0} (xs : List A) (a : A) (rest : List A) → xs ≡ a ∷ rest → xs ≡ [] → ⊥
cons_and_nil xs a rest e f = cc

last_and_nil : {A : Type 0} (xs : List A) (a : A) (rest : List A) → xs ≡ rest ++ a ∷ [] → xs ≡ [] → ⊥
last_and_nil xs a rest e f = absurd (omega (arith, ap length e, ap length f, length-append rest (a ∷ [])))

module _ {R : Type 0} (same : R → R → Bool) (p : Program R) (base : List R) where
  some_told : (o : Option (Multipliers R)) → Told ((ms : Multipliers R) × (o ≡ Some ms))
  some_told None = inr (λ h. let bad : None ≡ Some h.0 = h.1 in absurd (cc))
  some_told (Some ms) = inl (ms, refl)

  entry_told : (q : Pending R) (e : Entry R) → Told (IsEntry same p q e)
  entry_told q e = both_told (both_told (all_told p.has e.steps) (all_told (λ (r : R × ℤ). p.has r.0) e.raises)) (some_told (multipliers_after same p q e))

  free_told : (b : Box) (e : End) → Told (Divides p b e)
  free_told b Leaf = inr (λ h. h)
  free_told b Left = inr (λ h. h)
  free_told b (Branch v) = elim (less_told v p.vars) [
    | inr le ↦ inr (λ h. let lt : v < p.vars = h.0 in absurd (omega arith))
    | inl lt ↦ elim (none_told (at b v)) [ inl e ↦ inl (lt, e) | inr lacks ↦ inr (λ h. lacks h.1) ]
  ]

  free_hand : (c : State R) (i : ℕ) → Told (HandFree c i)
  free_hand c i = both_told (none_told (worker c i).hand) (nil_told (worker c i).made)

  abbrev Verdict : State R → Event R → Type 0
  Verdict c event = ((d : State R) × Accepts same p base c event d) ⊎ ((r : Refused) × Refuses same p base c event r)

  push_told : (c : State R) (i : ℕ) → Verdict c (Push i)
  push_told c i = elim (less_told i (length c.workers)) [
    | inr le ↦ inr (NoWorker, le)
    | inl lt ↦ elim (list_told (worker c i).made) [ inl e ↦ inr (NoChild, (lt, e)) | inr h ↦ inl (_, (lt, (h.0, h.1, h.2, refl))) ]
  ]

  pop_told : (c : State R) (i : ℕ) → Verdict c (Pop i)
  pop_told c i = elim (less_told i (length c.workers)) [
    | inr le ↦ inr (NoWorker, le)
    | inl lt ↦ elim (free_hand c i) [
      | inr full ↦ inr (HandFull, (lt, full))
      | inl free ↦ elim (last_told (worker c i).deque) [ inl e ↦ inr (DequeEmpty, (lt, free, e)) | inr h ↦ inl (_, (lt, free, (h.0, h.1, h.2, refl))) ]
    ]
  ]

  steal_told : (c : State R) (i victim : ℕ) → Verdict c (Steal i victim)
  steal_told c i victim = elim (less_told i (length c.workers)) [
    | inr le ↦ inr (NoWorker, inl le)
    | inl lt ↦ elim (less_told victim (length c.workers)) [
      | inr le ↦ inr (NoWorker, inr le)
      | inl vlt ↦ elim (free_hand c i) [
        | inr full ↦ inr (HandFull, (lt, vlt, full))
        | inl free ↦ elim (list_told (worker c victim).deque) [ inl e ↦ inr (DequeEmpty, (lt, vlt, free, e)) | inr h ↦ inl (_, (lt, vlt, free, (h.0, h.1, h.2, refl))) ]
      ]
    ]
  ]

  load_told : (c : State R) (i : ℕ) → Verdict c (Load i)
  load_told c i = elim (less_told i (length c.workers)) [ inr le ↦ inr (NoWorker, le) | inl lt ↦ inl (_, (lt, refl)) ]

  draw_told : (c : State R) (i : ℕ) → Verdict c (Draw i)
  draw_told c i = elim (less_told i (length c.workers)) [
    | inr le ↦ inr (NoWorker, le)
    | inl lt ↦ elim (option_told (worker c i).hand) [
      | inl none ↦ inr (HandEmpty, (lt, none))
      | inr n ↦ elim (bool_told (worker c i).ticket) [
        | inl has ↦ inr (HasTicket, (n.0, (lt, n.1, has)))
        | inr lacks ↦ elim (less_told c.drawn c.budget) [
          | inl within ↦ inl (_, (lt, (n.0, n.1, lacks, inl (within, refl))))
          | inr over ↦ inl (_, (lt, (n.0, n.1, lacks, inr (over, refl))))
        ]
      ]
    ]
  ]

  offer_told : (c : State R) (i : ℕ) (e : Entry R) → Verdict c (Offer i e)
  offer_told c i e = elim (less_told i (length c.workers)) [
    | inr le ↦ inr (NoWorker, le)
    | inl lt ↦ elim (option_told (worker c i).hand) [
      | inl none ↦ inr (HandEmpty, (lt, none))
      | inr n ↦ elim (bool_told (worker c i).ticket) [
        | inr lacks ↦ inr (NoTicket, (n.0, (lt, n.1, lacks)))
        | inl has ↦ elim (both_told (entry_told (begins same p n.0) e) (leaf_told e.end)) [
          | inr bad ↦ inr (BadEntry, (n.0, (lt, n.1, has), bad))
          | inl good ↦ elim (bool_told (is_full p base (box_after same p (begins same p n.0) e))) [
            | inr part ↦ inr (NotFull, (n.0, (lt, n.1, has), good, part))
            | inl full ↦ inl (_, (lt, (n.0, n.1, has, good.0, good.1, full, refl)))
          ]
        ]
      ]
    ]
  ]

  close_told : (c : State R) (i : ℕ) (e : Entry R) → Verdict c (Close i e)
  close_told c i e = elim (less_told i (length c.workers)) [
    | inr le ↦ inr (NoWorker, le)
    | inl lt ↦ elim (option_told (worker c i).hand) [
      | inl none ↦ inr (HandEmpty, (lt, none))
      | inr n ↦ elim (bool_told (worker c i).ticket) [
        | inr lacks ↦ inr (NoTicket, (n.0, (lt, n.1, lacks)))
        | inl has ↦ elim (option_told (worker c i).seen) [
          | inl none ↦ inr (NotSeen, (n.0, (lt, n.1, has), none))
          | inr u ↦ elim (both_told (entry_told (begins same p n.0) e) (leaf_told e.end)) [
            | inr bad ↦ inr (BadEntry, (n.0, u.0, (lt, n.1, has), u.1, bad))
            | inl good ↦ elim (closes_told (pos 16 *ℤ (pos u.0 -ℤ pos 1)) (worth p (box_after same p (begins same p n.0) e) good.0.1.0) _ refl) [
              | inr short ↦ inr (Short _ _, (n.0, u.0, good.0.1.0, (lt, n.1, has), u.1, good.0.0, good.0.1.1, good.1, short, refl, refl))
              | inl closes ↦ inl (_, (lt, (n.0, u.0, good.0.1.0, n.1, has, u.1, good.0.0, good.0.1.1, good.1, closes, refl)))
            ]
          ]
        ]
      ]
    ]
  ]

  divide_told : (c : State R) (i : ℕ) (e : Entry R) → Verdict c (Divide i e)
  divide_told c i e = elim (less_told i (length c.workers)) [
    | inr le ↦ inr (NoWorker, le)
    | inl lt ↦ elim (option_told (worker c i).hand) [
      | inl none ↦ inr (HandEmpty, (lt, none))
      | inr n ↦ elim (bool_told (worker c i).ticket) [
        | inr lacks ↦ inr (NoTicket, (n.0, (lt, n.1, lacks)))
        | inl has ↦ elim (both_told (entry_told (begins same p n.0) e) (true_told (branches e.end))) [
          | inr bad ↦ inr (BadEntry, (n.0, (lt, n.1, has), bad))
          | inl good ↦ elim (free_told (box_after same p (begins same p n.0) e) e.end) [
            | inr fixed ↦ inr (NotFree, (n.0, (lt, n.1, has), good, fixed))
            | inl free ↦ inl (_, (lt, (n.0, n.1, has, good.0, free, refl)))
          ]
        ]
      ]
    ]
  ]

  pub each_event : (c : State R) (event : Event R) → Verdict c event
  each_event c (Push i) = push_told c i
  each_event c (Pop i) = pop_told c i
  each_event c (Steal i victim) = steal_told c i victim
  each_event c (Load i) = load_told c i
  each_event c (Offer i e) = offer_told c i e
  each_event c (Draw i) = draw_told c i
  each_event c (Close i e) = close_told c i e
  each_event c (Divide i e) = divide_told c i e

  divides_branch : (b : Box) (e : End) → Divides p b e → branches e ≡ true
  divides_branch b Leaf h = absurd h
  divides_branch b Left h = absurd h
  divides_branch b (Branch v) h = refl

  -- ## Never both

  never_push : (c d : State R) (i : ℕ) (r : Refused) → Machine.Pushes c i d → Refusals.RefusesPush c i r → ⊥
  never_push c d i NoWorker a x = let lt : i < length c.workers = a.0 in absurd (omega arith)
  never_push c d i NoChild a x = cons_and_nil (worker c i).made a.1.0 a.1.1 a.1.2 x.1
  never_push c d i r a x = absurd x

  never_pop : (c d : State R) (i : ℕ) (r : Refused) → Machine.Pops c i d → Refusals.RefusesPop c i r → ⊥
  never_pop c d i NoWorker a x = let lt : i < length c.workers = a.0 in absurd (omega arith)
  never_pop c d i HandFull a x = x.1 a.1
  never_pop c d i DequeEmpty a x = last_and_nil (worker c i).deque a.2.0 a.2.1 a.2.2 x.2
  never_pop c d i r a x = absurd x

  never_steal : (c d : State R) (i victim : ℕ) (r : Refused) → Machine.Steals c i victim d → Refusals.RefusesSteal c i victim r → ⊥
  never_steal c d i victim NoWorker a (inl x) = let lt : i < length c.workers = a.0 in absurd (omega arith)
  never_steal c d i victim NoWorker a (inr x) = let lt : victim < length c.workers = a.1 in absurd (omega arith)
  never_steal c d i victim HandFull a x = x.2 a.2
  never_steal c d i victim DequeEmpty a x = cons_and_nil (worker c victim).deque a.3.0 a.3.1 a.3.2 x.3
  never_steal c d i victim r a x = absurd x

  never_load : (c d : State R) (i : ℕ) (r : Refused) → Machine.Loads c i d → Refusals.RefusesLoad c i r → ⊥
  never_load c d i NoWorker a x = let lt : i < length c.workers = a.0 in absurd (omega arith)
  never_load c d i r a x = absurd x

  never_draw : (c d : State R) (i : ℕ) (r : Refused) → Machine.Draws c i d → Refusals.RefusesDraw c i r → ⊥
  never_draw c d i NoWorker a x = let lt : i < length c.workers = a.0 in absurd (omega arith)
  never_draw c d i HandEmpty a x = hand_and_none (worker c i).hand a.1.0 a.1.1 x.1
  never_draw c d i HasTicket a x = true_and_false (worker c i).ticket x.1.2 a.1.2
  never_draw c d i r a x = absurd x

  never_offer : (c d : State R) (i : ℕ) (e : Entry R) (r : Refused) → Machine.Offers same p base c i e d → Refusals.RefusesOffer same p base c i e r → ⊥
  never_offer c d i e NoWorker a x = let lt : i < length c.workers = a.0 in absurd (omega arith)
  never_offer c d i e HandEmpty a x = hand_and_none (worker c i).hand a.1.0 a.1.1 x.1
  never_offer c d i e NoTicket a x = true_and_false (worker c i).ticket a.1.2 x.1.2
  never_offer c d i e BadEntry a x = x.2 (subst (λ (n : Node R). IsLeafEntry same p n e) (the_same (worker c i).hand a.1.0 x.0 a.1.1 x.1.1) (a.1.3, a.1.4))
  never_offer c d i e NotFull a x = true_and_false (is_full p base (box_after same p (begins same p x.0) e))
      (subst (λ (n : Node R). is_full p base (box_after same p (begins same p n) e) ≡ true) (the_same (worker c i).hand a.1.0 x.0 a.1.1 x.1.1) a.1.5) x.3
  never_offer c d i e r a x = absurd x

  never_close : (c d : State R) (i : ℕ) (e : Entry R) (r : Refused) → Machine.ClosesHand same p c i e d → Refusals.RefusesClose same p c i e r → ⊥
  never_close c d i e NoWorker a x = let lt : i < length c.workers = a.0 in absurd (omega arith)
  never_close c d i e HandEmpty a x = hand_and_none (worker c i).hand a.1.0 a.1.3 x.1
  never_close c d i e NoTicket a x = true_and_false (worker c i).ticket a.1.4 x.1.2
  never_close c d i e NotSeen a x = hand_and_none (worker c i).seen a.1.1 a.1.5 x.2
  never_close c d i e BadEntry a x = x.4 (subst (λ (n : Node R). IsLeafEntry same p n e) (the_same (worker c i).hand a.1.0 x.0 a.1.3 x.2.1) ((a.1.6, (a.1.2, a.1.7)), a.1.8))
  never_close c d i e (Short value needed) a x =
      let node = the_same (worker c i).hand a.1.0 x.0 a.1.3 x.3.1 in
      let value_seen = the_same (worker c i).seen a.1.1 x.1 a.1.5 x.4 in
      let here : (multipliers_after same p (begins same p x.0) e ≡ Some a.1.2) × Closes p (box_after same p (begins same p x.0) e) a.1.2 a.1.1
      = subst (λ (n : Node R). (multipliers_after same p (begins same p n) e ≡ Some a.1.2) × Closes p (box_after same p (begins same p n) e) a.1.2 a.1.1) node (a.1.7, a.1.9) in
      let amounts = the_same (multipliers_after same p (begins same p x.0) e) a.1.2 x.2 here.0 x.6 in
      x.8 (subst (λ (ms : Multipliers R). Closes p (box_after same p (begins same p x.0) e) ms x.1) amounts (subst (Closes p (box_after same p (begins same p x.0) e) a.1.2) value_seen here.1))
  never_close c d i e r a x = absurd x

  never_divide : (c d : State R) (i : ℕ) (e : Entry R) (r : Refused) → Machine.DividesHand same p c i e d → Refusals.RefusesDivide same p c i e r → ⊥
  never_divide c d i e NoWorker a x = let lt : i < length c.workers = a.0 in absurd (omega arith)
  never_divide c d i e HandEmpty a x = hand_and_none (worker c i).hand a.1.0 a.1.1 x.1
  never_divide c d i e NoTicket a x = true_and_false (worker c i).ticket a.1.2 x.1.2
  never_divide c d i e BadEntry a x = x.2 (subst (λ (n : Node R). IsBranchEntry same p n e) (the_same (worker c i).hand a.1.0 x.0 a.1.1 x.1.1) (a.1.3, divides_branch _ e.end a.1.4))
  never_divide c d i e NotFree a x = x.3 (subst (λ (n : Node R). Divides p (box_after same p (begins same p n) e) e.end) (the_same (worker c i).hand a.1.0 x.0 a.1.1 x.1.1) a.1.4)
  never_divide c d i e r a x = absurd x

  pub never_both : (c d : State R) (event : Event R) (r : Refused) → Accepts same p base c event d → Refuses same p base c event r → ⊥
  never_both c d (Push i) r a x = never_push c d i r a x
  never_both c d (Pop i) r a x = never_pop c d i r a x
  never_both c d (Steal i victim) r a x = never_steal c d i victim r a x
  never_both c d (Load i) r a x = never_load c d i r a x
  never_both c d (Offer i e) r a x = never_offer c d i e r a x
  never_both c d (Draw i) r a x = never_draw c d i r a x
  never_both c d (Close i e) r a x = never_close c d i e r a x
  never_both c d (Divide i e) r a x = never_divide c d i e r a x
