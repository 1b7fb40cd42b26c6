-- An event has one verdict: one state after it, or one cause for which it is refused.
use Rattle.std.proofs.Common.{◌≡◌, ℕ, ◌+◌, ◌<◌, ◌≤◌, inl, inr, Bool, true, false, List, [], ◌∷◌, ◌++◌, length, Some, None, ℤ, pos, ◌+ℤ◌, ◌-ℤ◌, ◌*ℤ◌, refl, sym, subst, ap, ◌∙◌, length-append, arith}
use Rattle.proof_trees.specs.Program.{Program}
use Rattle.proof_trees.specs.Multipliers.{Multipliers, worth}
use Rattle.proof_trees.specs.Trees.{Entry}
use Rattle.search_core.specs.Journals.{box_after, multipliers_after}
use Rattle.search_core.specs.Machine
use Rattle.search_core.specs.Machine.{Node, State, Event, Push, Pop, Steal, Load, Offer, Draw, Close, Divide, half_node, handled, with_worker, takes, worker, lesser, price, begins, Accepts}
use Rattle.search_core.specs.Refusals
use Rattle.search_core.specs.Refusals.{IsLeafEntry, IsBranchEntry, Refuses}
use Rattle.search_core.specs.declared.refused.Refused.{Refused}
use Rattle.search_core.specs.declared.refused.Refused.TheVariants.{NoWorker, HandFull, HandEmpty, DequeEmpty, HasTicket, NoTicket, NotSeen, BadEntry, NotFull, Short, NotFree, NoChild}
use Rattle.search_core.proofs.Verdicts.{hand_and_none, the_same, true_and_false}

-- ## Lists

head_is : {A : Type 0} (a b : A) (xs ys : List A) → a ∷ xs ≡ b ∷ ys → a ≡ b
head_is a b xs ys e = cc

tail_is : {A : Type 0} (a b : A) (xs ys : List A) → a ∷ xs ≡ b ∷ ys → xs ≡ ys
tail_is a b xs ys e = cc

cons_is : {A : Type 0} (a b : A) (xs ys : List A) → a ≡ b → xs ≡ ys → a ∷ xs ≡ b ∷ ys
cons_is a b xs ys e f = cc

ends_are : {A : Type 0} (xs ys : List A) (a b : A) → xs ++ a ∷ [] ≡ ys ++ b ∷ [] → (a ≡ b) × (xs ≡ ys)
ends_are [] [] a b e = (head_is a b [] [] e, refl)
ends_are [] (y ∷ ys) a b e = absurd (omega (arith, ap length e, length-append ys (b ∷ [])))
ends_are (x ∷ xs) [] a b e = absurd (omega (arith, ap length e, length-append xs (a ∷ [])))
ends_are (x ∷ xs) (y ∷ ys) a b e =
    let rest = ends_are xs ys a b (tail_is x y (xs ++ a ∷ []) (ys ++ b ∷ []) e) in
    (rest.0, cons_is x y xs ys (head_is x y (xs ++ a ∷ []) (ys ++ b ∷ []) e) rest.1)

ap_both : {A B C : Type 0} (f : A → B → C) (a a' : A) (b b' : B) → a ≡ a' → b ≡ b' → f a b ≡ f a' b'
ap_both f a a' b b' e g = cc

-- ## One state after it

module _ {R : Type 0} where
  one_push : (c d d' : State R) (i : ℕ) → Machine.Pushes c i d → Machine.Pushes c i d' → d ≡ d'
  one_push c d d' i (lt, (n, rest, made, is)) (lt', (n', rest', made', is')) =
      let e : n ∷ rest ≡ n' ∷ rest' = sym made ∙ made' in
      is ∙ (ap_both (λ m ms. with_worker c i (record (worker c i) { made = ms; deque = (worker c i).deque ++ m ∷ [] })) n n' rest rest' (head_is n n' rest rest' e) (tail_is n n' rest rest' e) ∙ sym is')

  one_pop : (c d d' : State R) (i : ℕ) → Machine.Pops c i d → Machine.Pops c i d' → d ≡ d'
  one_pop c d d' i (lt, free, (n, rest, deque, is)) (lt', free', (n', rest', deque', is')) =
      let e = ends_are rest rest' n n' (sym deque ∙ deque') in
      is ∙ (ap_both (λ m ms. with_worker c i (record (worker c i) { deque = ms; hand = Some m })) n n' rest rest' e.0 e.1 ∙ sym is')

  one_steal : (c d d' : State R) (i victim : ℕ) → Machine.Steals c i victim d → Machine.Steals c i victim d' → d ≡ d'
  one_steal c d d' i victim (lt, vlt, free, (n, rest, deque, is)) (lt', vlt', free', (n', rest', deque', is')) =
      let e : n ∷ rest ≡ n' ∷ rest' = sym deque ∙ deque' in
      is ∙ (ap_both (λ m ms. takes (with_worker c victim (record (worker c victim) { deque = ms })) i m) n n' rest rest' (head_is n n' rest rest' e) (tail_is n n' rest rest' e) ∙ sym is')

  one_load : (c d d' : State R) (i : ℕ) → Machine.Loads c i d → Machine.Loads c i d' → d ≡ d'
  one_load c d d' i (lt, is) (lt', is') = is ∙ sym is'

  one_draw : (c d d' : State R) (i : ℕ) → Machine.Draws c i d → Machine.Draws c i d' → d ≡ d'
  one_draw c d d' i (lt, (n, hand, ticket, inl within)) (lt', (n', hand', ticket', inl within')) = within.1 ∙ sym within'.1
  one_draw c d d' i (lt, (n, hand, ticket, inl within)) (lt', (n', hand', ticket', inr over')) = let a : c.drawn < c.budget = within.0 in let b : c.budget ≤ c.drawn = over'.0 in absurd (omega arith)
  one_draw c d d' i (lt, (n, hand, ticket, inr over)) (lt', (n', hand', ticket', inl within')) = let a : c.drawn < c.budget = within'.0 in let b : c.budget ≤ c.drawn = over.0 in absurd (omega arith)
  one_draw c d d' i (lt, (n, hand, ticket, inr over)) (lt', (n', hand', ticket', inr over')) =
      over.1 ∙ (ap (λ (m : Node R). with_worker (record c { drawn = c.drawn + 1; left = c.left ++ m ∷ [] }) i (record (worker c i) { hand = None })) (the_same (worker c i).hand n n' hand hand') ∙ sym over'.1)

module _ {R : Type 0} (same : R → R → Bool) (p : Program R) (base : List R) where
  one_offer : (c d d' : State R) (i : ℕ) (e : Entry R) → Machine.Offers same p base c i e d → Machine.Offers same p base c i e d' → d ≡ d'
  one_offer c d d' i e (lt, (n, hand, ticket, entry, leaf, full, is)) (lt', (n', hand', ticket', entry', leaf', full', is')) =
      is ∙ (ap (λ (m : Node R). record c { word = lesser c.word (price p (box_after same p (begins same p m) e)) }) (the_same (worker c i).hand n n' hand hand') ∙ sym is')

  one_close : (c d d' : State R) (i : ℕ) (e : Entry R) → Machine.ClosesHand same p c i e d → Machine.ClosesHand same p c i e d' → d ≡ d'
  one_close c d d' i e (lt, (n, seen, ms, hand, ticket, sees, rows, has, leaf, closes, is)) (lt', (n', seen', ms', hand', ticket', sees', rows', has', leaf', closes', is')) =
      is ∙ (ap (λ (m : Node R). with_worker (record c { ended = c.ended ++ handled m e ∷ [] }) i (record (worker c i) { hand = None; ticket = false })) (the_same (worker c i).hand n n' hand hand') ∙ sym is')

  one_divide : (c d d' : State R) (i : ℕ) (e : Entry R) → Machine.DividesHand same p c i e d → Machine.DividesHand same p c i e d' → d ≡ d'
  one_divide c d d' i e (lt, (n, hand, ticket, entry, free, is)) (lt', (n', hand', ticket', entry', free', is')) =
      is ∙ (ap (λ (m : Node R). with_worker (record c { ended = c.ended ++ handled m e ∷ [] }) i (record (worker c i) { hand = None; ticket = false; made = (worker c i).made ++ half_node m e true ∷ half_node m e false ∷ [] })) (the_same (worker c i).hand n n' hand hand') ∙ sym is')

  pub one_next : (c d d' : State R) (event : Event R) → Accepts same p base c event d → Accepts same p base c event d' → d ≡ d'
  one_next c d d' (Push i) a b = one_push c d d' i a b
  one_next c d d' (Pop i) a b = one_pop c d d' i a b
  one_next c d d' (Steal i victim) a b = one_steal c d d' i victim a b
  one_next c d d' (Load i) a b = one_load c d d' i a b
  one_next c d d' (Offer i e) a b = one_offer c d d' i e a b
  one_next c d d' (Draw i) a b = one_draw c d d' i a b
  one_next c d d' (Close i e) a b = one_close c d d' i e a b
  one_next c d d' (Divide i e) a b = one_divide c d d' i e a b

-- ## One cause

module _ {R : Type 0} where
  beyond : (c : State R) (i : ℕ) → length c.workers ≤ i → i < length c.workers → ⊥
  beyond c i le lt = absurd (omega arith)

  one_cause_push : (c : State R) (i : ℕ) (r r' : Refused) → Refusals.RefusesPush c i r → Refusals.RefusesPush c i r' → r ≡ r'
  one_cause_push c i NoWorker NoWorker a b = refl
  one_cause_push c i NoWorker NoChild a b = absurd (beyond c i a b.0)
  one_cause_push c i NoWorker r a b = absurd b
  one_cause_push c i NoChild NoWorker a b = absurd (beyond c i b a.0)
  one_cause_push c i NoChild NoChild a b = refl
  one_cause_push c i NoChild r a b = absurd b
  one_cause_push c i r r' a b = absurd a

  one_cause_pop : (c : State R) (i : ℕ) (r r' : Refused) → Refusals.RefusesPop c i r → Refusals.RefusesPop c i r' → r ≡ r'
  one_cause_pop c i NoWorker NoWorker a b = refl
  one_cause_pop c i NoWorker HandFull a b = absurd (beyond c i a b.0)
  one_cause_pop c i NoWorker DequeEmpty a b = absurd (beyond c i a b.0)
  one_cause_pop c i NoWorker r a b = absurd b
  one_cause_pop c i HandFull NoWorker a b = absurd (beyond c i b a.0)
  one_cause_pop c i HandFull HandFull a b = refl
  one_cause_pop c i HandFull DequeEmpty a b = absurd (a.1 b.1)
  one_cause_pop c i HandFull r a b = absurd b
  one_cause_pop c i DequeEmpty NoWorker a b = absurd (beyond c i b a.0)
  one_cause_pop c i DequeEmpty HandFull a b = absurd (b.1 a.1)
  one_cause_pop c i DequeEmpty DequeEmpty a b = refl
  one_cause_pop c i DequeEmpty r a b = absurd b
  one_cause_pop c i r r' a b = absurd a

  beyond_either : (c : State R) (i victim : ℕ) → Refusals.RefusesSteal c i victim NoWorker → i < length c.workers → victim < length c.workers → ⊥
  beyond_either c i victim (inl le) lt vlt = beyond c i le lt
  beyond_either c i victim (inr le) lt vlt = beyond c victim le vlt

  one_cause_steal : (c : State R) (i victim : ℕ) (r r' : Refused) → Refusals.RefusesSteal c i victim r → Refusals.RefusesSteal c i victim r' → r ≡ r'
  one_cause_steal c i victim NoWorker NoWorker a b = refl
  one_cause_steal c i victim NoWorker HandFull a b = absurd (beyond_either c i victim a b.0 b.1)
  one_cause_steal c i victim NoWorker DequeEmpty a b = absurd (beyond_either c i victim a b.0 b.1)
  one_cause_steal c i victim NoWorker r a b = absurd b
  one_cause_steal c i victim HandFull NoWorker a b = absurd (beyond_either c i victim b a.0 a.1)
  one_cause_steal c i victim HandFull HandFull a b = refl
  one_cause_steal c i victim HandFull DequeEmpty a b = absurd (a.2 b.2)
  one_cause_steal c i victim HandFull r a b = absurd b
  one_cause_steal c i victim DequeEmpty NoWorker a b = absurd (beyond_either c i victim b a.0 a.1)
  one_cause_steal c i victim DequeEmpty HandFull a b = absurd (b.2 a.2)
  one_cause_steal c i victim DequeEmpty DequeEmpty a b = refl
  one_cause_steal c i victim DequeEmpty r a b = absurd b
  one_cause_steal c i victim r r' a b = absurd a

  one_cause_load : (c : State R) (i : ℕ) (r r' : Refused) → Refusals.RefusesLoad c i r → Refusals.RefusesLoad c i r' → r ≡ r'
  one_cause_load c i NoWorker NoWorker a b = refl
  one_cause_load c i NoWorker r a b = absurd b
  one_cause_load c i r r' a b = absurd a

  one_cause_draw : (c : State R) (i : ℕ) (r r' : Refused) → Refusals.RefusesDraw c i r → Refusals.RefusesDraw c i r' → r ≡ r'
  one_cause_draw c i NoWorker NoWorker a b = refl
  one_cause_draw c i NoWorker HandEmpty a b = absurd (beyond c i a b.0)
  one_cause_draw c i NoWorker HasTicket a b = absurd (beyond c i a b.1.0)
  one_cause_draw c i NoWorker r a b = absurd b
  one_cause_draw c i HandEmpty NoWorker a b = absurd (beyond c i b a.0)
  one_cause_draw c i HandEmpty HandEmpty a b = refl
  one_cause_draw c i HandEmpty HasTicket a b = absurd (hand_and_none (worker c i).hand b.0 b.1.1 a.1)
  one_cause_draw c i HandEmpty r a b = absurd b
  one_cause_draw c i HasTicket NoWorker a b = absurd (beyond c i b a.1.0)
  one_cause_draw c i HasTicket HandEmpty a b = absurd (hand_and_none (worker c i).hand a.0 a.1.1 b.1)
  one_cause_draw c i HasTicket HasTicket a b = refl
  one_cause_draw c i HasTicket r a b = absurd b
  one_cause_draw c i r r' a b = absurd a

module _ {R : Type 0} (same : R → R → Bool) (p : Program R) (base : List R) where
  one_cause_offer : (c : State R) (i : ℕ) (e : Entry R) (r r' : Refused) → Refusals.RefusesOffer same p base c i e r → Refusals.RefusesOffer same p base c i e r' → r ≡ r'
  one_cause_offer c i e NoWorker NoWorker a b = refl
  one_cause_offer c i e NoWorker HandEmpty a b = absurd (beyond c i a b.0)
  one_cause_offer c i e NoWorker NoTicket a b = absurd (beyond c i a b.1.0)
  one_cause_offer c i e NoWorker BadEntry a b = absurd (beyond c i a b.1.0)
  one_cause_offer c i e NoWorker NotFull a b = absurd (beyond c i a b.1.0)
  one_cause_offer c i e NoWorker r a b = absurd b
  one_cause_offer c i e HandEmpty NoWorker a b = absurd (beyond c i b a.0)
  one_cause_offer c i e HandEmpty HandEmpty a b = refl
  one_cause_offer c i e HandEmpty NoTicket a b = absurd (hand_and_none (worker c i).hand b.0 b.1.1 a.1)
  one_cause_offer c i e HandEmpty BadEntry a b = absurd (hand_and_none (worker c i).hand b.0 b.1.1 a.1)
  one_cause_offer c i e HandEmpty NotFull a b = absurd (hand_and_none (worker c i).hand b.0 b.1.1 a.1)
  one_cause_offer c i e HandEmpty r a b = absurd b
  one_cause_offer c i e NoTicket NoWorker a b = absurd (beyond c i b a.1.0)
  one_cause_offer c i e NoTicket HandEmpty a b = absurd (hand_and_none (worker c i).hand a.0 a.1.1 b.1)
  one_cause_offer c i e NoTicket NoTicket a b = refl
  one_cause_offer c i e NoTicket BadEntry a b = absurd (true_and_false (worker c i).ticket b.1.2 a.1.2)
  one_cause_offer c i e NoTicket NotFull a b = absurd (true_and_false (worker c i).ticket b.1.2 a.1.2)
  one_cause_offer c i e NoTicket r a b = absurd b
  one_cause_offer c i e BadEntry NoWorker a b = absurd (beyond c i b a.1.0)
  one_cause_offer c i e BadEntry HandEmpty a b = absurd (hand_and_none (worker c i).hand a.0 a.1.1 b.1)
  one_cause_offer c i e BadEntry NoTicket a b = absurd (true_and_false (worker c i).ticket a.1.2 b.1.2)
  one_cause_offer c i e BadEntry BadEntry a b = refl
  one_cause_offer c i e BadEntry NotFull a b = absurd (a.2 (subst (λ (n : Node R). IsLeafEntry same p n e) (the_same (worker c i).hand b.0 a.0 b.1.1 a.1.1) b.2))
  one_cause_offer c i e BadEntry r a b = absurd b
  one_cause_offer c i e NotFull NoWorker a b = absurd (beyond c i b a.1.0)
  one_cause_offer c i e NotFull HandEmpty a b = absurd (hand_and_none (worker c i).hand a.0 a.1.1 b.1)
  one_cause_offer c i e NotFull NoTicket a b = absurd (true_and_false (worker c i).ticket a.1.2 b.1.2)
  one_cause_offer c i e NotFull BadEntry a b = absurd (b.2 (subst (λ (n : Node R). IsLeafEntry same p n e) (the_same (worker c i).hand a.0 b.0 a.1.1 b.1.1) a.2))
  one_cause_offer c i e NotFull NotFull a b = refl
  one_cause_offer c i e NotFull r a b = absurd b
  one_cause_offer c i e r r' a b = absurd a

  one_short : (c : State R) (i : ℕ) (e : Entry R) (v v' w w' : ℤ) → Refusals.RefusesClose same p c i e (Short v w) → Refusals.RefusesClose same p c i e (Short v' w') → Short v w ≡ Short v' w'
  one_short c i e v v' w w' a b =
      let node : a.0 ≡ b.0 = the_same (worker c i).hand a.0 b.0 a.3.1 b.3.1 in
      let seen : a.1 ≡ b.1 = the_same (worker c i).seen a.1 b.1 a.4 b.4 in
      let has : multipliers_after same p (begins same p b.0) e ≡ Some a.2 = subst (λ (n : Node R). multipliers_after same p (begins same p n) e ≡ Some a.2) node a.6 in
      let amounts : a.2 ≡ b.2 = the_same (multipliers_after same p (begins same p b.0) e) a.2 b.2 has b.6 in
      let value : v ≡ v' = a.9 ∙ (ap_both (λ (n : Node R) (ms : Multipliers R). worth p (box_after same p (begins same p n) e) ms) a.0 b.0 a.2 b.2 node amounts ∙ sym b.9) in
      let needed : w ≡ w' = a.10 ∙ (ap (λ (u : ℕ). (pos 16 *ℤ (pos u -ℤ pos 1)) +ℤ pos 1) seen ∙ sym b.10) in
      ap_both (λ x y. Short x y) v v' w w' value needed

  one_cause_close : (c : State R) (i : ℕ) (e : Entry R) (r r' : Refused) → Refusals.RefusesClose same p c i e r → Refusals.RefusesClose same p c i e r' → r ≡ r'
  one_cause_close c i e NoWorker NoWorker a b = refl
  one_cause_close c i e NoWorker HandEmpty a b = absurd (beyond c i a b.0)
  one_cause_close c i e NoWorker NoTicket a b = absurd (beyond c i a b.1.0)
  one_cause_close c i e NoWorker NotSeen a b = absurd (beyond c i a b.1.0)
  one_cause_close c i e NoWorker BadEntry a b = absurd (beyond c i a b.2.0)
  one_cause_close c i e NoWorker (Short v w) a b = absurd (beyond c i a b.3.0)
  one_cause_close c i e NoWorker r a b = absurd b
  one_cause_close c i e HandEmpty NoWorker a b = absurd (beyond c i b a.0)
  one_cause_close c i e HandEmpty HandEmpty a b = refl
  one_cause_close c i e HandEmpty NoTicket a b = absurd (hand_and_none (worker c i).hand b.0 b.1.1 a.1)
  one_cause_close c i e HandEmpty NotSeen a b = absurd (hand_and_none (worker c i).hand b.0 b.1.1 a.1)
  one_cause_close c i e HandEmpty BadEntry a b = absurd (hand_and_none (worker c i).hand b.0 b.2.1 a.1)
  one_cause_close c i e HandEmpty (Short v w) a b = absurd (hand_and_none (worker c i).hand b.0 b.3.1 a.1)
  one_cause_close c i e HandEmpty r a b = absurd b
  one_cause_close c i e NoTicket NoWorker a b = absurd (beyond c i b a.1.0)
  one_cause_close c i e NoTicket HandEmpty a b = absurd (hand_and_none (worker c i).hand a.0 a.1.1 b.1)
  one_cause_close c i e NoTicket NoTicket a b = refl
  one_cause_close c i e NoTicket NotSeen a b = absurd (true_and_false (worker c i).ticket b.1.2 a.1.2)
  one_cause_close c i e NoTicket BadEntry a b = absurd (true_and_false (worker c i).ticket b.2.2 a.1.2)
  one_cause_close c i e NoTicket (Short v w) a b = absurd (true_and_false (worker c i).ticket b.3.2 a.1.2)
  one_cause_close c i e NoTicket r a b = absurd b
  one_cause_close c i e NotSeen NoWorker a b = absurd (beyond c i b a.1.0)
  one_cause_close c i e NotSeen HandEmpty a b = absurd (hand_and_none (worker c i).hand a.0 a.1.1 b.1)
  one_cause_close c i e NotSeen NoTicket a b = absurd (true_and_false (worker c i).ticket a.1.2 b.1.2)
  one_cause_close c i e NotSeen NotSeen a b = refl
  one_cause_close c i e NotSeen BadEntry a b = absurd (hand_and_none (worker c i).seen b.1 b.3 a.2)
  one_cause_close c i e NotSeen (Short v w) a b = absurd (hand_and_none (worker c i).seen b.1 b.4 a.2)
  one_cause_close c i e NotSeen r a b = absurd b
  one_cause_close c i e BadEntry NoWorker a b = absurd (beyond c i b a.2.0)
  one_cause_close c i e BadEntry HandEmpty a b = absurd (hand_and_none (worker c i).hand a.0 a.2.1 b.1)
  one_cause_close c i e BadEntry NoTicket a b = absurd (true_and_false (worker c i).ticket a.2.2 b.1.2)
  one_cause_close c i e BadEntry NotSeen a b = absurd (hand_and_none (worker c i).seen a.1 a.3 b.2)
  one_cause_close c i e BadEntry BadEntry a b = refl
  one_cause_close c i e BadEntry (Short v w) a b = absurd (a.4 (subst (λ (n : Node R). IsLeafEntry same p n e) (the_same (worker c i).hand b.0 a.0 b.3.1 a.2.1) ((b.5, (b.2, b.6)), b.7)))
  one_cause_close c i e BadEntry r a b = absurd b
  one_cause_close c i e (Short v w) NoWorker a b = absurd (beyond c i b a.3.0)
  one_cause_close c i e (Short v w) HandEmpty a b = absurd (hand_and_none (worker c i).hand a.0 a.3.1 b.1)
  one_cause_close c i e (Short v w) NoTicket a b = absurd (true_and_false (worker c i).ticket a.3.2 b.1.2)
  one_cause_close c i e (Short v w) NotSeen a b = absurd (hand_and_none (worker c i).seen a.1 a.4 b.2)
  one_cause_close c i e (Short v w) BadEntry a b = absurd (b.4 (subst (λ (n : Node R). IsLeafEntry same p n e) (the_same (worker c i).hand a.0 b.0 a.3.1 b.2.1) ((a.5, (a.2, a.6)), a.7)))
  one_cause_close c i e (Short v w) (Short v' w') a b = one_short c i e v v' w w' a b
  one_cause_close c i e (Short v w) r a b = absurd b
  one_cause_close c i e r r' a b = absurd a

  one_cause_divide : (c : State R) (i : ℕ) (e : Entry R) (r r' : Refused) → Refusals.RefusesDivide same p c i e r → Refusals.RefusesDivide same p c i e r' → r ≡ r'
  one_cause_divide c i e NoWorker NoWorker a b = refl
  one_cause_divide c i e NoWorker HandEmpty a b = absurd (beyond c i a b.0)
  one_cause_divide c i e NoWorker NoTicket a b = absurd (beyond c i a b.1.0)
  one_cause_divide c i e NoWorker BadEntry a b = absurd (beyond c i a b.1.0)
  one_cause_divide c i e NoWorker NotFree a b = absurd (beyond c i a b.1.0)
  one_cause_divide c i e NoWorker r a b = absurd b
  one_cause_divide c i e HandEmpty NoWorker a b = absurd (beyond c i b a.0)
  one_cause_divide c i e HandEmpty HandEmpty a b = refl
  one_cause_divide c i e HandEmpty NoTicket a b = absurd (hand_and_none (worker c i).hand b.0 b.1.1 a.1)
  one_cause_divide c i e HandEmpty BadEntry a b = absurd (hand_and_none (worker c i).hand b.0 b.1.1 a.1)
  one_cause_divide c i e HandEmpty NotFree a b = absurd (hand_and_none (worker c i).hand b.0 b.1.1 a.1)
  one_cause_divide c i e HandEmpty r a b = absurd b
  one_cause_divide c i e NoTicket NoWorker a b = absurd (beyond c i b a.1.0)
  one_cause_divide c i e NoTicket HandEmpty a b = absurd (hand_and_none (worker c i).hand a.0 a.1.1 b.1)
  one_cause_divide c i e NoTicket NoTicket a b = refl
  one_cause_divide c i e NoTicket BadEntry a b = absurd (true_and_false (worker c i).ticket b.1.2 a.1.2)
  one_cause_divide c i e NoTicket NotFree a b = absurd (true_and_false (worker c i).ticket b.1.2 a.1.2)
  one_cause_divide c i e NoTicket r a b = absurd b
  one_cause_divide c i e BadEntry NoWorker a b = absurd (beyond c i b a.1.0)
  one_cause_divide c i e BadEntry HandEmpty a b = absurd (hand_and_none (worker c i).hand a.0 a.1.1 b.1)
  one_cause_divide c i e BadEntry NoTicket a b = absurd (true_and_false (worker c i).ticket a.1.2 b.1.2)
  one_cause_divide c i e BadEntry BadEntry a b = refl
  one_cause_divide c i e BadEntry NotFree a b = absurd (a.2 (subst (λ (n : Node R). IsBranchEntry same p n e) (the_same (worker c i).hand b.0 a.0 b.1.1 a.1.1) b.2))
  one_cause_divide c i e BadEntry r a b = absurd b
  one_cause_divide c i e NotFree NoWorker a b = absurd (beyond c i b a.1.0)
  one_cause_divide c i e NotFree HandEmpty a b = absurd (hand_and_none (worker c i).hand a.0 a.1.1 b.1)
  one_cause_divide c i e NotFree NoTicket a b = absurd (true_and_false (worker c i).ticket a.1.2 b.1.2)
  one_cause_divide c i e NotFree BadEntry a b = absurd (b.2 (subst (λ (n : Node R). IsBranchEntry same p n e) (the_same (worker c i).hand a.0 b.0 a.1.1 b.1.1) a.2))
  one_cause_divide c i e NotFree NotFree a b = refl
  one_cause_divide c i e NotFree r a b = absurd b
  one_cause_divide c i e r r' a b = absurd a

  pub one_cause : (c : State R) (event : Event R) (r r' : Refused) → Refuses same p base c event r → Refuses same p base c event r' → r ≡ r'
  one_cause c (Push i) r r' a b = one_cause_push c i r r' a b
  one_cause c (Pop i) r r' a b = one_cause_pop c i r r' a b
  one_cause c (Steal i victim) r r' a b = one_cause_steal c i victim r r' a b
  one_cause c (Load i) r r' a b = one_cause_load c i r r' a b
  one_cause c (Offer i e) r r' a b = one_cause_offer c i e r r' a b
  one_cause c (Draw i) r r' a b = one_cause_draw c i r r' a b
  one_cause c (Close i e) r r' a b = one_cause_close c i e r r' a b
  one_cause c (Divide i e) r r' a b = one_cause_divide c i e r r' a b
