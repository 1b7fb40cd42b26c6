-- Each event keeps the rule: cover, seen values, the word, trails, and counts.
use Rattle.std.proofs.Common.{◌≡◌, ℕ, zero, suc, ◌+◌, ◌<◌, ◌≤◌, ◌⊎◌, inl, inr, Bool, true, false, cond, nat_le, List, [], ◌∷◌, ◌++◌, length, replicate, Option, Some, None, pos, ◌<ℤ◌, refl, sym, subst, ap, ◌∙◌, length-append, length-set, arith}
use borrow.Author.Differences.{ints}
use Rattle.std.proofs.lemmas.Bool.Decides.{nat_tests}
use Rattle.proof_trees.specs.Program.{Program, cost_of, Solution}
use Rattle.proof_trees.specs.Boxes.{Box, Inside}
use Rattle.proof_trees.specs.Trees.{Entry, Pending, root}
use Rattle.search_core.specs.Bags.{weigh, In}
use Rattle.search_core.specs.Journals.{box_after}
use Rattle.search_core.specs.Machine
use Rattle.search_core.specs.Machine.{Node, Worker, State, root_node, idle, half_node, handled, begin, worker, with_worker, IsWorker, Holds, IsOpen, ticket_of, lesser, begins, IsEntry, Divides, IsTrail, Cover, ObeysRule, is_full, bits, price}
use Rattle.search_core.proofs.Trails.{begins_sound, after_more, trail_more, none_cheaper, in_child, inside_free}
use Rattle.search_core.proofs.OpenNodes.{in_left, in_right, in_either, in_last, who, SomeHolds, who_same, each_who, kept_field, from_new, to_new, tickets_set}

lesser_below : (drawn budget : ℕ) → drawn < budget → lesser (drawn + 1) budget ≡ lesser drawn budget + 1
lesser_below drawn budget lt = grind (arith, nat_tests)

lesser_over : (drawn budget : ℕ) → budget ≤ drawn → lesser (drawn + 1) budget ≡ lesser drawn budget
lesser_over drawn budget le = grind (arith, nat_tests)

pub lesser_left : (a b : ℕ) → lesser a b ≤ a
lesser_left a b = grind (arith, nat_tests)

pub lesser_right : (a b : ℕ) → lesser a b ≤ b
lesser_right a b = grind (arith, nat_tests)

some_is : {A : Type 0} (a b : A) → Some a ≡ Some b → b ≡ a
some_is a b e = cc

none_some : {A : Type 0} (o : Option A) (a : A) → o ≡ None → o ≡ Some a → ⊥
none_some o a e f = cc

abbrev bit : Bool → ℕ
bit t = cond t 1 0

same_ticket : (a b : Bool) → b ≡ a → bit b ≡ bit a
same_ticket a b e = rw e refl

module _ {R : Type 0} (same : R → R → Bool) (p : Program R) (base : List R) where
  abbrev IsGood : Node R → Type 0
  IsGood n = IsTrail same p (root p) n.path n.trail

  abbrev Covered : State R → (ℕ → Bool) → Type 0
  Covered d x = (m : Node R) × IsOpen d m × Inside p (begins same p m).box x

  -- a full box that breaks no base row is a solution of its price
  abbrev pub OffersSolve : Type 0
  OffersSolve = (b : Box) → is_full p base b ≡ true → Solution p (bits p b) × (cost_of p (bits p b) ≡ pos (price p b))

  either_word : (c : Bool) (word cost start : ℕ) (x : ℕ → Bool) → (word ≡ start) ⊎ ((y : ℕ → Bool) × Solution p y × (cost_of p y ≡ pos word)) → Solution p x → cost_of p x ≡ pos cost
      → (cond c word cost ≡ start) ⊎ ((y : ℕ → Bool) × Solution p y × (cost_of p y ≡ pos (cond c word cost)))
  either_word true word cost start x old sol e = old
  either_word false word cost start x old sol e = inr (x, sol, e)

  lesser_word : (word cost start : ℕ) (x : ℕ → Bool) → (word ≡ start) ⊎ ((y : ℕ → Bool) × Solution p y × (cost_of p y ≡ pos word)) → Solution p x → cost_of p x ≡ pos cost
      → (lesser word cost ≡ start) ⊎ ((y : ℕ → Bool) × Solution p y × (cost_of p y ≡ pos (lesser word cost)))
  lesser_word word cost start x old sol e = either_word (nat_le word cost) word cost start x old sol e

  -- cover and trails after a step at which nodes that are `Gone` are covered anew, and nodes that are `New` have good trails
  covers : (c d : State R) (Gone : Node R → Type 0) → Cover same p c → d.word ≤ c.word → ((n : Node R) → IsOpen c n → IsOpen d n ⊎ Gone n)
      → ((n : Node R) → Gone n → (x : ℕ → Bool) → Solution p x → cost_of p x <ℤ pos d.word → Inside p (begins same p n).box x → Covered d x) → Cover same p d
  covers c d Gone cover le kept anew x sol cheap =
      let old : Covered c x = cover x sol (omega (arith, ints)) in
      elim (kept old.0 old.1) [ inl k ↦ (old.0, k, old.2) | inr gone ↦ anew old.0 gone x sol cheap old.2 ]

  -- one worker changes, and what it holds is what it held
  module _ (c : State R) (i : ℕ) (w : Worker (Node R)) (lt : IsWorker c i) (k : ObeysRule same p c) where
    keeps_set : ((n : Node R) → Holds w n → Holds (worker c i) n) → ((n : Node R) → Holds (worker c i) n → Holds w n) → ((u : ℕ) → w.seen ≡ Some u → c.word ≤ u) → w.ticket ≡ (worker c i).ticket → ObeysRule same p (with_worker c i w)
    keeps_set from to seen ticket =
        let kept : (n : Node R) → IsOpen c n → IsOpen (with_worker c i w) n ⊎ ⊥ = λ n h. elim h [
          | inl s ↦ elim (to_new (λ _. ⊥) c.workers i w lt (λ m hm. inl (to m hm)) n s) [ inl r ↦ inl (inl r) | inr none ↦ inr none ]
          | inr s ↦ inl (inr s)
        ] in
        let old : (n : Node R) → IsOpen (with_worker c i w) n → IsOpen c n = λ n h. elim h [
          | inl s ↦ elim (from_new (λ _. ⊥) c.workers i w lt (λ m hm. inl (i, from m hm)) n s) [ inl r ↦ inl r | inr none ↦ absurd none ]
          | inr s ↦ inr s
        ] in
        record {
          cover = covers c (with_worker c i w) (λ _. ⊥) k.cover (omega arith) kept (λ n none. absurd none);
          seen = λ j u. each_who (λ v. v.seen ≡ Some u → c.word ≤ u) c.workers i j w lt (seen u) (k.seen j u);
          word = k.word;
          trails = λ n h. k.trails n (old n h);
          tickets = omega (arith, k.tickets, tickets_set c.workers i w lt, same_ticket (worker c i).ticket w.ticket ticket);
          left = k.left;
        }

  keeps_push : (c d : State R) (i : ℕ) → ObeysRule same p c → Machine.Pushes c i d → ObeysRule same p d
  keeps_push c d i k (lt, (n, rest, made, is)) =
      let w : Worker (Node R) = record (worker c i) { made = rest; deque = (worker c i).deque ++ n ∷ [] } in
      let from : (m : Node R) → Holds w m → Holds (worker c i) m = λ m h. elim h [
        | inl q ↦ elim (in_last m n (worker c i).deque q) [ inl r ↦ inl r | inr e ↦ inr (inr (subst (In m) (sym made) (inl e))) ]
        | inr q ↦ elim q [ inl r ↦ inr (inl r) | inr r ↦ inr (inr (subst (In m) (sym made) (inr r))) ]
      ] in
      let to : (m : Node R) → Holds (worker c i) m → Holds w m = λ m h. elim h [
        | inl q ↦ inl (in_left m (worker c i).deque (n ∷ []) q)
        | inr q ↦ elim q [
          | inl r ↦ inr (inl r)
          | inr r ↦ elim (subst (In m) made r) [ inl e ↦ inl (in_right m (worker c i).deque (n ∷ []) (inl e)) | inr s ↦ inr (inr s) ]
        ]
      ] in
      subst (ObeysRule same p) (sym is) (keeps_set c i w lt k from to (k.seen i) refl)

  keeps_pop : (c d : State R) (i : ℕ) → ObeysRule same p c → Machine.Pops c i d → ObeysRule same p d
  keeps_pop c d i k (lt, free, (n, rest, waits, is)) =
      let w : Worker (Node R) = record (worker c i) { deque = rest; hand = Some n } in
      let from : (m : Node R) → Holds w m → Holds (worker c i) m = λ m h. elim h [
        | inl q ↦ inl (subst (In m) (sym waits) (in_left m rest (n ∷ []) q))
        | inr q ↦ elim q [ inl r ↦ inl (subst (In m) (sym waits) (in_right m rest (n ∷ []) (inl (some_is n m r)))) | inr r ↦ inr (inr r) ]
      ] in
      let to : (m : Node R) → Holds (worker c i) m → Holds w m = λ m h. elim h [
        | inl q ↦ elim (in_last m n rest (subst (In m) waits q)) [ inl r ↦ inl r | inr e ↦ inr (inl (ap Some (sym e))) ]
        | inr q ↦ elim q [ inl r ↦ absurd (none_some (worker c i).hand m free.0 r) | inr r ↦ inr (inr r) ]
      ] in
      subst (ObeysRule same p) (sym is) (keeps_set c i w lt k from to (k.seen i) refl)

  keeps_load : (c d : State R) (i : ℕ) → ObeysRule same p c → Machine.Loads c i d → ObeysRule same p d
  keeps_load c d i k (lt, is) =
      let w : Worker (Node R) = record (worker c i) { seen = Some c.word } in
      subst (ObeysRule same p) (sym is) (keeps_set c i w lt k (λ m h. h) (λ m h. h) (λ u e. let same_value : u ≡ c.word = some_is c.word u e in omega arith) refl)

  keeps_steal : (c d : State R) (i victim : ℕ) → ObeysRule same p c → Machine.Steals c i victim d → ObeysRule same p d
  keeps_steal c d i victim k (lt, vlt, free, (n, rest, waits, is)) =
      let v : Worker (Node R) = record (worker c victim) { deque = rest } in
      let c1 : State R = with_worker c victim v in
      let w : Worker (Node R) = record (worker c1 i) { hand = Some n } in
      let lt1 : i < length c1.workers = omega (arith, length-set c.workers victim v) in
      let empty : (worker c1 i).hand ≡ None = kept_field (λ u. u.hand) c.workers victim i v vlt refl ∙ free.0 in
      let held : In n (worker c victim).deque = subst (In n) (sym waits) (inl refl) in
      let from1 : (m : Node R) → Holds v m → SomeHolds c.workers m ⊎ ⊥ = λ m h. elim h [
        | inl q ↦ inl (victim, inl (subst (In m) (sym waits) (inr q)))
        | inr q ↦ inl (victim, inr q)
      ] in
      let to1 : (m : Node R) → Holds (worker c victim) m → Holds v m ⊎ (m ≡ n) = λ m h. elim h [
        | inl q ↦ elim (subst (In m) waits q) [ inl e ↦ inr e | inr s ↦ inl (inl s) ]
        | inr q ↦ inl (inr q)
      ] in
      let from2 : (m : Node R) → Holds w m → SomeHolds c1.workers m ⊎ (m ≡ n) = λ m h. elim h [
        | inl q ↦ inl (i, inl q)
        | inr q ↦ elim q [ inl r ↦ inr (some_is n m r) | inr r ↦ inl (i, inr (inr r)) ]
      ] in
      let to2 : (m : Node R) → Holds (worker c1 i) m → Holds w m ⊎ ⊥ = λ m h. elim h [
        | inl q ↦ inl (inl q)
        | inr q ↦ elim q [ inl r ↦ absurd (none_some (worker c1 i).hand m empty r) | inr r ↦ inl (inr (inr r)) ]
      ] in
      let taken : State R = with_worker c1 i w in
      let old : (m : Node R) → IsOpen taken m → IsOpen c m = λ m h. elim h [
        | inl s ↦ elim (from_new (λ m. m ≡ n) c1.workers i w lt1 from2 m s) [
          | inl s1 ↦ elim (from_new (λ _. ⊥) c.workers victim v vlt from1 m s1) [ inl r ↦ inl r | inr none ↦ absurd none ]
          | inr e ↦ inl (victim, inl (subst (λ (a : Node R). In a (worker c victim).deque) (sym e) held))
        ]
        | inr s ↦ inr s
      ] in
      let kept : (m : Node R) → IsOpen c m → IsOpen taken m ⊎ ⊥ = λ m h. elim h [
        | inl s ↦ elim (to_new (λ m. m ≡ n) c.workers victim v vlt to1 m s) [
          | inl s1 ↦ elim (to_new (λ _. ⊥) c1.workers i w lt1 to2 m s1) [ inl r ↦ inl (inl r) | inr none ↦ absurd none ]
          | inr e ↦ inl (inl (i, subst (λ (u : Worker (Node R)). Holds u m) (sym (who_same c1.workers i w lt1)) (inr (inl (ap Some (sym e))))))
        ]
        | inr s ↦ inl (inr s)
      ] in
      subst (ObeysRule same p) (sym is) (record {
        cover = covers c taken (λ _. ⊥) k.cover (omega arith) kept (λ m none. absurd none);
        seen = λ j u. each_who (λ a. a.seen ≡ Some u → c.word ≤ u) c1.workers i j w lt1 (each_who (λ a. a.seen ≡ Some u → c.word ≤ u) c.workers victim i v vlt (k.seen victim u) (k.seen i u)) (each_who (λ a. a.seen ≡ Some u → c.word ≤ u) c.workers victim j v vlt (k.seen victim u) (k.seen j u));
        word = k.word;
        trails = λ m h. k.trails m (old m h);
        tickets = omega (arith, k.tickets, tickets_set c.workers victim v vlt, tickets_set c1.workers i w lt1);
        left = k.left;
      })

  -- ## Offers

  keeps_offer : (c d : State R) (i : ℕ) (e : Entry R) → OffersSolve → ObeysRule same p c → Machine.Offers same p base c i e d → ObeysRule same p d
  keeps_offer c d i e solves k (lt, (n, hand, ticket, entry, leaf, full, is)) =
      let b : Box = box_after same p (begins same p n) e in
      let cost : ℕ = price p b in
      let x : ℕ → Bool = bits p b in
      let made = solves b full in
      subst (ObeysRule same p) (sym is) (record {
        cover = covers c (record c { word = lesser c.word cost }) (λ _. ⊥) k.cover (lesser_left c.word cost) (λ m h. inl h) (λ m none. absurd none);
        seen = λ j u s. omega (arith, lesser_left c.word cost, k.seen j u s);
        word = lesser_word c.word cost c.start x k.word made.0 made.1;
        trails = k.trails;
        tickets = k.tickets;
        left = k.left;
      })

  -- ## Draws

  keeps_draw : (c d : State R) (i : ℕ) → ObeysRule same p c → Machine.Draws c i d → ObeysRule same p d
  keeps_draw c d i k (lt, (n, hand, ticket, cases)) = elim cases [
    | inl within ↦
        let w : Worker (Node R) = record (worker c i) { ticket = true } in
        let c1 : State R = record c { drawn = c.drawn + 1 } in
        let taken : State R = with_worker c1 i w in
        let kept : (m : Node R) → IsOpen c m → IsOpen taken m ⊎ ⊥ = λ m h. elim h [
          | inl s ↦ elim (to_new (λ _. ⊥) c.workers i w lt (λ a ha. inl ha) m s) [ inl r ↦ inl (inl r) | inr none ↦ inr none ]
          | inr s ↦ inl (inr s)
        ] in
        let old : (m : Node R) → IsOpen taken m → IsOpen c m = λ m h. elim h [
          | inl s ↦ elim (from_new (λ _. ⊥) c.workers i w lt (λ a ha. inl (i, ha)) m s) [ inl r ↦ inl r | inr none ↦ absurd none ]
          | inr s ↦ inr s
        ] in
        let bits : bit (worker c i).ticket ≡ 0 = same_ticket false (worker c i).ticket ticket in
        subst (ObeysRule same p) (sym within.1) (record {
          cover = covers c taken (λ _. ⊥) k.cover (omega arith) kept (λ m none. absurd none);
          seen = λ j u. each_who (λ v. v.seen ≡ Some u → c.word ≤ u) c.workers i j w lt (k.seen i u) (k.seen j u);
          word = k.word;
          trails = λ m h. k.trails m (old m h);
          tickets = omega (arith, k.tickets, tickets_set c.workers i w lt, lesser_below c.drawn c.budget within.0);
          left = omega (arith, k.left, within.0);
        })
    | inr over ↦
        let w : Worker (Node R) = record (worker c i) { hand = None } in
        let c1 : State R = record c { drawn = c.drawn + 1; left = c.left ++ n ∷ [] } in
        let taken : State R = with_worker c1 i w in
        let to : (m : Node R) → Holds (worker c i) m → Holds w m ⊎ (m ≡ n) = λ m h. elim h [
          | inl q ↦ inl (inl q)
          | inr q ↦ elim q [ inl r ↦ inr (some_is n m (sym hand ∙ r)) | inr r ↦ inl (inr (inr r)) ]
        ] in
        let from : (m : Node R) → Holds w m → SomeHolds c.workers m ⊎ ⊥ = λ m h. elim h [
          | inl q ↦ inl (i, inl q)
          | inr q ↦ elim q [ inl r ↦ absurd (none_some None m refl r) | inr r ↦ inl (i, inr (inr r)) ]
        ] in
        let kept : (m : Node R) → IsOpen c m → IsOpen taken m ⊎ ⊥ = λ m h. elim h [
          | inl s ↦ elim (to_new (λ m. m ≡ n) c.workers i w lt to m s) [ inl r ↦ inl (inl r) | inr e ↦ inl (inr (in_right m c.left (n ∷ []) (inl e))) ]
          | inr s ↦ inl (inr (in_left m c.left (n ∷ []) s))
        ] in
        let old : (m : Node R) → IsOpen taken m → IsOpen c m = λ m h. elim h [
          | inl s ↦ elim (from_new (λ _. ⊥) c.workers i w lt from m s) [ inl r ↦ inl r | inr none ↦ absurd none ]
          | inr s ↦ elim (in_last m n c.left s) [ inl r ↦ inr r | inr e ↦ inl (i, inr (inl (hand ∙ ap Some (sym e)))) ]
        ] in
        subst (ObeysRule same p) (sym over.1) (record {
          cover = covers c taken (λ _. ⊥) k.cover (omega arith) kept (λ m none. absurd none);
          seen = λ j u. each_who (λ v. v.seen ≡ Some u → c.word ≤ u) c.workers i j w lt (k.seen i u) (k.seen j u);
          word = k.word;
          trails = λ m h. k.trails m (old m h);
          tickets = omega (arith, k.tickets, tickets_set c.workers i w lt, lesser_over c.drawn c.budget over.0);
          left = omega (arith, k.left, over.0, length-append c.left (n ∷ []));
        })
  ]

  -- ## Ends

  keeps_close : (c d : State R) (i : ℕ) (e : Entry R) → ObeysRule same p c → Machine.ClosesHand same p c i e d → ObeysRule same p d
  keeps_close c d i e k (lt, (n, seen, ms, hand, ticket, sees, rows, has, leaf, closes, is)) =
      let w : Worker (Node R) = record (worker c i) { hand = None; ticket = false } in
      let c1 : State R = record c { ended = c.ended ++ handled n e ∷ [] } in
      let taken : State R = with_worker c1 i w in
      let to : (m : Node R) → Holds (worker c i) m → Holds w m ⊎ (m ≡ n) = λ m h. elim h [
        | inl q ↦ inl (inl q)
        | inr q ↦ elim q [ inl r ↦ inr (some_is n m (sym hand ∙ r)) | inr r ↦ inl (inr (inr r)) ]
      ] in
      let from : (m : Node R) → Holds w m → SomeHolds c.workers m ⊎ ⊥ = λ m h. elim h [
        | inl q ↦ inl (i, inl q)
        | inr q ↦ elim q [ inl r ↦ absurd (none_some None m refl r) | inr r ↦ inl (i, inr (inr r)) ]
      ] in
      let kept : (m : Node R) → IsOpen c m → IsOpen taken m ⊎ (m ≡ n) = λ m h. elim h [
        | inl s ↦ elim (to_new (λ m. m ≡ n) c.workers i w lt to m s) [ inl r ↦ inl (inl r) | inr e ↦ inr e ]
        | inr s ↦ inl (inr s)
      ] in
      let old : (m : Node R) → IsOpen taken m → IsOpen c m = λ m h. elim h [
        | inl s ↦ elim (from_new (λ _. ⊥) c.workers i w lt from m s) [ inl r ↦ inl r | inr none ↦ absurd none ]
        | inr s ↦ inr s
      ] in
      let good : IsGood n = k.trails n (inl (i, inr (inl hand))) in
      let least : c.word ≤ seen = k.seen i seen sees in
      let bits : bit (worker c i).ticket ≡ 1 = same_ticket true (worker c i).ticket ticket in
      subst (ObeysRule same p) (sym is) (record {
        cover = covers c taken (λ m. m ≡ n) k.cover (omega arith) kept (λ m gone x sol cheap inside.
            absurd (none_cheaper same p base x sol (begins same p n) e ms c.word seen (begins_sound same p base n good) rows has closes least cheap (subst (λ (a : Node R). Inside p (begins same p a).box x) gone inside)));
        seen = λ j u. each_who (λ v. v.seen ≡ Some u → c.word ≤ u) c.workers i j w lt (k.seen i u) (k.seen j u);
        word = k.word;
        trails = λ m h. k.trails m (old m h);
        tickets = omega (arith, k.tickets, tickets_set c.workers i w lt, length-append c.ended (handled n e ∷ []));
        left = k.left;
      })

  half_good : (n : Node R) (e : Entry R) (y : Bool) → IsGood n → IsEntry same p (begins same p n) e → Divides p (box_after same p (begins same p n) e) e.end → IsGood (half_node n e y)
  half_good n e y good entry free = trail_more same p base (root p) n.path n.trail e y good entry free

  halves_open : (m n : Node R) (e : Entry R) (y : Bool) → m ≡ half_node n e y → In m (half_node n e true ∷ half_node n e false ∷ [])
  halves_open m n e true is = inl is
  halves_open m n e false is = inr (inl is)

  keeps_divide : (c d : State R) (i : ℕ) (e : Entry R) → ObeysRule same p c → Machine.DividesHand same p c i e d → ObeysRule same p d
  keeps_divide c d i e k (lt, (n, hand, ticket, entry, free, is)) =
      let both : List (Node R) = half_node n e true ∷ half_node n e false ∷ [] in
      let w : Worker (Node R) = record (worker c i) { hand = None; ticket = false; made = (worker c i).made ++ both } in
      let c1 : State R = record c { ended = c.ended ++ handled n e ∷ [] } in
      let taken : State R = with_worker c1 i w in
      let good : IsGood n = k.trails n (inl (i, inr (inl hand))) in
      let to : (m : Node R) → Holds (worker c i) m → Holds w m ⊎ (m ≡ n) = λ m h. elim h [
        | inl q ↦ inl (inl q)
        | inr q ↦ elim q [ inl r ↦ inr (some_is n m (sym hand ∙ r)) | inr r ↦ inl (inr (inr (in_left m (worker c i).made both r))) ]
      ] in
      let from : (m : Node R) → Holds w m → SomeHolds c.workers m ⊎ IsGood m = λ m h. elim h [
        | inl q ↦ inl (i, inl q)
        | inr q ↦ elim q [
          | inl r ↦ absurd (none_some None m refl r)
          | inr r ↦ elim (in_either m (worker c i).made both r) [
            | inl b ↦ inl (i, inr (inr b))
            | inr b ↦ elim b [
              | inl a ↦ inr (subst IsGood (sym a) (half_good n e true good entry free))
              | inr s ↦ elim s [ inl a ↦ inr (subst IsGood (sym a) (half_good n e false good entry free)) | inr none ↦ absurd none ]
            ]
          ]
        ]
      ] in
      let kept : (m : Node R) → IsOpen c m → IsOpen taken m ⊎ (m ≡ n) = λ m h. elim h [
        | inl s ↦ elim (to_new (λ m. m ≡ n) c.workers i w lt to m s) [ inl r ↦ inl (inl r) | inr e ↦ inr e ]
        | inr s ↦ inl (inr s)
      ] in
      let trails : (m : Node R) → IsOpen taken m → IsGood m = λ m h. elim h [
        | inl s ↦ elim (from_new IsGood c.workers i w lt from m s) [ inl r ↦ k.trails m (inl r) | inr g ↦ g ]
        | inr s ↦ k.trails m (inr s)
      ] in
      let bits : bit (worker c i).ticket ≡ 1 = same_ticket true (worker c i).ticket ticket in
      let covered : (x : ℕ → Bool) → Solution p x → Inside p (begins same p n).box x → Covered taken x = λ x sol inside.
      let part = in_child same p base x sol (begins same p n) e (begins_sound same p base n good) entry free inside in
      let m : Node R = half_node n e part.0 in (
        m,
        inl (i, subst (λ (u : Worker (Node R)). Holds u m) (sym (who_same c.workers i w lt)) (inr (inr (in_right m (worker c i).made both (halves_open m n e part.0 refl))))),
        subst (λ (q : Pending R). Inside p q.box x) (sym (after_more same p base (root p) n.path n.trail e part.0 good)) part.1,
      ) in
      subst (ObeysRule same p) (sym is) (record {
        cover = covers c taken (λ m. m ≡ n) k.cover (omega arith) kept (λ m gone x sol cheap inside. covered x sol (subst (λ (a : Node R). Inside p (begins same p a).box x) gone inside));
        seen = λ j u. each_who (λ v. v.seen ≡ Some u → c.word ≤ u) c.workers i j w lt (k.seen i u) (k.seen j u);
        word = k.word;
        trails = trails;
        tickets = omega (arith, k.tickets, tickets_set c.workers i w lt, length-append c.ended (handled n e ∷ []));
        left = k.left;
      })

  pub keeps_event : (c d : State R) (event : Machine.Event R) → OffersSolve → ObeysRule same p c → Machine.Accepts same p base c event d → ObeysRule same p d
  keeps_event c d (Machine.Push i) solves k a = keeps_push c d i k a
  keeps_event c d (Machine.Pop i) solves k a = keeps_pop c d i k a
  keeps_event c d (Machine.Steal i victim) solves k a = keeps_steal c d i victim k a
  keeps_event c d (Machine.Load i) solves k a = keeps_load c d i k a
  keeps_event c d (Machine.Offer i e) solves k a = keeps_offer c d i e solves k a
  keeps_event c d (Machine.Draw i) solves k a = keeps_draw c d i k a
  keeps_event c d (Machine.Close i e) solves k a = keeps_close c d i e k a
  keeps_event c d (Machine.Divide i e) solves k a = keeps_divide c d i e k a

  pub keeps_run : (c d : State R) (events : List (Machine.Event R)) → OffersSolve → ObeysRule same p c → Machine.Runs same p base c events d → ObeysRule same p d
  keeps_run c d [] solves k run = subst (ObeysRule same p) run k
  keeps_run c d (event ∷ events) solves k (m, accepted, run) = keeps_run m d events solves (keeps_event c m event solves k accepted) run

  -- ## The beginning

  pub who_idle : (n j : ℕ) → who {R = R} (replicate n idle) j ≡ idle
  who_idle zero j = refl
  who_idle (suc n) zero = refl
  who_idle (suc n) (suc j) = who_idle n j

  no_tickets : (n : ℕ) → weigh {A = Worker (Node R)} ticket_of (replicate n idle) ≡ 0
  no_tickets zero = refl
  no_tickets (suc n) = omega (arith, no_tickets n)

  idle_holds : (n j : ℕ) (m : Node R) → Holds (who {R = R} (replicate n idle) j) m → ⊥
  idle_holds n j m h = elim (subst (λ (w : Worker (Node R)). Holds w m) (who_idle n j) h) [ inl none ↦ none | inr q ↦ elim q [ inl r ↦ none_some None m refl r | inr none ↦ none ] ]

  first_open : (n start budget : ℕ) (m : Node R) → IsOpen (begin (suc n) start budget) m → m ≡ root_node
  first_open n start budget m (inl (zero, h)) = elim h [ inl q ↦ elim q [ inl e ↦ e | inr none ↦ absurd none ] | inr q ↦ elim q [ inl r ↦ absurd (none_some None m refl r) | inr none ↦ absurd none ] ]
  first_open n start budget m (inl (suc j, h)) = absurd (idle_holds n j m h)
  first_open n start budget m (inr none) = absurd none

  first_seen : (n start budget j u : ℕ) → (worker (begin {R = R} (suc n) start budget) j).seen ≡ Some u → ⊥
  first_seen n start budget zero u e = none_some None u refl e
  first_seen n start budget (suc j) u e = none_some None u refl (sym (ap (λ (w : Worker (Node R)). w.seen) (who_idle n j)) ∙ e)

  pub keeps_begin : (n start budget : ℕ) → ObeysRule same p (begin (suc n) start budget)
  keeps_begin n start budget = record {
    cover = λ x sol cheap. (root_node, inl (0, inl (inl refl)), inside_free p x);
    seen = λ j u e. absurd (first_seen n start budget j u e);
    word = inl refl;
    trails = λ m h. subst IsGood (sym (first_open n start budget m h)) tt;
    tickets = omega (arith, no_tickets n, lesser_left 0 budget);
    left = omega arith;
  }
