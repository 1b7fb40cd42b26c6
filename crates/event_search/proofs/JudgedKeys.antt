-- Records that are judged by key, as events of the machine.
use Rattle.std.proofs.Common.{◌≡◌, inl, inr, ℕ, true, false, List, [], ◌∷◌, ◌++◌, length, Option, Some, None, Err, sym, ap, ◌∙◌}
use Rattle.zero_one_rows.specs.declared.program.Row.{Row}
use Rattle.zero_one_rows.specs.Variables.{Voyage}
use Rattle.zero_one_rows.specs.Rows.{whole}
use Rattle.zero_one_rows.specs.Counted.{base_rows}
use Rattle.proof_trees.specs.Trees.{Entry}
use Rattle.certificate.specs.declared.tree.Record.{Record}
use Rattle.certificate.specs.Entries.{same_row, entry_of}
use Rattle.search_core.specs.Machine.{Node, Worker, State, StateOver, worker, with_worker, half_node, handled, lesser, ClosesHand, DividesHand, Offers, IsWorker}
use Rattle.search_core.specs.Refusals.{RefusesClose, RefusesDivide, RefusesOffer, Holding}
use Rattle.search_core.specs.declared.refused.Refused.{Refused}
use Rattle.search_core.specs.declared.refused.Refused.TheVariants.{NoWorker, HandFull, HandEmpty, DequeEmpty, HasTicket, NoTicket, NotSeen, BadEntry, NotFull, Short, NotFree, NoChild}
use Rattle.search_core.specs.declared.node_keys.NodeKey.{NodeKey}
use Rattle.search_core.specs.declared.records.Done.{Done}
use Rattle.search_core.specs.Rooms.{EndsHand, HalvesHand, LacksTicket}
use Rattle.search_core.specs.Told.{told, KeysStand, InTable}
use Rattle.search_core.proofs.Grown
use Rattle.search_core.proofs.Renamed
use Rattle.search_core.proofs.Earlier.{in_hand}
use Rattle.event_search.specs.JudgingEvents.{HasTrail, JudgesClose, JudgesBranch, JudgesOffer}
use Rattle.event_search.specs.Cores.{node_at, state_at, IsCore, ClosesKey, BranchesKey, OffersPrice}

abbrev Keys : Type 0
Keys = StateOver NodeKey (Done Record)

module _ (m : Voyage) (c : Keys) where
  abbrev f : NodeKey → Node Row
  f = node_at m c.ended

  abbrev s : State Row
  s = state_at m c

  module _ (i : ℕ) where
    is_worker : IsWorker c i → IsWorker s i
    is_worker lt = Renamed.is_worker f (told (entry_of m) c.ended) c i lt

    holding : (n : NodeKey) (ticket : _) → Holding c i n ticket → Holding s i (f n) ticket
    holding n ticket h = (
      is_worker h.0,
      Renamed.hand_is f (told (entry_of m) c.ended) c i (Some n) h.1,
      ap (λ (w : Worker (Node Row)). w.ticket) (Renamed.worker_is f (told (entry_of m) c.ended) c i) ∙ h.2,
    )

    seen_is : (o : Option ℕ) → (worker c i).seen ≡ o → (worker s i).seen ≡ o
    seen_is o e = ap (λ (w : Worker (Node Row)). w.seen) (Renamed.worker_is f (told (entry_of m) c.ended) c i) ∙ e

    made_is : (worker c i).made ≡ [] → (worker s i).made ≡ []
    made_is e = Renamed.made_is f (told (entry_of m) c.ended) c i [] e

    -- the node in hand has its trail, and its key names a node
    pub trail : (places spare : ℕ) (n : NodeKey) → IsCore m places c spare → Holding c i n true → HasTrail m (f n)
    trail places spare n h holds = h.rule.trails (f n) (inl (i, inr (inl (holding n true holds).1)))

    pub named : (n : NodeKey) → KeysStand c → Holding c i n true → InTable (length c.ended) n
    named n stand holds = in_hand c i n stand holds.1

    -- ## Accepted

    module _ (d : Keys) (done : Done Record) (stand : KeysStand c) where
      pub closes : ClosesKey m c i done.entry done.node → EndsHand c i done.node done d → ClosesHand same_row (whole m) s i (entry_of m done.entry) (state_at m d)
      closes (ready, (seen, saw, (ms, (names, prices, leaf), closed))) e =
          let h : Holding s i (f done.node) true = holding done.node true ready.holding in
          let k = Grown.ends (entry_of m) c i done stand d e in
          (h.0, (f done.node, seen, ms, h.1, h.2, seen_is (Some seen) saw, names, prices, leaf, closed, k.2))

      pub branches : BranchesKey m c i done.entry done.node → HalvesHand c i done.node done d → DividesHand same_row (whole m) s i (entry_of m done.entry) (state_at m d)
      branches (ready, (entry, divides)) e =
          let h : Holding s i (f done.node) true = holding done.node true ready.holding in
          let k = Grown.halves (entry_of m) c i done stand d e in
          let none : (worker s i).made ≡ [] = made_is ready.pushed in
          let one : Node Row = half_node (f done.node) (entry_of m done.entry) true in
          let zero : Node Row = half_node (f done.node) (entry_of m done.entry) false in
          let same : state_at m d ≡ with_worker (record s { ended = s.ended ++ handled (f done.node) (entry_of m done.entry) ∷ [] }) i (record (worker s i) { hand = None; ticket = false; made = (worker s i).made ++ one ∷ zero ∷ [] }) =
          k.2 ∙ ap (λ (ns : List (Node Row)). with_worker (record s { ended = s.ended ++ handled (f done.node) (entry_of m done.entry) ∷ [] }) i (record (worker s i) { hand = None; ticket = false; made = ns ++ one ∷ zero ∷ [] })) (sym none) in
          (h.0, (f done.node, h.1, h.2, entry, divides, same))

    pub offers : (d : Keys) (r : Record) (cost : ℕ) → OffersPrice m c i r cost → d ≡ record c { word = lesser c.word cost } → Offers same_row (whole m) (base_rows m) s i (entry_of m r) (state_at m d)
    offers d r cost (n, ready, ((entry, leaf), full, price)) e =
        let h : Holding s i (f n) true = holding n true ready.holding in
        let same : state_at m d ≡ record s { word = lesser s.word cost } = ap (state_at m) e in
        (h.0, (f n, h.1, h.2, entry, leaf, full, same ∙ ap (λ (k : ℕ). record s { word = lesser s.word k }) price))

    -- ## Refused

    none_there : (n : NodeKey) → Holding c i n false → (k : Node Row) × Holding s i k false
    none_there n h = (f n, holding n false h)

    pub lacks_close : (e : Entry Row) (cause : Refused) → LacksTicket c i cause → RefusesClose same_row (whole m) s i e cause
    lacks_close e NoWorker h = Renamed.no_worker f (told (entry_of m) c.ended) c i h
    lacks_close e HandFull h = absurd h
    lacks_close e HandEmpty h = (is_worker h.0, Renamed.hand_is f (told (entry_of m) c.ended) c i None h.1)
    lacks_close e DequeEmpty h = absurd h
    lacks_close e HasTicket h = absurd h
    lacks_close e NoTicket h = none_there h.0 h.1
    lacks_close e NotSeen h = absurd h
    lacks_close e BadEntry h = absurd h
    lacks_close e NotFull h = absurd h
    lacks_close e (Short value needed) h = absurd h
    lacks_close e NotFree h = absurd h
    lacks_close e NoChild h = absurd h

    pub lacks_branch : (e : Entry Row) (cause : Refused) → LacksTicket c i cause → RefusesDivide same_row (whole m) s i e cause
    lacks_branch e NoWorker h = Renamed.no_worker f (told (entry_of m) c.ended) c i h
    lacks_branch e HandFull h = absurd h
    lacks_branch e HandEmpty h = (is_worker h.0, Renamed.hand_is f (told (entry_of m) c.ended) c i None h.1)
    lacks_branch e DequeEmpty h = absurd h
    lacks_branch e HasTicket h = absurd h
    lacks_branch e NoTicket h = none_there h.0 h.1
    lacks_branch e NotSeen h = absurd h
    lacks_branch e BadEntry h = absurd h
    lacks_branch e NotFull h = absurd h
    lacks_branch e (Short value needed) h = absurd h
    lacks_branch e NotFree h = absurd h
    lacks_branch e NoChild h = absurd h

    pub lacks_offer : (e : Entry Row) (cause : Refused) → LacksTicket c i cause → RefusesOffer same_row (whole m) (base_rows m) s i e cause
    lacks_offer e NoWorker h = Renamed.no_worker f (told (entry_of m) c.ended) c i h
    lacks_offer e HandFull h = absurd h
    lacks_offer e HandEmpty h = (is_worker h.0, Renamed.hand_is f (told (entry_of m) c.ended) c i None h.1)
    lacks_offer e DequeEmpty h = absurd h
    lacks_offer e HasTicket h = absurd h
    lacks_offer e NoTicket h = none_there h.0 h.1
    lacks_offer e NotSeen h = absurd h
    lacks_offer e BadEntry h = absurd h
    lacks_offer e NotFull h = absurd h
    lacks_offer e (Short value needed) h = absurd h
    lacks_offer e NotFree h = absurd h
    lacks_offer e NoChild h = absurd h

    pub not_seen : (e : Entry Row) (n : NodeKey) → Holding c i n true → (worker c i).seen ≡ None → RefusesClose same_row (whole m) s i e NotSeen
    not_seen e n h saw = (f n, holding n true h, seen_is None saw)

    module _ (e : Entry Row) (n : NodeKey) (h : Holding c i n true) where
      pub falls_short : (seen : ℕ) → (worker c i).seen ≡ Some seen → (cause : Refused) → JudgesClose m (f n) e seen (Err cause) → RefusesClose same_row (whole m) s i e cause
      falls_short seen saw NoWorker k = absurd k
      falls_short seen saw HandFull k = absurd k
      falls_short seen saw HandEmpty k = absurd k
      falls_short seen saw DequeEmpty k = absurd k
      falls_short seen saw HasTicket k = absurd k
      falls_short seen saw NoTicket k = absurd k
      falls_short seen saw NotSeen k = absurd k
      falls_short seen saw BadEntry k = (f n, seen, holding n true h, seen_is (Some seen) saw, k)
      falls_short seen saw NotFull k = absurd k
      falls_short seen saw (Short value needed) (ms, (names, prices, leaf), short, value_is, needed_is) = (f n, seen, ms, holding n true h, seen_is (Some seen) saw, names, prices, leaf, short, value_is, needed_is)
      falls_short seen saw NotFree k = absurd k
      falls_short seen saw NoChild k = absurd k

      pub not_free : (cause : Refused) → JudgesBranch m (f n) e (Err cause) → RefusesDivide same_row (whole m) s i e cause
      not_free NoWorker k = absurd k
      not_free HandFull k = absurd k
      not_free HandEmpty k = absurd k
      not_free DequeEmpty k = absurd k
      not_free HasTicket k = absurd k
      not_free NoTicket k = absurd k
      not_free NotSeen k = absurd k
      not_free BadEntry k = (f n, holding n true h, k)
      not_free NotFull k = absurd k
      not_free (Short value needed) k = absurd k
      not_free NotFree (branch, fixed) = (f n, holding n true h, branch, fixed)
      not_free NoChild k = absurd k

      pub not_full : (cause : Refused) → JudgesOffer m (f n) e (Err cause) → RefusesOffer same_row (whole m) (base_rows m) s i e cause
      not_full NoWorker k = absurd k
      not_full HandFull k = absurd k
      not_full HandEmpty k = absurd k
      not_full DequeEmpty k = absurd k
      not_full HasTicket k = absurd k
      not_full NoTicket k = absurd k
      not_full NotSeen k = absurd k
      not_full BadEntry k = (f n, holding n true h, k)
      not_full NotFull (leaf, free) = (f n, holding n true h, leaf, free)
      not_full (Short value needed) k = absurd k
      not_full NotFree k = absurd k
      not_full NoChild k = absurd k
