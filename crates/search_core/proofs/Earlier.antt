-- Ended keys that name earlier ended nodes, and how they are told.
use Rattle.std.proofs.Common.{◌≡◌, ℕ, zero, suc, ◌+◌, ◌<◌, ◌≤◌, List, [], ◌∷◌, ◌++◌, map, length, append_assoc, append-nil, slice_get, Option, Some, refl, sym, subst, ap, ◌∙◌, arith}
use Rattle.proof_trees.specs.Trees.{Entry}
use Rattle.search_core.specs.Journals.{nothing_done}
use Rattle.search_core.specs.Machine.{Node, StateOver, Handled, root_node, half_node, handled, worker}
use Rattle.search_core.specs.declared.node_keys.NodeKey.{NodeKey}
use Rattle.search_core.specs.declared.node_keys.NodeKey.TheVariants.{Root, Half}
use Rattle.search_core.specs.declared.records.Done.{Done}
use Rattle.search_core.specs.Rooms.{EndsHand, HalvesHand}
use Rattle.search_core.specs.Told.{ended_at, node_of, told_from, told, InTable, HandIn, AreEarlier, NameEarlier, KeysStand}
use Rattle.search_core.proofs.Grown.{at_more, at_end, length_end}
use Rattle.search_core.proofs.Named.{own}

pub later : (n k : ℕ) (key : NodeKey) → k ≤ n → InTable k key → InTable n key
later n k Root le h = tt
later n k (Half j y) le h = omega (arith, le, h)

module _ {T : Type 0} where
  earlier_more : (n : ℕ) (ds : List (Done T)) (d : Done T) → AreEarlier n ds → InTable (n + length ds) d.node → AreEarlier n (ds ++ d ∷ [])
  earlier_more n [] d h lt =
      let e : n + 0 ≡ n = omega arith in
      (subst (λ (m : ℕ). InTable m d.node) e lt, tt)
  earlier_more n (x ∷ ds) d h lt =
      let e : n + length (x ∷ ds) ≡ suc n + length ds = omega arith in
      (h.0, earlier_more (suc n) ds d h.1 (subst (λ (m : ℕ). InTable m d.node) e lt))

  pub in_hand : (c : StateOver NodeKey (Done T)) (i : ℕ) (n : NodeKey) → KeysStand c → (worker c i).hand ≡ Some n → InTable (length c.ended) n
  in_hand c i n stand hand = subst (λ (o : Option NodeKey). HandIn (length c.ended) o) hand (own c i stand).1

  appended : (c : StateOver NodeKey (Done T)) (done : Done T) → NameEarlier c.ended → InTable (length c.ended) done.node → NameEarlier (c.ended ++ done ∷ [])
  appended c done h lt =
      let sum : length c.ended ≡ 0 + length c.ended = omega arith in
      earlier_more 0 c.ended done h (subst (λ (m : ℕ). InTable m done.node) sum lt)

  pub ends : (c d : StateOver NodeKey (Done T)) (i : ℕ) (done : Done T) → KeysStand c → NameEarlier c.ended → EndsHand c i done.node done d → NameEarlier d.ended
  ends c d i done stand h (lt, hand, is) = subst (λ (s : StateOver NodeKey (Done T)). NameEarlier s.ended) (sym is) (appended c done h (in_hand c i done.node stand hand))

  pub halves : (c d : StateOver NodeKey (Done T)) (i : ℕ) (done : Done T) → KeysStand c → NameEarlier c.ended → HalvesHand c i done.node done d → NameEarlier d.ended
  halves c d i done stand h (lt, hand, is) = subst (λ (s : StateOver NodeKey (Done T)). NameEarlier s.ended) (sym is) (appended c done h (in_hand c i done.node stand hand))

  earlier_at : (n : ℕ) (ds : List (Done T)) (k : ℕ) (d : Done T) → AreEarlier n ds → slice_get ds k ≡ Some d → InTable (n + k) d.node
  earlier_at n [] k d h e = absurd (let bad : ⊥ = cc in bad)
  earlier_at n (x ∷ ds) zero d h e =
      let same : x ≡ d = cc in
      let sum : n ≡ n + 0 = omega arith in
      subst (λ (y : Done T). InTable (n + 0) y.node) same (subst (λ (m : ℕ). InTable m x.node) sum h.0)
  earlier_at n (x ∷ ds) (suc k) d h e =
      let sum : suc n + k ≡ n + suc k = omega arith in
      subst (λ (m : ℕ). InTable m d.node) sum (earlier_at (suc n) ds k d h.1 e)

  -- each ended key names an ended node
  pub named_at : (ds : List (Done T)) (k : ℕ) (d : Done T) → NameEarlier ds → k < length ds → slice_get ds k ≡ Some d → InTable (length ds) d.node
  named_at ds k d h lt e =
      let sum : 0 + k ≡ k = omega arith in
      later (length ds) k d.node (omega (arith, lt)) (subst (λ (m : ℕ). InTable m d.node) sum (earlier_at 0 ds k d h e))

  pub earlier : (ds : List (Done T)) (k : ℕ) (d : Done T) → NameEarlier ds → slice_get ds k ≡ Some d → InTable k d.node
  earlier ds k d h e =
      let sum : 0 + k ≡ k = omega arith in
      subst (λ (m : ℕ). InTable m d.node) sum (earlier_at 0 ds k d h e)

module _ {T R : Type 0} (entry : T → Entry R) where
  -- the ended nodes that were told stay
  told_keeps : (hs : List (Handled R)) (ds : List (Done T)) (k : ℕ) → k < length hs → ended_at (told_from entry hs ds) k ≡ ended_at hs k
  told_keeps hs [] k lt = refl
  told_keeps hs (d ∷ ds) k lt =
      let h : Handled R = handled (node_of hs d.node) (entry d.entry) in
      let less : k < length (hs ++ h ∷ []) = omega (arith, lt, length_end hs h) in
      told_keeps (hs ++ h ∷ []) ds k less ∙ at_more hs (h ∷ []) k (handled root_node nothing_done) lt

  node_keeps : (hs : List (Handled R)) (ds : List (Done T)) (k : NodeKey) → InTable (length hs) k → node_of (told_from entry hs ds) k ≡ node_of hs k
  node_keeps hs ds Root lt = refl
  node_keeps hs ds (Half k y) lt = ap (λ (e : Handled R). half_node e.node e.entry y) (told_keeps hs ds k lt)

  told_there : (hs : List (Handled R)) (ds : List (Done T)) (k : ℕ) (d : Done T) → AreEarlier (length hs) ds → slice_get ds k ≡ Some d
      → ended_at (told_from entry hs ds) (length hs + k) ≡ handled (node_of (told_from entry hs ds) d.node) (entry d.entry)
  told_there hs [] k d all e = absurd (let bad : ⊥ = cc in bad)
  told_there hs (x ∷ ds) zero d all e =
      let same : x ≡ d = cc in
      let h : Handled R = handled (node_of hs x.node) (entry x.entry) in
      let sum : length hs + 0 ≡ length hs = omega arith in
      let lt : length hs < length (hs ++ h ∷ []) = omega (arith, length_end hs h) in
      let here : ended_at (told_from entry (hs ++ h ∷ []) ds) (length hs + 0) ≡ h =
      ap (λ (j : ℕ). ended_at (told_from entry (hs ++ h ∷ []) ds) j) sum
      ∙ (told_keeps (hs ++ h ∷ []) ds (length hs) lt ∙ at_end hs h (handled root_node nothing_done)) in
      let told_x : ended_at (told_from entry (hs ++ h ∷ []) ds) (length hs + 0) ≡ handled (node_of (told_from entry (hs ++ h ∷ []) ds) x.node) (entry x.entry) =
      here ∙ ap (λ (n : Node R). handled n (entry x.entry)) (sym (node_keeps hs (x ∷ ds) x.node all.0)) in
      subst (λ (y : Done T). ended_at (told_from entry (hs ++ h ∷ []) ds) (length hs + 0) ≡ handled (node_of (told_from entry (hs ++ h ∷ []) ds) y.node) (entry y.entry)) same told_x
  told_there hs (x ∷ ds) (suc k) d all e =
      let h : Handled R = handled (node_of hs x.node) (entry x.entry) in
      let len : length (hs ++ h ∷ []) ≡ length hs + 1 = length_end hs h in
      let sum : length hs + suc k ≡ length (hs ++ h ∷ []) + k = omega (arith, len) in
      let one : suc (length hs) ≡ length (hs ++ h ∷ []) = omega (arith, len) in
      ap (λ (j : ℕ). ended_at (told_from entry (hs ++ h ∷ []) ds) j) sum
      ∙ told_there (hs ++ h ∷ []) ds k d (subst (λ (m : ℕ). AreEarlier m ds) one all.1) e

  pub told_is : (ds : List (Done T)) (k : ℕ) (d : Done T) → NameEarlier ds → slice_get ds k ≡ Some d → ended_at (told entry ds) k ≡ handled (node_of (told entry ds) d.node) (entry d.entry)
  told_is ds k d all e =
      let sum : k ≡ 0 + k = omega arith in
      ap (λ (j : ℕ). ended_at (told entry ds) j) sum ∙ told_there [] ds k d all e

  -- all ended nodes as they are told
  told_on : (hs : List (Handled R)) (ds : List (Done T)) → AreEarlier (length hs) ds → told_from entry hs ds ≡ hs ++ map (λ d. handled (node_of (told_from entry hs ds) d.node) (entry d.entry)) ds
  told_on hs [] all = sym (append-nil hs)
  told_on hs (x ∷ ds) all =
      let h : Handled R = handled (node_of hs x.node) (entry x.entry) in
      let len : length (hs ++ h ∷ []) ≡ length hs + 1 = length_end hs h in
      let one : suc (length hs) ≡ length (hs ++ h ∷ []) = omega (arith, len) in
      let rest : List (Handled R) = map (λ d. handled (node_of (told_from entry hs (x ∷ ds)) d.node) (entry d.entry)) ds in
      told_on (hs ++ h ∷ []) ds (subst (λ (m : ℕ). AreEarlier m ds) one all.1)
      ∙ (append_assoc hs (h ∷ []) rest ∙ ap (λ (n : Node R). hs ++ handled n (entry x.entry) ∷ rest) (sym (node_keeps hs (x ∷ ds) x.node all.0)))

  pub told_all : (ds : List (Done T)) → NameEarlier ds → told entry ds ≡ map (λ d. handled (node_of (told entry ds) d.node) (entry d.entry)) ds
  told_all ds all = told_on [] ds all
