-- The branches on the way to a node, as they are found from the node up.
use Rattle.std.proofs.Common.{◌≡◌, ℕ, zero, suc, ◌+◌, ◌<◌, ◌≤◌, Bool, List, [], ◌∷◌, ◌++◌, map, reverse, take, get_or, length, Some, None, All, option_map, append-nil, add-one, refl, sym, ap, subst, ◌∙◌, append_assoc, arith}
use Rattle.std.specs.Prelude.{slice_get}
use Rattle.std.proofs.lemmas.List.{reverse-append, map-append}
use Rattle.std.proofs.lemmas.List.Elements.{All-append, All-cons, All-nil}
use Rattle.std.proofs.lemmas.Option.{slice_get-get_or, get_or_from_slice_get}
use Rattle.zero_one_rows.specs.declared.program.Row.{Row}
use Rattle.zero_one_rows.specs.Variables.{Voyage}
use Rattle.proof_trees.specs.Trees.{Entry}
use Rattle.certificate.specs.declared.tree.Record.{Record}
use Rattle.certificate.specs.Entries.{entry_of}
use Rattle.certificate.specs.declared.nodes.Node.{Node as Full}
use Rattle.certificate.specs.declared.journals.Entry.{Entry as Journaled}
use Rattle.search_core.specs.Bags.{Every}
use Rattle.search_core.specs.Journals.{Path}
use Rattle.search_core.specs.Machine.{Node, Handled, StateOver, half_node, handled, at_its_path, worker}
use Rattle.search_core.specs.Outcomes.{path_of}
use Rattle.search_core.specs.declared.node_keys.NodeKey.{NodeKey}
use Rattle.search_core.specs.declared.node_keys.NodeKey.TheVariants.{Root, Half}
use Rattle.search_core.specs.declared.records.Done.{Done}
use Rattle.search_core.specs.Told.{ended_at, told, node_of, InTable, NameEarlier, KeysStand}
use Rattle.search_core.proofs.Renamed
use Rattle.search_core.proofs.Earlier.{told_is, told_all, named_at, earlier}
use Rattle.event_search.specs.declared.event_nodes.Step.{Step}
use Rattle.event_search.specs.Cores.{node_at, state_at}
use Rattle.event_search.specs.Nodes.{value_of, entry_in, along, told_node, placed, told_entry}

-- the node that these branches lead to from a node
abbrev pub beyond : List (Handled Row) → Node Row → List Step → Node Row
beyond hs n way = record { path = n.path ++ map value_of way; trail = n.trail ++ map (entry_in hs) way }

-- a key's distance from the root, at most
abbrev pub height : NodeKey → ℕ
height Root = zero
height (Half k y) = suc k

pub height_named : (n : ℕ) (key : NodeKey) → InTable n key → height key ≤ n
height_named n Root h = omega arith
height_named n (Half k y) h = omega (arith, h)

module _ (m : Voyage) (ended : List (Done Record)) where
  abbrev hs : List (Handled Row)
  hs = told (entry_of m) ended

  -- one branch more is found
  pub one_up : (n : NodeKey) (k : ℕ) (y : Bool) (d : Done Record) (up : List Step) (s : Step) → NameEarlier ended → slice_get ended k ≡ Some d → s.entry ≡ k → s.value ≡ y
      → node_at m ended n ≡ beyond hs (node_at m ended (Half k y)) (reverse up) → node_at m ended n ≡ beyond hs (node_at m ended d.node) (reverse (up ++ s ∷ []))
  one_up n k y d up s earlier at is_k is_y h =
      let e : Entry Row = (ended_at hs k).entry in
      let told_k : (ended_at hs k).node ≡ node_of hs d.node = ap (λ (u : Handled Row). u.node) (told_is (entry_of m) ended k d earlier at) in
      let above : Node Row = node_of hs d.node in
      let same_entry : e ≡ entry_in hs s = ap (λ (j : ℕ). (ended_at hs j).entry) (sym is_k) in
      let longer : beyond hs (half_node above e y) (reverse up) ≡ beyond hs above (s ∷ reverse up) =
      ap (λ (b : Bool). beyond hs (half_node above e b) (reverse up)) (sym is_y)
      ∙ (ap (λ (u : Entry Row). beyond hs (half_node above u s.value) (reverse up)) same_entry
      ∙ (ap (λ (bs : List Bool). record { path = bs; trail = (above.trail ++ entry_in hs s ∷ []) ++ map (entry_in hs) (reverse up) }) (append_assoc above.path (s.value ∷ []) (map value_of (reverse up)))
      ∙ ap (λ (es : List (Entry Row)). record { path = above.path ++ map value_of (s ∷ reverse up); trail = es }) (append_assoc above.trail (entry_in hs s ∷ []) (map (entry_in hs) (reverse up))))) in
      h ∙ (ap (λ (a : Node Row). beyond hs (half_node a e y) (reverse up)) told_k ∙ (longer ∙ ap (beyond hs above) (sym (reverse-append up (s ∷ [])))))

  -- no branch is found yet
  pub none_up : (n : NodeKey) (up : List Step) → up ≡ [] → node_at m ended n ≡ beyond hs (node_at m ended n) (reverse up)
  none_up n up e =
      let w : Node Row = node_at m ended n in
      sym (ap (λ (u : List Step). beyond hs w (reverse u)) e ∙ (ap (λ (bs : List Bool). record { path = bs; trail = w.trail ++ [] }) (append-nil w.path) ∙ ap (λ (es : List (Entry Row)). record { path = w.path; trail = es }) (append-nil w.trail)))

  -- at the root all branches are found
  pub at_root : (n here : NodeKey) (up way : List Step) → here ≡ Root → way ≡ reverse up → node_at m ended n ≡ beyond hs (node_at m ended here) (reverse up) → node_at m ended n ≡ along m ended way
  at_root n here up way is all h =
      h ∙ (ap (λ (k : NodeKey). beyond hs (node_at m ended k) (reverse up)) is ∙ ap (λ (w : List Step). along m ended w) (sym all))

-- ## Lists that grow item by item

pub got : {A : Type 0} (xs : List A) (k : ℕ) (x : A) → k < length xs → x ≡ get_or xs k x → slice_get xs k ≡ Some x
got xs k x lt is = slice_get-get_or xs k x lt ∙ ap (λ (y : _). Some y) (sym is)

take_more : {A : Type 0} (ys : List A) (k : ℕ) (d : A) → k < length ys → take (suc k) ys ≡ take k ys ++ get_or ys k d ∷ []
take_more [] k d lt = absurd (omega arith)
take_more (y ∷ ys) zero d lt = refl
take_more (y ∷ ys) (suc k) d lt = ap (λ (zs : List _). y ∷ zs) (take_more ys k d (omega arith))

pub taken : {A : Type 0} (ys : List A) (k : ℕ) → length ys ≤ k → take k ys ≡ ys
taken [] zero le = refl
taken [] (suc k) le = refl
taken (y ∷ ys) zero le = absurd (omega arith)
taken (y ∷ ys) (suc k) le = ap (λ (zs : List _). y ∷ zs) (taken ys k (omega arith))

pub one_more : {B C : Type 0} (g : B → C) (xs zs : List C) (ys : List B) (k : ℕ) (x : C) (y : B) → zs ≡ xs ++ x ∷ [] → k < length ys → y ≡ get_or ys k y → x ≡ g y → xs ≡ map g (take k ys) → zs ≡ map g (take (k + 1) ys)
one_more g xs zs ys k x y is lt here same h =
    let more : take (k + 1) ys ≡ take k ys ++ y ∷ [] = rw add-one (take_more ys k y lt ∙ ap (λ (v : _). take k ys ++ v ∷ []) (sym here)) in
    is ∙ (ap (λ (us : List _). us ++ x ∷ []) h ∙ (ap (λ (v : _). map g (take k ys) ++ v ∷ []) same ∙ (sym (map-append g (take k ys) (y ∷ [])) ∙ ap (map g) (sym more))))

pub one_more_of : {A B C : Type 0} (f : A → C) (g : B → C) (xs zs : List A) (ys : List B) (k : ℕ) (x : A) (y : B) → zs ≡ xs ++ x ∷ [] → k < length ys → y ≡ get_or ys k y → f x ≡ g y
    → map f xs ≡ map g (take k ys) → map f zs ≡ map g (take (k + 1) ys)
one_more_of f g xs zs ys k x y is lt here same h = one_more g (map f xs) (map f zs) ys k (f x) y (ap (map f) is ∙ map-append f xs (x ∷ [])) lt here same h

pub map_twice : {A B C : Type 0} (f : B → C) (g : A → B) (xs : List A) → map f (map g xs) ≡ map (λ x. f (g x)) xs
map_twice f g [] = refl
map_twice f g (x ∷ xs) = ap (λ (ys : List _). f (g x) ∷ ys) (map_twice f g xs)

module _ (m : Voyage) (ended : List (Done Record)) where
  -- the record on a branch, as it is told
  pub entry_on : (s : Step) (d : Done Record) → NameEarlier ended → s.entry < length ended → d ≡ get_or ended s.entry d → entry_of m d.entry ≡ entry_in (told (entry_of m) ended) s
  entry_on s d earlier lt is = sym (ap (λ (u : Handled Row). u.entry) (told_is (entry_of m) ended s.entry d earlier (got ended s.entry d lt is)))

  -- all that ended nodes, at the nodes' paths
  pub ended_told : NameEarlier ended → map (told_entry m ended) ended ≡ map at_its_path (told (entry_of m) ended)
  ended_told earlier =
      sym (ap (map at_its_path) (told_all (entry_of m) ended earlier) ∙ map_twice at_its_path (λ d. handled (node_of (told (entry_of m) ended) d.node) (entry_of m d.entry)) ended)

  pub paths_told : (nodes : List NodeKey) → map (λ n. (node_at m ended n).path) nodes ≡ map path_of (map (node_at m ended) nodes)
  paths_told nodes = sym (map_twice path_of (node_at m ended) nodes)

-- the key above names an ended node too
pub above_named : (ended : List (Done Record)) (k : ℕ) (d : Done Record) → NameEarlier ended → k < length ended → slice_get ended k ≡ Some d → InTable (length ended) d.node
above_named ended k d h lt e = named_at ended k d h lt e

pub above_lower : (k : ℕ) (key : NodeKey) → InTable k key → height key < suc k
above_lower k Root h = omega arith
above_lower k (Half j y) h = omega (arith, h)

pub all_reverse : {A : Type 0} (P : A → Type 0) (xs : List A) → All P xs → All P (reverse xs)
all_reverse P [] h = h
all_reverse P (x ∷ xs) h =
    let rest : All P xs = λ k d lt. h (suc k) d (omega (arith, lt)) in
    let one : All P (x ∷ []) = All-cons P x [] (h zero x (omega arith)) (All-nil P) in
    subst (λ (ys : List _). All P ys) (sym (reverse-append (x ∷ []) xs)) (All-append P (reverse xs) (x ∷ []) (all_reverse P xs rest) one)

pub there : {A : Type 0} (xs : List A) (k : ℕ) (x : A) → slice_get xs k ≡ Some x → x ≡ get_or xs k x
there xs k x e = sym (get_or_from_slice_get xs k x x e)

-- ## What is read at the end

module _ (m : Voyage) (c : StateOver NodeKey (Done Record)) (i : ℕ) where
  pub hand_some : (key : NodeKey) (ended : List (Done Record)) (full : Full) → (worker c i).hand ≡ Some key → ended ≡ c.ended → told_node m full ≡ node_at m ended key
      → option_map (told_node m) (Some full) ≡ (worker (state_at m c) i).hand
  hand_some key ended full hand e told_full =
      ap (λ (n : Node Row). Some n) (told_full ∙ ap (λ (ds : List (Done Record)). node_at m ds key) e) ∙ sym (Renamed.hand_is (node_at m c.ended) (told (entry_of m) c.ended) c i (Some key) hand)

  pub hand_none : (worker c i).hand ≡ None → option_map (told_node m) None ≡ (worker (state_at m c) i).hand
  hand_none hand = sym (Renamed.hand_is (node_at m c.ended) (told (entry_of m) c.ended) c i None hand)

module _ (m : Voyage) (c : StateOver NodeKey (Done Record)) (ended : List (Done Record)) (e : ended ≡ c.ended) where
  pub finish_entries : (entries : List Journaled) → NameEarlier c.ended → map (placed m) entries ≡ map (told_entry m ended) ended → map (placed m) entries ≡ map at_its_path (state_at m c).ended
  finish_entries entries earlier h = h ∙ (ap (λ (ds : List (Done Record)). map (told_entry m ds) ds) e ∙ ended_told m c.ended earlier)

  pub finish_left : (nodes : List NodeKey) (paths : List Path) → nodes ≡ c.left → paths ≡ map (λ n. (node_at m ended n).path) nodes → paths ≡ map path_of (state_at m c).left
  finish_left nodes paths same h =
      h ∙ (ap (λ (ds : List (Done Record)). map (λ n. (node_at m ds n).path) nodes) e ∙ (ap (map (λ n. (node_at m c.ended n).path)) same ∙ paths_told m c.ended c.left))

  pub left_named : (nodes : List NodeKey) → nodes ≡ c.left → KeysStand c → Every (InTable (length ended)) nodes
  left_named nodes same stand =
      subst (λ (ds : List (Done Record)). Every (InTable (length ds)) nodes) (sym e) (subst (λ (ns : List NodeKey). Every (InTable (length c.ended)) ns) (sym same) stand.left)
