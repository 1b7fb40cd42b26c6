-- The tables that the lines of the bookings define.
use Rattle.std.proofs.Common.{◌≡◌, ℕ, zero, suc, ◌+◌, Bool, true, false, List, [], ◌∷◌, ◌++◌, Some, refl, sym, ap, ◌∙◌}
use Rattle.std.specs.Prelude.{codes, pos, negsuc}
use Rattle.toml.specs.Data.{string, integer, array, table, Items, no_items, item, push_item, Members, no_members, member}
use Rattle.toml.specs.Tables.{Nodes, no_nodes, node, value, open_array, close, Expression, Document, define, along_header, along_dots, at_key}
use Rattle.toml.proofs.ReadLines.{run}
use Rattle.toml.proofs.ReadValues.{item_join, item_join-none, item_join-push}
use Rattle.stow_gen.specs.declared.draws.Lot.{Lot}
use Rattle.stow_gen.specs.Draws.{after_lot, lot}
use Rattle.stow_gen.proofs.Lines.{pair}
use Rattle.stow_gen.specs.MadeBookings.{id_of}
use Rattle.stow_gen.proofs.ContainerLines.{lines_of}

-- a string, and the items behind it
abbrev pub text_item : List ℕ → Items → Items
text_item s ds = item (string s) ds

-- the ports of the rotation
abbrev pub ports : Items
ports = text_item (codes "PAAAA") (text_item (codes "PBBBB") (text_item (codes "PCCCC") (text_item (codes "PDDDD") (text_item (codes "PEEEE") (text_item (codes "PFFFF") no_items)))))

-- the lines before the containers
abbrev pub voyage_lines : List Expression
voyage_lines = pair (codes "vessel") (string (codes "FEEDER")) ∷ pair (codes "voyage") (string (codes "1")) ∷ pair (codes "date") (string (codes "2601010000")) ∷ pair (codes "rotation") (array ports) ∷ []

-- the temperature in the table of a container, where it is cooled
abbrev pub temperature_node : Bool → Nodes → Nodes
temperature_node true ns = node (codes "temperature") (value (integer (negsuc 17))) ns
temperature_node false ns = ns

-- the table of a container
abbrev pub entry_nodes : ℕ → ℕ → ℕ → ℕ → Bool → Nodes
entry_nodes k load dest kg cooled =
    node (codes "from") (value (integer (pos load))) (node (codes "id") (value (string (id_of k))) (node (codes "kg") (value (integer (pos kg)))
    (temperature_node cooled (node (codes "to") (value (integer (pos dest))) (node (codes "type") (value (string (codes "42G1"))) no_nodes)))))

-- the document while its last container may still get lines
abbrev pub root : Items → Nodes → Nodes
root done last =
    node (codes "container") (open_array done last) (node (codes "date") (value (string (codes "2601010000"))) (node (codes "rotation") (value (array ports))
    (node (codes "vessel") (value (string (codes "FEEDER"))) (node (codes "voyage") (value (string (codes "1"))) no_nodes))))

-- the document of these containers
abbrev pub top : Items → Members
top entries =
    member (codes "container") (array entries) (member (codes "date") (string (codes "2601010000")) (member (codes "rotation") (array ports)
    (member (codes "vessel") (string (codes "FEEDER")) (member (codes "voyage") (string (codes "1")) no_members))))

-- one more container
pub next_container : (k load dest kg : ℕ) (cooled : Bool) (done : Items) (last : Nodes) (section : List (List ℕ)) (more : List Expression)
    → run (root done last, section) (lines_of k load dest kg cooled ++ more) ≡ run (root (push_item done (table (close last))) (entry_nodes k load dest kg cooled), codes "container" ∷ []) more
unfolding define along_header along_dots at_key
next_container k load dest kg true done last section more = refl
next_container k load dest kg false done last section more = refl

-- the first one, behind the lines before it
pub first_container : (k load dest kg : ℕ) (cooled : Bool) (more : List Expression)
    → run (no_nodes, []) (voyage_lines ++ (lines_of k load dest kg cooled ++ more)) ≡ run (root no_items (entry_nodes k load dest kg cooled), codes "container" ∷ []) more
unfolding define along_header along_dots at_key
first_container k load dest kg true more = refl
first_container k load dest kg false more = refl

-- the lines of what was drawn
abbrev pub lot_lines : ℕ → Lot → List Expression
lot_lines k l = lines_of k l.load l.dest l.kg l.cooled

-- and its table
abbrev pub lot_nodes : ℕ → Lot → Nodes
lot_nodes k l = entry_nodes k l.load l.dest l.kg l.cooled

-- the lines of so many containers from this number and this state on
abbrev pub all_lines : ℕ → ℕ → ℕ → List Expression
all_lines zero k state = []
all_lines (suc left) k state = lot_lines k (lot state) ++ all_lines left (k + 1) (after_lot state)

-- their tables
abbrev pub items_from : ℕ → ℕ → ℕ → Items
items_from zero k state = no_items
items_from (suc left) k state = item (table (close (lot_nodes k (lot state)))) (items_from left (k + 1) (after_lot state))

-- what stands when their lines were read
abbrev final : ℕ → ℕ → ℕ → Items → Nodes → Nodes
final zero k state done last = root done last
final (suc left) k state done last = final left (k + 1) (after_lot state) (push_item done (table (close last))) (lot_nodes k (lot state))

runs : (left k state : ℕ) (done : Items) (last : Nodes) → run (root done last, codes "container" ∷ []) (all_lines left k state) ≡ Some (final left k state done last, codes "container" ∷ [])
runs zero k state done last = refl
runs (suc left) k state done last =
    let l = lot state in
    next_container k l.load l.dest l.kg l.cooled done last (codes "container" ∷ []) (all_lines left (k + 1) (after_lot state))
    ∙ runs left (k + 1) (after_lot state) (push_item done (table (close last))) (lot_nodes k l)

closes : (left k state : ℕ) (done : Items) (last : Nodes) → close (final left k state done last) ≡ top (item_join (push_item done (table (close last))) (items_from left k state))
closes zero k state done last = ap top (sym (item_join-none _))
closes (suc left) k state done last =
    let l = lot state in
    closes left (k + 1) (after_lot state) (push_item done (table (close last))) (lot_nodes k l)
    ∙ ap top (item_join-push (push_item done (table (close last))) (table (close (lot_nodes k l))) (items_from left (k + 1) (after_lot state)))

-- the lines of bookings of one container or more define this document
pub bookings_run : (left k state : ℕ) → (doc : Document) × (run (no_nodes, []) (voyage_lines ++ all_lines (suc left) k state) ≡ Some doc) × (close doc.0 ≡ top (items_from (suc left) k state))
bookings_run left k state =
    let l = lot state in
    let rest = all_lines left (k + 1) (after_lot state) in (
      (final left (k + 1) (after_lot state) no_items (lot_nodes k l), codes "container" ∷ []),
      first_container k l.load l.dest l.kg l.cooled rest ∙ runs left (k + 1) (after_lot state) no_items (lot_nodes k l),
      closes left (k + 1) (after_lot state) no_items (lot_nodes k l),
    )
