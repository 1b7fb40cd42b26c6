-- The table of a cargo's ids.
use Rattle.std.proofs.Common.{◌≡◌, ◌≢◌, ℕ, ◌+◌, ◌<◌, Bool, true, false, List, length, get_or, Option, Some, None, refl, sym, ◌∙◌, ap, subst, arith, ⊎_elim}
use Rattle.std.specs.Prelude.{MatchOption, IfSome, slice_get}
use Rattle.std.specs.Str.{bytes_eq}
use Rattle.std.specs.BTreeMap.{BTreeMap, get, is_at}
use Rattle.std.proofs.lemmas.Map.Text.{is_eq-slice_cmp}
use Rattle.std.proofs.lemmas.Bool.{both_ways, cases_eq, false_from_ne_true}
use Rattle.std.proofs.lemmas.Option.{get_or_from_slice_get, same_Some, slice_get-get_or, slice_get_within}
use Rattle.std.proofs.lemmas.Slice.Eq.{bytes_eq-Decides}
use Rattle.stow_data.specs.declared.cargoes.Container.{Container}
use Rattle.stow_data.specs.Shipment.{Cargo, IsCargo}
use Rattle.stow_data.specs.Plans.{no_container}
use Rattle.bookings.specs.Ids.{name_order}
use Rattle.arrival_plan.proofs.CellLaws.{position_is}
use Rattle.plan_files.proofs.Showing.{id_once}
use Rattle.plan_files.specs.Ids.{HasId, IsIdTable, number_of}

-- another id is no key of this one
pub elsewhere : (id other : List ℕ) → other ≢ id → is_at (name_order id) other ≡ false
elsewhere id other ne = is_eq-slice_cmp id other ∙ false_from_ne_true (bytes_eq id other) (λ h. ne (sym ((bytes_eq-Decides id other).0 h)))

-- of the first n containers
pub record IsTableBelow (containers : List Container) (n : ℕ) (table : BTreeMap (List ℕ) ℕ) : Type 0 where
  pub leads : (id : List ℕ) → MatchOption (get name_order table id) ((m : ℕ) → m < n → HasId containers id m → ⊥) (λ m. (m < n) × HasId containers id m)

has_one : (containers : List Container) (id : List ℕ) (m n : ℕ) (x : Container) → slice_get containers n ≡ Some x → HasId containers id m → m ≡ n → x.id ≡ id
has_one containers id m n x is h e = ap (λ (c : Container). c.id) (same_Some x h.container (sym is ∙ (ap (slice_get containers) (sym e) ∙ h.is_container))) ∙ h.same_id

pub table_more : (containers : List Container) (n : ℕ) (x : Container) (old new : BTreeMap (List ℕ) ℕ) → slice_get containers n ≡ Some x → get name_order new x.id ≡ Some n → ((other : List ℕ) → other ≢ x.id → get name_order new other ≡ get name_order old other) → IsTableBelow containers n old → IsTableBelow containers (n + 1) new
table_more containers n x old new is this others before = record { leads = λ id. by_test id (bytes_eq id x.id) refl }
  where
    Leads : List ℕ → Option ℕ → Type 0
    Leads id o = MatchOption o ((m : ℕ) → m < n + 1 → HasId containers id m → ⊥) (λ m. (m < n + 1) × HasId containers id m)

    later : (id : List ℕ) → id ≢ x.id → (o : Option ℕ) → MatchOption o ((m : ℕ) → m < n → HasId containers id m → ⊥) (λ m. (m < n) × HasId containers id m) → Leads id o
    later id ne None h = λ m l has. ⊎_elim (λ (e : m ≡ n). ne (sym (has_one containers id m n x is has e))) (λ (k : m ≡ n → ⊥). h m (omega arith) has) (cases_eq m n)
    later id ne (Some m) h = let l = h.0 in (omega arith, h.1)

    by_test : (id : List ℕ) (b : Bool) → bytes_eq id x.id ≡ b → Leads id (get name_order new id)
    by_test id true e =
        let same : id ≡ x.id = (bytes_eq-Decides id x.id).0 e in
        let at : get name_order new id ≡ Some n = ap (get name_order new) same ∙ this in
        subst (Leads id) (sym at) (omega arith, record { container = x; is_container = is; same_id = sym same })
    by_test id false e =
        let ne : id ≢ x.id = λ k. both_ways (bytes_eq id x.id) e ((bytes_eq-Decides id x.id).1 k) in
        subst (Leads id) (sym (others id ne)) (later id ne (get name_order old id) (before.leads id))

pub table_whole : (containers : List Container) (n : ℕ) (table : BTreeMap (List ℕ) ℕ) → n ≡ length containers → IsTableBelow containers n table → IsIdTable containers table
table_whole containers n table e below = record { leads = λ id. turn id (get name_order table id) (below.leads id) }
  where
    turn : (id : List ℕ) (o : Option ℕ) → MatchOption o ((m : ℕ) → m < n → HasId containers id m → ⊥) (λ m. (m < n) × HasId containers id m) → MatchOption o ((m : ℕ) → HasId containers id m → ⊥) (λ m. HasId containers id m)
    turn id None h = λ m has. let l = slice_get_within containers m has.container has.is_container in h m (omega arith) has
    turn id (Some m) h = h.1

-- what the table leads to is the container of the id
pub number_is : (cargo : Cargo) (id : List ℕ) (o : Option ℕ) → IsCargo cargo → MatchOption o ((n : ℕ) → HasId cargo.containers id n → ⊥) (λ n. HasId cargo.containers id n) → o ≡ number_of id cargo.containers
unfolding number_of
number_is cargo id o shipped h = position_is (λ c. bytes_eq c.id id) cargo.containers no_container o (turned o h) (λ k l t. back o h k l t)
  where
    has : (k : ℕ) → k < length cargo.containers → bytes_eq (get_or cargo.containers k no_container).id id ≡ true → HasId cargo.containers id k
    has k l t = record { container = get_or cargo.containers k no_container; is_container = slice_get-get_or cargo.containers k no_container l; same_id = (bytes_eq-Decides (get_or cargo.containers k no_container).id id).0 t }

    turned : (o : Option ℕ) → MatchOption o ((n : ℕ) → HasId cargo.containers id n → ⊥) (λ n. HasId cargo.containers id n) → MatchOption o ((k : ℕ) → k < length cargo.containers → bytes_eq (get_or cargo.containers k no_container).id id ≡ true → ⊥) (λ n. (n < length cargo.containers) × (bytes_eq (get_or cargo.containers n no_container).id id ≡ true))
    turned None h = λ k l t. h k (has k l t)
    turned (Some n) h =
        let at : get_or cargo.containers n no_container ≡ h.container = get_or_from_slice_get cargo.containers n h.container no_container h.is_container in
        (slice_get_within cargo.containers n h.container h.is_container, (bytes_eq-Decides (get_or cargo.containers n no_container).id id).1 (ap (λ (c : Container). c.id) at ∙ h.same_id))

    back : (o : Option ℕ) → MatchOption o ((n : ℕ) → HasId cargo.containers id n → ⊥) (λ n. HasId cargo.containers id n) → (k : ℕ) → k < length cargo.containers → bytes_eq (get_or cargo.containers k no_container).id id ≡ true → o ≡ Some k
    back None h k l t = absurd (h k (has k l t))
    back (Some n) h k l t = let x = has k l t in ap (λ (m : ℕ). Some m) (id_once cargo n k h.container x.container shipped h.is_container x.is_container (h.same_id ∙ sym x.same_id))

pub number_inside : (containers : List Container) (id : List ℕ) (o : Option ℕ) → MatchOption o ((n : ℕ) → HasId containers id n → ⊥) (λ n. HasId containers id n) → IfSome o (λ c. c < length containers)
number_inside containers id None h = tt
number_inside containers id (Some n) h = slice_get_within containers n h.container h.is_container
