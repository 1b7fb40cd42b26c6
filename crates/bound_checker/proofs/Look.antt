-- A look-up in a map of rows is that in its list of rows.
use Rattle.std.proofs.Common.{◌≡◌, ℕ, Bool, true, false, cond, List, [], ◌∷◌, Option, Some, None, refl, ap, sym, ◌∙◌}
use Rattle.std.specs.Prelude.{unwrap_or}
use Rattle.std.specs.Option.{IfSome}
use Rattle.std.specs.Map.{lookup}
use Rattle.std.specs.Ordering.{is_eq}
use Rattle.std.specs.BTreeMap.{is_at}
use Rattle.zero_one_rows.specs.declared.program.Row.{Row}
use Rattle.zero_one_rows.specs.contracts.program.RowOrd.TheImpl as order
use Rattle.proof_trees.specs.Multipliers.{amount_of}
use Rattle.certificate.specs.Entries.{same_row}
use Rattle.certificate.proofs.RowsTold.{same_turned}
use Rattle.bound_checker.proofs.RowsOrdered.{order_same}

unwrap_cond : (c : Bool) (n : ℕ) (o : Option ℕ) → unwrap_or (cond c (Some n) o) 0 ≡ cond c n (unwrap_or o 0)
unwrap_cond true n o = refl
unwrap_cond false n o = refl

pub amount_looked_up : (es : List (Row × ℕ)) (r : Row) → unwrap_or (lookup (is_at (order.ghosts.cmp r)) es) 0 ≡ amount_of same_row es r
amount_looked_up [] r = refl
amount_looked_up (e ∷ es) r =
    let k : is_eq (order.ghosts.cmp r e.0) ≡ same_row e.0 r = order_same r e.0 ∙ same_turned r e.0 in
    unwrap_cond (is_eq (order.ghosts.cmp r e.0)) e.1 (lookup (is_at (order.ghosts.cmp r)) es) ∙ ap (λ (c : Bool). cond c e.1 (unwrap_or (lookup (is_at (order.ghosts.cmp r)) es) 0)) k ∙ ap (λ (n : ℕ). cond (same_row e.0 r) e.1 n) (amount_looked_up es r)

-- after one more row was put into the map
pub amount_put : (es es' : List (Row × ℕ)) (r q : Row) (n : ℕ) → lookup (is_at (order.ghosts.cmp q)) es' ≡ cond (is_eq (order.ghosts.cmp r q)) (Some n) (lookup (is_at (order.ghosts.cmp q)) es)
    → amount_of same_row es' q ≡ cond (same_row r q) n (amount_of same_row es q)
amount_put es es' r q n h =
    sym (amount_looked_up es' q) ∙ ap (λ (o : Option ℕ). unwrap_or o 0) h ∙ unwrap_cond (is_eq (order.ghosts.cmp r q)) n (lookup (is_at (order.ghosts.cmp q)) es) ∙ ap (λ (c : Bool). cond c n (unwrap_or (lookup (is_at (order.ghosts.cmp q)) es) 0)) (order_same r q) ∙ ap (λ (k : ℕ). cond (same_row r q) n k) (amount_looked_up es q)

-- after one row was taken out of the map
pub amount_out : (es es' : List (Row × ℕ)) (r q : Row) → lookup (is_at (order.ghosts.cmp q)) es' ≡ cond (is_eq (order.ghosts.cmp r q)) None (lookup (is_at (order.ghosts.cmp q)) es)
    → amount_of same_row es' q ≡ cond (same_row r q) 0 (amount_of same_row es q)
amount_out es es' r q h =
    sym (amount_looked_up es' q) ∙ ap (λ (o : Option ℕ). unwrap_or o 0) h ∙ unwrap_none (is_eq (order.ghosts.cmp r q)) (lookup (is_at (order.ghosts.cmp q)) es) ∙ ap (λ (c : Bool). cond c 0 (unwrap_or (lookup (is_at (order.ghosts.cmp q)) es) 0)) (order_same r q) ∙ ap (λ (k : ℕ). cond (same_row r q) 0 k) (amount_looked_up es q)
  where
    unwrap_none : (c : Bool) (o : Option ℕ) → unwrap_or (cond c None o) 0 ≡ cond c 0 (unwrap_or o 0)
    unwrap_none true o = refl
    unwrap_none false o = refl

pub if_some_other : {X : Type 0} (P Q : X → Type 0) → ((x : X) → P x → Q x) → (o : Option X) → IfSome o P → IfSome o Q
if_some_other P Q f None h = tt
if_some_other P Q f (Some x) h = f x h
