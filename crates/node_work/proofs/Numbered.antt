-- The number of a variable that stands in the list.
use Rattle.std.proofs.Common.{◌≡◌, ◌≢◌, ℕ, ◌<◌, Bool, true, false, ◌&&◌, ◌==◌, length, get_or, arith, refl, sym, ◌∙◌, ap}
use Rattle.std.proofs.lemmas.Bool.Decides.{nat_tests}
use Rattle.std.proofs.lemmas.List.Sums.{position_or_len_is}
use Rattle.zero_one_rows.specs.declared.program.Var.{Var}
use Rattle.zero_one_rows.specs.Variables.{Voyage, variables, var, no_var}
use Rattle.zero_one_rows.proofs.VariableList.{var_once}
use Rattle.certificate.specs.Entries.{same_var, number_of}

both : (a b : Bool) → (a && b) ≡ true → (a ≡ true) × (b ≡ true)
both true b h = (refl, h)
both false b h = absurd (grind arith)

equal : (a b : ℕ) → (a == b) ≡ true → a ≡ b
equal a b h = grind (arith, nat_tests)

itself : (a : ℕ) → (a == a) ≡ true
itself a = grind (arith, nat_tests)

abbrev var_of : ℕ → ℕ → ℕ → ℕ → Var
var_of a b c d = record { put = a; kind = b; lifted = c; place = d }

same_equal : (x y : Var) → same_var x y ≡ true → x ≡ y
same_equal x y h =
    let a = both (x.put == y.put) _ h in
    let b = both (x.kind == y.kind) _ a.1 in
    let c = both (x.lifted == y.lifted) _ b.1 in
    let e : x.put ≡ y.put = equal x.put y.put a.0 in
    let f : x.kind ≡ y.kind = equal x.kind y.kind b.0 in
    let g : x.lifted ≡ y.lifted = equal x.lifted y.lifted c.0 in
    let k : x.place ≡ y.place = equal x.place y.place c.1 in
    ap (λ (n : ℕ). var_of n x.kind x.lifted x.place) e ∙ ap (λ (n : ℕ). var_of y.put n x.lifted x.place) f ∙ ap (λ (n : ℕ). var_of y.put y.kind n x.place) g ∙ ap (λ (n : ℕ). var_of y.put y.kind y.lifted n) k

same_itself : (x : Var) → same_var x x ≡ true
same_itself x = rw (itself x.put, itself x.kind, itself x.lifted) (itself x.place)

not_true : (b : Bool) → (b ≡ true → ⊥) → b ≡ false
not_true true h = absurd (h refl)
not_true false h = refl

pub number_is : (m : Voyage) (v : Var) (x : ℕ) → x < length (variables m) → var m x ≡ v → number_of m v ≡ x
number_is m v x lt is = position_or_len_is (same_var v) (variables m) x no_var (omega arith)
    (λ k k_lt. not_true (same_var v (get_or (variables m) k no_var)) (λ h.
    let e : var m k ≡ var m x = sym (same_equal v (get_or (variables m) k no_var) h) ∙ sym is in
    let n : k ≡ x = var_once m k x (omega arith) lt e in
    absurd (omega arith)))
    (λ lt. ap (same_var v) is ∙ same_itself v)

-- a variable that isn't in the list has the number of all variables
pub number_none : (m : Voyage) (v : Var) → ((x : ℕ) → x < length (variables m) → var m x ≢ v) → number_of m v ≡ length (variables m)
number_none m v other = position_or_len_is (same_var v) (variables m) (length (variables m)) no_var (omega arith)
    (λ k lt. not_true (same_var v (get_or (variables m) k no_var)) (λ h. other k lt (sym (same_equal v (get_or (variables m) k no_var) h)))) (λ lt. absurd (omega arith))
