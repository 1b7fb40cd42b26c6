-- A variable by its number.
use Rattle.std.proofs.Common.{◌≡◌, ◌≢◌, ℕ, ◌<◌, Bool, true, false, ◌&&◌, ◌==◌, length, get_or, arith, refl, sym, ◌∙◌, ap, subst}
use Rattle.std.proofs.lemmas.Bool.Decides.{nat_tests}
use Rattle.std.proofs.lemmas.List.Sums.{position_or_len_is}
use Rattle.zero_one_rows.specs.declared.program.Var.{Var}
use Rattle.zero_one_rows.specs.Variables.{Voyage, variables, var, no_var}
use Rattle.zero_one_rows.proofs.Rising.{rising_get}
use Rattle.zero_one_model.proofs.Rising.{Precedes, by_put, by_kind, by_lifted, by_place, variables_rise}
use Rattle.certificate.specs.Entries.{same_var, number_of}

both : (a b : Bool) → (a && b) ≡ true → (a ≡ true) × (b ≡ true)
both true b h = (refl, h)
both false b h = absurd (grind arith)

equal : (a b : ℕ) → (a == b) ≡ true → a ≡ b
equal a b h = grind (arith, nat_tests)

itself : (a : ℕ) → (a == a) ≡ true
itself a = grind (arith, nat_tests)

abbrev var_of : ℕ → ℕ → ℕ → ℕ → Var
var_of a b c d = record { put = a; kind = b; lifted = c; place = d }

same_equal : (x y : Var) → same_var x y ≡ true → x ≡ y
same_equal x y h =
    let a = both (x.put == y.put) _ h in
    let b = both (x.kind == y.kind) _ a.1 in
    let c = both (x.lifted == y.lifted) _ b.1 in
    let e : x.put ≡ y.put = equal x.put y.put a.0 in
    let f : x.kind ≡ y.kind = equal x.kind y.kind b.0 in
    let g : x.lifted ≡ y.lifted = equal x.lifted y.lifted c.0 in
    let k : x.place ≡ y.place = equal x.place y.place c.1 in
    parts x y e f g k
  where
    parts : (x y : Var) → x.put ≡ y.put → x.kind ≡ y.kind → x.lifted ≡ y.lifted → x.place ≡ y.place → x ≡ y
    parts x y e f g k =
        ap (λ (n : ℕ). var_of n x.kind x.lifted x.place) e ∙ ap (λ (n : ℕ). var_of y.put n x.lifted x.place) f ∙ ap (λ (n : ℕ). var_of y.put y.kind n x.place) g ∙ ap (λ (n : ℕ). var_of y.put y.kind y.lifted n) k

same_itself : (x : Var) → same_var x x ≡ true
same_itself x = rw (itself x.put, itself x.kind, itself x.lifted) (itself x.place)

not_true : (b : Bool) → (b ≡ true → ⊥) → b ≡ false
not_true true h = absurd (h refl)
not_true false h = refl

not_itself : (x : Var) → Precedes x x → ⊥
not_itself x (by_put l) = omega arith
not_itself x (by_kind e l) = omega arith
not_itself x (by_lifted e f l) = omega arith
not_itself x (by_place e f g l) = omega arith

module _ (m : Voyage) (v : Var) where
  pub number_none : ((x : ℕ) → x < length (variables m) → var m x ≢ v) → number_of m v ≡ length (variables m)
  number_none other = position_or_len_is (same_var v) (variables m) (length (variables m)) no_var (omega arith)
      (λ k lt. not_true (same_var v (get_or (variables m) k no_var)) (λ h. other k lt (sym (same_equal v (get_or (variables m) k no_var) h)))) (λ lt. absurd (omega arith))

  pub number_is : (x : ℕ) → x < length (variables m) → var m x ≡ v → number_of m v ≡ x
  number_is x lt is = position_or_len_is (same_var v) (variables m) x no_var (omega arith)
      (λ k k_lt. not_true (same_var v (get_or (variables m) k no_var)) (λ h.
      let e : get_or (variables m) k no_var ≡ get_or (variables m) x no_var = sym (same_equal v (get_or (variables m) k no_var) h) ∙ sym is in
      not_itself (get_or (variables m) x no_var) (subst (λ (y : Var). Precedes y (get_or (variables m) x no_var)) e (rising_get Precedes (variables m) k x no_var (variables_rise m) k_lt lt))))
      (λ lt. ap (same_var v) is ∙ same_itself v)
