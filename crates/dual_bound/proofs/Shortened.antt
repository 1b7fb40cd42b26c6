-- Rows without a multiplier, forgotten.
use Rattle.std.proofs.Common.{◌≡◌, ℕ, zero, suc, Bool, true, false, All, [], ◌∷◌, take, drop, ℤ, pos, ◌+ℤ◌, ◌-ℤ◌, ◌*ℤ◌, refl, sym, subst, ◌∙◌, ap, arith}
use Rattle.std.specs.Prelude.{if◌then◌else◌}
use borrow.Author.Differences.{ints}
use Rattle.zero_one_rows.specs.declared.program.Row.{Row}
use Rattle.zero_one_rows.specs.Variables.{Voyage}
use Rattle.zero_one_rows.specs.Rows.{whole}
use Rattle.proof_trees.specs.Boxes.{Box}
use Rattle.proof_trees.specs.Multipliers.{Multipliers, dot}
use Rattle.dual_bound.specs.declared.costs.Costs.{Costs}
use Rattle.dual_bound.specs.Raising.{Lacks}
use Rattle.dual_bound.specs.Costs.{AreSmall, Priced}

abbrev IsZero : Row × ℕ → Type 0
IsZero e = e.1 ≡ 0

rest_zero : (x : Row × ℕ) (ms : Multipliers Row) → All IsZero (x ∷ ms) → All IsZero ms
rest_zero x ms h k d lt = h (suc k) d (omega arith)

none_times : (z : ℤ) → pos 0 *ℤ z ≡ pos 0
none_times z = omega (arith, ints)

zero_dot : (ms : Multipliers Row) (f : Row → ℤ) → All IsZero ms → dot ms f ≡ pos 0
zero_dot [] f h = refl
zero_dot (x ∷ ms) f h =
    let first : pos x.1 *ℤ f x.0 ≡ pos 0 = ap (λ (n : ℕ). pos n *ℤ f x.0) (h 0 x (omega arith)) ∙ none_times (f x.0) in
    omega (arith, ints, first, zero_dot ms f (rest_zero x ms h))

pub front_dot : (k : ℕ) (ms : Multipliers Row) (f : Row → ℤ) → All IsZero (drop k ms) → dot ms f ≡ dot (take k ms) f
front_dot zero ms f h = zero_dot ms f h
front_dot (suc k) [] f h = refl
front_dot (suc k) (x ∷ ms) f h = ap (λ (z : ℤ). pos x.1 *ℤ f x.0 +ℤ z) (front_dot k ms f h)

lacks_front : (k : ℕ) (ms : Multipliers Row) (r : Row) → Lacks ms r → Lacks (take k ms) r
lacks_front zero ms r h = tt
lacks_front (suc k) [] r h = tt
lacks_front (suc k) (x ∷ ms) r h = (h.0, lacks_front k ms r h.1)

small_front : (m : Voyage) (k : ℕ) (ms : Multipliers Row) → AreSmall m ms → AreSmall m (take k ms)
small_front m zero ms h = tt
small_front m (suc k) [] h = tt
small_front m (suc k) (x ∷ ms) h = (h.0, h.1, lacks_front k ms x.0 h.2, small_front m k ms h.3)

front_priced : (m : Voyage) (b : Box) (k : ℕ) (ms : Multipliers Row) (c : Costs) → Priced m b ms c → All IsZero (drop k ms) → Priced m b (take k ms) c
front_priced m b k ms c h gone = record {
  gauged = h.gauged;
  right = h.right ∙ front_dot k ms (whole m).rhs gone;
  reduced = λ v lt. h.reduced v lt ∙ ap (λ (z : ℤ). pos 16 *ℤ (whole m).cost v -ℤ z) (front_dot k ms (λ r. (whole m).coef r v) gone);
  small = small_front m k ms h.small;
}

pub shortened_priced : (m : Voyage) (b : Box) (k : ℕ) (ms ns : Multipliers Row) (done : Bool) (c : Costs) → Priced m b ms c → ns ≡ (if done then take k ms else ms) → (done ≡ true → All IsZero (drop k ms)) → Priced m b ns c
shortened_priced m b k ms ns true c h is gone = subst (λ (us : Multipliers Row). Priced m b us c) (sym is) (front_priced m b k ms c h (gone refl))
shortened_priced m b k ms ns false c h is gone = subst (λ (us : Multipliers Row). Priced m b us c) (sym is) h
