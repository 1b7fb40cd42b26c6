-- Multipliers that give each row the same are alike in all that their rows add up to.
use Rattle.std.proofs.Common.{◌≡◌, ℕ, Bool, true, false, cond, [], ◌∷◌, ℤ, pos, ◌+ℤ◌, ◌-ℤ◌, ◌*ℤ◌, arith, refl, sym, ◌∙◌, ap}
use borrow.Author.Differences.{ints}
use Rattle.proof_trees.specs.Multipliers.{Multipliers, dot, amount_of, with_amount}
use Rattle.zero_one_rows.specs.declared.program.Row.{Row}
use Rattle.zero_one_rows.specs.Variables.{Voyage}
use Rattle.certificate.specs.Entries.{same_row}
use Rattle.dual_bound.specs.Raising.{Lacks}
use Rattle.dual_bound.specs.Costs.{AreSmall}
use Rattle.certificate.proofs.RowsAlike.{same_equal, same_itself}
use Rattle.bound_checker.proofs.Multiplied.{amount_with}
use Rattle.dual_bound.proofs.Summing.{sum_times}
use Rattle.dual_bound.proofs.Multiplied.{dot_with, small_with}

lacks_none : (ms : Multipliers Row) (r : Row) → Lacks ms r → amount_of same_row ms r ≡ 0
lacks_none [] r h = refl
lacks_none (x ∷ ms) r h = ap (λ (c : Bool). cond c x.1 (amount_of same_row ms r)) h.0 ∙ lacks_none ms r h.1

first_amount : (x : Row × ℕ) (ms : Multipliers Row) → amount_of same_row (x ∷ ms) x.0 ≡ x.1
first_amount x ms = ap (λ (c : Bool). cond c x.1 (amount_of same_row ms x.0)) (same_itself x.0)

-- without the first row
behind : (x : Row × ℕ) (ms : Multipliers Row) (q : Row) → Lacks ms x.0 → amount_of same_row ms q ≡ cond (same_row x.0 q) 0 (amount_of same_row (x ∷ ms) q)
behind x ms q lacks = by (same_row x.0 q) refl
  where
    by : (c : Bool) → same_row x.0 q ≡ c → amount_of same_row ms q ≡ cond c 0 (cond c x.1 (amount_of same_row ms q))
    by true e = ap (amount_of same_row ms) (sym (same_equal x.0 q e)) ∙ lacks_none ms x.0 lacks
    by false e = refl

all_none : (c : Bool) (n : ℕ) → cond c n n ≡ n
all_none true n = refl
all_none false n = refl

none_dot : (m : Voyage) (f : Row → ℤ) (ms : Multipliers Row) → AreSmall m ms → ((q : Row) → amount_of same_row ms q ≡ 0) → dot ms f ≡ pos 0
none_dot m f [] small none = refl
none_dot m f (x ∷ ms) small none =
    let here : x.1 ≡ 0 = sym (first_amount x ms) ∙ none x.0 in
    let rest : dot ms f ≡ pos 0 = none_dot m f ms small.3 (λ q. behind x ms q small.2 ∙ ap (λ (n : ℕ). cond (same_row x.0 q) 0 n) (none q) ∙ all_none (same_row x.0 q) 0) in
    let z : pos x.1 *ℤ f x.0 ≡ pos 0 = ap (λ (n : ℕ). pos n *ℤ f x.0) here ∙ zero_times (f x.0) in
    omega (arith, ints)
  where
    zero_times : (c : ℤ) → pos 0 *ℤ c ≡ pos 0
    zero_times c = omega (arith, ints)

pub dot_alike : (m : Voyage) (f : Row → ℤ) (ns ms : Multipliers Row) → AreSmall m ns → AreSmall m ms → ((q : Row) → amount_of same_row ns q ≡ amount_of same_row ms q) → dot ns f ≡ dot ms f
dot_alike m f [] ms a b same = sym (none_dot m f ms b (λ q. sym (same q)))
dot_alike m f (x ∷ ns) ms a b same =
    let here : amount_of same_row ms x.0 ≡ x.1 = sym (same x.0) ∙ first_amount x ns in
    let z : ℤ = pos 0 -ℤ pos x.1 in
    let sum : pos x.1 +ℤ z ≡ pos 0 = omega (arith, ints) in
    let less : dot (with_amount same_row ms x.0 0) f ≡ dot ms f +ℤ z *ℤ f x.0 = dot_with ms x.0 0 z f (ap (λ (n : ℕ). pos n +ℤ z) here ∙ sum) in
    let rest : dot ns f ≡ dot (with_amount same_row ms x.0 0) f = dot_alike m f ns (with_amount same_row ms x.0 0) a.3 (small_with m ms x.0 0 a.0 (omega arith) b)
    (λ q. behind x ns q a.2 ∙ ap (λ (n : ℕ). cond (same_row x.0 q) 0 n) (same q) ∙ sym (amount_with ms x.0 q 0)) in
    let none : pos x.1 *ℤ f x.0 +ℤ z *ℤ f x.0 ≡ pos 0 *ℤ f x.0 = sym (sum_times (pos x.1) z (f x.0)) ∙ ap (λ (w : ℤ). w *ℤ f x.0) sum in
    omega (arith, ints)
