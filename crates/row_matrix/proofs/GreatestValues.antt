-- The greatest value of a row over a box in which one variable changes.
use Rattle.std.proofs.Common.{◌≡◌, ℕ, ◌<◌, Bool, Some, None, length, set, pos, ◌+ℤ◌, ◌-ℤ◌, arith, ap}
use Rattle.std.specs.Int.{int_max}
use borrow.Author.Differences.{ints}
use Rattle.std.proofs.lemmas.List.{get_or-set_same, get_or-set_other}
use Rattle.proof_trees.specs.Program.{Program, where_set}
use Rattle.proof_trees.specs.Boxes.{Box, at, fixed, greatest, most}
use Rattle.row_matrix.specs.Terms.{loss}
use Rattle.row_matrix.proofs.Summing.{sum_one}

most_fixed : {R : Type 0} (p : Program R) (b : Box) (r : R) (v : ℕ) (x : Bool) → v < length b → v < p.vars → most p (fixed b v x) r +ℤ greatest (at b v) (p.coef r v) ≡ most p b r +ℤ where_set x (p.coef r v)
most_fixed p b r v x lt lt' =
    let one = sum_one (λ w. greatest (at (fixed b v x) w) (p.coef r w)) (λ w. greatest (at b w) (p.coef r w)) v (λ w other. ap (λ o. greatest o (p.coef r w)) (get_or-set_other b v w (Some x) None other)) p.vars lt' in
    let here : greatest (at (fixed b v x) v) (p.coef r v) ≡ where_set x (p.coef r v) = ap (λ o. greatest o (p.coef r v)) (get_or-set_same b v (Some x) None lt) in
    omega (arith, ints)

pub most_less : {R : Type 0} (p : Program R) (b : Box) (r : R) (v : ℕ) (x : Bool) → v < length b → v < p.vars → at b v ≡ None → most p (fixed b v x) r ≡ most p b r -ℤ loss x (p.coef r v)
most_less p b r v x lt lt' free =
    let g : greatest (at b v) (p.coef r v) ≡ int_max (pos 0) (p.coef r v) = ap (λ o. greatest o (p.coef r v)) free in
    omega (arith, ints, most_fixed p b r v x lt lt')

pub most_more : {R : Type 0} (p : Program R) (b : Box) (r : R) (v : ℕ) (y : Bool) → v < length b → v < p.vars → at b v ≡ Some y → most p (set b v None) r ≡ most p b r +ℤ loss y (p.coef r v)
most_more p b r v y lt lt' is =
    let one = sum_one (λ w. greatest (at (set b v None) w) (p.coef r w)) (λ w. greatest (at b w) (p.coef r w)) v (λ w other. ap (λ o. greatest o (p.coef r w)) (get_or-set_other b v w None None other)) p.vars lt' in
    let here : greatest (at (set b v None) v) (p.coef r v) ≡ int_max (pos 0) (p.coef r v) = ap (λ o. greatest o (p.coef r v)) (get_or-set_same b v None None lt) in
    let old : greatest (at b v) (p.coef r v) ≡ where_set y (p.coef r v) = ap (λ o. greatest o (p.coef r v)) is in
    omega (arith, ints)
