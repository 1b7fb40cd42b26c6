use Rattle.std.proofs.Common.{ℕ, length}
use Rattle.zero_one_rows.specs.Variables.{Voyage, variables}
use Rattle.row_sums.specs.Numbers.{numbers}
use Rattle.row_sums.proofs.Turning.{turned_variables, turned_back, turned_inside, back_rising}
use Rattle.row_sums.proofs.matrix.SumMatrix.build.Goals as goal

pub invariant_of-result : goal.invariant_of-result
invariant_of-result c =
    let m : Voyage = c.in_ok-sums.sums in
    let z = c.in-Ok.numbering in
    let n = c.in-Ok.ensures.numbers in
    let t = c.in-Ok.ensures.variables in
    let b = c.in-Ok.ensures.holders in
    let k : ℕ = length (variables m) in
    record {
      numbering = n;
      by_sum = turned_variables m z t.of_each c.in-Ok.variables n t.each t.of t.are_turned;
      inside = turned_inside t.of_each c.in-Ok.variables (numbers z) k t.are_turned t.each;
      by_variable = turned_back m z t.of_each c.in-Ok.variables c.in-Ok.holders n t.each t.of t.are_turned b;
      rising = λ v l. back_rising c.in-Ok.variables c.in-Ok.holders k v b l;
    }
