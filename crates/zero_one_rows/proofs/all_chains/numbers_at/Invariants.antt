use Rattle.std.proofs.Common.{◌≡◌, ◌≤◌, ◌++◌, ◌-◌, ◌^◌, length}
use Rattle.zero_one_rows.specs.ToCome.{row_at}
use Rattle.zero_one_rows.proofs.all_chains.numbers_at.Given as goal

abbrev pub invariant-loop-number : goal.invariant-loop-number
invariant-loop-number l = record {
  value : l.numbers.items ++ row_at l.number (l.count - l.number) l.rest ≡ row_at 0 l.count l.place;
  low : length l.numbers.items ≤ l.number;
  half : l.half ≡ 2 ^ (l.count - l.number);
}
