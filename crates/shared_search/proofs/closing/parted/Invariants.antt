use Rattle.std.proofs.Common.{◌≡◌, ◌++◌, map}
use Rattle.shared_search.specs.Rounds.{own_of, row_of}
use Rattle.shared_search.proofs.closing.parted.Given as goal

abbrev pub invariant-loop-pass : goal.invariant-loop-pass
invariant-loop-pass g l = record {
  owns : l.owns.items ++ map own_of l.pass-iterator.rest.items ≡ map own_of l.fn.passes.items;
  rows : map (λ row. row.items) l.rows.items ++ map row_of l.pass-iterator.rest.items ≡ map row_of l.fn.passes.items;
}
