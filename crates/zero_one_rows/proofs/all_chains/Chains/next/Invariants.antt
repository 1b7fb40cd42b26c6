use Rattle.std.proofs.Common.{◌-◌, ◌≡◌, ◌+◌, ◌^◌}
use Rattle.zero_one_rows.specs.ToCome.{to_come, IsWithin}
use Rattle.zero_one_rows.proofs.all_chains.Chains.next.Given as goal

abbrev pub invariant-loop-self : goal.invariant-loop-self
invariant-loop-self l = record {
  right : IsWithin l.self-inside;
  same : to_come l.self-inside ≡ l.fn.self;
  end : l.end ≡ 2 ^ (l.self-inside.calls + 1);
}

abbrev pub decreases-loop-self : goal.decreases-loop-self
decreases-loop-self l = l.end - l.self-inside.place
