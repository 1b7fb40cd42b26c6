use Rattle.std.proofs.Common.{◌≡◌, ℕ, drop, ◌+ℤ◌}
use Rattle.row_matrix.specs.Terms.{loses, lost}
use Rattle.row_matrix.proofs.written.append_shares.Given as goal

abbrev pub invariant-loop-share : goal.invariant-loop-share
invariant-loop-share l = (k : ℕ) → loses l.losses.items k +ℤ lost (drop l.share-index l.shares) l.rows k ≡ loses l.fn.losses.items k +ℤ lost l.shares l.rows k
