use Rattle.std.proofs.Common.{ℕ, ◌<◌, ◌≤◌, [], length, sym, subst}
use Rattle.std.specs.Prelude.{slice_index_or}
use Rattle.zero_one_rows.specs.Variables.{Voyage, variables}
use Rattle.row_sums.specs.declared.numbering.Numbering.{Numbering}
use Rattle.row_sums.specs.Numbers.{IsNumbering}
use Rattle.row_matrix.specs.Counted.{weight_of, AreEntries, AreShares}
use Rattle.row_matrix.specs.Signed.{AreSigned}
use Rattle.row_matrix.proofs.matrix.build_from.Goals as goal

pub rows_and_margins-requires-clause-heaviest : goal.rows_and_margins-requires-clause-heaviest
rows_and_margins-requires-clause-heaviest c = subst (λ (w : Voyage). (v : ℕ) → v < length (variables w) → weight_of w v ≤ c.in_ok-columns.columns.heaviest) c.requires c.in_ok-columns.ensures.heaviest

pub written_of-written-requires-clause-entries : goal.written_of-written-requires-clause-entries
written_of-written-requires-clause-entries c =
    subst (λ (y : Numbering). AreEntries c.args.model.now y c.in_ok-columns.columns.entries) (sym c.numbering-numbering.ensures.same) (subst (λ (w : Voyage). AreEntries w c.args.matrix.now.numbering c.in_ok-columns.columns.entries) c.requires c.in_ok-columns.ensures.entries)

pub written_of-written-requires-clause-shares : goal.written_of-written-requires-clause-shares
written_of-written-requires-clause-shares c =
    let m = c.args.model.now in
    subst (λ (y : Numbering). (v : ℕ) → v < length (variables m) → AreShares m y v (slice_index_or c.in_ok-columns.columns.shares v [])) (sym c.numbering-numbering.ensures.same)
    (subst (λ (w : Voyage). (v : ℕ) → v < length (variables w) → AreShares w c.args.matrix.now.numbering v (slice_index_or c.in_ok-columns.columns.shares v [])) c.requires c.in_ok-columns.ensures.shares)

pub invariant_of-result : goal.invariant_of-result
invariant_of-result c =
    let m = c.args.model.now in
    let z : Numbering = c.numbering-numbering.result in
    let same = sym c.numbering-numbering.ensures.same in
    record {
      numbering = subst (λ (w : Voyage). IsNumbering w z) c.requires c.numbering-numbering.ensures.room;
      entries = subst (λ (y : Numbering). AreEntries m y c.in_ok-columns.columns.entries) same (subst (λ (w : Voyage). AreEntries w c.args.matrix.now.numbering c.in_ok-columns.columns.entries) c.requires c.in_ok-columns.ensures.entries);
      shares = subst (λ (y : Numbering). (v : ℕ) → v < length (variables m) → AreShares m y v (slice_index_or c.in_ok-columns.columns.shares v [])) same
          (subst (λ (w : Voyage). (v : ℕ) → v < length (variables w) → AreShares w c.args.matrix.now.numbering v (slice_index_or c.in_ok-columns.columns.shares v [])) c.requires c.in_ok-columns.ensures.shares);
      signed = subst (λ (y : Numbering). AreSigned m y c.in-Ok.rows) same c.in-Ok.ensures.rows;
      written = c.written_of-written.ensures;
      margins = c.in-Ok.ensures.margins;
    }
