use Rattle.std.proofs.Common.{◌≡◌, ◌≤◌, ◌^◌, ◌+◌, ◌∙◌, ℕ, List, length, sym, subst}
use Rattle.std.specs.Prelude.{All}
use Rattle.stow_cli.specs.Checks.{AreTexts}
use Rattle.stow_cli.proofs.WrittenFiles.{counted_next, short_more, texts_next}
use Rattle.stow_cli.proofs.departures.read_departures.Goals as goal

pub loop-index-preserved : goal.loop-index-preserved
loop-index-preserved g c = record {
  files = c.in_ok-text.ensures.stays ∙ c.loop-index.invariant.files;
  quiet = c.in_ok-text.ensures.quiet ∙ c.loop-index.invariant.quiet;
  are = subst (λ (ts : List (List ℕ)). AreTexts c.args.base.now (g.F.Folder.files c.args.folder.now) 1 ts) (sym c.in-Ok.ensures)
      (texts_next c.args.base.now (g.F.Folder.files c.args.folder.now) (g.F.Folder.files c.loop-index.folder) c.loop-index.index c.loop-index.texts c.in_ok-text.text c.loop-index.invariant.files c.loop-index.invariant.counted c.loop-index.invariant.are c.in_ok-text.ensures.gives);
  counted = subst (λ (ts : List (List ℕ)). length ts ≡ c.loop-index.index + 1) (sym c.in-Ok.ensures) (counted_next c.loop-index.index c.loop-index.texts c.in_ok-text.text c.loop-index.invariant.counted);
  short = subst (λ (ts : List (List ℕ)). All (λ (t : List ℕ). length t ≤ 2 ^ 29) ts) (sym c.in-Ok.ensures) (short_more c.loop-index.texts c.in_ok-text.text c.loop-index.invariant.short c.in_ok-text.ensures.small);
}
