use Rattle.std.proofs.Common.{[], ◌∷◌, arith}
use Rattle.proof_trees.specs.OneVariable.{one_variable}
use Rattle.search_core.specs.Journals.{Tip}
use Rattle.search_core.specs.Samples.{same_number, closing, closing_journal}
use Rattle.search_core.proofs.Samples.{row_solves, costs_positive, journal_whole, journal_gathers, journal_settles, journal_offers}
use Rattle.search_tests.proofs.machine.closed_root_replays.Goals as goal

pub returns : goal.returns
returns c = c.journals_replay.ensures same_number one_variable (0 ∷ []) row_solves costs_positive 1 1 1 closing_journal [] (Tip closing) journal_whole journal_gathers journal_settles journal_offers (omega arith) (λ some. absurd (omega arith))
