-- A run ends as the answers to its order say.
use Rattle.std.proofs.Common.{◌≡◌, Option, Some, refl, sym, ap, subst, ◌∙◌, inl, inr}
use Rattle.std.specs.Prelude.{Result, Ok, Err}
use Rattle.stow_io.specs.Files.{Files}
use Rattle.stow_io.specs.Outside.{Outside, HasRisen}
use Rattle.stow_words.specs.declared.order.Order.{Order}
use Rattle.stow_words.specs.declared.order.WordsNo.{WordsNo}
use Rattle.stow_io.specs.declared.files.Finding.{Finding}
use Rattle.stow_io.specs.declared.files.Finding.TheVariants as finding
use Rattle.voyage_files.specs.declared.answer.Answer.{Answer}
use Rattle.voyage_files.specs.declared.answer.Answer.TheVariants as answer
use Rattle.stow_cli.specs.Answers.{IsAnswerTo}
use Rattle.stow_cli.specs.Law.{Agree}
use Rattle.stow_cli.proofs.Agreement.{answers_agree}
use Rattle.stow_cli.specs.declared.status.Status.{Status}
use Rattle.stow_cli.specs.declared.status.Status.TheVariants as status
use Rattle.stow_cli.specs.Ends.{IsDone, Follows, Refuses, IsRun, IsExact, EndsAlike, found_status, status_of}

-- an answer to the order, over files that are told, agrees with each other one
alike : (order : Order) (all : Option Files) (files : Files) (a b : Answer) (s : Status) → all ≡ Some files → IsAnswerTo order all a → IsAnswerTo order all b → s ≡ status_of a → EndsAlike order all s b
alike order all files a b s told h k is =
    let agree = answers_agree order files a b (subst (λ (m : Option Files). IsAnswerTo order m a) told h) (subst (λ (m : Option Files). IsAnswerTo order m b) told k) in
    record {
      answer = a;
      status_is = is;
      agrees = subst (λ (m : Option Files). Agree order m a b) (sym told) agree;
    }

done_alike : (order : Order) (s : Status) (before now : Outside) (files : Files) (a : Answer) (d : IsDone order s before now) (f : Finding) → d.work.finding ≡ f → s ≡ found_status f → before.files ≡ Some files → IsAnswerTo order before.files a → EndsAlike order before.files s a
done_alike order s before now files a d f found is told h = alike order before.files files (answer.Work d.work) a s told d.answered h (is ∙ ap found_status (sym found))

exact_order : (order : Order) (s : Status) (before now : Outside) → Follows order s before now → (s ≡ status.Fault → HasRisen before now) → IsExact (Ok order) s before now
exact_order order status.Fine before now run fault files a told quiet h = inl (done_alike order status.Fine before now files a run finding.Fine run.finished.0 refl told h)
exact_order order status.Gap before now run fault files a told quiet h = inl (done_alike order status.Gap before now files a run finding.Gap run.finished.0 refl told h)
exact_order order status.NoPlan before now run fault files a told quiet h = inl (done_alike order status.NoPlan before now files a run finding.NoPlan run.finished.0 refl told h)
exact_order order status.Undecided before now run fault files a told quiet h = inl (done_alike order status.Undecided before now files a run finding.Undecided run.finished.0 refl told h)
exact_order order status.No before now run fault files a told quiet h = inl (alike order before.files files (answer.No run.line) a status.No told run.answered h refl)
exact_order order status.Input before now run fault files a told quiet h = inl (alike order before.files files (answer.Input run.line) a status.Input told run.answered h refl)
exact_order order status.Large before now run fault files a told quiet h = inl (alike order before.files files (answer.Large run.line) a status.Large told run.answered h refl)
exact_order order status.Fault before now run fault files a told quiet h = absurd (quiet (fault refl))
exact_order order status.Memory before now run fault files a told quiet h = inr refl
exact_order order status.Words before now run fault files a told quiet h = inl (alike order before.files files answer.Call a status.Words told run.answered h refl)

exact_words : (why : WordsNo) (s : Status) (before now : Outside) → Refuses why s before now → IsExact (Err why) s before now
exact_words why status.Words before now run = inl refl
exact_words why status.Memory before now run = inr refl
exact_words why status.Fine before now run = absurd run
exact_words why status.No before now run = absurd run
exact_words why status.Gap before now run = absurd run
exact_words why status.NoPlan before now run = absurd run
exact_words why status.Undecided before now run = absurd run
exact_words why status.Input before now run = absurd run
exact_words why status.Fault before now run = absurd run
exact_words why status.Large before now run = absurd run

pub exact : (wanted : Result Order WordsNo) (s : Status) (before now : Outside) → IsRun wanted s before now → (s ≡ status.Fault → HasRisen before now) → IsExact wanted s before now
exact (Ok order) s before now run fault = exact_order order s before now run fault
exact (Err why) s before now run fault = exact_words why s before now run
