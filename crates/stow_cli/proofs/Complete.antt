-- Accepted input has an answer.
use Rattle.std.proofs.Common.{◌≡◌, ℕ, List, Option, Some, refl, sym, ap, subst, ◌∙◌, inl, inr, arith}
use Rattle.std.specs.Prelude.{◌⊎◌, Result, Ok, Err}
use Rattle.stow_io.specs.Files.{Files}
use Rattle.stow_io.specs.Outside.{Outside, HasRisen}
use Rattle.stow_io.specs.declared.files.NamedFile.{NamedFile}
use Rattle.stow_io.specs.declared.files.Finding.{Finding}
use Rattle.stow_io.specs.declared.files.Finding.TheVariants as finding
use Rattle.stow_io.specs.declared.files.Work.{Work}
use Rattle.stow_words.specs.declared.order.Order.{Order}
use Rattle.stow_words.specs.declared.order.Order.TheVariants.{Plan, Check, Show, Make, Cranes}
use Rattle.stow_words.specs.declared.order.WordsNo.{WordsNo}
use Rattle.voyage_files.specs.Names.{Names, names_from}
use Rattle.voyage_files.specs.declared.answer.Answer.{Answer}
use Rattle.voyage_files.specs.declared.answer.Answer.TheVariants as answer
use Rattle.voyage_files.specs.declared.voyage.BookedVoyage.{BookedVoyage}
use Rattle.stow_cli.specs.Answers.{IsAnswerTo, PlanWithin}
use Rattle.stow_cli.specs.Made.{behind, made_files, made_inputs}
use Rattle.stow_cli.specs.Voyages.{Overflows, voyage_of}
use Rattle.stow_cli.proofs.MadeInputs.{made_are_inputs, made_is_within}
use Rattle.stow_cli.proofs.Searched.{list_is_fine, made_searched, searched, yes_is_fine}
use Rattle.stow_cli.specs.declared.status.Status.{Status}
use Rattle.stow_cli.specs.declared.status.Status.TheVariants as status
use Rattle.stow_cli.specs.Ends.{EndsAlike, Follows, IsDone, IsExact, IsRun, found_status, status_of}
use Rattle.stow_cli.specs.Complete.{AreGood, EndsOrder, EndsSearch, HaveDepartures, IsComplete, IsFine}
use Rattle.stow_cli.specs.Cranes.{IsCranesTo, IsShared}
use Rattle.stow_data.specs.Plans as stowed
use Rattle.model_bridge.specs.Laws.{IsProblem}
use Rattle.stow_cli.specs.SharedOut.{SharedAs, ShowDepartures}
use Rattle.voyage_files.proofs.OneInput.{one_inputs}
use Rattle.voyage_files.proofs.OneNo.{taken_not_legal}
use Rattle.stow_cli.proofs.OneCall.{in_time_not_turned, same_texts}

-- ## `plan` and `make`

-- what a search is answered: work, or the line of a certificate that is too long
abbrev IsSearched : BookedVoyage → ℕ → Answer → Type 0
IsSearched v budget (answer.Work work) = Unit {0}
IsSearched v budget (answer.Large line) = Overflows v budget line
IsSearched v budget (answer.No line) = ⊥
IsSearched v budget (answer.Input line) = ⊥
IsSearched v budget answer.Call = ⊥

of_within : (budget : ℕ) (base : List ℕ) (v : BookedVoyage) (a : Answer) → PlanWithin budget base v a → IsSearched v budget a
of_within budget base v (answer.Work work) h = tt
of_within budget base v (answer.Large line) h = h
of_within budget base v (answer.No line) h = h
of_within budget base v (answer.Input line) h = h
of_within budget base v answer.Call h = h

of_behind : (budget : ℕ) (v : BookedVoyage) (front : List NamedFile) (a : Answer) → IsSearched v budget a → IsSearched v budget (behind front a)
of_behind budget v front (answer.Work work) h = tt
of_behind budget v front (answer.Large line) h = h
of_behind budget v front (answer.No line) h = h
of_behind budget v front (answer.Input line) h = h
of_behind budget v front answer.Call h = h

abbrev AnswersSearch : Order → Option Files → BookedVoyage → ℕ → Type 0
AnswersSearch order files v budget = (a : Answer) → IsAnswerTo order files a → IsSearched v budget a

-- an order whose answers are those of a search ends as one
ends_search : (order : Order) (v : BookedVoyage) (budget : ℕ) (s : Status) (before now : Outside) → AnswersSearch order before.files v budget → Follows order s before now → (s ≡ status.Fault → ⊥) → EndsSearch v budget s before now
ends_search order v budget status.Fine before now h run quiet = tt
ends_search order v budget status.Gap before now h run quiet = tt
ends_search order v budget status.NoPlan before now h run quiet = tt
ends_search order v budget status.Undecided before now h run quiet = tt
ends_search order v budget status.Memory before now h run quiet = tt
ends_search order v budget status.Large before now h run quiet = (run.line, h (answer.Large run.line) run.answered, run.printed)
ends_search order v budget status.Input before now h run quiet = h (answer.Input run.line) run.answered
ends_search order v budget status.No before now h run quiet = h (answer.No run.line) run.answered
ends_search order v budget status.Words before now h run quiet = h answer.Call run.answered
ends_search order v budget status.Fault before now h run quiet = quiet refl

plan_searches : (profile bookings base : List ℕ) (arrival : Option (List ℕ)) (workers budget : ℕ) (files : Files) (v : BookedVoyage) → AreGood (names_from profile bookings base arrival) (Some files) v → AnswersSearch (Plan profile bookings base arrival workers budget) (Some files) v budget
plan_searches profile bookings base arrival workers budget files v good a h = of_within budget base v a (searched (names_from profile bookings base arrival) files budget v a good.inputs_are good.within h)

make_searches : (number : ℕ) (base : List ℕ) (files : Option Files) → AnswersSearch (Make number base) files (made_inputs number) 50
make_searches number base files a h =
    let v = made_inputs number in
    let within = made_searched number base v h.planned (made_are_inputs number base) (made_is_within number) h.plans in
    subst (IsSearched v 50) (sym h.answer_is) (of_behind 50 v (made_files number base) h.planned (of_within 50 base v h.planned within))

fault_or_not : (s : Status) → (s ≡ status.Fault) ⊎ (s ≡ status.Fault → ⊥)
fault_or_not status.Fault = inl refl
fault_or_not status.Fine = inr (λ e. cc)
fault_or_not status.No = inr (λ e. cc)
fault_or_not status.Words = inr (λ e. cc)
fault_or_not status.Gap = inr (λ e. cc)
fault_or_not status.NoPlan = inr (λ e. cc)
fault_or_not status.Undecided = inr (λ e. cc)
fault_or_not status.Input = inr (λ e. cc)
fault_or_not status.Memory = inr (λ e. cc)
fault_or_not status.Large = inr (λ e. cc)

-- `make` ends as a search, whether a count of faults rose or not, or with the status of a fault
make_ends : (number : ℕ) (base : List ℕ) (s : Status) (before now : Outside) → Follows (Make number base) s before now → (s ≡ status.Fault) ⊎ EndsSearch (made_inputs number) 50 s before now
make_ends number base s before now run =
    elim (fault_or_not s) [
      | inl fault ↦ inl fault
      | inr none ↦ inr (ends_search (Make number base) (made_inputs number) 50 s before now (make_searches number base before.files) run none)
    ]

-- ## `check` and `show`

fine_alike : (order : Order) (files : Option Files) (s : Status) (work : Work) → work.finding ≡ finding.Fine → (e : EndsAlike order files s (answer.Work work)) → e.answer ≡ answer.Work work → s ≡ status.Fine
fine_alike order files s work fine e same = e.status_is ∙ ap status_of same ∙ ap found_status fine

fine_check : (profile bookings base : List ℕ) (arrival : Option (List ℕ)) (s : Status) (before : Option Files) (files : Files) (work : Work) → IsAnswerTo (Check profile bookings base arrival) (Some files) (answer.Work work) → EndsAlike (Check profile bookings base arrival) before s (answer.Work work) ⊎ (s ≡ status.Memory) → IsFine s
fine_check profile bookings base arrival s before files work h (inr m) = inr m
fine_check profile bookings base arrival s before files work h (inl e) = inl (fine_alike (Check profile bookings base arrival) before s work (yes_is_fine profile bookings base arrival (Some files) work h) e e.agrees)

fine_show : (file : List ℕ) (s : Status) (before : Option Files) (files : Files) (work : Work) → IsAnswerTo (Show file) (Some files) (answer.Work work) → EndsAlike (Show file) before s (answer.Work work) ⊎ (s ≡ status.Memory) → IsFine s
fine_show file s before files work h (inr m) = inr m
fine_show file s before files work h (inl e) = inl (fine_alike (Show file) before s work (list_is_fine file (Some files) work h) e e.agrees)

-- ## `cranes`

-- files and a report, with which all is as it was asked for
abbrev IsFineWork : Answer → Type 0
IsFineWork (answer.Work work) = work.finding ≡ finding.Fine
IsFineWork (answer.No line) = ⊥
IsFineWork (answer.Input line) = ⊥
IsFineWork (answer.Large line) = ⊥
IsFineWork answer.Call = ⊥

other_finding : (order : Order) (s : Status) (before now : Outside) (f : Finding) → ((a : Answer) → IsAnswerTo order before.files a → IsFineWork a) → (d : IsDone order s before now) → d.work.finding ≡ f → finding.Fine ≡ f
other_finding order s before now f h d is = sym (h (answer.Work d.work) d.answered) ∙ is

-- an order whose answers are all such ends so
ends_fine : (order : Order) (s : Status) (before now : Outside) → ((a : Answer) → IsAnswerTo order before.files a → IsFineWork a) → Follows order s before now → (s ≡ status.Fault → ⊥) → IsFine s
ends_fine order status.Fine before now h run quiet = inl refl
ends_fine order status.Memory before now h run quiet = inr refl
ends_fine order status.Gap before now h run quiet = let bad : finding.Fine ≡ finding.Gap = other_finding order status.Gap before now finding.Gap h run run.finished.0 in absurd cc
ends_fine order status.NoPlan before now h run quiet = let bad : finding.Fine ≡ finding.NoPlan = other_finding order status.NoPlan before now finding.NoPlan h run run.finished.0 in absurd cc
ends_fine order status.Undecided before now h run quiet = let bad : finding.Fine ≡ finding.Undecided = other_finding order status.Undecided before now finding.Undecided h run run.finished.0 in absurd cc
ends_fine order status.Large before now h run quiet = absurd (h (answer.Large run.line) run.answered)
ends_fine order status.Input before now h run quiet = absurd (h (answer.Input run.line) run.answered)
ends_fine order status.No before now h run quiet = absurd (h (answer.No run.line) run.answered)
ends_fine order status.Words before now h run quiet = absurd (h answer.Call run.answered)
ends_fine order status.Fault before now h run quiet = absurd (quiet refl)

-- what the departure files of a legal file set are answered
fine_shared : (v : BookedVoyage) (call cranes : ℕ) (texts : List (List ℕ)) (departures : List stowed.Plan) (a : Answer) → IsProblem (voyage_of v) → ShowDepartures v.ship v.cargo texts departures → SharedAs v call cranes texts a → IsFineWork a
fine_shared v call cranes texts departures (answer.Work work) problem shown h = h.finding
fine_shared v call cranes texts departures (answer.No line) problem shown h = taken_not_legal v.ship v.cargo problem.ship problem.cargo texts shown.messages departures h.no shown.read shown.legal h.named h.is_no
fine_shared v call cranes texts departures (answer.Input line) problem shown h = h
fine_shared v call cranes texts departures (answer.Large line) problem shown h = h
fine_shared v call cranes texts departures answer.Call problem shown h = h

cranes_fine : (names : Names) (call cranes : ℕ) (files : Files) (a : Answer) → HaveDepartures names call (Some files) → IsCranesTo names call cranes (Some files) a → IsFineWork a
cranes_fine names call cranes files a h (inl t) =
    let same = one_inputs names files t.voyage h.voyage (t.accepted).inputs_are h.inputs_are in
    let moved = subst (λ (v : BookedVoyage). IsShared names.base (Some files) call cranes v a) same t.is_shared in
    let texts = same_texts names.base files h.voyage moved.texts h.texts moved.all h.all in
    fine_shared h.voyage call cranes h.texts h.departures a moved.problem h.shown (subst (λ (ts : List (List ℕ)). SharedAs h.voyage call cranes ts a) texts moved.shared)
cranes_fine names call cranes files a h (inr t) = absurd (in_time_not_turned names (Some call) files h.voyage a h.inputs_are (λ past. omega (arith, past, h.before_last)) t)

-- ## All orders

not_fault : (s : Status) (before now : Outside) → (s ≡ status.Fault → HasRisen before now) → (HasRisen before now → ⊥) → s ≡ status.Fault → ⊥
not_fault s before now fault quiet e = quiet (fault e)

ends_order : (order : Order) (s : Status) (before now : Outside) → Follows order s before now → IsExact (Ok order) s before now → (s ≡ status.Fault → HasRisen before now) → (HasRisen before now → ⊥) → EndsOrder order s before now
ends_order (Plan profile bookings base arrival workers budget) s before now run exact fault quiet = λ files v told good.
    let order = Plan profile bookings base arrival workers budget in
    let answers = subst (λ (fs : Option Files). AnswersSearch order fs v budget) (sym told) (plan_searches profile bookings base arrival workers budget files v good) in
    ends_search order v budget s before now answers run (not_fault s before now fault quiet)
ends_order (Make number base) s before now run exact fault quiet = ends_search (Make number base) (made_inputs number) 50 s before now (make_searches number base before.files) run (not_fault s before now fault quiet)
ends_order (Cranes profile bookings base arrival call count) s before now run exact fault quiet = λ files told h.
    let order = Cranes profile bookings base arrival call count in
    let answers = subst (λ (fs : Option Files). (a : Answer) → IsAnswerTo order fs a → IsFineWork a) (sym told) (λ a k. cranes_fine (names_from profile bookings base arrival) call count files a h k) in
    ends_fine order s before now answers run (not_fault s before now fault quiet)
ends_order (Check profile bookings base arrival) s before now run exact fault quiet = λ files work told h.
    let answered = subst (λ (fs : Option Files). IsAnswerTo (Check profile bookings base arrival) fs (answer.Work work)) (sym told) h in
    fine_check profile bookings base arrival s before.files files work h (exact files (answer.Work work) told quiet answered)
ends_order (Show file) s before now run exact fault quiet = λ files work told h.
    let answered = subst (λ (fs : Option Files). IsAnswerTo (Show file) fs (answer.Work work)) (sym told) h in
    fine_show file s before.files files work h (exact files (answer.Work work) told quiet answered)

pub complete : (wanted : Result Order WordsNo) (s : Status) (before now : Outside) → IsRun wanted s before now → IsExact wanted s before now → (s ≡ status.Fault → HasRisen before now) → IsComplete wanted s before now
complete (Err why) s before now run exact fault = tt
complete (Ok (Make number base)) s before now run exact fault = make_ends number base s before now run
complete (Ok (Plan profile bookings base arrival workers budget)) s before now run exact fault = ends_order (Plan profile bookings base arrival workers budget) s before now run exact fault
complete (Ok (Check profile bookings base arrival)) s before now run exact fault = ends_order (Check profile bookings base arrival) s before now run exact fault
complete (Ok (Show file)) s before now run exact fault = ends_order (Show file) s before now run exact fault
complete (Ok (Cranes profile bookings base arrival call count)) s before now run exact fault = ends_order (Cranes profile bookings base arrival call count) s before now run exact fault
