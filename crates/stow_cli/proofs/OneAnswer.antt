-- Over files that are told, an order to check or to show has one answer.
use Rattle.std.proofs.Common.{◌≡◌, ℕ, List, Option, Some, refl, sym, ap, subst, ◌∙◌, inl, inr, arith}
use Rattle.stow_io.specs.Files.{Files}
use Rattle.stow_data.specs.declared.limits.Limit.{Limit}
use Rattle.stow_data.specs.declared.limits.Limit.TheVariants.{Calls, Containers, Places, Variables, Rows, Certificate}
use Rattle.baplie.specs.declared.parts.Message.{Message}
use Rattle.baplie.specs.declared.faults.BaplieFault.{BaplieFault}
use Rattle.zero_one_rows.specs.Variables.{Voyage}
use Rattle.zero_one_model.specs.Building.{IsWithin, Passes}
use Rattle.stow_report.specs.Refusals.{refusal_text}
use Rattle.stow_report.specs.Inputs.{limit_line}
use Rattle.stow_report.specs.Listings.{listing_text}
use Rattle.stow_report.specs.Verdicts.{file_line}
use Rattle.voyage_files.specs.declared.answer.Answer.{Answer}
use Rattle.voyage_files.specs.declared.answer.Answer.TheVariants as answer
use Rattle.voyage_files.specs.declared.voyage.BookedVoyage.{BookedVoyage}
use Rattle.stow_io.specs.declared.files.Work.{Work}
use Rattle.stow_words.specs.declared.order.Order.TheVariants.{Check, Show}
use Rattle.voyage_files.specs.Names.{Names, names_from}
use Rattle.voyage_files.specs.Inputs.{TurnsDown}
use Rattle.voyage_files.proofs.OneMessage.{message_not_fault, one_baplie_fault, one_message}
use Rattle.voyage_files.proofs.OneInput.{one_content, one_inputs, accepted_not_refused, turned_one}
use Rattle.stow_cli.specs.Voyages.{voyage_of}
use Rattle.stow_cli.specs.Answers.{Takes, Judges, IsTooLarge, IsLarge, CheckOf, Lists, ShowOf, IsAnswerTo}
use Rattle.stow_cli.proofs.OneCheck.{work_same, reads_one}

-- ## Inputs

pub taken_not_turned : (names : Names) (files : Files) (P : BookedVoyage → Answer → Type 0) (a b : Answer) → Takes names (Some files) P a → TurnsDown names (Some files) b → ⊥
taken_not_turned names files P a b h k = accepted_not_refused names files h.voyage b h.inputs_are k

judged_one : (names : Names) (files : Files) (P : BookedVoyage → Answer → Type 0) → ((v : BookedVoyage) (a b : Answer) → P v a → P v b → a ≡ b) → (a b : Answer) → Judges names (Some files) P a → Judges names (Some files) P b → a ≡ b
judged_one names files P once a b (inl h) (inl k) =
    let e = one_inputs names files h.voyage k.voyage h.inputs_are k.inputs_are in
    once k.voyage a b (subst (λ (v : BookedVoyage). P v a) e h.judged) k.judged
judged_one names files P once a b (inl h) (inr k) = absurd (taken_not_turned names files P a b h k)
judged_one names files P once a b (inr h) (inl k) = absurd (taken_not_turned names files P b a k h)
judged_one names files P once a b (inr h) (inr k) = turned_one names files a b h k

-- ## Limits

not_passed : (m : Voyage) (limit : Limit) (n : ℕ) → IsWithin m → Passes m limit n → ⊥
not_passed m Variables n w p = absurd (omega arith)
not_passed m Rows n w p = absurd (omega arith)
not_passed m Calls n w p = p
not_passed m Containers n w p = p
not_passed m Places n w p = p
not_passed m Certificate n w p = p

one_passed : (m : Voyage) (l k : Limit) (n o : ℕ) → Passes m l n → Passes m k o → (l ≡ k) × (n ≡ o)
one_passed m Variables Variables n o p q = (refl, p.0 ∙ sym q.0)
one_passed m Rows Rows n o p q = (refl, p.0 ∙ sym q.0)
one_passed m Variables Rows n o p q = absurd (omega arith)
one_passed m Rows Variables n o p q = absurd (omega arith)
one_passed m Variables Calls n o p q = absurd q
one_passed m Variables Containers n o p q = absurd q
one_passed m Variables Places n o p q = absurd q
one_passed m Variables Certificate n o p q = absurd q
one_passed m Rows Calls n o p q = absurd q
one_passed m Rows Containers n o p q = absurd q
one_passed m Rows Places n o p q = absurd q
one_passed m Rows Certificate n o p q = absurd q
one_passed m Calls k n o p q = absurd p
one_passed m Containers k n o p q = absurd p
one_passed m Places k n o p q = absurd p
one_passed m Certificate k n o p q = absurd p

large_one : (m : Voyage) (a b : List ℕ) → IsTooLarge m a → IsTooLarge m b → a ≡ b
large_one m a b h k =
    let e = one_passed m h.limit k.limit h.number k.number h.passes k.passes in
    h.line_is ∙ ap (λ (l : Limit). refusal_text (limit_line l h.number)) e.0 ∙ ap (λ (n : ℕ). refusal_text (limit_line k.limit n)) e.1 ∙ sym k.line_is

pub within_not_large : (m : Voyage) (line : List ℕ) → IsWithin m → IsTooLarge m line → ⊥
within_not_large m line w h = not_passed m h.limit h.number w h.passes

pub large_answers : (m : Voyage) (a b : Answer) → IsLarge m a → IsLarge m b → a ≡ b
large_answers m a b h k = h.answer_is ∙ ap (λ (y : List ℕ). answer.Large y) (large_one m h.line k.line h.too_large k.too_large) ∙ sym k.answer_is

-- ## `check`

check_one : (base : List ℕ) (files : Files) (v : BookedVoyage) (a b : Answer) → CheckOf base (Some files) v a → CheckOf base (Some files) v b → a ≡ b
check_one base files v a b (inl h) (inl k) = large_answers (voyage_of v) a b h k
check_one base files v a b (inl h) (inr k) = absurd (within_not_large (voyage_of v) h.line k.within h.too_large)
check_one base files v a b (inr h) (inl k) = absurd (within_not_large (voyage_of v) k.line h.within k.too_large)
check_one base files v a b (inr h) (inr k) = reads_one base files v k.problem a b h.reads k.reads

-- ## `show`

listed_one : (bytes : List ℕ) (w x : Work) → Lists bytes w → Lists bytes x → w ≡ x
listed_one bytes w x h k =
    let same = one_message bytes h.message k.message h.is_message k.is_message in
    work_same w x (h.no_files ∙ sym k.no_files) (h.report ∙ ap (λ (m : Message). listing_text m.groups) same ∙ sym k.report) (h.finding ∙ sym k.finding)

show_one : (bytes : List ℕ) (a b : Answer) → ShowOf bytes a → ShowOf bytes b → a ≡ b
show_one bytes (answer.Work w) (answer.Work x) h k = ap (λ (y : Work). answer.Work y) (listed_one bytes w x h k)
show_one bytes (answer.Work w) (answer.Input line) h k = absurd (message_not_fault bytes h.message k.fault k.named h.is_message k.has)
show_one bytes (answer.Input line) (answer.Work x) h k = absurd (message_not_fault bytes k.message h.fault h.named k.is_message h.has)
show_one bytes (answer.Input line) (answer.Input other) h k =
    let e = one_baplie_fault bytes h.fault k.fault h.named k.named h.has k.has in
    ap (λ (y : List ℕ). answer.Input y) (h.line_is ∙ ap (λ (f : BaplieFault). refusal_text (file_line f)) e ∙ sym k.line_is)
show_one bytes (answer.Work w) (answer.No line) h k = absurd k
show_one bytes (answer.Work w) (answer.Large line) h k = absurd k
show_one bytes (answer.Input line) (answer.No other) h k = absurd k
show_one bytes (answer.Input line) (answer.Large other) h k = absurd k
show_one bytes (answer.No line) b h k = absurd h
show_one bytes (answer.Large line) b h k = absurd h
show_one bytes answer.Call b h k = absurd h
show_one bytes (answer.Work w) answer.Call h k = absurd k
show_one bytes (answer.Input line) answer.Call h k = absurd k

-- ## All orders of files

pub one_check : (profile bookings base : List ℕ) (arrival : Option (List ℕ)) (files : Files) (a b : Answer) → IsAnswerTo (Check profile bookings base arrival) (Some files) a → IsAnswerTo (Check profile bookings base arrival) (Some files) b → a ≡ b
one_check profile bookings base arrival files a b h k = judged_one (names_from profile bookings base arrival) files (CheckOf base (Some files)) (check_one base files) a b h k

pub one_show : (file : List ℕ) (files : Files) (a b : Answer) → IsAnswerTo (Show file) (Some files) a → IsAnswerTo (Show file) (Some files) b → a ≡ b
one_show file files a b h k =
    let e = one_content files file h.bytes k.bytes h.content k.content in
    show_one k.bytes a b (subst (λ (y : List ℕ). ShowOf y a) e h.shown) k.shown
