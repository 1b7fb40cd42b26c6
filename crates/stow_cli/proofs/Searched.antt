-- What accepted inputs are answered whose program is within its limits, and what a yes of `check` and a list of `show` found.
use Rattle.std.proofs.Common.{◌≡◌, ℕ, List, Option, Some, subst, inl, inr}
use Rattle.std.specs.Prelude.{◌⊎◌}
use Rattle.stow_io.specs.Files.{Files}
use Rattle.zero_one_model.specs.Building.{IsWithin}
use Rattle.stow_report.specs.declared.lines.Group.{Group}
use Rattle.stow_report.specs.declared.lines.Group.TheVariants as group
use Rattle.stow_report.specs.declared.lines.Line.{Line}
use Rattle.stow_report.specs.Refusals.{refusal_text}
use Rattle.stow_io.specs.declared.files.Finding.TheVariants.{Fine}
use Rattle.stow_io.specs.declared.files.Work.{Work}
use Rattle.voyage_files.specs.declared.answer.Answer.{Answer}
use Rattle.voyage_files.specs.declared.answer.Answer.TheVariants as answer
use Rattle.voyage_files.specs.declared.voyage.BookedVoyage.{BookedVoyage}
use Rattle.voyage_files.specs.Names.{Names, names_from}
use Rattle.voyage_files.specs.Inputs.{AreInputs, IsNoBayPlan, IsUnsettled, TurnsDown, refused, refused_in}
use Rattle.voyage_files.proofs.OneInput.{one_inputs, accepted_not_refused}
use Rattle.stow_words.specs.declared.order.Order.TheVariants.{Check, Show}
use Rattle.stow_cli.specs.Voyages.{voyage_of}
use Rattle.stow_cli.specs.Checks.{IsCertOf, RefusesText}
use Rattle.stow_cli.specs.Made.{made_names, only_made}
use Rattle.stow_cli.specs.Answers.{CheckOf, IsAnswerTo, IsPlanTo, PlanOf, PlanWithin}
use Rattle.stow_cli.proofs.Agreement.{made_told}
use Rattle.stow_cli.proofs.OneAnswer.{within_not_large}

-- ## `plan` and `make`

within_of : (budget : ℕ) (base : List ℕ) (v : BookedVoyage) (a : Answer) → IsWithin (voyage_of v) → PlanOf budget base v a → PlanWithin budget base v a
within_of budget base v a within (inl large) = absurd (within_not_large (voyage_of v) large.line within large.too_large)
within_of budget base v a within (inr h) = h.1

pub searched : (names : Names) (files : Files) (budget : ℕ) (v : BookedVoyage) (a : Answer) → AreInputs names (Some files) v → IsWithin (voyage_of v) → IsPlanTo names budget (Some files) a → PlanWithin budget names.base v a
searched names files budget v a inputs within (inl t) =
    let e = one_inputs names files t.voyage v t.inputs_are inputs in
    within_of budget names.base v a within (subst (λ (w : BookedVoyage). PlanOf budget names.base w a) e t.judged)
searched names files budget v a inputs within (inr t) = absurd (accepted_not_refused names files v a inputs t)

pub made_searched : (number : ℕ) (base : List ℕ) (v : BookedVoyage) (planned : Answer) → AreInputs (made_names base) (only_made number base) v → IsWithin (voyage_of v) → IsPlanTo (made_names base) 50 (only_made number base) planned → PlanWithin 50 base v planned
made_searched number base v planned inputs within plans =
    let told = made_told number base in
    let accepted = subst (λ (files : Option Files). AreInputs (made_names base) files v) told.1 inputs in
    searched (made_names base) told.0 50 v planned accepted within (subst (λ (files : Option Files). IsPlanTo (made_names base) 50 files planned) told.1 plans)

-- ## `check` and `show`

in_group : (g : Group) (text : List ℕ) (work : Work) → answer.Work work ≡ refused_in g text → ⊥
in_group group.Words text work e = cc
in_group group.Profile text work e = cc
in_group group.Bookings text work e = cc
in_group group.Edifact text work e = cc
in_group group.Baplie text work e = cc
in_group group.Arrival text work e = cc
in_group group.Large text work e = cc
in_group group.Cert text work e = cc
in_group group.Plan text work e = cc
in_group group.Bound text work e = cc
in_group group.Numbers text work e = cc

no_work : (line : Line) (work : Work) → answer.Work work ≡ refused line → ⊥
no_work line work e = in_group line.group (refusal_text line) work e

not_turned : (names : Names) (files : Option Files) (work : Work) → TurnsDown names files (answer.Work work) → ⊥
not_turned names files work (inl k) = no_work _ work k.answer_is
not_turned names files work (inr (inl k)) = no_work _ work k.answer_is
not_turned names files work (inr (inr k)) = why k.why
  where
    why : IsNoBayPlan k.bytes (answer.Work work) ⊎ IsUnsettled k.ship k.booked k.bytes (answer.Work work) → ⊥
    why (inl n) = no_work _ work n.answer_is
    why (inr n) = no_work _ work n.answer_is

cert_fine : (base : List ℕ) (files : Option Files) (v : BookedVoyage) (bytes : List ℕ) (work : Work) → RefusesText bytes (answer.Work work) ⊎ IsCertOf base files v bytes (answer.Work work) → work.finding ≡ Fine
cert_fine base files v bytes work (inl t) = let e = t.answer_is in absurd cc
cert_fine base files v bytes work (inr c) = ((c.reads).judged).finding

check_fine : (base : List ℕ) (files : Option Files) (v : BookedVoyage) (work : Work) → CheckOf base files v (answer.Work work) → work.finding ≡ Fine
check_fine base files v work (inl large) = let e = large.answer_is in absurd cc
check_fine base files v work (inr h) = cert_fine base files v (h.reads).bytes work (h.reads).cert

pub yes_is_fine : (profile bookings base : List ℕ) (arrival : Option (List ℕ)) (files : Option Files) (work : Work) → IsAnswerTo (Check profile bookings base arrival) files (answer.Work work) → work.finding ≡ Fine
yes_is_fine profile bookings base arrival files work (inl t) = check_fine base files t.voyage work t.judged
yes_is_fine profile bookings base arrival files work (inr t) = absurd (not_turned (names_from profile bookings base arrival) files work t)

pub list_is_fine : (file : List ℕ) (files : Option Files) (work : Work) → IsAnswerTo (Show file) files (answer.Work work) → work.finding ≡ Fine
list_is_fine file files work h = (h.shown).finding
