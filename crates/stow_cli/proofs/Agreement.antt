-- Over files that are told, the answers to an order agree.
use Rattle.std.proofs.Common.{◌≡◌, ℕ, List, length, Option, Some, None, refl, sym, ap, subst, ◌∙◌, inl, inr}
use Rattle.std.specs.Prelude.{◌≢◌, ◌⊎◌, IfSome}
use Rattle.stow_io.specs.Files.{Files, put}
use Rattle.stow_data.specs.declared.limits.Limit.{Limit}
use Rattle.stow_data.specs.declared.limits.Limit.TheVariants.{Certificate}
use Rattle.stow_data.specs.Plans as stowed
use Rattle.zero_one_rows.specs.Variables.{Voyage}
use Rattle.certificate.specs.declared.tree.Head.{Head}
use Rattle.certificate.specs.declared.tree.Outcome.{Outcome}
use Rattle.certificate.specs.declared.tree.Outcome.TheVariants as outcome
use Rattle.certificate.specs.declared.tree.Record.{Record}
use Rattle.certificate.specs.Text.{cert_text}
use Rattle.model_bridge.specs.Laws.{HasNoVoyage}
use Rattle.plan_search.specs.Certified.{OutcomeHolds, CostsVoyage, Certifies}
use Rattle.stow_io.specs.declared.files.Finding.{Finding}
use Rattle.stow_io.specs.declared.files.Finding.TheVariants as finding
use Rattle.stow_io.specs.Writing.{with_files}
use Rattle.stow_io.specs.declared.files.NamedFile.{NamedFile}
use Rattle.stow_io.specs.declared.files.Work.{Work}
use Rattle.stow_report.specs.Refusals.{refusal_text}
use Rattle.stow_report.specs.Inputs.{limit_line}
use Rattle.voyage_files.specs.declared.answer.Answer.{Answer}
use Rattle.voyage_files.specs.declared.answer.Answer.TheVariants as answer
use Rattle.voyage_files.specs.declared.voyage.BookedVoyage.{BookedVoyage}
use Rattle.voyage_files.specs.Inputs.{AreInputs}
use Rattle.voyage_files.specs.Names.{Names, names_from}
use Rattle.voyage_files.proofs.OneInput.{one_inputs, turned_one}
use Rattle.stow_words.specs.declared.order.Order.{Order}
use Rattle.stow_words.specs.declared.order.Order.TheVariants.{Plan, Check, Show, Make, Cranes}
use Rattle.stow_cli.specs.Voyages.{Overflows, Sails, voyage_of}
use Rattle.stow_cli.specs.Work.{finding_of}
use Rattle.stow_cli.specs.Made.{behind, made_files, made_names, only_made}
use Rattle.stow_cli.specs.Answers.{PlanWithin, PlanOf, IsPlanTo, IsMade, IsAnswerTo}
use Rattle.stow_cli.specs.Law.{Agree, BothMade, BothSearched, IsLongCert, MayBothAnswer, MayBothFind}
use Rattle.stow_cli.proofs.Limits.{is_certificate}
use Rattle.stow_cli.proofs.OneCall.{cranes_agree}
use Rattle.stow_cli.proofs.OneAnswer.{taken_not_turned, within_not_large, large_answers, one_check, one_show}

-- ## `plan`

-- the outcome is that of the finding
fine_is : (o : Outcome) → finding_of o ≡ finding.Fine → o ≡ outcome.Optimal
fine_is outcome.Optimal e = refl
fine_is outcome.Gap e = cc
fine_is outcome.NoPlan e = cc
fine_is outcome.Undecided e = cc

gap_is : (o : Outcome) → finding_of o ≡ finding.Gap → o ≡ outcome.Gap
gap_is outcome.Optimal e = cc
gap_is outcome.Gap e = refl
gap_is outcome.NoPlan e = cc
gap_is outcome.Undecided e = cc

none_is : (o : Outcome) → finding_of o ≡ finding.NoPlan → o ≡ outcome.NoPlan
none_is outcome.Optimal e = cc
none_is outcome.Gap e = cc
none_is outcome.NoPlan e = refl
none_is outcome.Undecided e = cc

-- a plan has a cost, which is that of a legal voyage
optimal_sails : (m : Voyage) (budget : ℕ) (loaded : Option (List stowed.Plan)) (start : ℕ) (cost : Option ℕ) (bound nodes : ℕ) → OutcomeHolds m budget loaded start outcome.Optimal cost bound nodes → IfSome cost (CostsVoyage m) → HasNoVoyage m → ⊥
optimal_sails m budget loaded start None bound nodes h voyage none = h
optimal_sails m budget loaded start (Some n) bound nodes h voyage none = none voyage.1.moves voyage.0 voyage.1.is_legal

gap_sails : (m : Voyage) (budget : ℕ) (loaded : Option (List stowed.Plan)) (start : ℕ) (cost : Option ℕ) (bound nodes : ℕ) → OutcomeHolds m budget loaded start outcome.Gap cost bound nodes → IfSome cost (CostsVoyage m) → HasNoVoyage m → ⊥
gap_sails m budget loaded start None bound nodes h voyage none = h
gap_sails m budget loaded start (Some n) bound nodes h voyage none = none voyage.1.moves voyage.0 voyage.1.is_legal

no_voyage : (m : Voyage) (budget : ℕ) (loaded : Option (List stowed.Plan)) (start : ℕ) (cost : Option ℕ) (bound nodes : ℕ) → OutcomeHolds m budget loaded start outcome.NoPlan cost bound nodes → HasNoVoyage m
no_voyage m budget loaded start None bound nodes h = h.none
no_voyage m budget loaded start (Some n) bound nodes h = absurd h

-- what the head's outcome says, where it is this one
held_as : (m : Voyage) (budget : ℕ) (head : Head) (tree : List Record) (o : Outcome) (c : Certifies m budget head tree) → head.outcome ≡ o → OutcomeHolds m budget c.loaded c.start o head.rehandles head.bound head.nodes
held_as m budget head tree o c e = subst (λ (x : Outcome). OutcomeHolds m budget c.loaded c.start x head.rehandles head.bound head.nodes) e c.outcome

-- where there is no legal voyage, no other search finds a plan
never_both : (base : List ℕ) (v : BookedVoyage) (budget : ℕ) (w x : Work) → Sails base v budget w → Sails base v budget x → (f g : Finding) → w.finding ≡ f → x.finding ≡ g → MayBothFind f g
never_both base v budget w x h k finding.NoPlan finding.Fine e d =
    optimal_sails (voyage_of v) budget k.certified.loaded k.certified.start k.head.rehandles k.head.bound k.head.nodes (held_as (voyage_of v) budget k.head k.tree outcome.Optimal k.certified (fine_is k.head.outcome (sym k.finding ∙ d))) k.certified.voyage
    (no_voyage (voyage_of v) budget h.certified.loaded h.certified.start h.head.rehandles h.head.bound h.head.nodes (held_as (voyage_of v) budget h.head h.tree outcome.NoPlan h.certified (none_is h.head.outcome (sym h.finding ∙ e))))
never_both base v budget w x h k finding.NoPlan finding.Gap e d =
    gap_sails (voyage_of v) budget k.certified.loaded k.certified.start k.head.rehandles k.head.bound k.head.nodes (held_as (voyage_of v) budget k.head k.tree outcome.Gap k.certified (gap_is k.head.outcome (sym k.finding ∙ d))) k.certified.voyage
    (no_voyage (voyage_of v) budget h.certified.loaded h.certified.start h.head.rehandles h.head.bound h.head.nodes (held_as (voyage_of v) budget h.head h.tree outcome.NoPlan h.certified (none_is h.head.outcome (sym h.finding ∙ e))))
never_both base v budget w x h k finding.Fine finding.NoPlan e d =
    optimal_sails (voyage_of v) budget h.certified.loaded h.certified.start h.head.rehandles h.head.bound h.head.nodes (held_as (voyage_of v) budget h.head h.tree outcome.Optimal h.certified (fine_is h.head.outcome (sym h.finding ∙ e))) h.certified.voyage
    (no_voyage (voyage_of v) budget k.certified.loaded k.certified.start k.head.rehandles k.head.bound k.head.nodes (held_as (voyage_of v) budget k.head k.tree outcome.NoPlan k.certified (none_is k.head.outcome (sym k.finding ∙ d))))
never_both base v budget w x h k finding.Gap finding.NoPlan e d =
    gap_sails (voyage_of v) budget h.certified.loaded h.certified.start h.head.rehandles h.head.bound h.head.nodes (held_as (voyage_of v) budget h.head h.tree outcome.Gap h.certified (gap_is h.head.outcome (sym h.finding ∙ e))) h.certified.voyage
    (no_voyage (voyage_of v) budget k.certified.loaded k.certified.start k.head.rehandles k.head.bound k.head.nodes (held_as (voyage_of v) budget k.head k.tree outcome.NoPlan k.certified (none_is k.head.outcome (sym k.finding ∙ d))))
never_both base v budget w x h k finding.NoPlan finding.NoPlan e d = tt
never_both base v budget w x h k finding.NoPlan finding.Undecided e d = tt
never_both base v budget w x h k finding.Undecided finding.NoPlan e d = tt
never_both base v budget w x h k finding.Undecided finding.Undecided e d = tt
never_both base v budget w x h k finding.Undecided finding.Fine e d = tt
never_both base v budget w x h k finding.Undecided finding.Gap e d = tt
never_both base v budget w x h k finding.Fine finding.Undecided e d = tt
never_both base v budget w x h k finding.Gap finding.Undecided e d = tt
never_both base v budget w x h k finding.Fine finding.Fine e d = tt
never_both base v budget w x h k finding.Fine finding.Gap e d = tt
never_both base v budget w x h k finding.Gap finding.Fine e d = tt
never_both base v budget w x h k finding.Gap finding.Gap e d = tt

-- a certificate that is too long is told as that
long_cert : (v : BookedVoyage) (budget : ℕ) (line : List ℕ) → Overflows v budget line → IsLongCert line
long_cert v budget line h = record { bytes = length (cert_text h.head h.tree); long = h.overlong.long; line_is = h.overlong.line_is }

within_agree : (budget : ℕ) (base : List ℕ) (v : BookedVoyage) (a b : Answer) → PlanWithin budget base v a → PlanWithin budget base v b → MayBothAnswer a b
within_agree budget base v (answer.Work w) (answer.Work x) h k = never_both base v budget w x h k w.finding x.finding refl refl
within_agree budget base v (answer.Work w) (answer.Large line) h k = long_cert v budget line k
within_agree budget base v (answer.Large line) (answer.Work x) h k = long_cert v budget line h
within_agree budget base v (answer.Large line) (answer.Large other) h k = (long_cert v budget line h, long_cert v budget other k)
within_agree budget base v (answer.Work w) (answer.No line) h k = k
within_agree budget base v (answer.Work w) (answer.Input line) h k = k
within_agree budget base v (answer.Large l) (answer.No line) h k = k
within_agree budget base v (answer.Large l) (answer.Input line) h k = k
within_agree budget base v (answer.No line) b h k = absurd h
within_agree budget base v (answer.Input line) b h k = absurd h
within_agree budget base v answer.Call b h k = absurd h
within_agree budget base v (answer.Work w) answer.Call h k = k
within_agree budget base v (answer.Large l) answer.Call h k = k

abbrev PlansAgree : Names → ℕ → Option Files → Answer → Answer → Type 0
PlansAgree names budget files a b = (a ≡ b) ⊎ BothSearched names budget files a b

plan_agree : (names : Names) (budget : ℕ) (files : Option Files) (v : BookedVoyage) (a b : Answer) → AreInputs names files v → PlanOf budget names.base v a → PlanOf budget names.base v b → PlansAgree names budget files a b
plan_agree names budget files v a b inputs (inl h) (inl k) = inl (large_answers (voyage_of v) a b h k)
plan_agree names budget files v a b inputs (inl h) (inr k) = absurd (within_not_large (voyage_of v) h.line k.0 h.too_large)
plan_agree names budget files v a b inputs (inr h) (inl k) = absurd (within_not_large (voyage_of v) k.line h.0 k.too_large)
plan_agree names budget files v a b inputs (inr h) (inr k) = inr (record {
  voyage = v;
  inputs_are = inputs;
  within = h.0;
  first = h.1;
  second = k.1;
  agree = within_agree budget names.base v a b h.1 k.1;
})

plans_judged : (names : Names) (files : Files) (budget : ℕ) (a b : Answer) → IsPlanTo names budget (Some files) a → IsPlanTo names budget (Some files) b → PlansAgree names budget (Some files) a b
plans_judged names files budget a b (inl h) (inl k) =
    let e = one_inputs names files h.voyage k.voyage h.inputs_are k.inputs_are in
    plan_agree names budget (Some files) k.voyage a b k.inputs_are (subst (λ (v : BookedVoyage). PlanOf budget names.base v a) e h.judged) k.judged
plans_judged names files budget a b (inl h) (inr k) = absurd (taken_not_turned names files (PlanOf budget names.base) a b h k)
plans_judged names files budget a b (inr h) (inl k) = absurd (taken_not_turned names files (PlanOf budget names.base) b a k h)
plans_judged names files budget a b (inr h) (inr k) = inl (turned_one names files a b h k)

-- ## `make`

-- files that are written before those of both change nothing of what is found
behind_both : (front : List NamedFile) (a b : Answer) → MayBothAnswer a b → MayBothAnswer (behind front a) (behind front b)
behind_both front (answer.Work w) (answer.Work x) h = h
behind_both front (answer.Work w) (answer.Large line) h = h
behind_both front (answer.Large line) (answer.Work x) h = h
behind_both front (answer.Large line) (answer.Large other) h = h
behind_both front (answer.Work w) (answer.No line) h = absurd h
behind_both front (answer.Work w) (answer.Input line) h = absurd h
behind_both front (answer.Large l) (answer.No line) h = absurd h
behind_both front (answer.Large l) (answer.Input line) h = absurd h
behind_both front (answer.No line) b h = absurd h
behind_both front (answer.Input line) b h = absurd h
behind_both front answer.Call b h = absurd h
behind_both front (answer.Work w) answer.Call h = absurd h
behind_both front (answer.Large l) answer.Call h = absurd h

-- the two files are told, whatever the folder tells
pub made_told : (number : ℕ) (base : List ℕ) → (files : Files) × (only_made number base ≡ Some files)
unfolding with_files put
made_told number base = (_, refl)

both_made : (number : ℕ) (base : List ℕ) (a b p q : Answer) → a ≡ behind (made_files number base) p → b ≡ behind (made_files number base) q → PlansAgree (made_names base) 50 (only_made number base) p q → (a ≡ b) ⊎ BothMade number base a b
both_made number base a b p q e f (inl same) = inl (e ∙ ap (behind (made_files number base)) same ∙ sym f)
both_made number base a b p q e f (inr h) = inr (record {
  planned = p;
  other = q;
  searched = h;
  first = e;
  second = f;
  agree = subst (λ (x : Answer). MayBothAnswer x b) (sym e) (subst (MayBothAnswer (behind (made_files number base) p)) (sym f) (behind_both (made_files number base) p q h.agree));
})

made_agree : (number : ℕ) (base : List ℕ) (a b : Answer) → IsMade number base a → IsMade number base b → (a ≡ b) ⊎ BothMade number base a b
made_agree number base a b h k =
    let told = made_told number base in
    let names = made_names base in
    let first = subst (λ (files : Option Files). IsPlanTo names 50 files h.planned) told.1 h.plans in
    let second = subst (λ (files : Option Files). IsPlanTo names 50 files k.planned) told.1 k.plans in
    let both = plans_judged names told.0 50 h.planned k.planned first second in
    both_made number base a b h.planned k.planned h.answer_is k.answer_is (subst (λ (files : Option Files). PlansAgree names 50 files h.planned k.planned) (sym told.1) both)

-- ## All orders

pub answers_agree : (o : Order) (files : Files) (a b : Answer) → IsAnswerTo o (Some files) a → IsAnswerTo o (Some files) b → Agree o (Some files) a b
answers_agree (Plan profile bookings base arrival workers budget) files a b h k = plans_judged (names_from profile bookings base arrival) files budget a b h k
answers_agree (Check profile bookings base arrival) files a b h k = one_check profile bookings base arrival files a b h k
answers_agree (Show file) files a b h k = one_show file files a b h k
answers_agree (Make number base) files a b h k = made_agree number base a b h k
answers_agree (Cranes profile bookings base arrival call count) files a b h k = cranes_agree (names_from profile bookings base arrival) call count files a b h k

-- ## Limits

limits_of_both : (work : Work) (limit : Limit) (n : ℕ) → limit ≢ Certificate → MayBothAnswer (answer.Work work) (answer.Large (refusal_text (limit_line limit n))) → ⊥
limits_of_both work limit n other h = other (is_certificate limit n h.bytes h.line_is)

never_equal : (work : Work) (line : List ℕ) → answer.Work work ≡ answer.Large line → ⊥
never_equal work line e = let bad : ⊥ = cc in bad

limits_agree : (o : Order) (files : Option Files) (work : Work) (limit : Limit) (n : ℕ) → limit ≢ Certificate → Agree o files (answer.Work work) (answer.Large (refusal_text (limit_line limit n))) → ⊥
limits_agree (Plan profile bookings base arrival workers budget) files work limit n other (inl e) = never_equal work (refusal_text (limit_line limit n)) e
limits_agree (Plan profile bookings base arrival workers budget) files work limit n other (inr h) = limits_of_both work limit n other h.agree
limits_agree (Check profile bookings base arrival) files work limit n other e = never_equal work (refusal_text (limit_line limit n)) e
limits_agree (Show file) files work limit n other e = never_equal work (refusal_text (limit_line limit n)) e
limits_agree (Make number base) files work limit n other (inl e) = never_equal work (refusal_text (limit_line limit n)) e
limits_agree (Make number base) files work limit n other (inr h) = limits_of_both work limit n other h.agree
limits_agree (Cranes profile bookings base arrival call count) files work limit n other (inl e) = never_equal work (refusal_text (limit_line limit n)) e
limits_agree (Cranes profile bookings base arrival call count) files work limit n other (inr h) = never_equal h.other (refusal_text (limit_line limit n)) (sym h.second)

pub limits_exclude : (o : Order) (files : Files) (work : Work) (limit : Limit) (n : ℕ) → limit ≢ Certificate → IsAnswerTo o (Some files) (answer.Work work) → IsAnswerTo o (Some files) (answer.Large (refusal_text (limit_line limit n))) → ⊥
limits_exclude o files work limit n other h k = limits_agree o (Some files) work limit n other (answers_agree o files (answer.Work work) (answer.Large (refusal_text (limit_line limit n))) h k)
