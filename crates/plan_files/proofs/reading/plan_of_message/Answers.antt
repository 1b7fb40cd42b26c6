use Rattle.std.proofs.Common.{rules, ◌≡◌, ℕ, List, Some, Ok, Err, sym, ap, ◌∙◌}
use Rattle.stow_data.specs.declared.cargoes.Container.{Container}
use Rattle.stow_data.specs.Plans.{Plan, container_at}
use Rattle.stow_data.proofs.PlanLookups.{container_is}
use Rattle.std.specs.Prelude.{Result}
use Rattle.plan_files.specs.declared.file_faults.FileNo.{FileNo}
use Rattle.plan_files.specs.declared.file_faults.FileNo.TheVariants.{MissingContainer}
use Rattle.plan_files.specs.PlanOf.{first_missing, standing}
use Rattle.plan_files.proofs.Steps.{missing_told}
use Rattle.plan_files.proofs.reading.plan_of_message.Goals as goal

abbrev failed : FileNo → Result Plan FileNo
failed fault = Err fault

pub returns-in-Some : goal.returns-in-Some
returns-in-Some c =
    let told : standing c.args.ship.now c.args.cargo.now c.args.call c.args.message.now.groups ≡ Ok c.in_ok-standing.standing = search rules in
    let missing : first_missing c.args.cargo.now c.args.call c.in_ok-standing.standing.placed ≡ Some c.in-Some.c = sym c.first_missing.ensures.is ∙ c.in-Some.is in
    let id : (container_at c.args.cargo.now c.in-Some.c).id ≡ c.copy.result = ap (λ (x : Container). x.id) (container_is c.args.cargo.now c.in-Some.c c.container.result.now c.container.ensures) ∙ sym c.copy.ensures in
    record { is = λ ne. missing_told c.args.ship.now c.args.cargo.now c.args.call c.args.message.now.groups c.in_ok-standing.standing c.in-Some.c told missing ∙ ap (λ (x : List ℕ). failed (MissingContainer x)) id }
