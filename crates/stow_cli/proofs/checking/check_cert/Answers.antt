use native.Mathlib.Omega.{arith}
use Rattle.std.proofs.Common.{◌≤◌, ℕ, List, length, sym, subst}
use Rattle.voyage_files.specs.Inputs.{IsContent}
use Rattle.stow_cli.specs.declared.verdict.CertText.{CertText}
use Rattle.stow_cli.specs.declared.verdict.CertText.TheVariants.{Certificate, Refused}
use Rattle.stow_cli.specs.Checks.{IsCertText}
use Rattle.stow_cli.proofs.WrittenFiles.{reads_cert, reads_refused}
use Rattle.stow_cli.proofs.checking.check_cert.Goals as goal

pub check_files-requires-clause-few : goal.check_files-requires-clause-few
check_files-requires-clause-few g c =
    let text = subst (λ (x : CertText). IsCertText c.as_slice.result.now x) c.in-Ok-Certificate.field-0-is c.in-Ok-Certificate.ensures in
    let few : length c.in-Ok-Certificate.tree ≤ length c.as_slice.result.now = c.records_are_few.ensures.few c.as_slice.result.now c.in-Ok-Certificate.head c.in-Ok-Certificate.tree text in
    let small : length c.as_slice.result.now ≤ 536870912 = subst (λ (bs : List ℕ). length bs ≤ 536870912) (sym c.as_slice.ensures) c.in_ok-bytes.ensures.small in
    omega (arith, few, small)

pub returns-in-Ok-Certificate-clause-gives : goal.returns-in-Ok-Certificate-clause-gives
returns-in-Ok-Certificate-clause-gives g c =
    let files = g.F.Folder.files c.args.folder.now in
    let bytes = c.in_ok-bytes.bytes in
    let content = subst (λ (n : List ℕ). IsContent files n bytes) c.in-Ok.ensures c.in_ok-bytes.ensures.gives in
    let text = subst (λ (x : CertText). IsCertText c.as_slice.result.now x) c.in-Ok-Certificate.field-0-is c.in-Ok-Certificate.ensures in
    let read = subst (λ (bs : List ℕ). IsCertText bs (Certificate c.in-Ok-Certificate.head c.in-Ok-Certificate.tree)) c.as_slice.ensures text in
    reads_cert c.check_files.result c.args.base.now files (g.F.Folder.files c.read_own.new.folder) c.args.v.now bytes c.in-Ok-Certificate.head c.in-Ok-Certificate.tree c.read_own.ensures.stays content read c.check_files.ensures.gives

pub returns-in-Ok-Refused-clause-gives : goal.returns-in-Ok-Refused-clause-gives
returns-in-Ok-Refused-clause-gives g c =
    let files = g.F.Folder.files c.args.folder.now in
    let bytes = c.in_ok-bytes.bytes in
    let content = subst (λ (n : List ℕ). IsContent files n bytes) c.in-Ok.ensures c.in_ok-bytes.ensures.gives in
    let text = subst (λ (x : CertText). IsCertText c.as_slice.result.now x) c.in-Ok-Refused.field-0-is c.in-Ok-Refused.ensures in
    let read = subst (λ (bs : List ℕ). IsCertText bs (Refused c.in-Ok-Refused.line)) c.as_slice.ensures text in
    reads_refused c.args.base.now files c.args.v.now bytes c.in-Ok-Refused.line content read
