use Rattle.std.proofs.Common.{◌≡◌, ◌⊎◌, inr, drop}
use Rattle.std.specs.Prelude.{IfErr, MatchResult}
use Rattle.std.proofs.lemmas.Result.{err_from_is_err_and}
use Rattle.certificate.specs.declared.faults.CertFault.TheVariants.{NoMemory}
use Rattle.certificate.specs.FirstFault.{HasFault}
use Rattle.certificate.proofs.Determined.{one_tree, no_fault}
use Rattle.certificate.proofs.Stopping.{fails_fault, cert_read, reads_err, refuses_err, at_err}
use Rattle.certificate.proofs.reading.read_cert.Goals as goal

pub returns-in_err-head-clause-reads : goal.returns-in_err-head-clause-reads
returns-in_err-head-clause-reads c = λ head tree is.
    let r = err_from_is_err_and c.from_residual.result c.from_residual.ensures.1 in
    at_err c.from_residual.result (λ z. MatchResult z (λ x. (x.0 ≡ head) × (x.1 ≡ tree)) (λ e. e ≡ NoMemory)) r.0 c.in_err-head.field-0.0 r.1 r.2 (reads_err c.args.bytes.now c.in_err-head.field-0.0 (inr c.in_err-head.ensures.fault) (head, tree, is))

pub returns-in_err-head-clause-refuses : goal.returns-in_err-head-clause-refuses
returns-in_err-head-clause-refuses c = λ fault is.
    let r = err_from_is_err_and c.from_residual.result c.from_residual.ensures.1 in
    at_err c.from_residual.result (λ z. MatchResult z (λ x. ⊥) (λ e. (e ≡ fault) ⊎ (e ≡ NoMemory))) r.0 c.in_err-head.field-0.0 r.1 r.2 (refuses_err c.args.bytes.now c.in_err-head.field-0.0 fault (inr c.in_err-head.ensures.fault) is)

pub returns-in_err-tree-clause-fault : goal.returns-in_err-tree-clause-fault
returns-in_err-tree-clause-fault c =
    let r = err_from_is_err_and c.from_residual-in_err-tree.result c.from_residual-in_err-tree.ensures.1 in
    at_err c.from_residual-in_err-tree.result (λ z. IfErr z (λ e. (e ≡ NoMemory) ⊎ HasFault c.args.bytes.now e)) r.0 c.in_err-tree.field-0.0 r.1 r.2 (fails_fault c.args.bytes.now (drop c.in_ok-head.at c.args.bytes.now) c.in_ok-head.head c.in_ok-head.ensures.head c.in_ok-head.ensures.text c.in_err-tree.field-0.0 c.in_err-tree.ensures.fault)

pub returns-in_err-tree-clause-reads : goal.returns-in_err-tree-clause-reads
returns-in_err-tree-clause-reads c = λ head tree is.
    let r = err_from_is_err_and c.from_residual-in_err-tree.result c.from_residual-in_err-tree.ensures.1 in
    at_err c.from_residual-in_err-tree.result (λ z. MatchResult z (λ x. (x.0 ≡ head) × (x.1 ≡ tree)) (λ e. e ≡ NoMemory)) r.0 c.in_err-tree.field-0.0 r.1 r.2 (reads_err c.args.bytes.now c.in_err-tree.field-0.0 (fails_fault c.args.bytes.now (drop c.in_ok-head.at c.args.bytes.now) c.in_ok-head.head c.in_ok-head.ensures.head c.in_ok-head.ensures.text c.in_err-tree.field-0.0 c.in_err-tree.ensures.fault) (head, tree, is))

pub returns-in_err-tree-clause-refuses : goal.returns-in_err-tree-clause-refuses
returns-in_err-tree-clause-refuses c = λ fault is.
    let r = err_from_is_err_and c.from_residual-in_err-tree.result c.from_residual-in_err-tree.ensures.1 in
    at_err c.from_residual-in_err-tree.result (λ z. MatchResult z (λ x. ⊥) (λ e. (e ≡ fault) ⊎ (e ≡ NoMemory))) r.0 c.in_err-tree.field-0.0 r.1 r.2 (refuses_err c.args.bytes.now c.in_err-tree.field-0.0 fault (fails_fault c.args.bytes.now (drop c.in_ok-head.at c.args.bytes.now) c.in_ok-head.head c.in_ok-head.ensures.head c.in_ok-head.ensures.text c.in_err-tree.field-0.0 c.in_err-tree.ensures.fault) is)

pub returns-clause-certificate : goal.returns-clause-certificate
returns-clause-certificate c = cert_read c.args.bytes.now (drop c.in_ok-head.at c.args.bytes.now) c.in_ok-head.head c.in_ok-tree.tree c.in_ok-head.ensures.head c.in_ok-tree.ensures.records c.in_ok-head.ensures.text c.in_ok-tree.ensures.text

pub returns-clause-reads : goal.returns-clause-reads
returns-clause-reads c = λ head tree is. one_tree c.args.bytes.now c.in_ok-head.head head c.in_ok-tree.tree tree (cert_read c.args.bytes.now (drop c.in_ok-head.at c.args.bytes.now) c.in_ok-head.head c.in_ok-tree.tree c.in_ok-head.ensures.head c.in_ok-tree.ensures.records c.in_ok-head.ensures.text c.in_ok-tree.ensures.text) is

pub returns-clause-refuses : goal.returns-clause-refuses
returns-clause-refuses c = λ fault is. no_fault c.args.bytes.now fault (c.in_ok-head.head, c.in_ok-tree.tree, cert_read c.args.bytes.now (drop c.in_ok-head.at c.args.bytes.now) c.in_ok-head.head c.in_ok-tree.tree c.in_ok-head.ensures.head c.in_ok-tree.ensures.records c.in_ok-head.ensures.text c.in_ok-tree.ensures.text) is
