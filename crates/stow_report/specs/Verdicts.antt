-- The lines of refused certificates, trees and bay plan files: the group, the refusal's number, and its fields in their order.
use Rattle.std.specs.Prelude.{ℕ, ℤ, pos, true, List, [], ◌∷◌}
use Rattle.certificate.specs.declared.faults.CertFault.{CertFault}
use Rattle.certificate.specs.declared.faults.CertFault.TheVariants as cert
use Rattle.certificate.specs.declared.refusals.BoundNo.{BoundNo}
use Rattle.certificate.specs.declared.refusals.BoundNo.TheVariants as bound
use Rattle.baplie.specs.declared.faults.BaplieFault.{BaplieFault}
use Rattle.baplie.specs.declared.faults.BaplieFault.TheVariants.{Seg, At, NoMemory}
use Rattle.edifact_segments.specs.declared.faults.SegFault.TheVariants as seg
use Rattle.stow_report.specs.declared.lines.Group.TheVariants as group
use Rattle.stow_report.specs.declared.lines.Line.{Line}
use Rattle.stow_report.specs.Refusals.{numbered}
use Rattle.stow_report.specs.Faults.{interchange_line, message_line}

-- a text that is no certificate
abbrev pub cert_line : CertFault → Line
cert_line cert.NotCert = numbered true group.Cert 1 []
cert_line (cert.BadHead n) = numbered true group.Cert 2 (pos n ∷ [])
cert_line (cert.BadLine n) = numbered true group.Cert 3 (pos n ∷ [])
cert_line cert.NoEnd = numbered true group.Cert 4 []
cert_line cert.NoMemory = numbered true group.Cert 5 []

abbrev pub of_bound : ℕ → List ℤ → Line
of_bound n numbers = numbered true group.Bound n numbers

-- a tree that doesn't prove its bound
abbrev pub bound_line : BoundNo → Line
bound_line (bound.Multiplier node) = of_bound 1 (pos node ∷ [])
bound_line (bound.StepRow node) = of_bound 2 (pos node ∷ [])
bound_line (bound.BranchFixed node) = of_bound 3 (pos node ∷ [])
bound_line (bound.LeafShort node value needed) = of_bound 4 (pos node ∷ value ∷ needed ∷ [])
bound_line bound.TreeEnds = of_bound 5 []
bound_line bound.TreeTooLong = of_bound 6 []
bound_line bound.NoMemory = of_bound 7 []

-- a text that is no bay plan
abbrev pub file_line : BaplieFault → Line
file_line (Seg fault) = interchange_line fault
file_line (At n cause) = message_line n cause
file_line NoMemory = interchange_line seg.NoMemory
