use Rattle.std.proofs.Common.{◌∙◌, sym, ap, map}
use Rattle.std.proofs.lemmas.Result.{err_from_is_err_and}
use Rattle.baplie.specs.Faults.{groups}
use Rattle.baplie.specs.Groups.{cell_group}
use Rattle.baplie.proofs.Outcomes.{untitled, at_end, no_fault, part-is, fault_of, head-is}
use Rattle.baplie.proofs.reading.read_message.Goals as goal

pub returns-then-not-is_titled-clause-fault : goal.returns-then-not-is_titled-clause-fault
returns-then-not-is_titled-clause-fault c = untitled c.args.segments.now (sym c.is_titled.ensures.titled ∙ c.if-not-is_titled.true)

pub returns-in_err-groups-clause-fault : goal.returns-in_err-groups-clause-fault
returns-in_err-groups-clause-fault c =
    let p = err_from_is_err_and c.from_residual.result c.from_residual.ensures.1 in
    rw (p.1, p.2) (fault_of c.args.segments.now c.body_of-body.result.now c.head_length-first.result c.in_err-groups.field-0.0 (sym c.is_titled.ensures.titled ∙ c.if-not-is_titled.false) c.body_of-body.ensures c.head_length-first.ensures.length c.in_err-groups.ensures.fault)

pub returns-in-Some-clause-fault : goal.returns-in-Some-clause-fault
returns-in-Some-clause-fault c =
    at_end c.args.segments.now c.in-Some.segment c.in-Some.cause (sym c.is_titled.ensures.titled ∙ c.if-not-is_titled.false) (sym (part-is c.args.segments.now c.body_of-body.result.now c.head_length-first.result c.body_of-body.ensures c.head_length-first.ensures.length) ∙ c.in_ok-groups.ensures.faultless) (sym c.end_fault.ensures ∙ c.in-Some.is)

pub returns-in_ok-build-in-None-clause-read : goal.returns-in_ok-build-in-None-clause-read
returns-in_ok-build-in-None-clause-read c = record {
  faultless = no_fault c.args.segments.now (sym c.is_titled.ensures.titled ∙ c.if-not-is_titled.false) (sym (part-is c.args.segments.now c.body_of-body.result.now c.head_length-first.result c.body_of-body.ensures c.head_length-first.ensures.length) ∙ c.in_ok-groups.ensures.faultless) (sym c.end_fault.ensures ∙ c.in-None.is);
  service = c.in_ok-build-in-None.ensures.service;
  title = c.in_ok-build-in-None.ensures.title;
  head = c.in_ok-build-in-None.ensures.head ∙ head-is c.args.segments.now c.body_of-body.result.now c.head_length-first.result c.body_of-body.ensures c.head_length-first.ensures.length;
  groups = c.in_ok-build-in-None.ensures.groups ∙ c.in_ok-groups.ensures.read ∙ ap (λ y. map cell_group (groups y)) c.body_of-body.ensures;
}
