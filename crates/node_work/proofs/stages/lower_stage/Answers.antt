use Rattle.std.proofs.Common.{ℕ, ◌++◌, List, Some, map, take, sym, ◌∙◌, ap}
use Rattle.std.proofs.Math.Seq.{take-append_seam}
use Rattle.zero_one_rows.specs.declared.program.Raise.{Raise}
use Rattle.proof_trees.specs.Multipliers.{raised_all}
use Rattle.certificate.specs.Entries.{same_row, raise_of}
use Rattle.node_work.proofs.Lowering.{shortened}
use Rattle.node_work.proofs.stages.lower_stage.Goals as goal

pub returns-clause-lowered : goal.returns-clause-lowered
returns-clause-lowered c = λ e ms before h.
    let l = c.lower_all.ensures.lowered c.if-not-lower_all.false ms (ap (λ (rs : List Raise). raised_all same_row (Some ms) (map raise_of rs)) c.as_slice.ensures ∙ h) in
    shortened c.lower_all.new.gauge c.shorten.new.self c.args.stage.now.before c.shorten.result c.shorten.ensures e
    ∙ ap (take c.args.stage.now.before) l.1 ∙ ap (λ (n : ℕ). take n (ms ++ l.0)) (sym before) ∙ take-append_seam ms l.0
