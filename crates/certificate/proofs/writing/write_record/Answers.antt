use Rattle.std.proofs.Common.{◌≡◌, ◌++◌, ℕ, List, ap, sym, ◌∙◌}
use Rattle.std.specs.Prelude.{flat_map}
use Rattle.zero_one_rows.specs.declared.program.Row.{Row}
use Rattle.zero_one_rows.specs.declared.program.Raise.{Raise}
use Rattle.certificate.specs.declared.lines.Line.TheVariants as line
use Rattle.certificate.specs.Text.{whole}
use Rattle.certificate.proofs.Texts.{then_four, record_written}
use Rattle.certificate.proofs.writing.write_record.Goals as goal

pub returns : goal.returns
returns c =
    let steps : c.write_steps.new.out ≡ c.write_node.new.out ++ flat_map (λ row. whole (line.Step row)) c.args.item.now.steps =
    c.in_ok-write_steps.ensures ∙ ap (λ (rows : List Row). c.write_node.new.out ++ flat_map (λ row. whole (line.Step row)) rows) c.as_slice.ensures in
    let raises : c.write_raises.new.out ≡ c.write_steps.new.out ++ flat_map (λ raise. whole (line.Change raise)) c.args.item.now.raises =
    c.in_ok-write_raises.ensures ∙ ap (λ (rs : List Raise). c.write_steps.new.out ++ flat_map (λ raise. whole (line.Change raise)) rs) c.as_slice-2.ensures in
    then_four c.args.out.now c.write_node.new.out c.write_steps.new.out c.write_raises.new.out c.write_end.new.out
    (whole (line.Node c.args.item.now.from_zero)) (flat_map (λ row. whole (line.Step row)) c.args.item.now.steps) (flat_map (λ raise. whole (line.Change raise)) c.args.item.now.raises) (whole (line.Ends c.args.item.now.end))
    c.in_ok-write_node.ensures steps raises c.in_ok-write_end.ensures
    ∙ ap (λ (x : List ℕ). c.args.out.now ++ x) (sym (record_written c.args.item.now))
