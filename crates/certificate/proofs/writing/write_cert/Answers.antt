use Rattle.std.proofs.Common.{◌++◌, ℕ, List, [], ap, sym, ◌∙◌}
use Rattle.std.specs.Prelude.{flat_map}
use Rattle.certificate.specs.declared.lines.Line.TheVariants as line
use Rattle.certificate.specs.Text.{whole, text_of, head_lines, record_lines}
use Rattle.certificate.proofs.Texts.{then_three, cert_written}
use Rattle.certificate.proofs.writing.write_cert.Goals as goal

pub returns : goal.returns
returns c =
    then_three c.new-out.result c.write_head.new.out c.write_records.new.out c.write_close.new.out
    (text_of (head_lines c.args.head.now)) (flat_map (λ r. text_of (record_lines r)) c.args.tree.now) (whole line.Close)
    c.in_ok-write_head.ensures c.in_ok-write_records.ensures c.in_ok-write_close.ensures
    ∙ ap (λ (x : List ℕ). x ++ (text_of (head_lines c.args.head.now) ++ (flat_map (λ r. text_of (record_lines r)) c.args.tree.now ++ (whole line.Close ++ [])))) c.new-out.ensures
    ∙ sym (cert_written c.args.head.now c.args.tree.now)
