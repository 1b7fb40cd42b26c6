-- A certificate has no more records than bytes.
use Rattle.std.proofs.Common.{◌≡◌, ℕ, ◌≤◌, List, [], ◌∷◌, ◌++◌, length, arith, ap, length-append}
use Rattle.std.specs.Prelude.{flat_map}
use Rattle.certificate.specs.declared.tree.Head.{Head}
use Rattle.certificate.specs.declared.tree.Record.{Record}
use Rattle.certificate.specs.declared.lines.Line.{Line}
use Rattle.certificate.specs.declared.lines.Line.TheVariants as line
use Rattle.certificate.specs.Text.{line_text, whole, text_of, head_lines, record_lines, cert_text}
use Rattle.certificate.specs.Grammar.{IsCert}

lines_few : (ls : List Line) → length ls ≤ length (text_of ls)
lines_few [] = omega arith
lines_few (l ∷ ls) = omega (arith, length-append (whole l) (text_of ls), length-append (line_text l) (10 ∷ []), lines_few ls)

records_few : (tree : List Record) → length tree ≤ length (flat_map record_lines tree)
records_few [] = omega arith
records_few (r ∷ tree) = omega (arith, length-append (record_lines r) (flat_map record_lines tree), records_few tree)

pub few : (text : List ℕ) (head : Head) (tree : List Record) → IsCert text head tree → length tree ≤ length text
few text head tree cert =
    let records : List Line = flat_map record_lines tree in
    let rest : List Line = records ++ line.Close ∷ [] in
    let e : length text ≡ length (cert_text head tree) = ap (λ (x : List ℕ). length x) cert.text in
    omega (arith, lines_few (head_lines head ++ rest), length-append (head_lines head) rest, length-append records (line.Close ∷ []), records_few tree)
