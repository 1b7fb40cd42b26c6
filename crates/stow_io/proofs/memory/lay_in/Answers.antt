use Rattle.std.proofs.Common.{◌≡◌, ℕ, List, arith}
use Rattle.std.proofs.lemmas.Map.Text.{text_keys}
use Rattle.stow_io.specs.Files.{with_file}
use Rattle.stow_io.specs.Memory.{held}
use Rattle.stow_io.proofs.memory.lay_in.Goals as goal

pub returns-clause-ok : goal.returns-clause-ok
returns-clause-ok c =
    let each : (n : List ℕ) → held c.insert.new.self n ≡ with_file c.args.name.now c.args.bytes.now (held c.args.files.now) n = λ n. grind (arith, text_keys) in
    λ i n. each n i
