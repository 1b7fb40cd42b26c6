-- The row that kept numbers are of. No public clause cites this module.
use Rattle.zero_one_rows.specs.declared.program.Row.{Row}
use Rattle.zero_one_rows.specs.declared.program.Row.TheVariants as row
use Rattle.certificate.specs.declared.kept_rows.Form.{Form}
use Rattle.certificate.specs.declared.kept_rows.Form.TheVariants as form

abbrev pub row_of : Form → Row
row_of (form.Flow q i g) = row.Flow q i g
row_of (form.Start q p) = row.Start q p
row_of (form.Cell i h) = row.Cell i h
row_of (form.Support i h) = row.Support i h
row_of (form.Twenty i h) = row.Twenty i h
row_of (form.Block j h) = row.Block j h
row_of (form.Hatch w j h d) = row.Hatch w j h d
row_of (form.Weight i k) = row.Weight i k
row_of (form.Apart i e p q) = row.Apart i e p q
row_of (form.Cross c) = row.Cross c.value.length c.value.price c.value.chain
