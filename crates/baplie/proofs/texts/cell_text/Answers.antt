use Rattle.baplie.proofs.Digits.{cell-only}
use Rattle.baplie.proofs.CellDigits.{cell-known}
use Rattle.baplie.proofs.texts.cell_text.Goals as goal

pub returns-clause-reads_back : goal.returns-clause-reads_back
returns-clause-reads_back c hb hr ht = rw (c.digit.ensures, c.digit-2.ensures, c.digit-3.ensures, c.digit-4.ensures, c.digit-5.ensures, c.digit-6.ensures, c.digit-7.ensures) (cell-known c.args.bay c.args.row c.args.tier hb hr ht)

pub returns-clause-only : goal.returns-clause-only
returns-clause-only c text h e = rw (c.digit.ensures, c.digit-2.ensures, c.digit-3.ensures, c.digit-4.ensures, c.digit-5.ensures, c.digit-6.ensures, c.digit-7.ensures) (cell-only text c.args.bay c.args.row c.args.tier h e)
