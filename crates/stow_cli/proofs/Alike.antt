-- Two answers to departure files.
use Rattle.std.proofs.Common.{◌≡◌, ℕ, List, refl, sym, ap, ◌∙◌}
use Rattle.stow_data.specs.Profile.{IsShip}
use Rattle.stow_data.specs.Shipment.{IsCargo}
use Rattle.stow_report.specs.Refusals.{refusal_text}
use Rattle.stow_io.specs.declared.files.Work.{Work}
use Rattle.voyage_files.specs.declared.answer.Answer.{Answer}
use Rattle.voyage_files.specs.declared.answer.Answer.TheVariants as answer
use Rattle.voyage_files.specs.declared.refusals.JudgeNo.{JudgeNo}
use Rattle.voyage_files.specs.declared.voyage.BookedVoyage.{BookedVoyage}
use Rattle.voyage_files.specs.Lines.{line_of}
use Rattle.voyage_files.proofs.OneNo.{one_taken, taken_not_legal}
use Rattle.stow_cli.specs.SharedOut.{AreAlike, RefusesFiles, SharedAs, SharesOut}

module _ (v : BookedVoyage) (call cranes : ℕ) (texts : List (List ℕ)) (rules : IsShip v.ship) (shipped : IsCargo v.cargo) where
  not_both : (work : Work) (line : List ℕ) → SharesOut v call cranes texts work → RefusesFiles v texts line → ⊥
  not_both work line h k = taken_not_legal v.ship v.cargo rules shipped texts (h.shown).messages h.departures k.no (h.shown).read (h.shown).legal k.named k.is_no

  one_line : (a b : List ℕ) → RefusesFiles v texts a → RefusesFiles v texts b → a ≡ b
  one_line a b h k = h.line_is ∙ ap (λ (n : JudgeNo). refusal_text (line_of n)) (one_taken v.ship v.cargo rules shipped texts h.no k.no h.named k.named h.is_no k.is_no) ∙ sym k.line_is

  pub alike : (a b : Answer) → SharedAs v call cranes texts a → SharedAs v call cranes texts b → AreAlike v call cranes texts a b
  alike (answer.Work w) (answer.Work x) h k = (h, k)
  alike (answer.Work w) (answer.No line) h k = absurd (not_both w line h k)
  alike (answer.No line) (answer.Work x) h k = absurd (not_both x line k h)
  alike (answer.No line) (answer.No other) h k = ap (λ (l : List ℕ). answer.No l) (one_line line other h k)
  alike (answer.Work w) (answer.Input line) h k = absurd k
  alike (answer.Work w) (answer.Large line) h k = absurd k
  alike (answer.Work w) answer.Call h k = absurd k
  alike (answer.No line) (answer.Input other) h k = absurd k
  alike (answer.No line) (answer.Large other) h k = absurd k
  alike (answer.No line) answer.Call h k = absurd k
  alike (answer.Input line) b h k = absurd h
  alike (answer.Large line) b h k = absurd h
  alike answer.Call b h k = absurd h
