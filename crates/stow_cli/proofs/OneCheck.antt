-- Over files that are told, what a certificate and departure files are answered is one answer.
use Rattle.std.proofs.Common.{◌≡◌, ℕ, suc, List, [], ◌∷◌, length, Some, refl, sym, ap, subst, ◌∙◌, inl, inr}
use Rattle.std.specs.Prelude.{◌⊎◌}
use Rattle.stow_io.specs.Files.{Files}
use Rattle.zero_one_rows.specs.Variables.{Voyage}
use Rattle.certificate.specs.declared.faults.CertFault.{CertFault}
use Rattle.certificate.specs.declared.tree.Head.{Head}
use Rattle.certificate.specs.declared.tree.Record.{Record}
use Rattle.certificate.proofs.Determined.{one_tree, one_fault, no_fault}
use Rattle.model_bridge.specs.Laws.{IsProblem}
use Rattle.voyage_files.specs.declared.refusals.JudgeNo.{JudgeNo}
use Rattle.voyage_files.specs.Lines.{line_of}
use Rattle.voyage_files.proofs.OneNo.{one_no, yes_or_no}
use Rattle.stow_report.specs.Refusals.{refusal_text}
use Rattle.stow_report.specs.Verdicts.{cert_line}
use Rattle.voyage_files.specs.declared.answer.Answer.{Answer}
use Rattle.voyage_files.specs.declared.answer.Answer.TheVariants as answer
use Rattle.voyage_files.specs.declared.voyage.BookedVoyage.{BookedVoyage}
use Rattle.voyage_files.proofs.OneInput.{one_content}
use Rattle.stow_io.specs.declared.files.Finding.{Finding}
use Rattle.stow_io.specs.declared.files.NamedFile.{NamedFile}
use Rattle.stow_io.specs.declared.files.Work.{Work}
use Rattle.stow_cli.specs.Checks.{AreTexts, Confirms, IsCertOf, JudgedAs, ReadsCert, ReadsFiles, RefusesPart, RefusesText}
use Rattle.stow_cli.specs.Voyages.{voyage_of}
use Rattle.stow_cli.specs.Work.{cert_name, file_name}

pub work_same : (w x : Work) → w.files ≡ x.files → w.report ≡ x.report → w.finding ≡ x.finding → w ≡ x
work_same w x e f g =
    let with_files : List NamedFile → Work = λ fs. record { files = fs; report = w.report; finding = w.finding } in
    let with_report : List ℕ → Work = λ r. record { files = x.files; report = r; finding = w.finding } in
    let with_finding : Finding → Work = λ d. record { files = x.files; report = x.report; finding = d } in
    ap with_files e ∙ ap with_report f ∙ ap with_finding g

-- ## Texts

zero_or_suc : (n : ℕ) → 0 ≡ suc n → ⊥
zero_or_suc n e = let bad : ⊥ = cc in bad

less_one : (n k : ℕ) → suc n ≡ suc k → n ≡ k
less_one n k e = cc

pub one_texts : (base : List ℕ) (files : Files) (call : ℕ) (xs ys : List (List ℕ)) → length xs ≡ length ys → AreTexts base (Some files) call xs → AreTexts base (Some files) call ys → xs ≡ ys
one_texts base files call [] [] e h k = refl
one_texts base files call [] (y ∷ ys) e h k = absurd (zero_or_suc (length ys) e)
one_texts base files call (x ∷ xs) [] e h k = absurd (zero_or_suc (length xs) (sym e))
one_texts base files call (x ∷ xs) (y ∷ ys) e h k =
    ap (λ (z : List ℕ). z ∷ xs) (one_content files (file_name base call) x y h.0 k.0)
    ∙ ap (λ (zs : List (List ℕ)). y ∷ zs) (one_texts base files (suc call) xs ys (less_one (length xs) (length ys) e) h.1 k.1)

-- ## Judgements

module _ (m : Voyage) (problem : IsProblem m) (head : Head) (tree : List Record) (texts : List (List ℕ)) where
  both_yes : (w x : Work) → Confirms m head tree texts w → Confirms m head tree texts x → w ≡ x
  both_yes w x h k = work_same w x (h.no_files ∙ sym k.no_files) (h.report ∙ sym k.report) (h.finding ∙ sym k.finding)

  both_no : (a b : List ℕ) → RefusesPart m head tree texts a → RefusesPart m head tree texts b → a ≡ b
  both_no a b h k = h.line_is ∙ ap (λ (n : JudgeNo). refusal_text (line_of n)) (one_no m problem head tree texts h.no k.no h.named k.named h.is_no k.is_no) ∙ sym k.line_is

  yes_and_no : (w : Work) (line : List ℕ) → Confirms m head tree texts w → RefusesPart m head tree texts line → ⊥
  yes_and_no w line h k = yes_or_no m problem head tree texts k.no k.named h.holds k.is_no

  judged_one : (a b : Answer) → JudgedAs m head tree texts a → JudgedAs m head tree texts b → a ≡ b
  judged_one (answer.Work w) (answer.Work x) h k = ap (λ (y : Work). answer.Work y) (both_yes w x h k)
  judged_one (answer.Work w) (answer.No line) h k = absurd (yes_and_no w line h k)
  judged_one (answer.No line) (answer.Work w) h k = absurd (yes_and_no w line k h)
  judged_one (answer.No line) (answer.No other) h k = ap (λ (y : List ℕ). answer.No y) (both_no line other h k)
  judged_one (answer.Work w) (answer.Input line) h k = absurd k
  judged_one (answer.Work w) (answer.Large line) h k = absurd k
  judged_one (answer.No line) (answer.Input other) h k = absurd k
  judged_one (answer.No line) (answer.Large other) h k = absurd k
  judged_one (answer.Input line) b h k = absurd h
  judged_one (answer.Large line) b h k = absurd h
  judged_one answer.Call b h k = absurd h
  judged_one (answer.Work w) answer.Call h k = absurd k
  judged_one (answer.No line) answer.Call h k = absurd k

-- ## Files

module _ (base : List ℕ) (files : Files) (v : BookedVoyage) (problem : IsProblem (voyage_of v)) where
  files_one : (head : Head) (tree : List Record) (a b : Answer) → ReadsFiles base (Some files) v head tree a → ReadsFiles base (Some files) v head tree b → a ≡ b
  files_one head tree a b h k =
      let same = one_texts base files 1 h.texts k.texts (h.beside.count ∙ sym k.beside.count) h.beside.are_texts k.beside.are_texts in
      judged_one (voyage_of v) problem head tree k.texts a b (subst (λ (ts : List (List ℕ)). JudgedAs (voyage_of v) head tree ts a) same h.judged) k.judged

  cert_one : (bytes : List ℕ) (a b : Answer) → IsCertOf base (Some files) v bytes a → IsCertOf base (Some files) v bytes b → a ≡ b
  cert_one bytes a b h k =
      let same = one_tree bytes h.head k.head h.tree k.tree h.is_cert k.is_cert in
      let moved : ReadsFiles base (Some files) v k.head k.tree a =
      subst (λ (t : List Record). ReadsFiles base (Some files) v k.head t a) same.1 (subst (λ (g : Head). ReadsFiles base (Some files) v g h.tree a) same.0 h.reads) in
      files_one k.head k.tree a b moved k.reads

  text_one : (bytes : List ℕ) (a b : Answer) → RefusesText bytes a → RefusesText bytes b → a ≡ b
  text_one bytes a b h k = h.answer_is ∙ ap (λ (f : CertFault). answer.No (refusal_text (cert_line f))) (one_fault bytes h.fault k.fault h.has k.has) ∙ sym k.answer_is

  text_not_cert : (bytes : List ℕ) (a b : Answer) → RefusesText bytes a → IsCertOf base (Some files) v bytes b → ⊥
  text_not_cert bytes a b h k = no_fault bytes h.fault (k.head, k.tree, k.is_cert) h.has

  read_one : (bytes : List ℕ) (a b : Answer) → RefusesText bytes a ⊎ IsCertOf base (Some files) v bytes a → RefusesText bytes b ⊎ IsCertOf base (Some files) v bytes b → a ≡ b
  read_one bytes a b (inl h) (inl k) = text_one bytes a b h k
  read_one bytes a b (inl h) (inr k) = absurd (text_not_cert bytes a b h k)
  read_one bytes a b (inr h) (inl k) = absurd (text_not_cert bytes b a k h)
  read_one bytes a b (inr h) (inr k) = cert_one bytes a b h k

  pub reads_one : (a b : Answer) → ReadsCert base (Some files) v a → ReadsCert base (Some files) v b → a ≡ b
  reads_one a b h k =
      let e = one_content files (cert_name base) h.bytes k.bytes h.content k.content in
      read_one k.bytes a b (subst (λ (y : List ℕ). RefusesText y a ⊎ IsCertOf base (Some files) v y a) e h.cert) k.cert
