-- The reads of the files beside the inputs.
use Rattle.std.proofs.Common.{◌≡◌, ℕ, suc, ◌+◌, ◌<◌, ◌≤◌, ◌^◌, List, [], ◌∷◌, ◌++◌, length, Option, refl, ap, subst, ◌∙◌, inl, inr, arith}
use Rattle.std.specs.Prelude.{All, Result, Ok, Err, IfOk, IfErr}
use Rattle.std.proofs.lemmas.List.Elements.{All-nil, All-cons, All-head, All-tail}
use Rattle.stow_io.specs.Files.{Files}
use Rattle.stow_io.specs.Causes.{Rose}
use Rattle.certificate.specs.declared.tree.Head.{Head}
use Rattle.certificate.specs.declared.tree.Record.{Record}
use Rattle.certificate.specs.Grammar.{IsCert}
use Rattle.voyage_files.specs.declared.answer.Answer.{Answer}
use Rattle.voyage_files.specs.declared.answer.Answer.TheVariants as answer
use Rattle.voyage_files.specs.declared.voyage.BookedVoyage.{BookedVoyage}
use Rattle.voyage_files.specs.declared.reading.ReadStop.{ReadStop}
use Rattle.voyage_files.specs.declared.reading.ReadStop.TheVariants.{Failed, FailedOwn, NoMemory}
use Rattle.voyage_files.specs.Inputs.{IsContent}
use Rattle.voyage_files.specs.Named.{IsStop}
use Rattle.stow_cli.specs.declared.verdict.CertText.TheVariants.{Refused}
use Rattle.stow_cli.specs.Checks.{AreTexts, IsCertText, IsFileName, IsWrittenRead, JudgedAs, ReadsCert, ReadsFiles, files_beside}
use Rattle.stow_cli.specs.Voyages.{voyage_of}
use Rattle.stow_cli.specs.Work.{cert_name, file_name}
use Rattle.zero_one_model.specs.Building.{IsWithin}
use Rattle.model_bridge.specs.Laws.{IsProblem}
use Rattle.stow_cli.specs.Answers.{CheckOf}
use Rattle.stow_cli.proofs.Judging.{IsStopOf, rose_before}

pub texts_more : (base : List ℕ) (files : Option Files) (call : ℕ) (texts : List (List ℕ)) (text : List ℕ) → AreTexts base files call texts → IsContent files (file_name base (call + length texts)) text → AreTexts base files call (texts ++ text ∷ [])
texts_more base files call [] text h k = let e : call + 0 ≡ call = omega arith in (subst (λ (n : ℕ). IsContent files (file_name base n) text) e k, tt)
texts_more base files call (t ∷ texts) text h k =
    let e : call + suc (length texts) ≡ suc call + length texts = omega arith in
    (h.0, texts_more base files (suc call) texts text h.1 (subst (λ (n : ℕ). IsContent files (file_name base n) text) e k))

abbrev IsShort : List ℕ → Type 0
IsShort text = length text ≤ 2 ^ 29

pub short_more : (texts : List (List ℕ)) (text : List ℕ) → All IsShort texts → length text ≤ 536870912 → All IsShort (texts ++ text ∷ [])
short_more [] text h k = All-cons IsShort text [] (omega (arith, k)) (All-nil IsShort)
short_more (t ∷ texts) text h k = All-cons IsShort t (texts ++ text ∷ []) (All-head IsShort t texts h) (short_more texts text (All-tail IsShort t texts h) k)

-- the text of the next call
pub texts_next : (base : List ℕ) (files mid : Option Files) (index : ℕ) (texts : List (List ℕ)) (text : List ℕ) → mid ≡ files → length texts ≡ index → AreTexts base files 1 texts → IsContent mid (file_name base (index + 1)) text → AreTexts base files 1 (texts ++ text ∷ [])
texts_next base files mid index texts text same count h k =
    let e : index + 1 ≡ 1 + length texts = omega (arith, count) in
    texts_more base files 1 texts text h (subst (λ (n : ℕ). IsContent files (file_name base n) text) e (subst (λ (fs : Option Files). IsContent fs (file_name base (index + 1)) text) same k))

pub counted_next : (index : ℕ) (texts : List (List ℕ)) (text : List ℕ) → length texts ≡ index → length (texts ++ text ∷ []) ≡ index + 1
counted_next index [] text e = omega (arith, e)
counted_next index (t ∷ texts) text e =
    let more : length (texts ++ text ∷ []) ≡ length texts + 1 = counted_next (length texts) texts text refl in
    omega (arith, e, more)

-- ## What is answered

-- the departure files that are beside a certificate
pub reads_files : (base : List ℕ) (files : Option Files) (v : BookedVoyage) (head : Head) (tree : List Record) (texts : List (List ℕ)) (a : Answer) → AreTexts base files 1 texts → length texts ≡ files_beside v head → JudgedAs (voyage_of v) head tree texts a → ReadsFiles base files v head tree a
reads_files base files v head tree texts a are each h = record { texts = texts; beside = record { count = each; are_texts = are }; judged = h }

-- a text that is no certificate
pub reads_refused : (base : List ℕ) (files : Option Files) (v : BookedVoyage) (bytes line : List ℕ) → IsContent files (cert_name base) bytes → IsCertText bytes (Refused line) → ReadsCert base files v (answer.No line)
reads_refused base files v bytes line content h = record {
  bytes = bytes;
  content = content;
  cert = inl (record { fault = h.0; has = h.1; answer_is = ap (λ (l : List ℕ). answer.No l) h.2 });
}

-- the certificate that was read
pub reads_cert : {E : Type 0} (r : Result Answer E) (base : List ℕ) (files mid : Option Files) (v : BookedVoyage) (bytes : List ℕ) (head : Head) (tree : List Record) → mid ≡ files → IsContent files (cert_name base) bytes → IsCert bytes head tree → IfOk r (ReadsFiles base mid v head tree) → IfOk r (ReadsCert base files v)
reads_cert (Ok a) base files mid v bytes head tree same content cert h = record {
  bytes = bytes;
  content = content;
  cert = inr (record { head = head; tree = tree; is_cert = cert; reads = subst (λ (fs : Option Files). ReadsFiles base fs v head tree a) same h });
}
reads_cert (Err e) base files mid v bytes head tree same content cert h = tt

-- ## What stops a read

-- a departure file that isn't read is one that the certificate speaks of
pub departure_stops : (r : Result Answer ReadStop) (base : List ℕ) (files : Option Files) (v : BookedVoyage) (bytes : List ℕ) (head : Head) (tree : List Record) (old mid new : ℕ) → old ≤ mid → IsContent files (cert_name base) bytes → IsCert bytes head tree
    → IfErr r (IsStop (Rose mid new) (IsFileName base (files_beside v head))) → IfErr r (IsStop (Rose old new) (IsWrittenRead base files v))
departure_stops (Ok a) base files v bytes head tree old mid new le content cert h = tt
departure_stops (Err (Failed n)) base files v bytes head tree old mid new le content cert h = (rose_before old mid new le h.0, inr (record { bytes = bytes; content = content; head = head; tree = tree; is_cert = cert; is_name = h.1 }))
departure_stops (Err (FailedOwn n)) base files v bytes head tree old mid new le content cert h = (rose_before old mid new le h.0, inr (record { bytes = bytes; content = content; head = head; tree = tree; is_cert = cert; is_name = h.1 }))
departure_stops (Err NoMemory) base files v bytes head tree old mid new le content cert h = tt

-- a departure file that isn't read is that of one of the calls
pub file_stops : (stop : ReadStop) (base : List ℕ) (count index old mid new : ℕ) → index < count → mid ≡ old → IsStop (Rose mid new) (λ n. n ≡ file_name base (index + 1)) stop → IsStop (Rose old new) (IsFileName base count) stop
file_stops (Failed n) base count index old mid new lt same h = (omega (arith, same, h.0), record { call = index + 1; from = omega arith; to = omega (arith, lt); name_is = h.1 })
file_stops (FailedOwn n) base count index old mid new lt same h = (omega (arith, same, h.0), record { call = index + 1; from = omega arith; to = omega (arith, lt); name_is = h.1 })
file_stops NoMemory base count index old mid new lt same h = tt

-- the count of files is the one that the certificate speaks of
pub count_stops : (r : Result Answer ReadStop) (base : List ℕ) (v : BookedVoyage) (head : Head) (count old new : ℕ) → count ≡ files_beside v head → IfErr r (IsStop (Rose old new) (IsFileName base count)) → IfErr r (IsStop (Rose old new) (IsFileName base (files_beside v head)))
count_stops r base v head count old new same h = subst (λ (n : ℕ). IfErr r (IsStop (Rose old new) (IsFileName base n))) same h

-- the certificate's own read
pub cert_stops : (stop : ReadStop) (base : List ℕ) (files : Option Files) (v : BookedVoyage) (name : List ℕ) (old new : ℕ) → name ≡ cert_name base → IsStop (Rose old new) (λ n. n ≡ name) stop → IsStop (Rose old new) (IsWrittenRead base files v) stop
cert_stops (Failed n) base files v name old new same h = (h.0, inl (h.1 ∙ same))
cert_stops (FailedOwn n) base files v name old new same h = (h.0, inl (h.1 ∙ same))
cert_stops NoMemory base files v name old new same h = tt

-- within the limits
pub checked_in : {E : Type 0} (r : Result Answer E) (base : List ℕ) (files : Option Files) (v : BookedVoyage) → IsWithin (voyage_of v) → IsProblem (voyage_of v) → IfOk r (ReadsCert base files v) → IfOk r (CheckOf base files v)
checked_in (Ok a) base files v within problem h = inr (record { within = within; problem = problem; reads = h })
checked_in (Err e) base files v within problem h = tt

pub within_stops : (r : Result Answer ReadStop) (base : List ℕ) (files : Option Files) (v : BookedVoyage) (old new : ℕ) → IsWithin (voyage_of v) → IfErr r (IsStop (Rose old new) (IsWrittenRead base files v)) → IfErr r (IsStop (Rose old new) (IsStopOf base files v))
within_stops (Ok a) base files v old new within h = tt
within_stops (Err (Failed n)) base files v old new within h = (h.0, (within, h.1))
within_stops (Err (FailedOwn n)) base files v old new within h = (h.0, (within, h.1))
within_stops (Err NoMemory) base files v old new within h = tt
