-- The first fault of a text that is no certificate, line by line.
use Rattle.std.specs.Prelude.{◌≡◌, ◌≢◌, ◌≤◌, ◌+◌, ◌↔◌, ℕ, List, [], ◌∷◌, ◌++◌, codes, All, length, flat_map}
use Rattle.certificate.specs.declared.tree.Record.{Record}
use Rattle.certificate.specs.declared.tree.Head.{Head}
use Rattle.certificate.specs.declared.faults.CertFault.{CertFault}
use Rattle.certificate.specs.declared.faults.CertFault.TheVariants.{NotCert, BadHead, BadLine, NoEnd, NoMemory}
use Rattle.certificate.specs.Grammar.{IsCert}

abbrev pub IsCertificate : List ℕ → Type 0
IsCertificate text = (head : Head) × (tree : List Record) × IsCert text head tree

-- some certificate begins with these bytes
abbrev pub Begins : List ℕ → Type 0
Begins front = (rest : List ℕ) × IsCertificate (front ++ rest)

-- a line has no line feed in it
abbrev pub IsPlain : List ℕ → Type 0
IsPlain line = All (λ b. b ≢ 10) line

-- lines, with a line feed behind each
abbrev pub fed : List (List ℕ) → List ℕ
fed lines = flat_map (λ line. line ++ 10 ∷ []) lines

-- Line n, counted from 1, is the first with which no certificate begins: some certificate begins with the lines before it, and none with these and it. It may lack its line feed, or the text may end before it.
pub record Stops (text : List ℕ) (n : ℕ) (rest : List ℕ) : Type 0 where
  pub lines : List (List ℕ)
  pub plain : All IsPlain lines
  pub text_is : text ≡ fed lines ++ rest
  pub count : n ≡ length lines + 1
  pub begins : Begins (fed lines)
  pub stuck : (line more : List ℕ) → IsPlain line → rest ≡ line ++ 10 ∷ more → Begins (fed (lines ++ line ∷ [])) → ⊥

-- A head has five lines. A text that ends within it lacks a line of the head; one that ends behind it lacks the line `end`.
abbrev pub HasFault : List ℕ → CertFault → Type 0
HasFault text NotCert = (rest : List ℕ) × Stops text 1 rest
HasFault text (BadHead n) = (2 ≤ n) × (n ≤ 5) × (rest : List ℕ) × Stops text n rest
HasFault text (BadLine n) = (6 ≤ n) × (rest : List ℕ) × (rest ≢ []) × Stops text n rest
HasFault text NoEnd = (n : ℕ) × (6 ≤ n) × Stops text n [] × (IsCertificate text → ⊥)
HasFault text NoMemory = ⊥

-- ## The answer is determined

-- no text is that of two heads or of two trees
abbrev pub HasOneTree : Type 0
HasOneTree = (text : List ℕ) (g h : Head) (s t : List Record) → IsCert text g s → IsCert text h t → (g ≡ h) × (s ≡ t)

abbrev pub HasOneFault : Type 0
HasOneFault = (text : List ℕ) (a b : CertFault) → HasFault text a → HasFault text b → a ≡ b

abbrev pub HasNoFault : Type 0
HasNoFault = (text : List ℕ) (a : CertFault) → IsCertificate text → HasFault text a → ⊥

-- no text is neither a certificate nor at fault
abbrev pub HasAnswer : Type 0
HasAnswer = (text : List ℕ) → (IsCertificate text → ⊥) → ((a : CertFault) → HasFault text a → ⊥) → ⊥

-- the first line is at fault exactly where it differs
abbrev pub HasTitle : Type 0
HasTitle = (text : List ℕ) → HasFault text NotCert ↔ ((more : List ℕ) → text ≢ codes "stow-cert 1\n" ++ more)
