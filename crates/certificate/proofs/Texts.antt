-- Texts of lines, piece by piece.
use Rattle.std.proofs.Common.{◌≡◌, ℕ, List, [], ◌∷◌, ◌++◌, refl, sym, ◌∙◌, ap, append_assoc, append-nil}
use Rattle.std.specs.Prelude.{map, flat_map}
use Rattle.std.proofs.lemmas.Grind.{flat_map-append}
use Rattle.std.proofs.lemmas.List.Folds.{flat_map-map}
use Rattle.zero_one_rows.specs.declared.program.Row.{Row}
use Rattle.zero_one_rows.specs.declared.program.Raise.{Raise}
use Rattle.certificate.specs.declared.tree.Record.{Record}
use Rattle.certificate.specs.declared.tree.Head.{Head}
use Rattle.certificate.specs.declared.lines.Line.{Line}
use Rattle.certificate.specs.declared.lines.Line.TheVariants as line
use Rattle.certificate.specs.Text.{whole, text_of, head_lines, record_lines, cert_text}

pub text-append : (xs ys : List Line) → text_of (xs ++ ys) ≡ text_of xs ++ text_of ys
text-append xs ys = flat_map-append whole xs ys

-- the lines of steps
pub steps_text : (rows : List Row) → text_of (map line.Step rows) ≡ flat_map (λ row. whole (line.Step row)) rows
steps_text rows = flat_map-map whole line.Step rows

pub raises_text : (raises : List Raise) → text_of (map line.Change raises) ≡ flat_map (λ raise. whole (line.Change raise)) raises
raises_text raises = flat_map-map whole line.Change raises

pub record_written : (r : Record) → text_of (record_lines r) ≡ whole (line.Node r.from_zero) ++ (flat_map (λ row. whole (line.Step row)) r.steps ++ (flat_map (λ raise. whole (line.Change raise)) r.raises ++ (whole (line.Ends r.end) ++ [])))
record_written r =
    ap (λ (x : List ℕ). whole (line.Node r.from_zero) ++ x)
    (text-append (map line.Step r.steps) (map line.Change r.raises ++ line.Ends r.end ∷ [])
    ∙ ap (λ (x : List ℕ). x ++ text_of (map line.Change r.raises ++ line.Ends r.end ∷ [])) (steps_text r.steps)
    ∙ ap (λ (x : List ℕ). flat_map (λ row. whole (line.Step row)) r.steps ++ x)
    (text-append (map line.Change r.raises) (line.Ends r.end ∷ []) ∙ ap (λ (x : List ℕ). x ++ (whole (line.Ends r.end) ++ [])) (raises_text r.raises)))

-- the lines of records
pub records_text : (tree : List Record) → text_of (flat_map record_lines tree) ≡ flat_map (λ r. text_of (record_lines r)) tree
records_text [] = refl
records_text (r ∷ rs) = text-append (record_lines r) (flat_map record_lines rs) ∙ ap (λ (x : List ℕ). text_of (record_lines r) ++ x) (records_text rs)

pub cert_written : (h : Head) (tree : List Record) → cert_text h tree ≡ text_of (head_lines h) ++ (flat_map (λ r. text_of (record_lines r)) tree ++ (whole line.Close ++ []))
cert_written h tree =
    text-append (head_lines h) (flat_map record_lines tree ++ line.Close ∷ [])
    ∙ ap (λ (x : List ℕ). text_of (head_lines h) ++ x) (text-append (flat_map record_lines tree) (line.Close ∷ []) ∙ ap (λ (x : List ℕ). x ++ (whole line.Close ++ [])) (records_text tree))

-- texts put behind one another
pub then_one : (o o' a b : List ℕ) → o' ≡ o ++ a → o' ++ b ≡ o ++ (a ++ b)
then_one o o' a b h = ap (λ (x : List ℕ). x ++ b) h ∙ append_assoc o a b

pub then_three : (o o1 o2 o3 a b c : List ℕ) → o1 ≡ o ++ a → o2 ≡ o1 ++ b → o3 ≡ o2 ++ c → o3 ≡ o ++ (a ++ (b ++ (c ++ [])))
then_three o o1 o2 o3 a b c h i j = j ∙ sym (ap (λ (x : List ℕ). o2 ++ x) (append-nil c)) ∙ then_one o1 o2 b (c ++ []) i ∙ then_one o o1 a (b ++ (c ++ [])) h

pub then_four : (o o1 o2 o3 o4 a b c d : List ℕ) → o1 ≡ o ++ a → o2 ≡ o1 ++ b → o3 ≡ o2 ++ c → o4 ≡ o3 ++ d → o4 ≡ o ++ (a ++ (b ++ (c ++ (d ++ []))))
then_four o o1 o2 o3 o4 a b c d h i j k = then_three o1 o2 o3 o4 b c d i j k ∙ then_one o o1 a (b ++ (c ++ (d ++ []))) h

pub then_five : (o o1 o2 o3 o4 o5 a b c d e : List ℕ) → o1 ≡ o ++ a → o2 ≡ o1 ++ b → o3 ≡ o2 ++ c → o4 ≡ o3 ++ d → o5 ≡ o4 ++ e → o5 ≡ o ++ (a ++ (b ++ (c ++ (d ++ (e ++ [])))))
then_five o o1 o2 o3 o4 o5 a b c d e h i j k l = then_four o1 o2 o3 o4 o5 b c d e i j k l ∙ then_one o o1 a (b ++ (c ++ (d ++ (e ++ [])))) h
