-- Lines between line feeds.
use Rattle.std.proofs.Common.{◌≡◌, ◌≢◌, ◌≤◌, ℕ, List, [], ◌∷◌, ◌++◌, length, map, refl, sym, ◌∙◌, ap, subst, arith, append_assoc, length-append}
use Rattle.std.specs.Prelude.{All}
use Rattle.std.proofs.lemmas.Bool.{false≢true}
use Rattle.std.proofs.lemmas.Grind.{flat_map-append}
use Rattle.std.proofs.lemmas.List.{append_cancel_right}
use Rattle.std.proofs.lemmas.List.Folds.{flat_map-map}
use Rattle.std.proofs.lemmas.List.Elements.{All-append}
use Rattle.certificate.specs.declared.lines.Line.{Line}
use Rattle.certificate.specs.declared.words.Token.{Token}
use Rattle.certificate.specs.declared.words.Token.TheVariants.{Word}
use Rattle.certificate.specs.Text.{line_text, text_of}
use Rattle.certificate.specs.Reading.{is_break, token_text, closed, IsToken, line_key, line_rest, IsLine}
use Rattle.certificate.specs.FirstFault.{IsCertificate, Begins, IsPlain, fed, Stops}
use Rattle.certificate.proofs.Lists.{first_all, rest_all, none_all, both_all}
use Rattle.certificate.proofs.Tokens.{IsWord, token_word}
use Rattle.certificate.proofs.Joined.{line_closed, line_fits}

abbrev IsOther : ℕ → Type 0
IsOther b = b ≢ 10

plain_word : (w : List ℕ) → IsWord w → IsPlain w
plain_word [] h = none_all IsOther
plain_word (b ∷ bs) h = both_all IsOther b bs (λ e. false≢true (sym h.0 ∙ ap is_break e)) (plain_word bs h.1)

record Spaced (ts : List Token) : Type 0 where
  words : List ℕ
  plain : IsPlain words
  text : closed ts ≡ words ++ 10 ∷ []

spaced : (t : Token) (ts : List Token) → All IsToken (t ∷ ts) → Spaced (t ∷ ts)
spaced t [] h = record { words = token_text t; plain = plain_word (token_text t) (token_word t (first_all IsToken t [] h)); text = refl }
spaced t (u ∷ us) h =
    let r = spaced u us (rest_all IsToken t (u ∷ us) h) in
    record {
      words = token_text t ++ 32 ∷ r.words;
      plain = All-append IsOther (token_text t) (32 ∷ r.words) (plain_word (token_text t) (token_word t (first_all IsToken t (u ∷ us) h))) (both_all IsOther 32 r.words (λ e. omega (arith, e)) r.plain);
      text = ap (λ (x : List ℕ). token_text t ++ 32 ∷ x) r.text ∙ sym (append_assoc (token_text t) (32 ∷ r.words) (10 ∷ []));
    }

pub plain_line : (l : Line) → IsLine l → IsPlain (line_text l)
plain_line l is =
    let r = spaced (Word (line_key l)) (line_rest l) (line_fits l is) in
    subst IsPlain (sym (append_cancel_right (line_text l) r.words (10 ∷ []) (line_closed l ∙ r.text))) r.plain

pub plain_lines : (ls : List Line) → All IsLine ls → All IsPlain (map line_text ls)
plain_lines [] h = none_all IsPlain
plain_lines (l ∷ ls) h = both_all IsPlain (line_text l) (map line_text ls) (plain_line l (first_all IsLine l ls h)) (plain_lines ls (rest_all IsLine l ls h))

pub fed_lines : (ls : List Line) → fed (map line_text ls) ≡ text_of ls
fed_lines ls = flat_map-map (λ (x : List ℕ). x ++ 10 ∷ []) line_text ls

pub fed-append : (xs ys : List (List ℕ)) → fed (xs ++ ys) ≡ fed xs ++ fed ys
fed-append xs ys = flat_map-append (λ (x : List ℕ). x ++ 10 ∷ []) xs ys

pub fed_first : (x : List ℕ) (xs : List (List ℕ)) (r : List ℕ) → fed (x ∷ xs) ++ r ≡ x ++ 10 ∷ (fed xs ++ r)
fed_first x xs r = append_assoc (x ++ 10 ∷ []) (fed xs) r ∙ append_assoc x (10 ∷ []) (fed xs ++ r)

pub fed_long : (xs : List (List ℕ)) → length xs ≤ length (fed xs)
fed_long [] = omega arith
fed_long (x ∷ xs) = omega (arith, fed_long xs, length-append (x ++ 10 ∷ []) (fed xs), length-append x (10 ∷ []))

-- ## The first line feed

pub record SameSplit (a b r s : List ℕ) : Type 0 where
  pub line : a ≡ b
  pub rest : r ≡ s

pub split : (a b r s : List ℕ) → IsPlain a → IsPlain b → a ++ 10 ∷ r ≡ b ++ 10 ∷ s → SameSplit a b r s
split [] [] r s p q e = record { line = refl; rest = cc }
split [] (y ∷ b) r s p q e = let h : y ≡ 10 = cc in absurd (first_all IsOther y b q h)
split (x ∷ a) [] r s p q e = let h : x ≡ 10 = cc in absurd (first_all IsOther x a p h)
split (x ∷ a) (y ∷ b) r s p q e =
    let h : x ≡ y = cc in
    let t : a ++ 10 ∷ r ≡ b ++ 10 ∷ s = cc in
    let k = split a b r s (rest_all IsOther x a p) (rest_all IsOther y b q) t in
    let w = k.line in
    record { line = λ i. h i ∷ w i; rest = k.rest }

-- ## Lines behind lines

pub record Behind (xs ys : List (List ℕ)) (r s : List ℕ) : Type 0 where
  pub more : List (List ℕ)
  pub lines : ys ≡ xs ++ more
  pub rest : r ≡ fed more ++ s
  pub plain : All IsPlain more

pub behind : (xs ys : List (List ℕ)) (r s : List ℕ) → All IsPlain xs → All IsPlain ys → fed xs ++ r ≡ fed ys ++ s → length xs ≤ length ys → Behind xs ys r s
behind [] ys r s p q e le = record { more = ys; lines = refl; rest = e; plain = q }
behind (x ∷ xs) [] r s p q e le = absurd (omega (arith, le))
behind (x ∷ xs) (y ∷ ys) r s p q e le =
    let w = split x y (fed xs ++ r) (fed ys ++ s) (first_all IsPlain x xs p) (first_all IsPlain y ys q) (sym (fed_first x xs r) ∙ e ∙ fed_first y ys s) in
    let k = behind xs ys r s (rest_all IsPlain x xs p) (rest_all IsPlain y ys q) w.rest (omega (arith, le)) in
    let h = w.line in
    let t = k.lines in
    record { more = k.more; lines = λ i. sym h i ∷ t i; rest = k.rest; plain = k.plain }

pub begins_front : (a b : List ℕ) → Begins (a ++ b) → Begins a
begins_front a b h = (b ++ h.0, subst IsCertificate (append_assoc a b h.0) h.1)

-- a text stops where it stops
pub goes_no_on : (text rest : List ℕ) (n : ℕ) (a : Stops text n rest) (more : List (List ℕ)) (s : List ℕ) → All IsPlain more → rest ≡ fed more ++ s → Begins (fed (a.lines ++ more)) → more ≡ []
goes_no_on text rest n a [] s p e b = refl
goes_no_on text rest n a (z ∷ zs) s p e b =
    absurd (a.stuck z (fed zs ++ s) (first_all IsPlain z zs p) (e ∙ fed_first z zs s)
    (begins_front (fed (a.lines ++ z ∷ [])) (fed zs) (subst Begins (ap fed (sym (append_assoc a.lines (z ∷ []) zs)) ∙ fed-append (a.lines ++ z ∷ []) zs) b)))
