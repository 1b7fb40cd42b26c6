-- Words that are read one by one.
use Rattle.std.proofs.Common.{◌≡◌, ◌<◌, ◌≤◌, ◌+◌, ◌-◌, ℕ, suc, true, false, List, [], ◌∷◌, ◌++◌, length, drop, get_or, refl, sym, ◌∙◌, ap, subst, arith, append_assoc, length-append, drop-cons, length-take, length-drop, ⊎_elim, get_or-take, get_or-drop}
use Rattle.std.specs.Prelude.{flat_map, All, slice_range, ◌||◌, ◌==◌}
use Rattle.std.proofs.lemmas.Bool.{false≢true, false_from_ne_true, eqb-true, cases_eq}
use Rattle.std.proofs.lemmas.List.{flat_map_more}
use Rattle.std.proofs.lemmas.List.Folds.{drop_split}
use Rattle.certificate.specs.declared.words.Token.{Token}
use Rattle.certificate.specs.Reading.{token_text, IsToken, is_break, tail_text, closed, IsNoLine}
use Rattle.certificate.proofs.Lists.{first_all, rest_all}
use Rattle.certificate.proofs.Tokens.{IsWord, token_word, same_token}

-- words, each with a space behind it
abbrev pub spelled : List Token → List ℕ
spelled ts = flat_map (λ t. token_text t ++ 32 ∷ []) ts

-- ## The first separator

pub record SameFront (a b : List ℕ) (c d : ℕ) (r s : List ℕ) : Type 0 where
  pub word : a ≡ b
  pub separator : c ≡ d
  pub rest : r ≡ s

pub one_front : (a b : List ℕ) (c d : ℕ) (r s : List ℕ) → IsWord a → IsWord b → is_break c ≡ true → is_break d ≡ true → a ++ c ∷ r ≡ b ++ d ∷ s → SameFront a b c d r s
one_front [] [] c d r s p q u v e = record { word = refl; separator = cc; rest = cc }
one_front [] (y ∷ b) c d r s p q u v e = let h : c ≡ y = cc in absurd (false≢true (sym q.0 ∙ ap is_break (sym h) ∙ u))
one_front (x ∷ a) [] c d r s p q u v e = let h : x ≡ d = cc in absurd (false≢true (sym p.0 ∙ ap is_break h ∙ v))
one_front (x ∷ a) (y ∷ b) c d r s p q u v e =
    let h : x ≡ y = cc in
    let t : a ++ c ∷ r ≡ b ++ d ∷ s = cc in
    let k = one_front a b c d r s p.1 q.1 u v t in
    record { word = λ i. h i ∷ k.word i; separator = k.separator; rest = k.rest }

each_word : (xs : List ℕ) → ((i : ℕ) → i < length xs → is_break (get_or xs i 0) ≡ false) → IsWord xs
each_word [] h = tt
each_word (x ∷ xs) h = (h 0 (omega arith), each_word xs (λ i l. h (suc i) (omega arith)))

no_break : (b : ℕ) → (b ≡ 32 → ⊥) → (b ≡ 10 → ⊥) → is_break b ≡ false
no_break b m n =
    let p : (b == 32) ≡ false = false_from_ne_true _ (λ e. m (eqb-true b 32 e)) in
    let q : (b == 10) ≡ false = false_from_ne_true _ (λ e. n (eqb-true b 10 e)) in
    λ i. p i || q i

-- ## Words of a line, from the front

tail_closed : (t : Token) (ts : List Token) → tail_text (t ∷ ts) ≡ 32 ∷ closed (t ∷ ts)
tail_closed t ts = refl

pub closed_more : (ts : List Token) (t : Token) (us : List Token) → closed (ts ++ t ∷ us) ≡ spelled ts ++ closed (t ∷ us)
closed_more [] t us = refl
closed_more (x ∷ []) t us = sym (append_assoc (token_text x ++ 32 ∷ []) [] (closed (t ∷ us)) ∙ append_assoc (token_text x) (32 ∷ []) (closed (t ∷ us)))
closed_more (x ∷ y ∷ ts) t us =
    ap (λ (z : List ℕ). token_text x ++ 32 ∷ z) (closed_more (y ∷ ts) t us)
    ∙ sym (append_assoc (token_text x ++ 32 ∷ []) (spelled (y ∷ ts)) (closed (t ∷ us)) ∙ append_assoc (token_text x) (32 ∷ []) (spelled (y ∷ ts) ++ closed (t ∷ us)))

-- the words that were read are the first of any line with which the text begins
pub record Goes (ts : List Token) (rest : List ℕ) (all : List Token) (more : List ℕ) : Type 0 where
  pub next : Token
  pub others : List Token
  pub words : all ≡ ts ++ next ∷ others
  pub text : rest ≡ closed (next ∷ others) ++ more

pub goes_on : (ts : List Token) (rest : List ℕ) (u : Token) (us : List Token) (more : List ℕ) → All IsToken ts → All IsToken (u ∷ us) → spelled ts ++ rest ≡ closed (u ∷ us) ++ more → Goes ts rest (u ∷ us) more
goes_on [] rest u us more p q e = record { next = u; others = us; words = refl; text = e }
goes_on (x ∷ ts) rest u [] more p q e =
    let f : token_text x ++ 32 ∷ (spelled ts ++ rest) ≡ token_text u ++ 10 ∷ more =
    sym (append_assoc (token_text x ++ 32 ∷ []) (spelled ts) rest ∙ append_assoc (token_text x) (32 ∷ []) (spelled ts ++ rest)) ∙ e ∙ append_assoc (token_text u) (10 ∷ []) more in
    let k = one_front (token_text x) (token_text u) 32 10 (spelled ts ++ rest) more (token_word x (first_all IsToken x ts p)) (token_word u (first_all IsToken u [] q)) refl refl f in
    absurd (omega (arith, k.separator))
goes_on (x ∷ ts) rest u (y ∷ ys) more p q e =
    let f : token_text x ++ 32 ∷ (spelled ts ++ rest) ≡ token_text u ++ 32 ∷ (closed (y ∷ ys) ++ more) =
    sym (append_assoc (token_text x ++ 32 ∷ []) (spelled ts) rest ∙ append_assoc (token_text x) (32 ∷ []) (spelled ts ++ rest)) ∙ e ∙ append_assoc (token_text u) (32 ∷ closed (y ∷ ys)) more in
    let k = one_front (token_text x) (token_text u) 32 32 (spelled ts ++ rest) (closed (y ∷ ys) ++ more) (token_word x (first_all IsToken x ts p)) (token_word u (first_all IsToken u (y ∷ ys) q)) refl refl f in
    let r = goes_on ts rest y ys more (rest_all IsToken x ts p) (rest_all IsToken u (y ∷ ys) q) k.rest in
    let same : u ≡ x = sym (same_token x u (first_all IsToken x ts p) (first_all IsToken u (y ∷ ys) q) k.word) in
    record { next = r.next; others = r.others; words = λ i. same i ∷ r.words i; text = r.text }

-- ## Where a word ends

pub front_word : (bytes : List ℕ) (from end : ℕ) → from ≤ end → end ≤ length bytes → ((k : ℕ) → from ≤ k → k < end → is_break (get_or bytes k 0) ≡ false) → IsWord (slice_range bytes from end)
front_word bytes from end le within h = each_word (slice_range bytes from end) (λ i l.
    let low : i < end - from = omega (arith, length-take (end - from) (drop from bytes)) in
    let e : get_or (slice_range bytes from end) i 0 ≡ get_or bytes (from + i) 0 = get_or-take (end - from) (drop from bytes) i 0 low ∙ get_or-drop from bytes i 0 in
    ap is_break e ∙ h (from + i) (omega arith) (omega arith))

pub front_split : (bytes : List ℕ) (from end : ℕ) → from ≤ end → end < length bytes → drop from bytes ≡ slice_range bytes from end ++ get_or bytes end 0 ∷ drop (end + 1) bytes
front_split bytes from end le within = drop_split bytes from end le ∙ ap (λ (x : List ℕ). slice_range bytes from end ++ x) (drop-cons bytes end 0 within ∙ ap (λ (n : ℕ). get_or bytes end 0 ∷ drop n bytes) (let e : suc end ≡ end + 1 = omega arith in e))

pub is_feed : (b : ℕ) → is_break b ≡ true → (b ≡ 10 → ⊥) → b ≡ 32
is_feed b e ne = ⊎_elim (λ (h : b ≡ 32). h) (λ (n : b ≡ 32 → ⊥). absurd (false≢true (sym (no_break b n ne) ∙ e))) (cases_eq b 32)

flat_map_more_one : (ts : List Token) (t : Token) → spelled ts ++ (token_text t ++ 32 ∷ []) ≡ spelled (ts ++ t ∷ [])
flat_map_more_one ts t = flat_map_more (λ u. token_text u ++ 32 ∷ []) [] ts t

-- ## When no line stands there

-- the first word of a line, and its separator
record Front (t : Token) (ts : List Token) (more : List ℕ) : Type 0 where
  separator : ℕ
  rest : List ℕ
  is : is_break separator ≡ true
  text : closed (t ∷ ts) ++ more ≡ token_text t ++ separator ∷ rest

front_of : (t : Token) (ts : List Token) (more : List ℕ) → Front t ts more
front_of t [] more = record { separator = 10; rest = more; is = refl; text = append_assoc (token_text t) (10 ∷ []) more }
front_of t (u ∷ us) more = record { separator = 32; rest = closed (u ∷ us) ++ more; is = refl; text = append_assoc (token_text t) (32 ∷ closed (u ∷ us)) more }

no_separator : (w : List ℕ) (b : ℕ) (r : List ℕ) → is_break b ≡ true → IsWord (w ++ b ∷ r) → ⊥
no_separator [] b r e is = false≢true (sym is.0 ∙ e)
no_separator (x ∷ w) b r e is = no_separator w b r e is.1

part_all : (ts : List Token) (t : Token) (us : List Token) → All IsToken (ts ++ t ∷ us) → IsToken t
part_all [] t us h = first_all IsToken t us h
part_all (x ∷ ts) t us h = part_all ts t us (rest_all IsToken x (ts ++ t ∷ us) h)

module _ (bytes : List ℕ) (from at : ℕ) (ts : List Token) (text : drop from bytes ≡ spelled ts ++ drop at bytes) (are : All IsToken ts) where
  goes : (t : Token) (us : List Token) (more : List ℕ) → All IsToken (t ∷ us) → drop from bytes ≡ closed (t ∷ us) ++ more → Goes ts (drop at bytes) (t ∷ us) more
  goes t us more all e = goes_on ts (drop at bytes) t us more are all (sym text ∙ e)

  next_is : (t : Token) (us : List Token) (more : List ℕ) (all : All IsToken (t ∷ us)) (e : drop from bytes ≡ closed (t ∷ us) ++ more) → IsToken (goes t us more all e).next
  next_is t us more all e = let g = goes t us more all e in part_all ts g.next g.others (subst (All IsToken) g.words all)

  pub no_line_end : at ≤ length bytes → ((k : ℕ) → at ≤ k → k < length bytes → is_break (get_or bytes k 0) ≡ false) → IsNoLine (drop from bytes)
  no_line_end within none = λ t us more all few e.
      let g = goes t us more all e in
      let f = front_of g.next g.others more in
      let w : IsWord (drop at bytes) = each_word (drop at bytes) (λ i l. ap is_break (get_or-drop at bytes i 0) ∙ none (at + i) (omega arith) (omega (arith, length-drop at bytes))) in
      no_separator (token_text g.next) f.separator f.rest f.is (subst IsWord (g.text ∙ f.text) w)

  pub no_line_word : (end : ℕ) → at ≤ end → end < length bytes → ((k : ℕ) → at ≤ k → k < end → is_break (get_or bytes k 0) ≡ false) → is_break (get_or bytes end 0) ≡ true → ((t : Token) → IsToken t → token_text t ≡ slice_range bytes at end → ⊥) → IsNoLine (drop from bytes)
  no_line_word end le within none sep bad = λ t us more all few e.
      let g = goes t us more all e in
      let f = front_of g.next g.others more in
      let is = next_is t us more all e in
      let k = one_front (slice_range bytes at end) (token_text g.next) (get_or bytes end 0) f.separator (drop (end + 1) bytes) f.rest
      (front_word bytes at end le (omega arith) none) (token_word g.next is) sep f.is (sym (front_split bytes at end le within) ∙ g.text ∙ f.text) in
      bad g.next is (sym k.word)

  pub no_line_full : 18 ≤ length ts → IsNoLine (drop from bytes)
  no_line_full full = λ t us more all few e.
      let g = goes t us more all e in
      omega (arith, ap length g.words, length-append ts (g.next ∷ g.others))

  module _ (end : ℕ) (le : at ≤ end) (within : end < length bytes) (t : Token) (is : token_text t ≡ slice_range bytes at end) where
    read : drop from bytes ≡ spelled ts ++ (token_text t ++ get_or bytes end 0 ∷ drop (end + 1) bytes)
    read = text ∙ ap (λ (x : List ℕ). spelled ts ++ x) (front_split bytes at end le within ∙ ap (λ (x : List ℕ). x ++ get_or bytes end 0 ∷ drop (end + 1) bytes) (sym is))

    pub line_read : get_or bytes end 0 ≡ 10 → drop from bytes ≡ closed (ts ++ t ∷ []) ++ drop (end + 1) bytes
    line_read feed = read
        ∙ ap (λ (b : ℕ). spelled ts ++ (token_text t ++ b ∷ drop (end + 1) bytes)) feed
        ∙ ap (λ (x : List ℕ). spelled ts ++ x) (sym (append_assoc (token_text t) (10 ∷ []) (drop (end + 1) bytes)))
        ∙ sym (append_assoc (spelled ts) (closed (t ∷ [])) (drop (end + 1) bytes))
        ∙ ap (λ (x : List ℕ). x ++ drop (end + 1) bytes) (sym (closed_more ts t []))

    pub word_read : get_or bytes end 0 ≡ 32 → drop from bytes ≡ spelled (ts ++ t ∷ []) ++ drop (end + 1) bytes
    word_read space = read
        ∙ ap (λ (b : ℕ). spelled ts ++ (token_text t ++ b ∷ drop (end + 1) bytes)) space
        ∙ ap (λ (x : List ℕ). spelled ts ++ x) (sym (append_assoc (token_text t) (32 ∷ []) (drop (end + 1) bytes)))
        ∙ sym (append_assoc (spelled ts) (token_text t ++ 32 ∷ []) (drop (end + 1) bytes))
        ∙ ap (λ (x : List ℕ). x ++ drop (end + 1) bytes) (flat_map_more_one ts t)

-- ## One line at the front

pub record SameLine (t : Token) (ts : List Token) (u : Token) (us : List Token) (r s : List ℕ) : Type 0 where
  pub first : t ≡ u
  pub others : ts ≡ us
  pub rest : r ≡ s

pub same_closed : (t : Token) (ts : List Token) (u : Token) (us : List Token) (r s : List ℕ) → All IsToken (t ∷ ts) → All IsToken (u ∷ us) → closed (t ∷ ts) ++ r ≡ closed (u ∷ us) ++ s → SameLine t ts u us r s
same_closed t [] u [] r s p q e =
    let k = one_front (token_text t) (token_text u) 10 10 r s (token_word t (first_all IsToken t [] p)) (token_word u (first_all IsToken u [] q)) refl refl
    (sym (append_assoc (token_text t) (10 ∷ []) r) ∙ e ∙ append_assoc (token_text u) (10 ∷ []) s) in
    record { first = same_token t u (first_all IsToken t [] p) (first_all IsToken u [] q) k.word; others = refl; rest = k.rest }
same_closed t [] u (y ∷ us) r s p q e =
    let k = one_front (token_text t) (token_text u) 10 32 r (closed (y ∷ us) ++ s) (token_word t (first_all IsToken t [] p)) (token_word u (first_all IsToken u (y ∷ us) q)) refl refl
    (sym (append_assoc (token_text t) (10 ∷ []) r) ∙ e ∙ append_assoc (token_text u) (32 ∷ closed (y ∷ us)) s) in
    absurd (omega (arith, k.separator))
same_closed t (x ∷ ts) u [] r s p q e =
    let k = one_front (token_text t) (token_text u) 32 10 (closed (x ∷ ts) ++ r) s (token_word t (first_all IsToken t (x ∷ ts) p)) (token_word u (first_all IsToken u [] q)) refl refl
    (sym (append_assoc (token_text t) (32 ∷ closed (x ∷ ts)) r) ∙ e ∙ append_assoc (token_text u) (10 ∷ []) s) in
    absurd (omega (arith, k.separator))
same_closed t (x ∷ ts) u (y ∷ us) r s p q e =
    let k = one_front (token_text t) (token_text u) 32 32 (closed (x ∷ ts) ++ r) (closed (y ∷ us) ++ s) (token_word t (first_all IsToken t (x ∷ ts) p)) (token_word u (first_all IsToken u (y ∷ us) q)) refl refl
    (sym (append_assoc (token_text t) (32 ∷ closed (x ∷ ts)) r) ∙ e ∙ append_assoc (token_text u) (32 ∷ closed (y ∷ us)) s) in
    let w = same_closed x ts y us r s (rest_all IsToken t (x ∷ ts) p) (rest_all IsToken u (y ∷ us) q) k.rest in
    let f = w.first in
    let o = w.others in
    record { first = same_token t u (first_all IsToken t (x ∷ ts) p) (first_all IsToken u (y ∷ us) q) k.word; others = λ i. f i ∷ o i; rest = w.rest }
