-- What the reader finds, character by character.
use Rattle.std.proofs.Common.{◌≡◌, ◌≢◌, ℕ, Bool, true, false, cond, ◌==◌, List, [], ◌∷◌, ◌++◌, refl, sym, ap, ◌∙◌, inl, inr, Result, Ok, Err, OnOk}
use Rattle.std.proofs.lemmas.Bool.{eq-eqb}
use Rattle.std.proofs.lemmas.Bool.Decides.{eqb_tells}
use Rattle.edifact_segments.specs.Pieces.{on_last}
use Rattle.edifact_segments.specs.Characters.{Character, Plain, Released, is_control, is_release, with_byte, with_component, in_front_of, elements_of}
use Rattle.edifact_segments.specs.Scanning.{Front, Complete, Broken, Unended, with_character, front}
use Rattle.edifact_segments.specs.declared.service.Service.{Service}
use Rattle.edifact_segments.proofs.PieceLemmas.{on_last-push}

-- characters in front of what is found
abbrev pub with_characters : List Character → Front → Front
with_characters [] f = f
with_characters (c ∷ cs) f = with_character c (with_characters cs f)

pub with_characters-push : (cs : List Character) (c : Character) (f : Front) → with_characters (cs ++ c ∷ []) f ≡ with_characters cs (with_character c f)
with_characters-push [] c f = refl
with_characters-push (d ∷ cs) c f = ap (with_character d) (with_characters-push cs c f)

pub with_characters-complete : (cs : List Character) (next : List ℕ) → with_characters cs (Complete [] next) ≡ Complete cs next
with_characters-complete [] next = refl
with_characters-complete (c ∷ cs) next = ap (with_character c) (with_characters-complete cs next)

pub with_characters-broken : (cs : List Character) (left : List ℕ) → with_characters cs (Broken left) ≡ Broken left
with_characters-broken [] left = refl
with_characters-broken (c ∷ cs) left = ap (with_character c) (with_characters-broken cs left)

pub with_characters-unended : (cs : List Character) → with_characters cs Unended ≡ Unended
with_characters-unended [] = refl
with_characters-unended (c ∷ cs) = ap (with_character c) (with_characters-unended cs)

-- elements with a last one, which has a last component
abbrev pub opened : List (List (List ℕ)) → List (List ℕ) → List ℕ → List (List (List ℕ))
opened closed now text = closed ++ (now ++ text ∷ []) ∷ []

-- what a character does behind elements: a byte of the last component, a new component or a new element
abbrev pub behind : Service → Character → List (List (List ℕ)) → List (List (List ℕ))
behind s (Plain b) es =
    cond (b == s.element) (es ++ ([] ∷ []) ∷ []) (cond (b == s.component) (on_last (λ e. e ++ [] ∷ []) es) (on_last (on_last (λ t. t ++ b ∷ [])) es))
behind s (Released b) es = on_last (on_last (λ t. t ++ b ∷ [])) es

abbrev act_front : Bool → Bool → ℕ → List (List (List ℕ)) → List (List (List ℕ))
act_front p q b es = cond p (([] ∷ []) ∷ es) (cond q (with_component es) (with_byte b es))

abbrev act_behind : Bool → Bool → ℕ → List (List (List ℕ)) → List (List (List ℕ))
act_behind p q b es = cond p (es ++ ([] ∷ []) ∷ []) (cond q (on_last (λ e. e ++ [] ∷ []) es) (on_last (on_last (λ t. t ++ b ∷ [])) es))

commute : (p q r u : Bool) (b x : ℕ) (t : List ℕ) (ts : List (List ℕ)) (es : List (List (List ℕ))) → act_front p q b (act_behind r u x ((t ∷ ts) ∷ es)) ≡ act_behind r u x (act_front p q b ((t ∷ ts) ∷ es))
commute true q true u b x t ts es = refl
commute false true true u b x t ts es = refl
commute false false true u b x t ts es = refl
commute true q false true b x t ts [] = refl
commute true q false true b x t ts (e ∷ es) = refl
commute false true false true b x t ts [] = refl
commute false true false true b x t ts (e ∷ es) = refl
commute false false false true b x t ts [] = refl
commute false false false true b x t ts (e ∷ es) = refl
commute true q false false b x t [] [] = refl
commute true q false false b x t (v ∷ ts) [] = refl
commute true q false false b x t ts (e ∷ es) = refl
commute false true false false b x t [] [] = refl
commute false true false false b x t (v ∷ ts) [] = refl
commute false true false false b x t ts (e ∷ es) = refl
commute false false false false b x t [] [] = refl
commute false false false false b x t (v ∷ ts) [] = refl
commute false false false false b x t ts (e ∷ es) = refl

-- there is a first component
record IsShaped (es : List (List (List ℕ))) : Type 0 where
  first : List ℕ
  more : List (List ℕ)
  rest : List (List (List ℕ))
  is : es ≡ (first ∷ more) ∷ rest

shaped-front : (p q : Bool) (b : ℕ) (es : List (List (List ℕ))) → IsShaped es → IsShaped (act_front p q b es)
shaped-front true q b es h = record { first = []; more = []; rest = es; is = refl }
shaped-front false true b es h = record { first = []; more = h.first ∷ h.more; rest = h.rest; is = ap with_component h.is }
shaped-front false false b es h = record { first = b ∷ h.first; more = h.more; rest = h.rest; is = ap (with_byte b) h.is }

shaped : (s : Service) (cs : List Character) → IsShaped (elements_of s cs)
shaped s [] = record { first = []; more = []; rest = []; is = refl }
shaped s (Plain b ∷ cs) = shaped-front (b == s.element) (b == s.component) b (elements_of s cs) (shaped s cs)
shaped s (Released b ∷ cs) = shaped-front false false b (elements_of s cs) (shaped s cs)

commute' : (p q r u : Bool) (b x : ℕ) (es : List (List (List ℕ))) → IsShaped es → act_front p q b (act_behind r u x es) ≡ act_behind r u x (act_front p q b es)
commute' p q r u b x es h = ap (λ e. act_front p q b (act_behind r u x e)) h.is ∙ commute p q r u b x h.first h.more h.rest ∙ sym (ap (λ e. act_behind r u x (act_front p q b e)) h.is)

past : (s : Service) (d c : Character) (es : List (List (List ℕ))) → IsShaped es → in_front_of s d (behind s c es) ≡ behind s c (in_front_of s d es)
past s (Plain b) (Plain x) es h = commute' (b == s.element) (b == s.component) (x == s.element) (x == s.component) b x es h
past s (Plain b) (Released x) es h = commute' (b == s.element) (b == s.component) false false b x es h
past s (Released b) (Plain x) es h = commute' false false (x == s.element) (x == s.component) b x es h
past s (Released b) (Released x) es h = commute' false false false false b x es h

alone : (p q : Bool) (b : ℕ) → act_front p q b (([] ∷ []) ∷ []) ≡ act_behind p q b (([] ∷ []) ∷ [])
alone true q b = refl
alone false true b = refl
alone false false b = refl

-- one more character
pub elements_of-push : (s : Service) (cs : List Character) (c : Character) → elements_of s (cs ++ c ∷ []) ≡ behind s c (elements_of s cs)
elements_of-push s [] (Plain b) = alone (b == s.element) (b == s.component) b
elements_of-push s [] (Released b) = refl
elements_of-push s (d ∷ cs) c = ap (in_front_of s d) (elements_of-push s cs c) ∙ past s d c (elements_of s cs) (shaped s cs)

-- one more byte of the last component
pub opened-byte : (closed : List (List (List ℕ))) (now : List (List ℕ)) (text : List ℕ) (b : ℕ) → on_last (on_last (λ t. t ++ b ∷ [])) (opened closed now text) ≡ opened closed now (text ++ b ∷ [])
opened-byte closed now text b = on_last-push (on_last (λ t. t ++ b ∷ [])) closed (now ++ text ∷ []) ∙ ap (λ e. closed ++ e ∷ []) (on_last-push (λ t. t ++ b ∷ []) now text)

-- a new component
pub opened-component : (closed : List (List (List ℕ))) (now : List (List ℕ)) (text : List ℕ) → on_last (λ e. e ++ [] ∷ []) (opened closed now text) ≡ opened closed (now ++ text ∷ []) []
opened-component closed now text = on_last-push (λ e. e ++ [] ∷ []) closed (now ++ text ∷ [])

module _ (s : Service) (cs : List Character) (rest : List ℕ) (bytes : List ℕ) (found : Front) (so : with_characters cs (front s false bytes) ≡ found) (b : ℕ) (here : bytes ≡ b ∷ rest) where
  at_byte : with_characters cs (front s false (b ∷ rest)) ≡ found
  at_byte = ap (λ x. with_characters cs (front s false x)) (sym here) ∙ so

  pub step_control : is_control b ≡ true → found ≡ Broken bytes
  step_control e =
      let f : front s false (b ∷ rest) ≡ Broken (b ∷ rest) = rw e refl in
      sym at_byte ∙ ap (with_characters cs) f ∙ with_characters-broken cs (b ∷ rest) ∙ ap Broken (sym here)

  released : is_control b ≡ false → is_release s b ≡ true → found ≡ with_characters cs (front s true rest)
  released e r =
      let f : front s false (b ∷ rest) ≡ front s true rest = rw (e, r) refl in
      sym at_byte ∙ ap (with_characters cs) f

  pub step_unended : is_control b ≡ false → is_release s b ≡ true → rest ≡ [] → found ≡ Unended
  step_unended e r n = released e r ∙ ap (λ x. with_characters cs (front s true x)) n ∙ with_characters-unended cs

  pub step_released_control : is_control b ≡ false → is_release s b ≡ true → (c : ℕ) (more : List ℕ) → rest ≡ c ∷ more → is_control c ≡ true → found ≡ Broken rest
  step_released_control e r c more n k =
      let f : front s true (c ∷ more) ≡ Broken (c ∷ more) = rw k refl in
      released e r ∙ ap (λ x. with_characters cs (front s true x)) n ∙ ap (with_characters cs) f ∙ with_characters-broken cs (c ∷ more) ∙ ap Broken (sym n)

  pub step_released : is_control b ≡ false → is_release s b ≡ true → (c : ℕ) (more : List ℕ) → rest ≡ c ∷ more → is_control c ≡ false → with_characters (cs ++ Released c ∷ []) (front s false more) ≡ found
  step_released e r c more n k =
      let f : front s true (c ∷ more) ≡ with_character (Released c) (front s false more) = rw k refl in
      with_characters-push cs (Released c) (front s false more) ∙ sym (released e r ∙ ap (λ x. with_characters cs (front s true x)) n ∙ ap (with_characters cs) f)

  pub step_terminator : is_control b ≡ false → is_release s b ≡ false → (b == s.terminator) ≡ true → found ≡ Complete cs rest
  step_terminator e r t =
      let f : front s false (b ∷ rest) ≡ Complete [] rest = rw (e, r, t) refl in
      sym at_byte ∙ ap (with_characters cs) f ∙ with_characters-complete cs rest

  pub step_plain : is_control b ≡ false → is_release s b ≡ false → (b == s.terminator) ≡ false → with_characters (cs ++ Plain b ∷ []) (front s false rest) ≡ found
  step_plain e r t =
      let f : front s false (b ∷ rest) ≡ with_character (Plain b) (front s false rest) = rw (e, r, t) refl in
      with_characters-push cs (Plain b) (front s false rest) ∙ ap (with_characters cs) (sym f) ∙ at_byte

pub on_ok : {T E P Q R : Type 0} (r : Result T E) → OnOk r P → OnOk r Q → (P → Q → R) → OnOk r R
on_ok (Ok x) p q f = f p q
on_ok (Err e) p q f = tt

pub not_eqb : (a b : ℕ) → a ≢ b → (a == b) ≡ false
not_eqb a b h = elim (eqb_tells a b) as (λ _. (a == b) ≡ false) [ inl w ↦ absurd (h w.1) | inr w ↦ w.0 ]

module _ (s : Service) (cs : List Character) (b : ℕ) (closed : List (List (List ℕ))) (now : List (List ℕ)) (text text' : List ℕ) (so : elements_of s cs ≡ opened closed now text) where
  pub push_element : b ≡ s.element → text' ≡ [] → elements_of s (cs ++ Plain b ∷ []) ≡ opened (opened closed now text) [] text'
  push_element e n =
      let f : behind s (Plain b) (opened closed now text) ≡ opened closed now text ++ ([] ∷ []) ∷ [] = rw (eq-eqb b s.element e) refl in
      elements_of-push s cs (Plain b) ∙ ap (behind s (Plain b)) so ∙ f ∙ ap (λ t. opened closed now text ++ (t ∷ []) ∷ []) (sym n)

  pub push_component : b ≢ s.element → b ≡ s.component → text' ≡ [] → elements_of s (cs ++ Plain b ∷ []) ≡ opened closed (now ++ text ∷ []) text'
  push_component ne e n =
      let f : behind s (Plain b) (opened closed now text) ≡ on_last (λ e. e ++ [] ∷ []) (opened closed now text) = rw (not_eqb b s.element ne, eq-eqb b s.component e) refl in
      elements_of-push s cs (Plain b) ∙ ap (behind s (Plain b)) so ∙ f ∙ opened-component closed now text ∙ ap (opened closed (now ++ text ∷ [])) (sym n)

  pub push_byte : b ≢ s.element → b ≢ s.component → text' ≡ text ++ b ∷ [] → elements_of s (cs ++ Plain b ∷ []) ≡ opened closed now text'
  push_byte ne nc n =
      let f : behind s (Plain b) (opened closed now text) ≡ on_last (on_last (λ t. t ++ b ∷ [])) (opened closed now text) = rw (not_eqb b s.element ne, not_eqb b s.component nc) refl in
      elements_of-push s cs (Plain b) ∙ ap (behind s (Plain b)) so ∙ f ∙ opened-byte closed now text b ∙ ap (opened closed now) (sym n)

  pub push_released : text' ≡ text ++ b ∷ [] → elements_of s (cs ++ Released b ∷ []) ≡ opened closed now text'
  push_released n =
      elements_of-push s cs (Released b) ∙ ap (behind s (Released b)) so ∙ opened-byte closed now text b ∙ ap (opened closed now) (sym n)
