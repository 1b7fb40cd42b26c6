-- Ordinary bytes, one after the other.
use Rattle.std.proofs.Common.{◌≡◌, ℕ, Bool, true, false, not, ◌&&◌, ◌||◌, ◌+◌, ◌-◌, ◌<◌, ◌≤◌, ◌==◌, List, [], ◌∷◌, ◌++◌, map, length, take, drop, get_or, slice_range, refl, sym, ap, ◌∙◌, arith, append_assoc}
use Rattle.std.specs.List.{list_all}
use Rattle.std.proofs.lemmas.Bool.{false≢true, true≢false}
use Rattle.std.proofs.lemmas.List.{append-nil, get_or-drop, length-drop}
use Rattle.std.proofs.lemmas.List.Folds.{list_all_more, drop_split}
use Rattle.edifact_segments.specs.Characters.{Character, Plain, is_control, is_release, elements_of}
use Rattle.edifact_segments.specs.Scanning.{front, is_ordinary, with_character}
use Rattle.edifact_segments.specs.declared.service.Service.{Service}
use Rattle.edifact_segments.proofs.ScanLemmas.{opened, behind, with_characters, with_characters-push, elements_of-push, opened-byte}

-- one more byte that passes
pub range-all-more : (p : ℕ → Bool) (bytes : List ℕ) (from at : ℕ) → from ≤ at → at < length bytes → list_all p (slice_range bytes from at) ≡ true → p (get_or bytes at 0) ≡ true → list_all p (slice_range bytes from (at + 1)) ≡ true
range-all-more p bytes from at le lt before here =
    let count : at + 1 - from ≡ at - from + 1 = omega (arith, le) in
    let place : from + (at - from) ≡ at = omega (arith, le) in
    let within : at - from < length (drop from bytes) = rw (length-drop from bytes) (omega (arith, le, lt)) in
    let byte : p (get_or (drop from bytes) (at - from) 0) ≡ true = rw (get_or-drop from bytes (at - from) 0, place) here in
    ap (λ n. list_all p (take n (drop from bytes))) count ∙ list_all_more p (drop from bytes) (at - from) 0 within ∙ ap (λ b. b && p (get_or (drop from bytes) (at - from) 0)) before ∙ byte

record Stands (s : Service) (b : ℕ) : Type 0 where
  no_control : is_control b ≡ false
  no_release : is_release s b ≡ false
  no_terminator : (b == s.terminator) ≡ false
  no_element : (b == s.element) ≡ false
  no_component : (b == s.component) ≡ false

none_of : (p q r t u : Bool) → (not p && not q && not r && not t && not u) ≡ true → (p ≡ false) × (q ≡ false) × (r ≡ false) × (t ≡ false) × (u ≡ false)
none_of true q r t u h = absurd (false≢true h)
none_of false true r t u h = absurd (false≢true h)
none_of false false true t u h = absurd (false≢true h)
none_of false false false true u h = absurd (false≢true h)
none_of false false false false true h = absurd (false≢true h)
none_of false false false false false h = (refl, refl, refl, refl, refl)

stands : (s : Service) (b : ℕ) → is_ordinary s b ≡ true → Stands s b
stands s b h =
    let n = none_of (is_control b) (is_release s b) (b == s.terminator) (b == s.element) (b == s.component) h in
    record { no_control = n.0; no_release = n.1; no_terminator = n.2; no_element = n.3; no_component = n.4 }

head_passes : (b c : Bool) → (b && c) ≡ true → b ≡ true
head_passes true c h = refl
head_passes false c h = h

tail_passes : (b c : Bool) → (b && c) ≡ true → c ≡ true
tail_passes true c h = h
tail_passes false c h = absurd (false≢true h)

module _ (s : Service) where
  push_ordinary : (cs : List Character) (b : ℕ) (closed : List (List (List ℕ))) (now : List (List ℕ)) (text : List ℕ) → is_ordinary s b ≡ true → elements_of s cs ≡ opened closed now text → elements_of s (cs ++ Plain b ∷ []) ≡ opened closed now (text ++ b ∷ [])
  push_ordinary cs b closed now text h so =
      let n = stands s b h in
      let f : behind s (Plain b) (opened closed now text) ≡ opened closed now (text ++ b ∷ []) = rw (n.no_element, n.no_component) (opened-byte closed now text b) in
      elements_of-push s cs (Plain b) ∙ ap (behind s (Plain b)) so ∙ f

  step_ordinary : (b : ℕ) (rest : List ℕ) → is_ordinary s b ≡ true → front s false (b ∷ rest) ≡ with_character (Plain b) (front s false rest)
  step_ordinary b rest h =
      let n = stands s b h in
      rw (n.no_control, n.no_release, n.no_terminator) refl

  -- what is found behind ordinary bytes
  pub front-run : (cs : List Character) (run rest : List ℕ) → list_all (is_ordinary s) run ≡ true → with_characters (cs ++ map Plain run) (front s false rest) ≡ with_characters cs (front s false (run ++ rest))
  front-run cs [] rest h = ap (λ ds. with_characters ds (front s false rest)) (append-nil cs)
  front-run cs (b ∷ bs) rest h =
      ap (λ ds. with_characters ds (front s false rest)) (sym (append_assoc cs (Plain b ∷ []) (map Plain bs))) ∙ front-run (cs ++ Plain b ∷ []) bs rest (tail_passes (is_ordinary s b) (list_all (is_ordinary s) bs) h) ∙ with_characters-push cs (Plain b) (front s false (bs ++ rest)) ∙ ap (with_characters cs) (sym (step_ordinary b (bs ++ rest) (head_passes (is_ordinary s b) (list_all (is_ordinary s) bs) h)))

  -- the elements, with ordinary bytes behind the last component's
  pub elements_of-run : (cs : List Character) (run : List ℕ) (closed : List (List (List ℕ))) (now : List (List ℕ)) (text : List ℕ) → list_all (is_ordinary s) run ≡ true → elements_of s cs ≡ opened closed now text → elements_of s (cs ++ map Plain run) ≡ opened closed now (text ++ run)
  elements_of-run cs [] closed now text h so = ap (elements_of s) (append-nil cs) ∙ so ∙ ap (opened closed now) (sym (append-nil text))
  elements_of-run cs (b ∷ bs) closed now text h so =
      let first = push_ordinary cs b closed now text (head_passes (is_ordinary s b) (list_all (is_ordinary s) bs) h) so in
      ap (elements_of s) (sym (append_assoc cs (Plain b ∷ []) (map Plain bs))) ∙ elements_of-run (cs ++ Plain b ∷ []) bs closed now (text ++ b ∷ []) (tail_passes (is_ordinary s b) (list_all (is_ordinary s) bs) h) first ∙ ap (opened closed now) (append_assoc text (b ∷ []) bs)

  -- from a place to the end of the ordinary bytes there
  pub front-range : (cs : List Character) (bytes : List ℕ) (at end : ℕ) → at ≤ end → list_all (is_ordinary s) (slice_range bytes at end) ≡ true → with_characters (cs ++ map Plain (slice_range bytes at end)) (front s false (drop end bytes)) ≡ with_characters cs (front s false (drop at bytes))
  front-range cs bytes at end le h = front-run cs (slice_range bytes at end) (drop end bytes) h ∙ ap (λ x. with_characters cs (front s false x)) (sym (drop_split bytes at end le))

-- a byte that isn't ordinary, and of none of the first three kinds, separates
pub separates : (p q r t u : Bool) → (not p && not q && not r && not t && not u) ≡ false → p ≡ false → q ≡ false → r ≡ false → (t || u) ≡ true
separates p q r true u h e f g = refl
separates p q r false true h e f g = refl
separates true q r false false h e f g = absurd (true≢false e)
separates false true r false false h e f g = absurd (true≢false f)
separates false false true false false h e f g = absurd (true≢false g)
separates false false false false false h e f g = absurd (true≢false h)

-- the bytes of a component, released ones or none in front of the run
pub whole : (old run now text : List ℕ) → (old ≡ [] → now ≡ []) → (0 < length old → now ≡ old ++ run) → (now ≡ [] → text ≡ run) → (0 < length now → text ≡ now) → text ≡ old ++ run
whole [] run now text none some none' some' = none' (none refl)
whole (b ∷ bs) run now text none some none' some' =
    let e : now ≡ (b ∷ bs) ++ run = some (omega arith) in
    let l : 0 < length now = rw e (omega arith) in
    some' l ∙ e
