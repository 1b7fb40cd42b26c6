-- How a list that is cut into pieces grows, and its pieces by number.
use Rattle.std.proofs.Common.{◌≡◌, ℕ, ◌+◌, ◌-◌, ◌<◌, ◌≤◌, List, [], ◌∷◌, ◌++◌, length, take, drop, get_or, slice_range, suc, refl, sym, ap, ◌∙◌, arith, add-one, length-drop, length-append}
use Rattle.std.proofs.lemmas.List.{take-append-le, drop-append-le, take_rest, get_or-take, get_or-drop, get_or_past}
use Rattle.std.proofs.lemmas.List.Edits.{length-between}
use Rattle.edifact_segments.specs.Pieces.{first_or, IsAscending, pieces, on_last}

-- a piece that ends within xs is the same in a longer list
pub range-append : {A : Type 0} (xs ys : List A) (s t : ℕ) → s ≤ t → t ≤ length xs → slice_range (xs ++ ys) s t ≡ slice_range xs s t
range-append xs ys s t st tn =
    ap (take (t - s)) (drop-append-le s xs ys (omega arith)) ∙ take-append-le (t - s) (drop s xs) ys (omega (arith, length-drop s xs))

-- the last piece takes what is added
pub range-append_last : {A : Type 0} (xs ys : List A) (s : ℕ) → s ≤ length xs → slice_range (xs ++ ys) s (length (xs ++ ys)) ≡ slice_range xs s (length xs) ++ ys
range-append_last xs ys s sn =
    take_rest (xs ++ ys) s ∙ drop-append-le s xs ys sn ∙ ap (λ p. p ++ ys) (sym (take_rest xs s))

-- every place is at most the end
first_or-le : (ss : List ℕ) (n : ℕ) → IsAscending ss n → first_or ss n ≤ n
first_or-le [] n a = omega arith
first_or-le (s ∷ ss) n a = omega (arith, a.0, first_or-le ss n a.1)

pub length-pieces : {A : Type 0} (ss : List ℕ) (xs : List A) → length (pieces ss xs) ≡ length ss
length-pieces [] xs = refl
length-pieces (s ∷ ss) xs = ap (λ n. suc n) (length-pieces ss xs)

pub ascending-push : (ss : List ℕ) (n m : ℕ) → IsAscending ss n → n ≤ m → IsAscending (ss ++ n ∷ []) m
ascending-push [] n m a h = (h, tt)
ascending-push (s ∷ []) n m a h = (a.0, (h, tt))
ascending-push (s ∷ t ∷ ss) n m a h = (a.0, ascending-push (t ∷ ss) n m a.1 h)

pub ascending-more : (ss : List ℕ) (n m : ℕ) → IsAscending ss n → n ≤ m → IsAscending ss m
ascending-more [] n m a h = tt
ascending-more (s ∷ []) n m a h = (omega (arith, a.0), tt)
ascending-more (s ∷ t ∷ ss) n m a h = (a.0, ascending-more (t ∷ ss) n m a.1 h)

-- a new piece begins at the end, and has nothing
pub pieces-push : {A : Type 0} (ss : List ℕ) (xs : List A) → pieces (ss ++ length xs ∷ []) xs ≡ pieces ss xs ++ [] ∷ []
pieces-push [] xs =
    let e : length xs - length xs ≡ 0 = omega arith in
    ap (λ k. take k (drop (length xs) xs) ∷ []) e
pieces-push (s ∷ []) xs = ap (λ ps. slice_range xs s (length xs) ∷ ps) (pieces-push [] xs)
pieces-push (s ∷ t ∷ ss) xs = ap (λ ps. slice_range xs s t ∷ ps) (pieces-push (t ∷ ss) xs)

-- what is added goes into the last piece
pub pieces-append : {A : Type 0} (ss : List ℕ) (xs ys : List A) → IsAscending ss (length xs) → pieces ss (xs ++ ys) ≡ on_last (λ p. p ++ ys) (pieces ss xs)
pieces-append [] xs ys a = refl
pieces-append (s ∷ []) xs ys a = ap (λ p. p ∷ []) (range-append_last xs ys s a.0)
pieces-append (s ∷ t ∷ ss) xs ys a =
    let tn : t ≤ length xs = omega (arith, a.1.0, first_or-le ss (length xs) a.1.1) in
    ap (λ p. p ∷ pieces (t ∷ ss) (xs ++ ys)) (range-append xs ys s t a.0 tn) ∙ ap (λ ps. slice_range xs s t ∷ ps) (pieces-append (t ∷ ss) xs ys a.1)

pub on_last-push : {A : Type 0} (f : A → A) (xs : List A) (x : A) → on_last f (xs ++ x ∷ []) ≡ xs ++ f x ∷ []
on_last-push f [] x = refl
on_last-push f (y ∷ []) x = refl
on_last-push f (y ∷ z ∷ xs) x = ap (λ ps. y ∷ ps) (on_last-push f (z ∷ xs) x)

-- a new piece of what is added
pub pieces-push_append : {A : Type 0} (ss : List ℕ) (xs ys : List A) → IsAscending ss (length xs) → pieces (ss ++ length xs ∷ []) (xs ++ ys) ≡ pieces ss xs ++ ys ∷ []
pieces-push_append ss xs ys a =
    let up : IsAscending (ss ++ length xs ∷ []) (length xs) = ascending-push ss (length xs) (length xs) a (omega arith) in
    pieces-append (ss ++ length xs ∷ []) xs ys up ∙ ap (on_last (λ p. p ++ ys)) (pieces-push ss xs) ∙ on_last-push (λ p. p ++ ys) (pieces ss xs) []

at_suc : {A : Type 0} (ss : List ℕ) (xs : List A) (i : ℕ) (d : List A) → i < length ss → get_or (pieces ss xs) i d ≡ slice_range xs (get_or ss i 0) (get_or ss (suc i) (length xs))
at_suc [] xs i d h = absurd (omega arith)
at_suc (s ∷ []) xs ℕ.zero d h = refl
at_suc (s ∷ t ∷ ss) xs ℕ.zero d h = refl
at_suc (s ∷ ss) xs (suc i) d h = at_suc ss xs i d (omega arith)

-- a piece by its number
pub pieces-at : {A : Type 0} (ss : List ℕ) (xs : List A) (i : ℕ) (d : List A) → i < length ss → get_or (pieces ss xs) i d ≡ slice_range xs (get_or ss i 0) (get_or ss (i + 1) (length xs))
pieces-at ss xs i d h = at_suc ss xs i d h ∙ ap (λ k. slice_range xs (get_or ss i 0) (get_or ss k (length xs))) (sym (add-one i))

-- an item of a piece
pub get_or-range : {A : Type 0} (xs : List A) (s t j : ℕ) (d : A) → j < t - s → get_or (slice_range xs s t) j d ≡ get_or xs (s + j) d
get_or-range xs s t j d h = get_or-take (t - s) (drop s xs) j d h ∙ get_or-drop s xs j d

-- how many items a piece has that begins at s and ends at t
pub length-piece : {A : Type 0} (ss : List ℕ) (xs : List A) (i n : ℕ) → i < length ss → length xs ≡ n → get_or ss (i + 1) n ≤ n → length (get_or (pieces ss xs) i []) ≡ get_or ss (i + 1) n - get_or ss i 0
length-piece ss xs i n h e le =
    ap length (pieces-at ss xs i [] h) ∙ length-between xs (get_or ss i 0) (get_or ss (i + 1) (length xs)) (rw e le) ∙ ap (λ m. get_or ss (i + 1) m - get_or ss i 0) e

pub length-past : {A : Type 0} (ss : List ℕ) (xs : List A) (i : ℕ) → length ss ≤ i → 0 ≡ length (get_or (pieces ss xs) i [])
length-past ss xs i h = ap length (sym (get_or_past (pieces ss xs) i [] (omega (arith, h, length-pieces ss xs))))

-- an item of a piece, by their numbers
pub get_or-piece : {A : Type 0} (ss : List ℕ) (xs : List A) (i j n : ℕ) (d : A) → i < length ss → length xs ≡ n → j < get_or ss (i + 1) n - get_or ss i 0 → get_or (get_or (pieces ss xs) i []) j d ≡ get_or xs (get_or ss i 0 + j) d
get_or-piece ss xs i j n d h e jn =
    ap (λ p. get_or p j d) (pieces-at ss xs i [] h) ∙ get_or-range xs (get_or ss i 0) (get_or ss (i + 1) (length xs)) j d (rw e jn)

next-is : (ss : List ℕ) (n : ℕ) → get_or ss 0 n ≡ first_or ss n
next-is [] n = refl
next-is (s ∷ ss) n = refl

ordered_suc : (ss : List ℕ) (n i : ℕ) → IsAscending ss n → i < length ss → (get_or ss i 0 ≤ get_or ss (suc i) n) × (get_or ss (suc i) n ≤ n)
ordered_suc [] n i a h = absurd (omega arith)
ordered_suc (s ∷ ss) n ℕ.zero a h =
    let le : first_or ss n ≤ n = first_or-le ss n a.1 in
    rw (next-is ss n) (a.0, le)
ordered_suc (s ∷ ss) n (suc i) a h = ordered_suc ss n i a.1 (omega arith)

-- a piece begins no later than it ends, and ends no later than the list
pub ordered : (ss : List ℕ) (n i : ℕ) → IsAscending ss n → i < length ss → get_or ss i 0 ≤ get_or ss (i + 1) n
ordered ss n i a h = rw add-one (ordered_suc ss n i a h).0

pub bounded : (ss : List ℕ) (n i : ℕ) → IsAscending ss n → i < length ss → get_or ss (i + 1) n ≤ n
bounded ss n i a h = rw add-one (ordered_suc ss n i a h).1

module _ (es cs bs : List ℕ) (now : List (List (List ℕ))) (shown : pieces es (pieces cs bs) ≡ now) (ascend : IsAscending es (length cs)) (ascend' : IsAscending cs (length bs)) where
  -- a new element
  pub shown-push : (es' : List ℕ) (n : ℕ) → es' ≡ es ++ n ∷ [] → n ≡ length cs → pieces es' (pieces cs bs) ≡ now ++ [] ∷ []
  shown-push es' n e en =
      let at_end : n ≡ length (pieces cs bs) = en ∙ sym (length-pieces cs bs) in
      ap (λ p. pieces p (pieces cs bs)) (e ∙ ap (λ m. es ++ m ∷ []) at_end) ∙ pieces-push es (pieces cs bs) ∙ ap (λ p. p ++ [] ∷ []) shown

  pub ascending-element : (es' : List ℕ) (n : ℕ) → es' ≡ es ++ n ∷ [] → n ≡ length cs → IsAscending es' (length cs) × IsAscending cs (length bs)
  ascending-element es' n e en =
      (rw (e, en) (ascending-push es (length cs) (length cs) ascend (omega arith)), ascend')

  -- a new component of the last element
  pub shown-add : (cs' bs' text : List ℕ) (n : ℕ) → bs' ≡ bs ++ text → cs' ≡ cs ++ n ∷ [] → n ≡ length bs → pieces es (pieces cs' bs') ≡ on_last (λ e. e ++ text ∷ []) now
  shown-add cs' bs' text n eb ec en =
      let texts : pieces cs' bs' ≡ pieces cs bs ++ text ∷ [] = ap (λ p. pieces p bs') (ec ∙ ap (λ m. cs ++ m ∷ []) en) ∙ ap (pieces (cs ++ length bs ∷ [])) eb ∙ pieces-push_append cs bs text ascend' in
      let fits : IsAscending es (length (pieces cs bs)) = rw (length-pieces cs bs) ascend in
      ap (pieces es) texts ∙ pieces-append es (pieces cs bs) (text ∷ []) fits ∙ ap (on_last (λ e. e ++ text ∷ [])) shown

  pub ascending-component : (cs' bs' text : List ℕ) (n : ℕ) → bs' ≡ bs ++ text → cs' ≡ cs ++ n ∷ [] → n ≡ length bs → IsAscending es (length cs') × IsAscending cs' (length bs')
  ascending-component cs' bs' text n eb ec en =
      let more : length cs ≤ length cs' = rw (ec, length-append cs (n ∷ [])) (omega arith) in
      let fits : length bs ≤ length bs' = rw (eb, length-append bs text) (omega arith) in
      (ascending-more es (length cs) (length cs') ascend more, rw (ec, en) (ascending-push cs (length bs) (length bs') ascend' fits))

  -- the number of components of an element
  pub shown-length : (i from to : ℕ) → i < length es → from ≡ get_or es i 0 → to ≡ get_or es (i + 1) (length cs) → to ≤ length cs → to - from ≡ length (get_or now i [])
  shown-length i from to h ef et le =
      let fits : get_or es (i + 1) (length cs) ≤ length cs = rw (← et) le in
      ap (λ m. m - from) et ∙ ap (λ m. get_or es (i + 1) (length cs) - m) ef ∙ sym (length-piece es (pieces cs bs) i (length cs) h (length-pieces cs bs) fits) ∙ ap (λ ps. length (get_or ps i [])) shown

  pub shown-past : (i : ℕ) → length es ≤ i → get_or now i [] ≡ []
  shown-past i h = ap (λ ps. get_or ps i []) (sym shown) ∙ get_or_past (pieces es (pieces cs bs)) i [] (omega (arith, h, length-pieces es (pieces cs bs)))

  -- a component by its number
  pub shown-component : (i j from to a b : ℕ) → i < length es → from ≡ get_or es i 0 → to ≡ get_or es (i + 1) (length cs) → j < to - from → from + j < length cs → a ≡ get_or cs (from + j) 0 → b ≡ get_or cs (from + j + 1) (length bs) → slice_range bs a b ≡ get_or (get_or now i []) j []
  shown-component i j from to a b h ef et jn kn ea eb =
      ap (λ m. slice_range bs m b) ea ∙ ap (λ m. slice_range bs (get_or cs (from + j) 0) m) eb ∙ sym (pieces-at cs bs (from + j) [] kn) ∙ ap (λ m. get_or (pieces cs bs) (m + j) []) ef ∙ sym (get_or-piece es (pieces cs bs) i j (length cs) [] h (length-pieces cs bs) (rw (← et, ← ef) jn)) ∙ ap (λ ps. get_or (get_or ps i []) j []) shown

  -- a new element of one component
  pub shown-element : (es' cs' bs' text : List ℕ) (m n : ℕ) → bs' ≡ bs ++ text → cs' ≡ cs ++ n ∷ [] → es' ≡ es ++ m ∷ [] → m ≡ length cs → n ≡ length bs → pieces es' (pieces cs' bs') ≡ now ++ (text ∷ []) ∷ []
  shown-element es' cs' bs' text m n eb ec ee em en =
      let texts : pieces cs' bs' ≡ pieces cs bs ++ text ∷ [] = ap (λ p. pieces p bs') (ec ∙ ap (λ k. cs ++ k ∷ []) en) ∙ ap (pieces (cs ++ length bs ∷ [])) eb ∙ pieces-push_append cs bs text ascend' in
      let fits : IsAscending es (length (pieces cs bs)) = rw (length-pieces cs bs) ascend in
      let at_end : m ≡ length (pieces cs bs) = em ∙ sym (length-pieces cs bs) in
      ap (pieces es') texts ∙ ap (λ p. pieces p (pieces cs bs ++ text ∷ [])) (ee ∙ ap (λ k. es ++ k ∷ []) at_end) ∙ pieces-push_append es (pieces cs bs) (text ∷ []) fits ∙ ap (λ p. p ++ (text ∷ []) ∷ []) shown

  pub ascending-pushed : (es' cs' bs' text : List ℕ) (m n : ℕ) → bs' ≡ bs ++ text → cs' ≡ cs ++ n ∷ [] → es' ≡ es ++ m ∷ [] → m ≡ length cs → n ≡ length bs → IsAscending es' (length cs') × IsAscending cs' (length bs')
  ascending-pushed es' cs' bs' text m n eb ec ee em en =
      let more : length cs ≤ length cs' = rw (ec, length-append cs (n ∷ [])) (omega arith) in
      let fits : length bs ≤ length bs' = rw (eb, length-append bs text) (omega arith) in
      (rw (ee, em) (ascending-push es (length cs) (length cs') ascend more), rw (ec, en) (ascending-push cs (length bs) (length bs') ascend' fits))
