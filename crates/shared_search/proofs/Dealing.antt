-- Tokens that are dealt, and passes as lists of deques and of rows of tokens.
use Rattle.std.proofs.Common.{◌≡◌, ℕ, zero, suc, ◌+◌, ◌-◌, ◌<◌, ◌≤◌, List, [], ◌∷◌, ◌++◌, length, map, Result, Ok, Err, IfOk, All, slice_index_or, refl, sym, subst, ap, ◌∙◌, arith}
use Rattle.std.specs.declared.alloc.Global.{Global}
use Rattle.atomic_blocks.specs.Lent.{RowsId}
use Rattle.crossbeam_deque.specs.Handles.{Pass, worker_deque, stealer_deque, stealer_flavor, view}
use Rattle.crossbeam_deque.specs.declared.handles.Worker.{Worker}
use Rattle.crossbeam_deque.specs.declared.handles.Stealer.{Stealer}
use Rattle.certificate.specs.declared.nodes.Node.{Node}
use Rattle.search_core.specs.Bags.{weigh, Every}
use Rattle.search_core.proofs.Weights.{every_more, weigh_map}
use Rattle.shared_search.specs.declared.rule.Hand.{Hand}
use Rattle.shared_search.specs.declared.rule.Fair.{Fair}
use Rattle.shared_search.specs.declared.racks.Rack.{Rack}
use Rattle.shared_search.specs.declared.racks.Pass.{Pass as Passes}
use Rattle.shared_search.specs.Racks.{stolen_weight, all_put, all_took, IsPassAt, IsFresh, number_of, count_from}
use Rattle.shared_search.specs.Rounds.{IsHeld, IsUnused, deques, stolen_from, AreLifo, own_put, own_took, Fits, FitsNew, own_of, row_of, AreNone, HasNoMiss}
use Rattle.shared_search.specs.Bags.{Each}

-- ## Lists

pub each_snoc : {A B : Type 0} (P : A → B → Type 0) (xs : List A) (ys : List B) (x : A) (y : B) → Each P xs ys → P x y → Each P (xs ++ x ∷ []) (ys ++ y ∷ [])
each_snoc P [] [] x y h k = (k, tt)
each_snoc P [] (b ∷ ys) x y h k = absurd h
each_snoc P (a ∷ xs) [] x y h k = absurd h
each_snoc P (a ∷ xs) (b ∷ ys) x y h k = (h.0, each_snoc P xs ys x y h.1 k)

pub each_more : {A B : Type 0} (P Q : A → B → Type 0) → ((a : A) (b : B) → P a b → Q a b) → (xs : List A) (ys : List B) → Each P xs ys → Each Q xs ys
each_more P Q f [] [] h = tt
each_more P Q f [] (y ∷ ys) h = h
each_more P Q f (x ∷ xs) [] h = h
each_more P Q f (x ∷ xs) (y ∷ ys) h = (f x y h.0, each_more P Q f xs ys h.1)

pub each_length : {A B : Type 0} (P : A → B → Type 0) (xs : List A) (ys : List B) → Each P xs ys → length ys ≡ length xs
each_length P [] [] h = refl
each_length P [] (y ∷ ys) h = absurd h
each_length P (x ∷ xs) [] h = absurd h
each_length P (x ∷ xs) (y ∷ ys) h = omega (arith, each_length P xs ys h.1)

pub every_at : {A : Type 0} (P : A → Type 0) (xs : List A) → Every P xs → (k : ℕ) (d : A) → k < length xs → P (slice_index_or xs k d)
every_at P [] h k d lt = absurd (omega arith)
every_at P (x ∷ xs) h zero d lt = h.0
every_at P (x ∷ xs) h (suc k) d lt = every_at P xs h.1 k d (omega arith)

pub every_of : {A : Type 0} (P : A → Type 0) (xs : List A) → All P xs → Every P xs
every_of P [] h = tt
every_of P (x ∷ xs) h = (h 0 x (omega arith), every_of P xs (λ k d lt. h (suc k) d (omega arith)))

pub every_map : {A B : Type 0} (f : A → B) (P : B → Type 0) (xs : List A) → Every (λ x. P (f x)) xs → Every P (map f xs)
every_map f P [] h = tt
every_map f P (x ∷ xs) h = (h.0, every_map f P xs h.1)

pub every_back : {A B : Type 0} (f : A → B) (P : B → Type 0) (xs : List A) → Every P (map f xs) → Every (λ x. P (f x)) xs
every_back f P [] h = tt
every_back f P (x ∷ xs) h = (h.0, every_back f P xs h.1)

pub length_map : {A B : Type 0} (f : A → B) (xs : List A) → length (map f xs) ≡ length xs
length_map f [] = refl
length_map f (x ∷ xs) = omega (arith, length_map f xs)

count_snoc : (k n : ℕ) → count_from k (n + 1) ≡ count_from k n ++ (k + n) ∷ []
count_snoc k zero = ap (λ (j : ℕ). j ∷ []) (omega arith)
count_snoc k (suc n) =
    let more : suc n + 1 ≡ suc (n + 1) = omega arith in
    ap (count_from k) more ∙ ap (λ (l : List ℕ). k ∷ l) (count_snoc (k + 1) n ∙ ap (λ (j : ℕ). count_from (k + 1) n ++ j ∷ []) (omega arith))

pub count_up : (n : ℕ) → count_from 0 (n + 1) ≡ count_from 0 n ++ n ∷ []
count_up n = count_snoc 0 n ∙ ap (λ (j : ℕ). count_from 0 n ++ j ∷ []) (omega arith)

pub if_ok : {A E : Type 0} (r : Result A E) (P Q : A → Type 0) → ((a : A) → P a → Q a) → IfOk r P → IfOk r Q
if_ok (Ok a) P Q f h = f a h
if_ok (Err e) P Q f h = h

at_length : {A : Type 0} (pre suf : List A) (t d : A) → slice_index_or (pre ++ t ∷ suf) (length pre) d ≡ t
at_length [] suf t d = refl
at_length (x ∷ pre) suf t d = at_length pre suf t d

shift : {A : Type 0} (xs : List A) (x : A) (ys : List A) → (xs ++ x ∷ []) ++ ys ≡ xs ++ x ∷ ys
shift [] x ys = refl
shift {A} (z ∷ zs) x ys = ap (λ (l : List A). z ∷ l) (shift zs x ys)

pub length_snoc : {A : Type 0} (xs : List A) (x : A) → length (xs ++ x ∷ []) ≡ length xs + 1
length_snoc [] x = refl
length_snoc (y ∷ xs) x = omega (arith, length_snoc xs x)

pub count_length : (k n : ℕ) → length (count_from k n) ≡ n
count_length k zero = refl
count_length k (suc n) = omega (arith, count_length (k + 1) n)

-- ## Deques and tokens

module _ {A P : Type 0} where
  pub unused_held : (room n : ℕ) (ws : List (Worker Node A Hand P)) → Every (IsUnused room n) ws → Every (IsHeld n) ws
  unused_held room n [] h = tt
  unused_held room n (w ∷ ws) h = ((h.0.0, ap (λ (v : Hand). v.parts) h.0.1), unused_held room n ws h.1)

  pub stolen_snoc : (ts : List (Stealer Node A Hand P)) (t : Stealer Node A Hand P) → stolen_from (ts ++ t ∷ []) ≡ stolen_from ts ++ stealer_deque t ∷ []
  stolen_snoc [] t = refl
  stolen_snoc (z ∷ ts) t = ap (λ (l : List (RowsId × A)). stealer_deque z ∷ l) (stolen_snoc ts t)

  pub stolen_length : (ts : List (Stealer Node A Hand P)) → length (stolen_from ts) ≡ length ts
  stolen_length [] = refl
  stolen_length (t ∷ ts) = omega (arith, stolen_length ts)

  pub deques_length : (ws : List (Worker Node A Hand P)) → length (deques ws) ≡ length ws
  deques_length [] = refl
  deques_length (w ∷ ws) = omega (arith, deques_length ws)

  -- each token fits the deque of its thief, by their places
  pub fits_at : (F : RowsId × A → Pass Node Hand A → Type 0) (ts : List (Stealer Node A Hand P)) (row : List (Pass Node Hand A)) → Each F (stolen_from ts) row
      → (k : ℕ) (d : Stealer Node A Hand P) (e : Pass Node Hand A) → k < length ts → F (stealer_deque (slice_index_or ts k d)) (slice_index_or row k e)
  fits_at F [] row h k d e lt = absurd (omega arith)
  fits_at F (t ∷ ts) [] h k d e lt = absurd h
  fits_at F (t ∷ ts) (r ∷ row) h zero d e lt = h.0
  fits_at F (t ∷ ts) (r ∷ row) h (suc k) d e lt = fits_at F ts row h.1 k d e (omega arith)

  pub fits_each : (F : RowsId × A → Pass Node Hand A → Type 0) (ts : List (Stealer Node A Hand P)) (row : List (Pass Node Hand A)) → length row ≡ length ts
      → ((k : ℕ) (d : Stealer Node A Hand P) (e : Pass Node Hand A) → k < length ts → F (stealer_deque (slice_index_or ts k d)) (slice_index_or row k e)) → Each F (stolen_from ts) row
  fits_each F [] [] is h = tt
  fits_each F [] (r ∷ row) is h = absurd (omega (arith, is))
  fits_each F (t ∷ ts) [] is h = absurd (omega (arith, is))
  fits_each F (t ∷ ts) (r ∷ row) is h = (h 0 t r (omega arith), fits_each F ts row (omega (arith, is)) (λ k d e lt. h (suc k) d e (omega arith)))

module _ {A : Type 0} where
  pub new_fits : (d : RowsId × A) (t : Pass Node Hand A) → FitsNew d t → Fits d t
  new_fits d t h = (h.0, ap (λ (v : Hand). v.parts) h.1, ap (λ (v : Hand). v.put) h.1)

  none_taken : (h : Node → ℕ) (ds : List (RowsId × A)) (row : List (Pass Node Hand A)) → Each FitsNew ds row → stolen_weight h row ≡ 0
  none_taken h [] [] f = refl
  none_taken h [] (t ∷ row) f = absurd f
  none_taken h (d ∷ ds) [] f = absurd f
  none_taken h (d ∷ ds) (t ∷ row) f = omega (arith, none_taken h ds row f.1, ap (λ (v : Hand). weigh h v.took) f.0.1)

-- ## Passes

module _ {M : Type 0} where
  -- a pass that is made of an unused deque and new tokens of all deques
  abbrev IsMade : ℕ → ℕ → ℕ → List (RowsId × Global) → Passes M → Type 0
  IsMade room many held ds s = IsUnused room held s.own × HasNoMiss many s × Each FitsNew ds s.tokens.items

  pub made : (room many held : ℕ) (ds : List (RowsId × Global)) (ss : List (Passes M)) → Every (IsUnused room held) (map own_of ss) → Every (HasNoMiss many) ss → Every (Each FitsNew ds) (map row_of ss) → Every (IsMade room many held ds) ss
  made room many held ds [] h c k = tt
  made room many held ds (s ∷ ss) h c k = ((h.0, c.0, k.0), made room many held ds ss h.1 c.1 k.1)

  pub made_fresh : (room many held : ℕ) (ds : List (RowsId × Global)) (ss : List (Passes M)) → Every (IsMade room many held ds) ss → Every IsFresh ss
  made_fresh room many held ds [] h = tt
  made_fresh room many held ds (s ∷ ss) h =
      ((ap (λ (v : Hand). v.put) h.0.0.1, (λ g. omega (arith, none_taken g ds s.tokens.items h.0.2, ap (λ (v : Hand). weigh g v.took) h.0.0.1)), h.0.1.1), made_fresh room many held ds ss h.1)

  module _ (r : Rack M) (held : ℕ) (few : length r.thieves.items ≤ 16) (parts : held + length r.thieves.items ≡ 1024) (lifo : AreLifo r.thieves.items) where
    abbrev from_all : List (RowsId × Global)
    from_all = stolen_from r.thieves.items

    made_at : (s : Passes M) (k : ℕ) → IsMade r.room (length r.thieves.items) held from_all s → s.number ≡ k → k < length r.thieves.items → ((d : _) → worker_deque s.own ≡ stealer_deque (slice_index_or r.thieves.items k d)) → IsPassAt r s
    made_at s k h is lt own = record {
      number = omega (arith, is, lt);
      tokens = each_length FitsNew from_all s.tokens.items h.2 ∙ stolen_length r.thieves.items;
      flavor = h.0.0;
      parts = omega (arith, ap (λ (v : Hand). v.parts) h.0.1, parts);
      few = few;
      deque = λ d. own d ∙ ap (λ (j : ℕ). stealer_deque (slice_index_or r.thieves.items j d)) (sym is);
      flavors = every_at (λ t. stealer_flavor t ≡ 1) r.thieves.items lifo;
      belong = λ j d e jlt. (fits_at FitsNew r.thieves.items s.tokens.items h.2 j d e jlt).0;
      shares = every_at (λ t. (view {V = Hand} t).parts ≡ 1) s.tokens.items (new_shares from_all s.tokens.items h.2);
      idle = every_at (λ t. (view {V = Hand} t).put ≡ []) s.tokens.items (new_idle from_all s.tokens.items h.2);
      counts = h.1.0;
      room = h.0.3;
      index = omega (arith, h.0.2);
    }
      where
        new_shares : (ds : List (RowsId × Global)) (row : List (Pass Node Hand Global)) → Each FitsNew ds row → Every (λ t. (view {V = Hand} t).parts ≡ 1) row
        new_shares [] [] f = tt
        new_shares [] (t ∷ row) f = absurd f
        new_shares (d ∷ ds) [] f = absurd f
        new_shares (d ∷ ds) (t ∷ row) f = (ap (λ (v : Hand). v.parts) f.0.1, new_shares ds row f.1)

        new_idle : (ds : List (RowsId × Global)) (row : List (Pass Node Hand Global)) → Each FitsNew ds row → Every (λ t. (view {V = Hand} t).put ≡ []) row
        new_idle [] [] f = tt
        new_idle [] (t ∷ row) f = absurd f
        new_idle (d ∷ ds) [] f = absurd f
        new_idle (d ∷ ds) (t ∷ row) f = (ap (λ (v : Hand). v.put) f.0.1, new_idle ds row f.1)

    made_all : (pre suf : List (Stealer Node Global Hand (Fair M))) (ss : List (Passes M)) → r.thieves.items ≡ pre ++ suf → deques (map own_of ss) ≡ stolen_from suf → map number_of ss ≡ count_from (length pre) (length ss)
        → Every (IsMade r.room (length r.thieves.items) held from_all) ss → Every (IsPassAt r) ss
    made_all pre suf [] all same nums h = tt
    made_all pre [] (s ∷ ss) all same nums h = absurd (omega (arith, ap length same))
    made_all pre (t ∷ suf) (s ∷ ss) all same nums h =
        let is : s.number ≡ length pre = ap (λ (l : List ℕ). slice_index_or l 0 0) nums in
        let lt : length pre < length r.thieves.items = omega (arith, ap length all, length_both pre (t ∷ suf)) in
        let here : worker_deque s.own ≡ stealer_deque t = head_same (deques (map own_of ss)) (stolen_from suf) (worker_deque s.own) (stealer_deque t) same in
        let rest : deques (map own_of ss) ≡ stolen_from suf = tail_same (deques (map own_of ss)) (stolen_from suf) (worker_deque s.own) (stealer_deque t) same in
        let more : map number_of ss ≡ count_from (length (pre ++ t ∷ [])) (length ss)
        = tail_same (map number_of ss) (count_from (length pre + 1) (length ss)) s.number (length pre) nums ∙ ap (λ (j : ℕ). count_from j (length ss)) (sym (length_snoc pre t)) in (
          made_at s (length pre) h.0 is lt (λ d. here ∙ ap stealer_deque (sym (at_length pre suf t d) ∙ ap (λ (l : List (Stealer Node Global Hand (Fair M))). slice_index_or l (length pre) d) (sym all))),
          made_all (pre ++ t ∷ []) suf ss (all ∙ sym (shift pre t suf)) rest more h.1,
        )
      where
        length_both : {X : Type 0} (xs ys : List X) → length (xs ++ ys) ≡ length xs + length ys
        length_both [] ys = omega arith
        length_both (x ∷ xs) ys = omega (arith, length_both xs ys)

        head_same : {X : Type 0} (xs ys : List X) (x y : X) → x ∷ xs ≡ y ∷ ys → x ≡ y
        head_same xs ys x y e = cc

        tail_same : {X : Type 0} (xs ys : List X) (x y : X) → x ∷ xs ≡ y ∷ ys → xs ≡ ys
        tail_same xs ys x y e = cc

    pub made_passes : (ss : List (Passes M)) → deques (map own_of ss) ≡ from_all → map number_of ss ≡ count_from 0 (length ss) → Every (IsMade r.room (length r.thieves.items) held from_all) ss → Every (IsPassAt r) ss
    made_passes ss same nums h = made_all [] r.thieves.items ss refl same nums h

  -- ## All passes come back

  module _ (r : Rack M) where
    pass_row : (s : Passes M) → IsPassAt r s → Each Fits (stolen_from r.thieves.items) s.tokens.items
    pass_row s h = fits_each Fits r.thieves.items s.tokens.items h.tokens (λ k d e lt. (h.belong k d e lt, h.shares k e (omega (arith, h.tokens, lt)), h.idle k e (omega (arith, h.tokens, lt))))

    pub back_rows : (ss : List (Passes M)) → Every (IsPassAt r) ss → Every (Each Fits (stolen_from r.thieves.items)) (map row_of ss)
    back_rows ss h = every_map row_of (Each Fits (stolen_from r.thieves.items)) ss (every_more (IsPassAt r) (λ s. Each Fits (stolen_from r.thieves.items) s.tokens.items) ss pass_row h)

    pub back_held : (held : ℕ) → held + length r.thieves.items ≡ 1024 → (ss : List (Passes M)) → Every (IsPassAt r) ss → Every (IsHeld held) (map own_of ss)
    back_held held is ss h = every_map own_of (IsHeld held) ss (every_more (IsPassAt r) (λ s. IsHeld held s.own) ss (λ s k. (k.flavor, omega (arith, k.parts, is))) h)

    back_from : (pre suf : List (Stealer Node Global Hand (Fair M))) (ss : List (Passes M)) → r.thieves.items ≡ pre ++ suf → map number_of ss ≡ count_from (length pre) (length suf) → Every (IsPassAt r) ss → deques (map own_of ss) ≡ stolen_from suf
    back_from pre [] [] all nums h = refl
    back_from pre [] (s ∷ ss) all nums h = absurd (cc)
    back_from pre (t ∷ suf) [] all nums h = absurd (cc)
    back_from pre (t ∷ suf) (s ∷ ss) all nums h =
        let is : s.number ≡ length pre = ap (λ (l : List ℕ). slice_index_or l 0 0) nums in
        let here : worker_deque s.own ≡ stealer_deque t
        = h.0.deque t ∙ ap stealer_deque (ap (λ (j : ℕ). slice_index_or r.thieves.items j t) is ∙ (ap (λ (l : List (Stealer Node Global Hand (Fair M))). slice_index_or l (length pre) t) all ∙ at_length pre suf t t)) in
        let more : map number_of ss ≡ count_from (length (pre ++ t ∷ [])) (length suf)
        = tail_same (map number_of ss) (count_from (length pre + 1) (length suf)) s.number (length pre) nums ∙ ap (λ (j : ℕ). count_from j (length suf)) (sym (length_snoc pre t)) in
        ap (λ (d : RowsId × Global). d ∷ deques (map own_of ss)) here ∙ ap (λ (l : List (RowsId × Global)). stealer_deque t ∷ l) (back_from (pre ++ t ∷ []) suf ss (all ∙ sym (shift pre t suf)) more h.1)
      where
        tail_same : {X : Type 0} (xs ys : List X) (x y : X) → x ∷ xs ≡ y ∷ ys → xs ≡ ys
        tail_same xs ys x y e = cc

    pub back_deques : (ss : List (Passes M)) → map number_of ss ≡ count_from 0 (length r.thieves.items) → Every (IsPassAt r) ss → deques (map own_of ss) ≡ stolen_from r.thieves.items
    back_deques ss nums h = back_from [] r.thieves.items ss refl nums h

  -- what passes put and took, by their deques and their rows
  pub put_parts : (h : Node → ℕ) (ss : List (Passes M)) → own_put h (map own_of ss) ≡ all_put h ss
  put_parts h [] = refl
  put_parts h (s ∷ ss) = omega (arith, put_parts h ss)

  pub took_parts : (h : Node → ℕ) (ss : List (Passes M)) → own_took h (map own_of ss) + weigh (stolen_weight h) (map row_of ss) ≡ all_took h ss
  took_parts h [] = refl
  took_parts h (s ∷ ss) = omega (arith, took_parts h ss)

  -- ## A rack is closed

  -- the deques, and the rows of tokens, of all passes
  module _ (r : Rack M) (ss : List (Passes M)) (all : map number_of ss ≡ count_from 0 (length r.thieves.items)) (h : Every (IsPassAt r) ss) {V : Type 0} (f : V → List (Pass Node Hand Global)) (rows : List V) (owns : List (Worker Node Global Hand (Fair M)))
      (same : owns ≡ map own_of ss) (parts : map f rows ≡ map row_of ss) where
    many : length rows ≡ length r.thieves.items
    many = omega (arith, length_map f rows, ap length parts, length_map row_of ss, length_map number_of ss, ap length all, count_length 0 (length r.thieves.items))

    few_passes : (us : List (Passes M)) → Every (IsPassAt r) us → length us ≡ length r.thieves.items → length r.thieves.items ≤ 16
    few_passes [] k is = omega (arith, is)
    few_passes (u ∷ us) k is = k.0.few

    pub closes_few : length rows ≤ 16
    closes_few = let few : length r.thieves.items ≤ 16 = few_passes ss h (omega (arith, length_map number_of ss, ap length all, count_length 0 (length r.thieves.items))) in omega (arith, many, few)

    pub closes_held : Every (IsHeld (1024 - length rows)) owns
    closes_held = subst (Every (IsHeld (1024 - length rows))) (sym same) (back_held r (1024 - length rows) (omega (arith, many, closes_few)) ss h)

    pub closes_fit : Every (λ row. Each Fits (deques owns) (f row)) rows
    closes_fit =
        let there : deques owns ≡ stolen_from r.thieves.items = ap deques same ∙ back_deques r ss all h in
        every_back f (Each Fits (deques owns)) rows (subst (Every (Each Fits (deques owns))) (sym parts) (subst (λ (ds : List (RowsId × Global)). Every (Each Fits ds) (map row_of ss)) (sym there) (back_rows r ss h)))

    pub closes_bag : (g : Node → ℕ) (put took rest : ℕ) → put ≡ own_put g owns → took ≡ own_took g owns + weigh (λ row. stolen_weight g (f row)) rows → put ≡ took + rest → all_put g ss ≡ all_took g ss + rest
    closes_bag g put took rest a b c =
        omega (arith, a, b, c, ap (own_put g) same, ap (own_took g) same, put_parts g ss, took_parts g ss, ap (weigh (stolen_weight g)) parts, weigh_map f (stolen_weight g) rows)

  -- ## A rack is opened

  module _ (workers : ℕ) (r : Rack M) (begun dealt : List (Worker Node Global Hand (Fair M))) {V : Type 0} (f : V → List (Pass Node Hand Global)) (rows : List V) (ss : List (Passes M)) (few : workers ≤ 16)
      (count : length begun ≡ workers) (from : stolen_from r.thieves.items ≡ deques begun) (lifo : AreLifo r.thieves.items)
      (unused : Every (IsUnused r.room (1024 - workers)) dealt) (same : deques dealt ≡ deques begun) (fit : Every (λ row. Each FitsNew (deques begun) (f row)) rows)
      (owns : map own_of ss ≡ dealt) (parts : map row_of ss ≡ map f rows) (numbers : map number_of ss ≡ count_from 0 (length dealt)) (counts : Every (HasNoMiss (length dealt)) ss) where
    pub opens_count : length r.thieves.items ≡ workers
    opens_count = omega (arith, count, ap length from, stolen_length r.thieves.items, deques_length begun)

    dealt_count : length dealt ≡ workers
    dealt_count = omega (arith, count, ap length same, deques_length dealt, deques_length begun)

    pub opens_all : map number_of ss ≡ count_from 0 (length r.thieves.items)
    opens_all = numbers ∙ ap (count_from 0) (omega (arith, dealt_count, opens_count))

    there : Every (IsMade r.room (length r.thieves.items) (1024 - workers) (stolen_from r.thieves.items)) ss
    there = made r.room (length r.thieves.items) (1024 - workers) (stolen_from r.thieves.items) ss (subst (Every (IsUnused r.room (1024 - workers))) (sym owns) unused)
        (subst (λ (n : ℕ). Every (HasNoMiss n) ss) (omega (arith, dealt_count, opens_count)) counts)
        (subst (Every (Each FitsNew (stolen_from r.thieves.items))) (sym parts) (every_map f (Each FitsNew (stolen_from r.thieves.items)) rows (subst (λ (ds : List (RowsId × Global)). Every (λ row. Each FitsNew ds (f row)) rows) (sym from) fit)))

    pub opens_fresh : Every IsFresh ss
    opens_fresh = made_fresh r.room (length r.thieves.items) (1024 - workers) (stolen_from r.thieves.items) ss there

    pub opens_passes : Every (IsPassAt r) ss
    opens_passes = made_passes r (1024 - workers) (omega (arith, opens_count, few)) (omega (arith, opens_count, few)) lifo ss
        (ap deques owns ∙ (same ∙ sym from)) (numbers ∙ ap (count_from 0) (omega (arith, ap length owns, length_map own_of ss))) there
