-- Raises taken back.
use Rattle.std.proofs.Common.{◌≡◌, ℕ, ◌+◌, ◌<◌, ◌≤◌, ◌^◌, Bool, true, false, cond, List, [], ◌∷◌, ◌++◌, length, take, map, get_or, Option, Some, None, ℤ, pos, negsuc, ◌+ℤ◌, refl, sym, ◌∙◌, ap, append-nil, arith}
use Rattle.std.specs.Prelude.{nat_le, neg_ℤ, if◌then◌else◌}
use borrow.Author.Differences.{ints}
use Rattle.std.proofs.lemmas.List.{take_more, take_all}
use Rattle.zero_one_rows.specs.declared.program.Row.{Row}
use Rattle.zero_one_rows.specs.declared.program.Raise.{Raise}
use Rattle.proof_trees.specs.Multipliers.{Multipliers, amount_of, with_amount, changed_to, raised, raised_all}
use Rattle.certificate.specs.Entries.{same_row, raise_of}
use Rattle.certificate.proofs.RowsAlike.{same_itself}
use Rattle.search_core.specs.Journals.{known}
use Rattle.dual_bound.specs.Gauging.{Gauging}
use Rattle.node_work.proofs.Leading.{raised_append}

amount_given : (ms rest : Multipliers Row) (r : Row) (n : ℕ) → amount_of same_row (with_amount same_row ms r n ++ rest) r ≡ n
amount_given [] rest r n = rw (same_itself r) refl
amount_given (x ∷ ms) rest r n = by (same_row x.0 r) refl (amount_given ms rest r n)
  where
    by : (b : Bool) → same_row x.0 r ≡ b → amount_of same_row (with_amount same_row ms r n ++ rest) r ≡ n → amount_of same_row (cond b ((x.0, n) ∷ ms) (x ∷ with_amount same_row ms r n) ++ rest) r ≡ n
    by true e rest' = rw e refl
    by false e rest' = rw e rest'

given_back : (ms rest : Multipliers Row) (r : Row) (n : ℕ) → (more : Multipliers Row) × (with_amount same_row (with_amount same_row ms r n ++ rest) r (amount_of same_row ms r) ≡ ms ++ more)
given_back [] rest r n = ((r, 0) ∷ rest, rw (same_itself r) refl)
given_back (x ∷ ms) rest r n = by (same_row x.0 r) refl (given_back ms rest r n)
  where
    by : (b : Bool) → same_row x.0 r ≡ b → ((more : Multipliers Row) × (with_amount same_row (with_amount same_row ms r n ++ rest) r (amount_of same_row ms r) ≡ ms ++ more))
        → (more : Multipliers Row) × (with_amount same_row (cond b ((x.0, n) ∷ ms) (x ∷ with_amount same_row ms r n) ++ rest) r (cond b x.1 (amount_of same_row ms r)) ≡ x ∷ ms ++ more)
    by true e h = (rest, rw e refl)
    by false e h = (h.0, rw e (ap (λ (us : Multipliers Row). x ∷ us) h.1))

changed_is : (ms ns : Multipliers Row) (r : Row) (z : ℤ) → changed_to same_row ms r z ≡ Some ns → (n : ℕ) × (z ≡ pos n) × (ns ≡ with_amount same_row ms r n)
changed_is ms ns r (negsuc n) e = absurd (let bad : ⊥ = cc in bad)
changed_is ms ns r (pos n) e = (n, refl, by (nat_le n (2 ^ 40)) e)
  where
    by : (b : Bool) → cond b (Some (with_amount same_row ms r n)) None ≡ Some ns → ns ≡ with_amount same_row ms r n
    by true h = cc
    by false h = absurd (let bad : ⊥ = cc in bad)

-- a raise that is taken back leaves the multipliers before it, and behind them rows that had none
lowered : (us vs ws rest : Multipliers Row) (r : Row) (z : ℤ) → raised same_row us r z ≡ Some vs → raised same_row (vs ++ rest) r (neg_ℤ z) ≡ Some ws → (more : Multipliers Row) × (ws ≡ us ++ more)
lowered us vs ws rest r z up down =
    let a = changed_is us vs r (pos (amount_of same_row us r) +ℤ z) up in
    let b = changed_is (vs ++ rest) ws r (pos (amount_of same_row (vs ++ rest) r) +ℤ neg_ℤ z) down in
    let now : amount_of same_row (vs ++ rest) r ≡ a.0 = ap (λ (ms : Multipliers Row). amount_of same_row (ms ++ rest) r) a.2 ∙ amount_given us rest r a.0 in
    let left : b.0 ≡ amount_of same_row us r = omega (arith, ints, a.1, b.1, ap (λ (n : ℕ). pos n) now) in
    let g = given_back us rest r a.0 in
    (g.0, b.2 ∙ ap (λ (n : ℕ). with_amount same_row (vs ++ rest) r n) left ∙ ap (λ (ms : Multipliers Row). with_amount same_row (ms ++ rest) r (amount_of same_row us r)) a.2 ∙ g.1)

-- ## Several of them

-- from some multipliers the first so many raises lead to these, but for rows that had none
abbrev pub Leads : Multipliers Row → List Raise → Multipliers Row → Type 0
Leads ms raises vs = (us : Multipliers Row) × (raised_all same_row (Some ms) (map raise_of raises) ≡ Some us) × ((rest : Multipliers Row) × (vs ≡ us ++ rest))

last_raise : (o : Option (Multipliers Row)) (r : Raise) (us : Multipliers Row) → raised_all same_row o (map raise_of (r ∷ [])) ≡ Some us → (ts : Multipliers Row) × (o ≡ Some ts) × (raised same_row ts r.row r.amount ≡ Some us)
last_raise None r us e = absurd (let bad : ⊥ = cc in bad)
last_raise (Some ts) r us e = (ts, refl, by (raised same_row ts r.row r.amount) e)
  where
    by : (o : Option (Multipliers Row)) → raised_all same_row o [] ≡ Some us → o ≡ Some us
    by None h = h
    by (Some ns) h = h

pub leads_less : (ms vs ws : Multipliers Row) (raises : List Raise) (k : ℕ) (r : Raise) → Leads ms (take (k + 1) raises) vs → k < length raises → r ≡ get_or raises k r → raised same_row vs r.row (neg_ℤ r.amount) ≡ Some ws → Leads ms (take k raises) ws
leads_less ms vs ws raises k r h lt is down =
    let cut : take (k + 1) raises ≡ take k raises ++ r ∷ [] = take_more raises k r lt ∙ ap (λ (x : Raise). take k raises ++ x ∷ []) (sym is) in
    let l = last_raise (raised_all same_row (Some ms) (map raise_of (take k raises))) r h.0 (sym (raised_append (Some ms) (take k raises) (r ∷ [])) ∙ ap (λ (xs : List Raise). raised_all same_row (Some ms) (map raise_of xs)) (sym cut) ∙ h.1) in
    let g = lowered l.0 h.0 ws h.2.0 r.row r.amount l.2 (ap (λ (us : Multipliers Row). raised same_row us r.row (neg_ℤ r.amount)) (sym h.2.1) ∙ down) in
    (l.0, l.1, g)

pub leads_none : (ms vs : Multipliers Row) (raises : List Raise) (n : ℕ) → Leads ms (take n raises) vs → n ≡ 0 → (rest : Multipliers Row) × (vs ≡ ms ++ rest)
leads_none ms vs raises n h e =
    let is : ms ≡ h.0 = ap (λ (o : Option (Multipliers Row)). known o) (ap (λ (k : ℕ). raised_all same_row (Some ms) (map raise_of (take k raises))) (sym e) ∙ h.1) in
    (h.2.0, h.2.1 ∙ ap (λ (us : Multipliers Row). us ++ h.2.0) (sym is))

pub leads_all : (ms us : Multipliers Row) (raises : List Raise) (n : ℕ) → raised_all same_row (Some ms) (map raise_of raises) ≡ Some us → length raises ≤ n → Leads ms (take n raises) us
leads_all ms us raises n h le = (us, ap (λ (rs : List Raise). raised_all same_row (Some ms) (map raise_of rs)) (take_all n raises le) ∙ h, ([], sym (append-nil us)))

-- ## Rows forgotten

pub shortened : (g h : Gauging) (n : ℕ) (done : Bool) → h ≡ (if done then record g { multipliers = take n g.multipliers } else g) → done ≡ true → h.multipliers ≡ take n g.multipliers
shortened g h n true is e = ap (λ (k : Gauging). k.multipliers) is
shortened g h n false is e = absurd (let bad : ⊥ = cc in bad)
