-- What two workers did together.
use Rattle.std.proofs.Common.{◌≡◌, ℕ, ◌+◌, ◌<◌, ◌≤◌, min, nat_lt, cond, inl, inr, Bool, true, false, List, [], ◌∷◌, ◌++◌, length, map, Option, Some, None, refl, sym, subst, ap, ◌∙◌, arith}
use Rattle.std.proofs.lemmas.Bool.Decides.{nat_tests}
use Rattle.std.proofs.lemmas.List.{map-append, length-append}
use Rattle.zero_one_rows.specs.declared.program.Row.{Row}
use Rattle.zero_one_rows.specs.Variables.{Voyage}
use Rattle.zero_one_rows.specs.Rows.{whole}
use Rattle.zero_one_rows.specs.Counted.{base_rows}
use Rattle.certificate.specs.Entries.{same_row, number_of}
use Rattle.search_core.specs.Bags.{In}
use Rattle.search_core.specs.Journals.{Path, Placed}
use Rattle.search_core.specs.Machine.{Handled, at_its_path}
use Rattle.search_core.specs.Outcomes.{path_of, children}
use Rattle.search_core.specs.Searching.{IsPaid}
use Rattle.search_core.proofs.Weights.{weigh_append, every_append, every_more}
use Rattle.shared_search.specs.declared.view.View.{View}
use Rattle.shared_search.specs.Rule.{none_yet, joined}
use Rattle.node_ledger.specs.Gathered.{placed}
use Rattle.steal_pool.specs.UnderWay.{HasOffered, AllowedFrom}
use Rattle.steal_pool.specs.declared.deeds.Deeds.{Deeds}
use Rattle.steal_pool.specs.declared.deeds.Solution.{Solution}
use Rattle.steal_pool.specs.Deeds.{box_of, Costs, Flow, IsDone}
use Rattle.parallel_search.specs.Together.{cheaper_of, both}

in_first : {A : Type 0} (a : A) (xs ys : List A) → In a xs → In a (xs ++ ys)
in_first a [] ys i = absurd i
in_first a (x ∷ xs) ys (inl is) = inl is
in_first a (x ∷ xs) ys (inr h) = inr (in_first a xs ys h)

in_second : {A : Type 0} (a : A) (xs ys : List A) → In a ys → In a (xs ++ ys)
in_second a [] ys i = i
in_second a (x ∷ xs) ys i = inr (in_second a xs ys i)

module _ (m : Voyage) (start : ℕ) where
  abbrev Offered : List (Handled Row) → ℕ → Option Solution → Type 0
  Offered entries offered o = HasOffered m entries start offered (box_of o) × Costs offered o

  module _ (es fs : List (Handled Row)) where
    paid_first : (cost : ℕ) → IsPaid same_row (whole m) (base_rows m) es cost → IsPaid same_row (whole m) (base_rows m) (es ++ fs) cost
    paid_first cost (e, i, leaf, full, paid) = (e, in_first e es fs i, leaf, full, paid)

    paid_second : (cost : ℕ) → IsPaid same_row (whole m) (base_rows m) fs cost → IsPaid same_row (whole m) (base_rows m) (es ++ fs) cost
    paid_second cost (e, i, leaf, full, paid) = (e, in_second e es fs i, leaf, full, paid)

    first_offered : (a b : ℕ) (s : Solution) → a ≤ b → Offered es a (Some s) → Offered (es ++ fs) (min a b) (Some s)
    first_offered a b s le h = subst (λ (o : ℕ). Offered (es ++ fs) o (Some s)) (omega (arith, le)) ((h.0.0, paid_first a h.0.1), h.1)

    second_offered : (a b : ℕ) (s : Solution) → b ≤ a → Offered fs b (Some s) → Offered (es ++ fs) (min a b) (Some s)
    second_offered a b s le h = subst (λ (o : ℕ). Offered (es ++ fs) o (Some s)) (omega (arith, le)) ((h.0.0, paid_second b h.0.1), h.1)

    cheaper_offered : (a b : ℕ) (s t : Solution) → Offered es a (Some s) → Offered fs b (Some t) → Offered (es ++ fs) (min a b) (cheaper_of (Some s) (Some t))
    cheaper_offered a b s t h k = go (nat_lt t.cost s.cost) refl
      where
        go : (less : Bool) → nat_lt t.cost s.cost ≡ less → Offered (es ++ fs) (min a b) (cond less (Some t) (Some s))
        go true is = let lt : t.cost < s.cost = grind (arith, nat_tests) in second_offered a b t (omega (arith, lt, h.1, k.1)) k
        go false is = let le : s.cost ≤ t.cost = grind (arith, nat_tests) in first_offered a b s (omega (arith, le, h.1, k.1)) h

    pub both_offered : (a b : ℕ) (o p : Option Solution) → start ≤ none_yet → Offered es a o → Offered fs b p → Offered (es ++ fs) (min a b) (cheaper_of o p)
    both_offered a b None None top h k = (omega (arith, h.0, k.0), tt)
    both_offered a b None (Some t) top h k = second_offered a b t (let less : b < start = k.0.0.3 in omega (arith, h.0, less, top)) k
    both_offered a b (Some s) None top h k = first_offered a b s (let less : a < start = h.0.0.3 in omega (arith, k.0, less, top)) h
    both_offered a b (Some s) (Some t) top h k = cheaper_offered a b s t h k

either_over : (xs ys : List Path) (a b : ℕ) → (0 < length xs → 0 < a) → (0 < length ys → 0 < b) → 0 < length (xs ++ ys) → 0 < a + b
either_over [] ys a b f g some = omega (arith, g some)
either_over (x ∷ xs) ys a b f g some = omega (arith, f (omega arith))

module _ (m : Voyage) where
  pub joins : (start : ℕ) (v w : View) (d e : Deeds) (came gone came' gone' : Flow) → start ≤ none_yet → IsDone m start v 0 d came gone → IsDone m start w 0 e came' gone'
      → IsDone m start (joined v w) 0 (both d e) (λ h. came h + came' h) (λ h. gone h + gone' h)
  joins start v w d e came gone came' gone' top a b =
      let offers = both_offered m start a.entries b.entries v.offered w.offered d.best e.best top (a.worker.offers, a.costs) (b.worker.offers, b.costs) in
      record {
        entries = a.entries ++ b.entries;
        nodes = a.nodes ++ b.nodes;
        worker = record {
          journal_of = map-append at_its_path a.entries b.entries
              ∙ (ap (λ (l : List (Placed Row)). l ++ map at_its_path b.entries) a.worker.journal_of ∙ (ap (λ (l : List (Placed Row)). map (placed (number_of m)) d.journal ++ l) b.worker.journal_of ∙ sym (map-append (placed (number_of m)) d.journal e.journal)));
          allowed = every_append (AllowedFrom m (min v.seen w.seen)) a.entries b.entries
              (every_more (AllowedFrom m v.seen) (AllowedFrom m (min v.seen w.seen)) a.entries (λ x h. (h.0, omega (arith, h.1), h.2)) a.worker.allowed)
              (every_more (AllowedFrom m w.seen) (AllowedFrom m (min v.seen w.seen)) b.entries (λ x h. (h.0, omega (arith, h.1), h.2)) b.worker.allowed);
          worked = every_append _ a.entries b.entries a.worker.worked b.worker.worked;
          offers = offers.0;
          counted = omega (arith, a.worker.counted, b.worker.counted, length-append d.journal e.journal, length-append v.tickets w.tickets);
          knows = a.worker.knows;
        };
        costs = offers.1;
        left = map-append path_of a.nodes b.nodes ∙ (ap (λ (l : List Path). l ++ map path_of b.nodes) a.left ∙ ap (λ (l : List Path). d.left ++ l) b.left);
        ended = every_append _ a.entries b.entries a.ended b.ended;
        spent = λ some. either_over d.left e.left v.over w.over a.spent b.spent some;
        bag = λ h. omega (arith, a.bag h, b.bag h, weigh_append (children h) a.entries b.entries, weigh_append (λ (k : Handled Row). h k.node) a.entries b.entries, weigh_append h a.nodes b.nodes);
      }
