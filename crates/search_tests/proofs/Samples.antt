-- The journals of the tests are whole.
use Rattle.std.proofs.Common.{◌≡◌, ℕ, ◌+◌, true, false, cond, List, [], ◌∷◌, ◌++◌, refl, ap, ◌∙◌, sym, subst, arith}
use Rattle.zero_one_rows.specs.declared.program.Var.{Var}
use Rattle.certificate.specs.declared.tree.End.{End}
use Rattle.certificate.specs.declared.tree.End.TheVariants.{Leaf, Branch}
use Rattle.certificate.specs.declared.journals.Entry.{Entry}
use Rattle.search_core.specs.Journals.{Path, branches, is_left, halves}
use Rattle.certificate.specs.Entries.{end_of}
use Rattle.node_ledger.specs.Gathered.{placed, AreWhole}

abbrev zero_for_all : Var → ℕ
zero_for_all x = 0

abbrev IsAt : Entry → Path → End → Type 0
IsAt e path end = (e.path ≡ path) × (e.record_of.end ≡ end)

abbrev SomeWhole : List (List Entry) → List Path → Type 0
SomeWhole journals left = (number : Var → ℕ) × AreWhole number journals left

whole_as : (journals others : List (List Entry)) (left paths : List Path) → journals ≡ others → left ≡ paths → AreWhole zero_for_all others paths → SomeWhole journals left
whole_as journals others left paths js ps w =
    (zero_for_all, subst (λ (l : List (List Entry)). AreWhole zero_for_all l left) (sym js) (subst (λ (l : List Path). AreWhole zero_for_all others l) (sym ps) w))

pub begun : {A : Type 0} (xs ys : List A) (a : A) → xs ≡ [] → ys ≡ xs ++ a ∷ [] → ys ≡ a ∷ []
begun xs ys a none more = more ∙ ap (λ (l : List _). l ++ a ∷ []) none

pub went_on : {A : Type 0} (xs ys : List A) (a b : A) → xs ≡ a ∷ [] → ys ≡ xs ++ b ∷ [] → ys ≡ a ∷ b ∷ []
went_on xs ys a b one more = more ∙ ap (λ (l : List _). l ++ b ∷ []) one

pub one_of : {A : Type 0} (x y : A) → x ≡ y → x ∷ [] ≡ y ∷ []
one_of x y same = cc

pub two_of : {A : Type 0} (x y z w : A) → x ≡ y → z ≡ w → x ∷ z ∷ [] ≡ y ∷ w ∷ []
two_of x y z w same other = cc

pub whole_of : (journals others : List (List Entry)) (left : List Path) → journals ≡ others → SomeWhole others left → SomeWhole journals left
whole_of journals others left js w = (w.0, subst (λ (l : List (List Entry)). AreWhole w.0 l left) (sym js) w.1)

pub whole_left : (journals : List (List Entry)) (left paths : List Path) → left ≡ paths → SomeWhole journals paths → SomeWhole journals left
whole_left journals left paths ps w = (w.0, subst (λ (l : List Path). AreWhole w.0 journals l) (sym ps) w.1)

no_halves : (h : Path → ℕ) (e : Entry) → e.record_of.end ≡ Leaf → halves h (placed zero_for_all e) ≡ 0
no_halves h e is = ap (λ (x : End). cond (branches (end_of zero_for_all x)) (h (e.path ++ true ∷ []) + h (e.path ++ false ∷ [])) 0) is

both_halves : (h : Path → ℕ) (e : Entry) (x : Var) (p : Path) → IsAt e p (Branch x) → halves h (placed zero_for_all e) ≡ h (p ++ true ∷ []) + h (p ++ false ∷ [])
both_halves h e x p is =
    ap (λ (y : End). cond (branches (end_of zero_for_all y)) (h (e.path ++ true ∷ []) + h (e.path ++ false ∷ [])) 0) is.1 ∙ ap (λ (q : Path). h (q ++ true ∷ []) + h (q ++ false ∷ [])) is.0

ended : (e : Entry) (end : End) → is_left (end_of zero_for_all end) ≡ false → e.record_of.end ≡ end → is_left (end_of zero_for_all e.record_of.end) ≡ false
ended e end plain is = ap (λ (x : End). is_left (end_of zero_for_all x)) is ∙ plain

pub closed_root : (journals : List (List Entry)) (left : List Path) (root : Entry) → journals ≡ (root ∷ []) ∷ [] → left ≡ [] → IsAt root [] Leaf → SomeWhole journals left
closed_root journals left root js ps r =
    whole_as journals ((root ∷ []) ∷ []) left [] js ps (record { ended = (ended root Leaf refl r.1, tt); bag = λ h. omega (arith, ap h r.0, no_halves h root r.1) })

module _ (x : Var) where
  pub two_leaves : (journals : List (List Entry)) (left : List Path) (root one zero : Entry) → journals ≡ (zero ∷ []) ∷ (one ∷ root ∷ []) ∷ [] → left ≡ []
      → IsAt root [] (Branch x) → IsAt one (true ∷ []) Leaf → IsAt zero (false ∷ []) Leaf → SomeWhole journals left
  two_leaves journals left root one zero js ps r a b =
      whole_as journals ((zero ∷ []) ∷ (one ∷ root ∷ []) ∷ []) left [] js ps (
      record {
        ended = (ended zero Leaf refl b.1, (ended one Leaf refl a.1, (ended root (Branch x) refl r.1, tt)));
        bag = λ h. omega (arith, ap h r.0, ap h a.0, ap h b.0, both_halves h root x [] r, no_halves h one a.1, no_halves h zero b.1);
      }
      )

  pub left_half : (journals : List (List Entry)) (left : List Path) (root zero : Entry) → journals ≡ (zero ∷ root ∷ []) ∷ [] → left ≡ (true ∷ []) ∷ []
      → IsAt root [] (Branch x) → IsAt zero (false ∷ []) Leaf → SomeWhole journals left
  left_half journals left root zero js ps r b =
      whole_as journals ((zero ∷ root ∷ []) ∷ []) left ((true ∷ []) ∷ []) js ps (
      record { ended = (ended zero Leaf refl b.1, (ended root (Branch x) refl r.1, tt)); bag = λ h. omega (arith, ap h r.0, ap h b.0, both_halves h root x [] r, no_halves h zero b.1) }
      )

  pub two_branches : (journals : List (List Entry)) (left : List Path) (root one zero last : Entry) → journals ≡ (last ∷ one ∷ []) ∷ (zero ∷ root ∷ []) ∷ [] → left ≡ (false ∷ true ∷ []) ∷ []
      → IsAt root [] (Branch x) → IsAt one (true ∷ []) Leaf → IsAt zero (false ∷ []) (Branch x) → IsAt last (false ∷ false ∷ []) Leaf → SomeWhole journals left
  two_branches journals left root one zero last js ps r a b d =
      whole_as journals ((last ∷ one ∷ []) ∷ (zero ∷ root ∷ []) ∷ []) left ((false ∷ true ∷ []) ∷ []) js ps (
      record {
        ended = (ended last Leaf refl d.1, (ended one Leaf refl a.1, (ended zero (Branch x) refl b.1, (ended root (Branch x) refl r.1, tt))));
        bag = λ h. omega (arith, ap h r.0, ap h a.0, ap h b.0, ap h d.0, both_halves h root x [] r, both_halves h zero x (false ∷ []) b, no_halves h one a.1, no_halves h last d.1);
      }
      )
