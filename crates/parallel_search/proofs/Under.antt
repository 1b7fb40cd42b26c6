-- What is handled of some nodes is of them, or below them.
use Rattle.std.proofs.Common.{◌≡◌, inl, inr, Bool, true, false, List, [], ◌∷◌, ◌++◌, Option, Some, None, refl, sym, subst, ap, ◌∙◌, append_assoc, append-nil}
use Rattle.zero_one_rows.specs.Variables.{Voyage}
use Rattle.certificate.specs.declared.nodes.Node.{Node}
use Rattle.certificate.specs.declared.journals.Entry.{Entry}
use Rattle.search_core.specs.Bags.{Every, In}
use Rattle.search_core.specs.Journals.{Path}
use Rattle.search_core.proofs.Weights.{every_append, every_left, every_right, every_more}
use Rattle.shared_search.specs.declared.view.View.{View}
use Rattle.node_solver.specs.declared.worked.Worked.{Worked}
use Rattle.node_solver.specs.declared.worked.Worked.TheVariants.{Closed, Branched, Full, NoMemory}
use Rattle.steal_pool.specs.declared.deeds.Deeds.{Deeds}
use Rattle.steal_pool.specs.declared.deeds.Halves.{Halves}
use Rattle.steal_pool.specs.Deeds.{Did}
use Rattle.steal_pool.specs.UnderWay.{entry_at}
use Rattle.steal_pool.specs.Handling.{IsHandled}
use Rattle.steal_pool.proofs.Own.{one_record}
use Rattle.parallel_search.specs.Tallied.{IsUnder}
use Rattle.parallel_search.specs.Ends.{AreUnder, halves_in}

every_in_all : {A : Type 0} (xs all : List A) → ((x : A) → In x xs → In x all) → Every (λ x. In x all) xs
every_in_all [] all f = tt
every_in_all (x ∷ xs) all f = (f x (inl refl), every_in_all xs all (λ y i. f y (inr i)))

module _ (first : List Node) where
  goes_on : (path : Path) (y : Bool) → IsUnder first path → IsUnder first (path ++ y ∷ [])
  goes_on path y (n, tail, i, is) = (n, tail ++ y ∷ [], i, ap (λ (l : Path). l ++ y ∷ []) is ∙ append_assoc n.path tail (y ∷ []))

  each_half : (w : Worked) (n : Node) (halves : Option Halves) (d e : Deeds) → Did w n halves d e → IsUnder first n.path → Every (λ x. IsUnder first x.path) (halves_in halves)
  each_half (Closed r) n halves d e h u = subst (λ (o : Option Halves). Every (λ x. IsUnder first x.path) (halves_in o)) (sym h.1) tt
  each_half (Branched r) n halves d e h u = subst (λ (o : Option Halves). Every (λ x. IsUnder first x.path) (halves_in o)) (sym h.1) (goes_on n.path false u, (goes_on n.path true u, tt))
  each_half (Full r b cost) n halves d e h u = subst (λ (o : Option Halves). Every (λ x. IsUnder first x.path) (halves_in o)) (sym h.1) tt
  each_half NoMemory n halves d e h u = absurd h

  -- the node in hand was left
  pub under_left : (todo : List Node) (n : Node) (journal : List Entry) → AreUnder first (todo ++ n ∷ []) journal → AreUnder first todo journal
  under_left todo n journal u = record { todo_is = every_left (λ (x : Node). IsUnder first x.path) todo (n ∷ []) u.todo_is; journal_is = u.journal_is }

  -- it was handled
  pub under_handled : (m : Voyage) (v w : View) (halves : Option Halves) (todo next : List Node) (n : Node) (d e : Deeds) → IsHandled m n v w d e halves → next ≡ todo ++ halves_in halves → AreUnder first (todo ++ n ∷ []) d.journal → AreUnder first next e.journal
  under_handled m v w halves todo next n d e h is u =
      let r = one_record h.ended n halves d e h.did in
      let here : IsUnder first n.path = (every_right (λ (x : Node). IsUnder first x.path) todo (n ∷ []) u.todo_is).0 in
      record {
        todo_is = subst (Every (λ (x : Node). IsUnder first x.path)) (sym is)
            (every_append (λ (x : Node). IsUnder first x.path) todo (halves_in halves) (every_left (λ (x : Node). IsUnder first x.path) todo (n ∷ []) u.todo_is) (each_half h.ended n halves d e h.did here));
        journal_is = subst (Every (λ (x : Entry). IsUnder first x.path)) (sym r.1) (every_append (λ (x : Entry). IsUnder first x.path) d.journal (entry_at n r.0 ∷ []) u.journal_is (here, tt));
      }

  -- the same at another name of the list and of the records
  pub under_at : (xs ys : List Node) (j k : List Entry) → xs ≡ ys → j ≡ k → AreUnder first xs j → AreUnder first ys k
  under_at xs ys j k is same u = subst (λ (l : List Node). AreUnder first l k) is (subst (AreUnder first xs) same u)

-- each node is under itself
pub under_first : (todo : List Node) (d : Deeds) → d.journal ≡ [] → AreUnder todo todo d.journal
under_first todo d none = record {
  todo_is = every_more (λ (x : Node). In x todo) (λ (x : Node). IsUnder todo x.path) todo (λ x i. (x, [], i, sym (append-nil x.path))) (every_in_all todo todo (λ x i. i));
  journal_is = subst (Every (λ (x : Entry). IsUnder todo x.path)) (sym none) tt;
}
