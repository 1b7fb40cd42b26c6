-- The records of a worker are of nodes that it took, as long as its deque has refused none.
use Rattle.std.proofs.Common.{◌≡◌, ℕ, ◌+◌, ◌<◌, List, [], ◌∷◌, ◌++◌, length, Option, ap, sym, subst, ◌∙◌, arith}
use Rattle.certificate.specs.declared.nodes.Node.{Node}
use Rattle.certificate.specs.declared.journals.Entry.{Entry}
use Rattle.certificate.specs.declared.tree.Record.{Record}
use Rattle.search_core.specs.Bags.{weigh}
use Rattle.search_core.specs.Journals.{Path}
use Rattle.search_core.proofs.Weights.{weigh_append}
use Rattle.shared_search.specs.declared.view.View.{View}
use Rattle.shared_search.specs.declared.racks.Pass.{Pass}
use Rattle.shared_search.specs.Racks.{puts_of, took_weight}
use Rattle.zero_one_rows.specs.Variables.{Voyage}
use Rattle.node_solver.specs.declared.worked.Worked.{Worked}
use Rattle.node_solver.specs.declared.worked.Worked.TheVariants.{Closed, Branched, Full, NoMemory}
use Rattle.steal_pool.specs.declared.deeds.Deeds.{Deeds}
use Rattle.steal_pool.specs.declared.deeds.Halves.{Halves}
use Rattle.steal_pool.specs.Deeds.{Did}
use Rattle.steal_pool.specs.UnderWay.{entry_at}
use Rattle.steal_pool.specs.Handling.{IsHandled}
use Rattle.steal_pool.specs.Jobs.{HasOwn}

-- ## What handling a node adds

pub one_record : (w : Worked) (n : Node) (halves : Option Halves) (d e : Deeds) → Did w n halves d e → (x : Record) × (e.journal ≡ d.journal ++ entry_at n x ∷ []) × (e.left ≡ d.left)
one_record (Closed r) n halves d e h = (r, ap (λ (x : Deeds). x.journal) h.0, ap (λ (x : Deeds). x.left) h.0)
one_record (Branched r) n halves d e h = (r, ap (λ (x : Deeds). x.journal) h.0, ap (λ (x : Deeds). x.left) h.0)
one_record (Full r b cost) n halves d e h = (r, ap (λ (x : Deeds). x.journal) h.0, ap (λ (x : Deeds). x.left) h.0)
one_record NoMemory n halves d e h = absurd h

-- ## What a worker took

module _ {M : Type 0} (room : ℕ) where
  -- a node came
  pub own_got : (p q : Pass M) (d : Deeds) (xs ys : List Node) (n : Node) → puts_of q ≡ puts_of p → ((h : Node → ℕ) → took_weight h q + weigh h xs ≡ took_weight h p + weigh h ys + h n) → (xs ≡ [] → ys ≡ []) → HasOwn room [] p d xs → HasOwn room (n ∷ []) q d ys
  own_got p q d xs ys n put took empty own = λ fits.
      let o = own (omega (arith, fits, ap length put)) in
      (empty o.0, λ h. omega (arith, took (λ x. h x.path), o.1 h, ap (weigh (λ (x : Node). h x.path)) o.0, ap (weigh (λ (x : Node). h x.path)) (empty o.0)))

  -- none came
  pub own_none : (p q : Pass M) (d : Deeds) (xs ys : List Node) → puts_of q ≡ puts_of p → ((h : Node → ℕ) → took_weight h q ≡ took_weight h p) → ys ≡ [] → HasOwn room [] p d xs → HasOwn room [] q d ys
  own_none p q d xs ys put took empty own = λ fits. let o = own (omega (arith, fits, ap length put)) in (empty, λ h. omega (arith, took (λ x. h x.path), o.1 h))

  -- the same, seen otherwise
  pub own_same : (hand : List Node) (p q : Pass M) (d e : Deeds) (xs ys : List Node) → q ≡ p → e ≡ d → ys ≡ xs → HasOwn room hand p d xs → HasOwn room hand q e ys
  own_same hand p q d e xs ys pass deeds aside own =
      subst (λ (x : Pass M). HasOwn room hand x e ys) (sym pass) (subst (λ (x : Deeds). HasOwn room hand p x ys) (sym deeds) (subst (HasOwn room hand p d) (sym aside) own))

  -- the node in hand was left
  pub own_left : (p : Pass M) (d : Deeds) (xs : List Node) (n : Node) → HasOwn room (n ∷ []) p d xs → HasOwn room [] p (record d { left = d.left ++ n.path ∷ [] }) xs
  own_left p d xs n own = λ fits. let o = own fits in (o.0, λ h. omega (arith, o.1 h, weigh_append h d.left (n.path ∷ [])))

  -- it was handled, and its halves were put
  pub own_handled : (m : Voyage) (v w : View) (halves : Option Halves) (p q : Pass M) (d e : Deeds) (xs ys : List Node) (n : Node) → IsHandled m n v w d e halves → ((h : Node → ℕ) → took_weight h q ≡ took_weight h p)
      → (length (puts_of q) < room → (ys ≡ xs) × (length (puts_of p) < room)) → HasOwn room (n ∷ []) p d xs → HasOwn room [] q e ys
  own_handled m v w halves p q d e xs ys n h took within own = λ fits.
      let k = within fits in
      let o = own k.1 in
      let r = one_record h.ended n halves d e h.did in (
        k.0 ∙ o.0,
        λ f. omega (
          arith,
          took (λ x. f x.path),
          o.1 f,
          ap (weigh (λ (x : Entry). f x.path)) r.1,
          ap (weigh f) r.2,
          weigh_append (λ (x : Entry). f x.path) d.journal (entry_at n r.0 ∷ []),
        ),
      )
