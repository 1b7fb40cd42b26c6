use Rattle.std.proofs.Common.{◌∙◌, sym, subst, ap, List}
use Rattle.zero_one_rows.specs.declared.program.Row.{Row}
use Rattle.proof_trees.specs.Trees.{Entry, Proves}
use Rattle.search_core.specs.Journals.{Tree, preorder, Settled}
use Rattle.node_ledger.specs.Gathered.{nodes_of, placed_entries}
use Rattle.node_ledger.proofs.laws.gathered_journals_prove.Goals as goal

pub returns-clause-one : goal.returns-clause-one
returns-clause-one c = λ number journals left records others a b.
    a.in_preorder ∙ ap (λ (t : Tree Row). preorder t) (c.journals_are_a_tree.ensures.one (nodes_of number journals left) a.tree b.tree a.gathers b.gathers) ∙ sym b.in_preorder

pub returns-clause-settled : goal.returns-clause-settled
returns-clause-settled c = λ number same p bound journals left records a each.
    subst (λ (es : List (Entry Row)). Settled same p es bound) (sym a.in_preorder) (c.journals_are_a_tree.ensures.settled same p bound (placed_entries number journals) left a.tree a.gathers each)

pub returns-clause-proved : goal.returns-clause-proved
returns-clause-proved c = λ number same p bound journals records whole a each.
    subst (λ (es : List (Entry Row)). Proves same p es bound) (sym a.in_preorder) (c.journals_are_a_tree.ensures.proved same p bound (placed_entries number journals) a.tree whole a.gathers each)
