use Rattle.std.proofs.Common.{◌≡◌, length, replicate, None, List, ℤ, sym, ap, ◌∙◌}
use Rattle.std.proofs.lemmas.List.{length-replicate}
use Rattle.proof_trees.specs.Boxes.{Box}
use Rattle.zero_one_rows.specs.Variables.{Voyage, variables}
use Rattle.row_matrix.specs.Terms.{slack_in}
use Rattle.row_matrix.specs.Waiting.{number_at}
use Rattle.partial_plan.proofs.Trails.{trails_free}
use Rattle.partial_plan.proofs.state.PropagationState.free.Goals as goal

pub returns-clause-state : goal.returns-clause-state
returns-clause-state c =
    let box : c.in_ok-b.b ≡ replicate (length (variables c.args.matrix.now)) None = c.in_ok-b.ensures ∙ ap (λ (w : Voyage). replicate (length (variables w)) None) c.model.ensures in
    let len : length c.in_ok-b.b ≡ length (variables c.args.matrix.now) = ap (λ (b : Box). length b) box ∙ length-replicate (length (variables c.args.matrix.now)) None in
    let vars : c.vars-vars.result ≡ length (variables c.args.matrix.now) = c.vars-vars.ensures.number ∙ ap (λ (w : Voyage). length (variables w)) c.model-2.ensures in
    record {
      holds = record {
        whole = len;
        short = record { slacks = ap (λ (xs : List ℤ). length xs) c.in_ok-slacks.ensures.slack ∙ c.slacks.ensures.many; marks = c.in_ok-slacks.ensures.len ∙ c.slacks.ensures.many; count = c.in_ok-slacks.ensures.count };
        slack = λ k lt. ap (λ (xs : List ℤ). number_at xs k) c.in_ok-slacks.ensures.slack ∙ c.slacks.ensures.each k lt ∙ ap (λ (b : Box). slack_in c.args.matrix.now b k) (sym box);
      };
      trails = trails_free c.args.matrix.now (record { b = c.in_ok-b.b; undo = c.in_ok-undo.undo; quiet = c.into_items-quiet.result; slacks = c.in_ok-slacks.slacks }) c.vars-vars.result (len ∙ sym vars) c.in_ok-undo.ensures.items c.in_ok-undo.ensures.capacity (c.into_items-quiet.ensures ∙ c.in_ok-filled.ensures);
    }
