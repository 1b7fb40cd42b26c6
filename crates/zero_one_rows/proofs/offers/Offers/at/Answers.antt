use Rattle.std.proofs.Common.{◌≡◌, ◌∙◌, ap, arith, List}
use Rattle.zero_one_rows.specs.Variables.{kind, no_kind}
use Rattle.stow_data.specs.declared.kind_list.Kind.{Kind}
use Rattle.std.specs.Prelude.{slice_index_or}
use Rattle.zero_one_rows.proofs.Offered.{offered_none}
use Rattle.zero_one_rows.proofs.offers.Offers.at.Goals as goal

pub returns-else-kind-call : goal.returns-else-kind-call
returns-else-kind-call g c =
    let same : c.kind_at-kind.result.now ≡ kind g.m c.args.g = c.kind_at-kind.ensures ∙ ap (λ (ks : List Kind). slice_index_or ks c.args.g no_kind) c.requires.1.0 in
    let first = ap (λ (k : Kind). k.first) (c.kind.view_is ∙ same) in
    offered_none g.m c.args.call c.args.g (λ e. c.if-call-eq0.false (c.call.view_is ∙ e)) (omega (arith, c.if-kind-call.false, first, c.call.view_is))
