use Rattle.model_bridge.proofs.Begun.{if_ok}
use Rattle.model_bridge.proofs.pairs.held_with.Goals as goal

pub returns : goal.returns
returns c = if_ok _ _ c.matched-next.result
    (λ next e. record {
      put = c.in_ok-vars.vars;
      boxes = c.args.boxes.now;
      all_put = c.in_ok-vars.ensures.same;
      put_up = c.in_ok-vars.ensures.order;
      all_boxes = c.requires.same;
      boxes_up = c.requires.order;
      is = e;
    }) c.matched-next.ensures
