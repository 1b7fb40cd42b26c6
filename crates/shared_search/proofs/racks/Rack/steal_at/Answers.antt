use Rattle.std.proofs.Common.{◌≡◌, ◌<◌, [], length, ap, arith, ◌∙◌}
use Rattle.std.proofs.lemmas.List.{length-set}
use Rattle.crossbeam_deque.specs.Handles.{view, stealer_deque, IsPassOf}
use Rattle.shared_search.specs.declared.rule.Hand.{Hand}
use Rattle.shared_search.proofs.Parts.{stolen_by, stolen_none, at_each, few_at}
use Rattle.shared_search.proofs.racks.Rack.steal_at.Goals as goal

pub returns-clause-pass : goal.returns-clause-pass
returns-clause-pass g c =
    let r = c.requires.pass in
    let s = c.steal.ensures.same in
    let t = c.index_mut.ensures.value in
    let lt : c.args.victim < length c.args.pass.now.tokens.items = omega (arith, r.tokens, c.requires.victim) in
    record {
      number = r.number;
      tokens = length-set c.args.pass.now.tokens.items c.args.victim c.steal.new.token ∙ r.tokens;
      flavor = r.flavor;
      parts = r.parts;
      few = r.few;
      deque = r.deque;
      flavors = r.flavors;
      belong = λ k d. at_each (λ j e. IsPassOf (stealer_deque (Rattle.std.specs.List.slice_index_or c.args.self.now.thieves.items j d)) e) (length c.args.self.now.thieves.items) c.args.pass.now.tokens.items c.args.victim c.steal.new.token lt
          (let old = r.belong c.args.victim d c.index_mut.result.now c.requires.victim in (s.0 ∙ ap (λ e. e.rows) t ∙ old.0, s.1 ∙ ap (λ e. e.heap) t ∙ old.1, s.3, s.4))
          (λ j e jlt. r.belong j d e jlt) k;
      shares = λ k d lt'. at_each (λ j e. (view {V = Hand} e).parts ≡ 1) (length c.args.pass.now.tokens.items) c.args.pass.now.tokens.items c.args.victim c.steal.new.token lt
          (c.steal.ensures.parts.0 ∙ ap (λ e. (view {V = Hand} e).parts) t ∙ r.shares c.args.victim c.index_mut.result.now lt) r.shares k d (omega (arith, length-set c.args.pass.now.tokens.items c.args.victim c.steal.new.token));
      counts = r.counts;
      room = r.room;
      index = r.index;
      idle = λ k d lt'. at_each (λ j e. (view {V = Hand} e).put ≡ []) (length c.args.pass.now.tokens.items) c.args.pass.now.tokens.items c.args.victim c.steal.new.token lt
          (c.steal.ensures.parts.1 ∙ ap (λ e. (view {V = Hand} e).put) t ∙ r.idle c.args.victim c.index_mut.result.now lt) r.idle k d (omega (arith, length-set c.args.pass.now.tokens.items c.args.victim c.steal.new.token));
    }

pub returns-clause-took : goal.returns-clause-took
returns-clause-took g c = stolen_by _ _ _ _ _ _ _ (omega (arith, c.requires.pass.tokens, c.requires.victim)) c.index_mut.ensures.value c.steal.ensures.took

pub returns-clause-none : goal.returns-clause-none
returns-clause-none g c = stolen_none _ _ _ _ _ _ _ (omega (arith, c.requires.pass.tokens, c.requires.victim)) c.index_mut.ensures.value c.steal.ensures.none

pub returns-clause-few : goal.returns-clause-few
returns-clause-few g c = few_at g.M.Wanted.meets c.steal.result c.args.pass.now.tokens.items c.args.victim c.index_mut.result.now c.steal.new.token (omega (arith, c.requires.pass.tokens, c.requires.victim)) c.index_mut.ensures.value c.steal.ensures.none
