use Rattle.std.proofs.Common.{rules, ◌≡◌, suc, ◌+◌, ◌<◌, ◌≤◌, List, [], ◌∷◌, ◌++◌, length, reverse, All, refl, sym, ap, subst, ◌∙◌, arith}
use Rattle.std.specs.Prelude.{vec_len}
use Rattle.std.proofs.lemmas.List.Elements.{All-append, All-cons, All-nil}
use Rattle.certificate.specs.declared.tree.Record.{Record}
use Rattle.certificate.specs.Entries.{entry_of}
use Rattle.search_core.specs.declared.node_keys.NodeKey.{NodeKey}
use Rattle.search_core.specs.declared.node_keys.NodeKey.TheVariants.{Root}
use Rattle.search_core.specs.declared.records.Done.{Done}
use Rattle.search_core.specs.Told.{told, InTable}
use Rattle.search_core.proofs.Earlier.{earlier}
use Rattle.event_search.specs.declared.event_nodes.Step.{Step}
use Rattle.event_search.specs.Cores.{node_at}
use Rattle.event_search.proofs.Ways
use Rattle.event_search.proofs.event_nodes.lead_to.Goals as goal

pub loop-here-init : goal.loop-here-init
loop-here-init c =
    let none : length c.clear.new.self.items ≡ 0 = ap (λ (xs : List Step). length xs) c.clear.ensures.items in
    record {
      named = c.requires.named;
      way = λ m. Ways.none_up m c.args.ended.now c.args.node c.clear.new.self.items c.clear.ensures.items;
      inside = λ k d lt. absurd (omega (arith, lt, none));
      room = c.clear.ensures.capacity;
      below = omega (arith, c.clear.ensures.len, Ways.height_named (length c.args.ended.now) c.args.node c.requires.named);
    }

pub ended_node-here-requires : goal.ended_node-here-requires
ended_node-here-requires c = subst (λ (k : NodeKey). InTable (length c.args.ended.now) k) c.in-Half.is c.loop-here.invariant.named

pub push_reserved-requires : goal.push_reserved-requires
push_reserved-requires c =
    let below = subst (λ (k : NodeKey). vec_len c.loop-here.way + Ways.height k ≤ length c.args.ended.now) c.in-Half.is c.loop-here.invariant.below in
    omega (arith, below, c.requires.room, c.loop-here.invariant.room)

pub loop-here-smaller : goal.loop-here-smaller
loop-here-smaller c =
    let d : Done Record = c.ended_node-here.ensures.0 in
    let low : Ways.height d.node < suc c.in-Half.entry = Ways.above_lower c.in-Half.entry d.node (earlier c.args.ended.now c.in-Half.entry d c.requires.earlier c.ended_node-here.ensures.1) in
    let here : Ways.height c.ended_node-here.result < suc c.in-Half.entry = subst (λ (k : NodeKey). Ways.height k < suc c.in-Half.entry) (sym c.ended_node-here.ensures.2) low in
    subst (λ (k : NodeKey). Ways.height c.ended_node-here.result < Ways.height k) (sym c.in-Half.is) here

pub loop-here-preserved : goal.loop-here-preserved
loop-here-preserved c =
    let ds : List (Done Record) = c.args.ended.now in
    let d : Done Record = c.ended_node-here.ensures.0 in
    let s : Step = record { entry = c.in-Half.entry; value = c.in-Half.value } in
    let lt : c.in-Half.entry < length ds = subst (λ (k : NodeKey). InTable (length ds) k) c.in-Half.is c.loop-here.invariant.named in
    let low : Ways.height d.node < suc c.in-Half.entry = Ways.above_lower c.in-Half.entry d.node (earlier ds c.in-Half.entry d c.requires.earlier c.ended_node-here.ensures.1) in
    let here : Ways.height c.ended_node-here.result < suc c.in-Half.entry = subst (λ (k : NodeKey). Ways.height k < suc c.in-Half.entry) (sym c.ended_node-here.ensures.2) low in
    let was : Ways.height c.loop-here.here ≡ suc c.in-Half.entry = ap (λ (k : NodeKey). Ways.height k) c.in-Half.is in
    record {
      named = subst (λ (k : NodeKey). InTable (length ds) k) (sym c.ended_node-here.ensures.2) (Ways.above_named ds c.in-Half.entry d c.requires.earlier lt c.ended_node-here.ensures.1);
      way = λ m.
          Ways.one_up m ds c.args.node c.in-Half.entry c.in-Half.value d c.loop-here.way.items s c.requires.earlier c.ended_node-here.ensures.1 refl refl
          (subst (λ (k : NodeKey). node_at m ds c.args.node ≡ Ways.beyond (told (entry_of m) ds) (node_at m ds k) (reverse c.loop-here.way.items)) c.in-Half.is (c.loop-here.invariant.way m))
          ∙ (ap (λ (k : NodeKey). Ways.beyond (told (entry_of m) ds) (node_at m ds k) (reverse (c.loop-here.way.items ++ s ∷ []))) (sym c.ended_node-here.ensures.2)
          ∙ ap (λ (u : List Step). Ways.beyond (told (entry_of m) ds) (node_at m ds c.ended_node-here.result) (reverse u)) (sym c.push_reserved.ensures.items));
      inside = subst (λ (u : List Step). All (λ (t : Step). t.entry < length ds) u) (sym c.push_reserved.ensures.items)
          (All-append (λ (t : Step). t.entry < length ds) c.loop-here.way.items (s ∷ []) c.loop-here.invariant.inside (All-cons (λ (t : Step). t.entry < length ds) s [] lt (All-nil (λ (t : Step). t.entry < length ds))));
      room = c.push_reserved.ensures.capacity ∙ c.loop-here.invariant.room;
      below = omega (arith, c.push_reserved.ensures.len, c.loop-here.invariant.below, here, was);
    }

pub returns-clause-way : goal.returns-clause-way
returns-clause-way c =
    let root : c.loop-here.here ≡ Root = search rules in
    λ m. Ways.at_root m c.args.ended.now c.args.node c.loop-here.here c.loop-here.way.items c.reverse.new.self.items root c.reverse.ensures.items (c.loop-here.invariant.way m)

pub returns-clause-inside : goal.returns-clause-inside
returns-clause-inside c =
    subst (λ (u : List Step). All (λ (t : Step). t.entry < length c.args.ended.now) u) (sym c.reverse.ensures.items) (Ways.all_reverse (λ (t : Step). t.entry < length c.args.ended.now) c.loop-here.way.items c.loop-here.invariant.inside)
