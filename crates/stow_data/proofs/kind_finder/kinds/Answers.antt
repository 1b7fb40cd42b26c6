use Rattle.std.proofs.Common.{◌≡◌, ◌<◌, ◌∙◌, ℕ, List, [], map, ap, arith, sym, subst, length}
use Rattle.std.specs.Prelude.{slice_get, slice_index, slice_index_or}
use Rattle.stow_data.specs.declared.cargoes.Container.{Container}
use Rattle.stow_data.specs.declared.kind_list.Kind.{Kind}
use Rattle.stow_data.specs.Kinds.{number_in, kind_of, kinds_of, loads_in, KindTable, AreKinds}
use Rattle.stow_data.proofs.KindLemmas.{each_in, kinds_few, are_kinds, load_low}
use Rattle.stow_data.proofs.kind_finder.kinds.Goals as goal

pub rows_of-requires-clause-in_range : goal.rows_of-requires-clause-in_range
rows_of-requires-clause-in_range c =
    let each : c.in_ok-each.each ≡ map (λ (x : Container). number_in c.in_ok-list.list (kind_of c.args.ship.now.weight_step x)) c.containers-containers.result.now =
    c.in_ok-each.ensures ∙ ap (λ (ks : List Kind). map (λ (x : Container). number_in ks (kind_of c.args.ship.now.weight_step x)) c.containers-containers.result.now) c.deref.ensures in
    rw (c.deref-2.ensures, c.len.ensures) (each_in c.args.ship.now.weight_step c.containers-containers.result.now c.in_ok-list.list c.in_ok-each.each c.in_ok-list.ensures each)

pub invariant_of-result : goal.invariant_of-result
invariant_of-result c =
    let each : c.in_ok-each.each ≡ map (λ (x : Container). number_in c.in_ok-list.list (kind_of c.args.ship.now.weight_step x)) c.containers-containers.result.now =
    c.in_ok-each.ensures ∙ ap (λ (ks : List Kind). map (λ (x : Container). number_in ks (kind_of c.args.ship.now.weight_step x)) c.containers-containers.result.now) c.deref.ensures in
    let few : length c.in_ok-list.list ≡ length (kinds_of c.args.ship.now.weight_step c.containers-containers.result.now) = ap length c.in_ok-list.ensures in
    let all : length c.containers-containers.result.now ≡ length c.args.cargo.now.containers = ap length c.containers-containers.ensures in
    record {
      few = omega (arith, few, all, kinds_few c.args.ship.now.weight_step c.containers-containers.result.now, c.calls-calls.ensures.rules.few_containers);
      each = each_in c.args.ship.now.weight_step c.containers-containers.result.now c.in_ok-list.list c.in_ok-each.each c.in_ok-list.ensures each;
      loads = λ k d l. c.in_ok-loads.ensures.each_kind k d l ∙ c.len.ensures;
    }

pub returns : goal.returns
returns c =
    let each : c.in_ok-each.each ≡ map (λ (x : Container). number_in c.in_ok-list.list (kind_of c.args.ship.now.weight_step x)) c.containers-containers.result.now =
    c.in_ok-each.ensures ∙ ap (λ (ks : List Kind). map (λ (x : Container). number_in ks (kind_of c.args.ship.now.weight_step x)) c.containers-containers.result.now) c.deref.ensures in
    let table : KindTable = record { list = c.in_ok-list.list; each = c.in_ok-each.each; loads = c.in_ok-loads.loads } in
    let counts : (i g : ℕ) → i < c.calls-calls.result → g < length c.in_ok-list.list → slice_index (slice_index_or c.in_ok-loads.loads i []) g ≡ loads_in i c.containers-containers.result.now c.in_ok-each.each g =
    λ i g l m. c.in_ok-loads.ensures.counts i g l (omega (arith, m, c.len.ensures)) ∙ ap (λ (ks : List ℕ). loads_in i c.containers-containers.result.now ks g) c.deref-2.ensures in
    let made : AreKinds c.args.ship.now.weight_step c.containers-containers.result.now table =
    are_kinds c.args.ship.now.weight_step c.calls-calls.result c.containers-containers.result.now table c.in_ok-list.ensures each c.in_ok-loads.ensures.each_call counts
    (λ j x is. let r = load_low c.args.cargo.now j x c.calls-calls.ensures.rules (ap (λ (xs : List Container). slice_get xs j) (sym c.containers-containers.ensures) ∙ is) in omega (arith, r, c.calls-calls.ensures.number)) in
    subst (λ (xs : List Container). AreKinds c.args.ship.now.weight_step xs table) c.containers-containers.ensures made
