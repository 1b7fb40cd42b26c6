use Rattle.std.proofs.Common.{arith, ◌≡◌, ◌<◌, ◌+◌, ◌++◌, [], ◌∷◌, true, length, set, None, Some, refl, rules}
use Rattle.std.proofs.lemmas.Option.{get_or_from_slice_get, slice_get_within}
use Rattle.proof_trees.specs.Boxes.{at}
use Rattle.partial_plan.specs.Fixing.{free_in}
use Rattle.partial_plan.proofs.Trails.{free_fixed, push_length, room_left, trails_fixed}
use Rattle.partial_plan.proofs.state.PropagationState.fix.Goals as goal

pub unwrap-requires : goal.unwrap-requires
unwrap-requires c =
    let free : at c.args.self.now.b c.args.x ≡ None = get_or_from_slice_get c.args.self.now.b c.args.x None None c.requires.free in
    let inside : c.args.x < length c.args.self.now.b = slice_get_within c.args.self.now.b c.args.x None c.requires.free in
    c.push.ensures.succeeds (omega (arith, c.args.self.now.undo.ok.0, room_left c.args.matrix.now c.args.self.now c.args.x c.requires.state.trails inside free))

pub index_mut-requires : goal.index_mut-requires
index_mut-requires c =
    let free : at c.args.self.now.b c.args.x ≡ None = get_or_from_slice_get c.args.self.now.b c.args.x None None c.requires.free in
    let inside : c.args.x < length c.args.self.now.b = slice_get_within c.args.self.now.b c.args.x None c.requires.free in
    let items : c.push.new.self.items ≡ c.args.self.now.undo.items ++ c.args.x ∷ [] = search rules in
    let n : length c.push.new.self.items ≡ length c.args.self.now.undo.items + 1 = push_length c.args.self.now.undo.items c.push.new.self.items c.args.x items in
    let f : free_in (set c.args.self.now.b c.args.x (Some true)) + 1 ≡ free_in c.args.self.now.b = free_fixed c.args.self.now.b c.args.x true inside free in
    omega (arith, c.len.ensures, c.args.self.now.quiet.ok.0, c.push.new.self.ok.0, c.requires.state.trails.marks, c.requires.state.trails.room)

pub returns-clause-state : goal.returns-clause-state
returns-clause-state c =
    let free : at c.args.self.now.b c.args.x ≡ None = get_or_from_slice_get c.args.self.now.b c.args.x None None c.requires.free in
    let inside : c.args.x < length c.args.self.now.b = slice_get_within c.args.self.now.b c.args.x None c.requires.free in
    let items : c.push.new.self.items ≡ c.args.self.now.undo.items ++ c.args.x ∷ [] = search rules in
    let at_end : c.len.result ≡ length c.push.new.self.items = omega (arith, c.len.ensures, c.push.new.self.ok.0) in
    record {
      holds = c.lower_by.ensures.holds;
      trails = trails_fixed c.args.matrix.now c.args.self.now _ c.args.x c.args.value c.requires.state.trails inside free c.lower_by.ensures.known items c.push.ensures.capacity c.len.result at_end refl;
    }
