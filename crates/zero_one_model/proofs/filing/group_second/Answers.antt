use Rattle.std.proofs.Common.{◌≡◌, ◌∙◌, arith, ap, length}
use Rattle.std.proofs.lemmas.List.{length-map}
use Rattle.zero_one_rows.specs.Counted.{base_in}
use Rattle.zero_one_model.specs.Runs.{second_file}
use Rattle.zero_one_model.proofs.Filed.{base_few}
use Rattle.zero_one_model.proofs.filing.group_second.Goals as goal

pub group-groups-requires : goal.group-groups-requires
group-groups-requires c =
    let few = base_few c.args.lists.now in
    let long : length c.as_slice.result.now ≡ length (base_in c.args.lists.now) = ap length (c.as_slice.ensures ∙ c.in_ok-keys.ensures) ∙ length-map (base_in c.args.lists.now) (second_file c.args.ship.now) in
    omega (arith, few, long, c.requires.few)
