use Rattle.std.proofs.Common.{rules, ◌≡◌, ℕ, Option, sym, subst}
use Rattle.std.specs.Prelude.{MatchOption}
use Rattle.std.specs.BTreeMap.{get}
use Rattle.bookings.specs.Ids.{name_order}
use Rattle.plan_files.specs.Ids.{HasId}
use Rattle.plan_files.proofs.Tables.{number_inside, number_is}
use Rattle.plan_files.proofs.ids.named.Goals as goal

pub returns-clause-is : goal.returns-clause-is
returns-clause-is c =
    let e : c.copied.result ≡ get name_order c.args.table.now c.args.id.now = search rules in
    number_is c.args.cargo.now c.args.id.now c.copied.result c.obeys_rules.ensures
    (subst (λ (o : Option ℕ). MatchOption o ((n : ℕ) → HasId c.args.cargo.now.containers c.args.id.now n → ⊥) (λ n. HasId c.args.cargo.now.containers c.args.id.now n)) (sym e) (c.requires.leads c.args.id.now))

pub returns-clause-inside : goal.returns-clause-inside
returns-clause-inside c =
    let e : c.copied.result ≡ get name_order c.args.table.now c.args.id.now = search rules in
    number_inside c.args.cargo.now.containers c.args.id.now c.copied.result
    (subst (λ (o : Option ℕ). MatchOption o ((n : ℕ) → HasId c.args.cargo.now.containers c.args.id.now n → ⊥) (λ n. HasId c.args.cargo.now.containers c.args.id.now n)) (sym e) (c.requires.leads c.args.id.now))
