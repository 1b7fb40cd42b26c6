use Rattle.std.proofs.Common.{◌++◌, length, take, subst}
use Rattle.std.specs.Io.KnownBytes.{Appends}
use Rattle.std.proofs.KnownBytes.{Appends-trans}
use Rattle.stow_io.proofs.Written.{kept, front, moves_front}
use Rattle.stow_io.proofs.streams.write_whole.Goals as goal

pub loop-rest-preserved : goal.loop-rest-preserved
loop-rest-preserved g c =
    let (done, split, appended) = c.loop-rest.invariant in
    let rest = c.loop-rest.rest.now in
    (done ++ take c.in-Ok.count rest, moves_front _ done rest c.in-Ok.count split, Appends-trans _ _ _ _ _ appended c.in-Ok.ensures.bytes)

pub returns-in_default-clause-part : goal.returns-in_default-clause-part
returns-in_default-clause-part g c =
    let (done, split, appended) = c.loop-rest.invariant in
    let rest = c.loop-rest.rest.now in
    (length (done ++ take c.in-Ok.count rest), subst (Appends _ _) (front _ (done ++ take c.in-Ok.count rest) _ (moves_front _ done rest c.in-Ok.count split)) (Appends-trans _ _ _ _ _ appended c.in-Ok.ensures.bytes))

pub returns-in_default-2-clause-part : goal.returns-in_default-2-clause-part
returns-in_default-2-clause-part g c =
    let (done, split, appended) = c.loop-rest.invariant in
    (length done, subst (Appends _ _) (front _ done _ split) (kept _ _ _ _ appended c.in_default.ensures.bytes))

pub returns-clause-part : goal.returns-clause-part
returns-clause-part g c =
    let (done, split, appended) = c.loop-rest.invariant in
    (length done, subst (Appends _ _) (front _ done _ split) appended)
