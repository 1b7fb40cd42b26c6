-- What a key gives.
use Rattle.std.proofs.Common.{◌≡◌, Result, Ok, Err}
use Rattle.ship_profile.specs.declared.faults.ProfileFault.{ProfileFault}
use Rattle.ship_profile.specs.Keys.{Gives}

-- what is read is what is returned
pub same_gives : {X : Type 0} (result read : Result X ProfileFault) → read ≡ result → Gives (λ (x : X). x) result read
same_gives (Ok x) read same = same
same_gives (Err e) read same = λ other. same
