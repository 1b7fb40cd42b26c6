use Rattle.search_core.proofs.Searching.{searching_begins, searching_closes, searching_offers, searching_divides, searching_ends}
use Rattle.search_core.proofs.machine_laws.searching_goes_on.Goals as goal

pub returns-clause-begins : goal.returns-clause-begins
returns-clause-begins g c = λ same p base start. searching_begins same p base start

pub returns-clause-closes : goal.returns-clause-closes
returns-clause-closes g c = λ same p base entries waiting n e start best value s le fine is. searching_closes same p base entries waiting n e start best value s le fine is

pub returns-clause-offers : goal.returns-clause-offers
returns-clause-offers g c = λ same p base entries waiting n e start best cost s le fine is full paid. searching_offers same p base entries waiting n e start best cost s le fine is full paid

pub returns-clause-divides : goal.returns-clause-divides
returns-clause-divides g c = λ same p base entries waiting n e start best value s le fine is. searching_divides same p base entries waiting n e start best value s le fine is

pub returns-clause-ends : goal.returns-clause-ends
returns-clause-ends g c = λ same p base entries waiting start budget best s few full. searching_ends same p base entries waiting start budget best s few full
