use Rattle.event_search.proofs.Answering
use Rattle.event_search.proofs.machine.Core.accept.Goals as goal

pub returns-clause-accepted : goal.returns-clause-accepted
returns-clause-accepted g c = Answering.accepted c.args.event c.args.self.now c.answer.new.self c.answer.result c.answer.ensures

pub returns-clause-refused : goal.returns-clause-refused
returns-clause-refused g c = Answering.refused_with c.args.event c.args.self.now c.answer.new.self c.answer.result c.answer.ensures

pub returns-clause-given_back : goal.returns-clause-given_back
returns-clause-given_back g c = Answering.given_back c.args.event c.args.self.now c.answer.new.self c.answer.result c.answer.ensures

pub returns-clause-unchanged : goal.returns-clause-unchanged
returns-clause-unchanged g c = Answering.unchanged c.args.event c.args.self.now c.answer.new.self c.answer.result c.answer.ensures

pub returns-clause-room : goal.returns-clause-room
returns-clause-room g c = Answering.one_taken c.args.event c.args.self.now c.answer.new.self c.answer.result c.answer.ensures

pub returns-clause-voyage : goal.returns-clause-voyage
returns-clause-voyage g c = Answering.same_voyage c.args.event c.args.self.now c.answer.new.self c.answer.result c.answer.ensures
