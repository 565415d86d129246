use Rattle.v_storm.proofs.Laws as laws
use Rattle.v_storm.proofs.storms_are_lawful.Goals as goal

pub returns-clause-whole : goal.returns-clause-whole
returns-clause-whole c = laws.storms_are_lawful

pub returns-clause-fronts : goal.returns-clause-fronts
returns-clause-fronts c = laws.fronts_are_lawful
