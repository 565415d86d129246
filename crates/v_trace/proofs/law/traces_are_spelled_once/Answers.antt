use Rattle.v_trace.proofs.TraceTexts.{traces_back, traces_once}
use Rattle.v_trace.proofs.law.traces_are_spelled_once.Goals as goal

pub returns-clause-back : goal.returns-clause-back
returns-clause-back c = traces_back

pub returns-clause-once : goal.returns-clause-once
returns-clause-once c = traces_once
