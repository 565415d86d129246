use Rattle.std.proofs.Common.{inl, inr, refl}
use Rattle.v_trace.proofs.RemainingSteps.{all_left, bad_behind_all, few_left}
use Rattle.v_trace.proofs.TraceLines.{no_title, head_wanted, wanted_head}
use Rattle.v_trace.proofs.reader.StepReader.new.Goals as goal

pub returns-in-Ok-clause-trace : goal.returns-in-Ok-clause-trace
returns-in-Ok-clause-trace c =
    all_left c.args.text.now c.in-Ok.head.config c.in-Ok.head.at c.in-Ok.ensures.head c.in-Ok.ensures.config

pub returns-in-Ok-clause-bad : goal.returns-in-Ok-clause-bad
returns-in-Ok-clause-bad c = bad_behind_all c.in-Ok.head.config _

pub returns-in-Ok-clause-few : goal.returns-in-Ok-clause-few
returns-in-Ok-clause-few c = few_left c.args.text.now c.in-Ok.head.at c.in-Ok.head.config

pub returns-in-Err-NoTitle-clause-refused : goal.returns-in-Err-NoTitle-clause-refused
returns-in-Err-NoTitle-clause-refused c =
    inr (no_title c.args.text.now c.in-Err-NoTitle.field-0 c.in-Err-NoTitle.field-0-is c.in-Err-NoTitle.ensures.refused)

pub returns-in-Err-NoMemory-clause-refused : goal.returns-in-Err-NoMemory-clause-refused
returns-in-Err-NoMemory-clause-refused c =
    inl (
      refl,
      head_wanted c.args.text.now
          (wanted_head c.args.text.now c.in-Err-NoMemory.field-0 c.in-Err-NoMemory.field-0-is c.in-Err-NoMemory.ensures.refused),
    )
