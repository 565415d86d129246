-- The words of each reason why a step is not allowed.
use Rattle.std.specs.Prelude.{ℕ, ◌==◌, Bool, List, ◌++◌, decimal, codes, Option, Some, None, if◌then◌else◌}
use Rattle.vk_types.specs.Types.{Answer, Call, MoveName, Name, Pid, State}
use Rattle.vk_base.specs.declared.kernel.State.TheVariants as states
use Rattle.vk_text.specs.Spelling.{call_text, pid_text}
use Rattle.v_trace.specs.Texts.{answer_text, ending_text}
use Rattle.v_obstacle.specs.declared.obstacle.Obstacle.{Obstacle}
use Rattle.v_obstacle.specs.declared.obstacle.Obstacle.TheVariants as obstacles
use Rattle.v_obstacle.specs.declared.obstacle.Standing.{Standing}
use Rattle.v_obstacle.specs.declared.obstacle.Standing.TheVariants as standings
use Rattle.v_obstacle.specs.declared.obstacle.Wanted.{Wanted}
use Rattle.v_obstacle.specs.declared.obstacle.Wanted.TheVariants as wanted

-- `Send NUMBER of PID`
unfoldable pub send_text : Name → List ℕ
send_text name = codes "Send " ++ decimal name.number ++ codes " of " ++ pid_text name.sender

-- `move NUMBER of Send NUMBER of PID`
unfoldable pub move_text : Name → ℕ → List ℕ
move_text name moving = codes "move " ++ decimal moving ++ codes " of " ++ send_text name

-- `lookup NUMBER of PID`
unfoldable pub lookup_text : Pid → ℕ → List ℕ
lookup_text asker number = codes "lookup " ++ decimal number ++ codes " of " ++ pid_text asker

-- bytes of a move: so many are done, and those behind others are to come; or there are so many, and not those of this range
unfoldable pub span_text : (done offset : ℕ) → List ℕ
span_text done offset = decimal done ++ codes " bytes of its open move done, not " ++ decimal offset

unfoldable pub part_text : (offset count : ℕ) → List ℕ
part_text offset count = decimal count ++ codes " from " ++ decimal offset ++ codes " on"

unfoldable pub whole_text : (whole offset count : ℕ) → List ℕ
whole_text whole offset count = decimal whole ++ codes " bytes, not " ++ part_text offset count

-- what a process has to do
abbrev pub wanted_text : Wanted → List ℕ
wanted_text wanted.Receiving = codes " is not blocked in a receive: it is "
wanted_text wanted.Sending = codes " is not blocked in a send: it is "
wanted_text wanted.Moving = codes " is not blocked in a remote move: it is "
wanted_text wanted.Asking = codes " is not blocked in a lookup: it is "
wanted_text wanted.Done = codes " is not done with a call: it is "

-- a call that is over, and its answer
abbrev pub done_text : Call → Answer → List ℕ
done_text call answer = call_text call ++ codes ", which gave " ++ answer_text answer

-- what it does
abbrev pub state_text : State → List ℕ
state_text states.Ready = codes "ready"
state_text (states.Blocked call) = codes "blocked in " ++ call_text call
state_text (states.Done call answer) = codes "done with " ++ done_text call answer

abbrev pub life_text : Bool → State → List ℕ
life_text alive state = if alive then state_text state else codes "dead"

-- how far a message is, in front of the process where it is
abbrev pub standing_text : Standing → List ℕ
standing_text standings.Posted = codes "it is on its way to "
standing_text standings.Queued = codes "it waits in the queue of "
standing_text standings.Taken = codes "it was taken by "
standing_text standings.Replied = codes "it was replied to by "
standing_text standings.Dropped = codes "it was dropped at "

-- which move of an exchange was opened last
abbrev pub opened_text : ℕ → List ℕ
opened_text opened = if opened == 0 then codes "none was opened" else decimal opened ++ codes " was opened last"

-- in which move a process is
abbrev pub moving_text : Option MoveName → List ℕ
moving_text None = codes " has begun no remote move"
moving_text (Some m) = codes " is in " ++ move_text m.exchange m.number

-- Which condition fails, with the state that it is about. Of an exchange that is over nothing is kept: it is told as one that is not there.
abbrev pub reason_text : Obstacle → List ℕ
reason_text (obstacles.NoProcess pid) = pid_text pid ++ codes " is no process"
reason_text (obstacles.Otherwise what pid alive state) = pid_text pid ++ wanted_text what ++ life_text alive state
reason_text (obstacles.NotSent name sends) =
    send_text name ++ codes " is not there, or it is over: Sends begun there: " ++ decimal sends
reason_text (obstacles.OtherSend name sends) =
    pid_text name.sender ++ codes " waits in its Send " ++ decimal sends ++ codes ", not in Send " ++ decimal name.number
reason_text (obstacles.NotPosted name at standing) =
    send_text name ++ codes " is not on its way: " ++ standing_text standing ++ pid_text at
reason_text (obstacles.NotReplied name at standing) =
    send_text name ++ codes " has no reply: " ++ standing_text standing ++ pid_text at
reason_text (obstacles.DeadTarget name target) = send_text name ++ codes " is to " ++ pid_text target ++ codes ", which is not alive"
reason_text (obstacles.NothingQueued pid) = codes "nothing waits in the queue of " ++ pid_text pid
reason_text (obstacles.OneStation pid other) = pid_text pid ++ codes " and " ++ pid_text other ++ codes " live on one station"
reason_text (obstacles.Alive name at) = pid_text at ++ codes " is alive, which has " ++ send_text name
reason_text (obstacles.NoSuchEnding why) = ending_text why ++ codes " is not how it can end"
reason_text (obstacles.NoMove name moving moves) = move_text name moving ++ codes " is not there: moves begun there: " ++ decimal moves
reason_text (obstacles.OpenedBefore name moving opened) = move_text name moving ++ codes " comes too late: " ++ opened_text opened
reason_text (obstacles.NotOpen name moving opened) = move_text name moving ++ codes " is not open: " ++ opened_text opened
reason_text (obstacles.OtherOffset name offset done) =
    send_text name ++ codes " has " ++ span_text done offset
reason_text obstacles.NoBytes = codes "it copies no bytes"
reason_text (obstacles.TooManyBytes name moving offset count whole) =
    move_text name moving ++ codes " has " ++ whole_text whole offset count
reason_text (obstacles.OtherMove pid moving) = pid_text pid ++ moving_text moving
reason_text (obstacles.Incomplete name moving done whole) =
    codes "of " ++ move_text name moving ++ codes " bytes are done: " ++ decimal done ++ codes " of " ++ decimal whole
reason_text (obstacles.StillWaits name) = pid_text name.sender ++ codes " still waits in " ++ send_text name
reason_text (obstacles.NoLookup asker number lookups) =
    lookup_text asker number ++ codes " is not there: lookups begun there: " ++ decimal lookups
reason_text (obstacles.NotTold logical pid) =
    pid_text pid ++ codes " is not told to other stations as " ++ decimal logical
reason_text (obstacles.NotHeard asker number pid) =
    pid_text pid ++ codes " was not heard of in " ++ lookup_text asker number
