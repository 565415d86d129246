-- What exported functions say of a station, which may be none.
use Rattle.std.specs.Prelude.{ℕ, ◌≡◌, ◌+◌, Bool, true, false, nat_le, nat_lt, ◌++◌, List, length, slice_get, Option, Some, None, if◌then◌else◌}
use Rattle.vk_types.specs.Types.{EventAnswer, Pid, Step}
use Rattle.vk_base.specs.declared.limits.TheConstants.{DATA_BYTES, STATION_EVENTS}
use Rattle.vk_base.specs.Settings.{Settings}
use Rattle.vk_base.specs.Steps.{is_allowed}
use Rattle.vk_base.specs.declared.step.Step.TheVariants as steps
use Rattle.vk_brief.specs.Brief.{call_with}
use Rattle.vk_brief.specs.declared.call.BriefCall.{BriefCall}
use Rattle.vk_fields.specs.declared.answer.AnswerFields.{AnswerFields}
use Rattle.vk_fields.specs.Telling.{told}
use Rattle.vk_rules.specs.Entries.{Called, Collected, Entry, Input}
use Rattle.vk_rules.specs.Readings.{reading}
use Rattle.vk_host.specs.Responses.{loaded}
use Rattle.vk_host.specs.Sealed.{OpensAs}
use Rattle.v_trace.specs.Texts.{step_text}
use Rattle.vk_host.specs.Standing.{IsEvent, StandsAt}
use Rattle.vk_host.specs.Values.{StationValue, has}
use Rattle.vk_c.specs.declared.status.TheConstants as status

-- The station had the event; the fields are its answer.
pub record IsTold (old new : StationValue) (i : Input) (fields : AnswerFields) : Type 0 where
  pub answer : EventAnswer
  pub event : IsEvent old new i answer
  pub told : fields ≡ told answer

abbrev pub HasEvent : (old new : Option StationValue) → Input → AnswerFields → Type 0
HasEvent (Some old) (Some new) i fields = IsTold old new i fields
HasEvent (Some old) None i fields = ⊥
HasEvent None new i fields = ⊥

abbrev pub HasCollect : (old new : Option StationValue) → Option Pid → AnswerFields → Type 0
HasCollect old new None fields = ⊥
HasCollect old new (Some pid) fields = HasEvent old new (Collected pid) fields

abbrev pub HasCall : (old new : Option StationValue) → Option Pid → Option BriefCall → List ℕ → AnswerFields → Type 0
HasCall old new None call bytes fields = ⊥
HasCall old new (Some pid) None bytes fields = ⊥
HasCall old new (Some pid) (Some call) bytes fields = HasEvent old new (Called pid (call_with bytes call)) fields

-- What is answered, by the first of these that holds: there is no station; the process is none of it; the fields are no call; it has had
-- all its events.
abbrev pub status_with_room : Bool → ℕ
status_with_room true = status.OK
status_with_room false = status.SPENT

abbrev pub tick_status : Option StationValue → ℕ
tick_status None = status.NO_STATION
tick_status (Some s) = status_with_room (nat_lt (s.events + 1) STATION_EVENTS)

abbrev pub deliver_status : Option StationValue → ℕ
deliver_status None = status.NO_STATION
deliver_status (Some s) = status_with_room (nat_lt s.events STATION_EVENTS)

abbrev pub has_pid : StationValue → Option Pid → Bool
has_pid s None = false
has_pid s (Some pid) = has s pid

abbrev pub collect_status : Option StationValue → Option Pid → ℕ
collect_status None pid = status.NO_STATION
collect_status (Some s) pid = if has_pid s pid then status_with_room (nat_lt s.events STATION_EVENTS) else status.NO_SUCH_PROCESS

abbrev pub made_status : StationValue → Option BriefCall → ℕ → ℕ
made_status s None bytes = status.BAD_CALL
made_status s (Some call) bytes = if nat_le bytes DATA_BYTES then status_with_room (nat_lt s.events STATION_EVENTS) else status.BAD_CALL

abbrev pub call_status : Option StationValue → Option Pid → Option BriefCall → ℕ → ℕ
call_status None pid call bytes = status.NO_STATION
call_status (Some s) pid call bytes = if has_pid s pid then made_status s call bytes else status.NO_SUCH_PROCESS

-- The frames of the last event.
abbrev pub frame_count : Option StationValue → ℕ
frame_count None = 0
frame_count (Some s) = length s.frames

-- The room begins with this frame, which has this length and opens as one for this station.
pub record IsFrame (s : StationValue) (at : ℕ) (room : List ℕ) (len to : ℕ) : Type 0 where
  pub bytes : List ℕ
  pub frame : slice_get s.frames at ≡ Some bytes
  pub size : len ≡ length bytes
  pub rest : List ℕ
  pub front : room ≡ bytes ++ rest
  pub packet : List ℕ
  pub opens : OpensAs bytes to (at + 1) packet

abbrev pub HasFrame : Option StationValue → ℕ → List ℕ → (len to : ℕ) → Type 0
HasFrame None at room len to = ⊥
HasFrame (Some s) at room len to = IsFrame s at room len to

-- The room begins with these bytes, of which there are so many.
pub record IsFront (bytes room : List ℕ) (len : ℕ) : Type 0 where
  pub rest : List ℕ
  pub front : room ≡ bytes ++ rest
  pub size : len ≡ length bytes

abbrev pub HasLoaded : Option StationValue → Option Pid → (start count : ℕ) → List ℕ → ℕ → Type 0
HasLoaded None pid start count room len = ⊥
HasLoaded (Some s) None start count room len = ⊥
HasLoaded (Some s) (Some pid) start count room len = IsFront (loaded s.doing.tables.seats pid start count) room len

-- What these are answered: there is no station; no such frame, or no such pid; too little room.
abbrev pub room_status : Bool → ℕ
room_status true = status.OK
room_status false = status.NO_ROOM

abbrev pub found_status : Option (List ℕ) → ℕ → ℕ
found_status None room = status.NO_FRAME
found_status (Some bytes) room = room_status (nat_le (length bytes) room)

abbrev pub frame_status : Option StationValue → ℕ → ℕ → ℕ
frame_status None at room = status.NO_STATION
frame_status (Some s) at room = found_status (slice_get s.frames at) room

abbrev pub loaded_status : Option StationValue → Option Pid → (start count room : ℕ) → ℕ
loaded_status None pid start count room = status.NO_STATION
loaded_status (Some s) None start count room = status.NO_SUCH_PROCESS
loaded_status (Some s) (Some pid) start count room = room_status (nat_le (length (loaded s.doing.tables.seats pid start count)) room)

-- The steps of the last event.
abbrev pub step_count : Option StationValue → ℕ
step_count None = 0
step_count (Some s) = length s.doing.steps

-- The room begins with the text of this step, which has this length.
pub record IsStep (s : StationValue) (at : ℕ) (room : List ℕ) (len : ℕ) : Type 0 where
  pub step : Step
  pub found : slice_get s.doing.steps at ≡ Some step
  pub text : IsFront (step_text step) room len

abbrev pub HasStep : Option StationValue → ℕ → List ℕ → ℕ → Type 0
HasStep None at room len = ⊥
HasStep (Some s) at room len = IsStep s at room len

abbrev pub text_status : Option Step → ℕ → ℕ
text_status None room = status.NO_STEP
text_status (Some step) room = room_status (nat_le (length (step_text step)) room)

abbrev pub step_status : Option StationValue → ℕ → ℕ → ℕ
step_status None at room = status.NO_STATION
step_status (Some s) at room = text_status (slice_get s.doing.steps at) room

-- Its tick, its Lamport number and its events; 0 where there is none.
abbrev pub now_of : Option StationValue → ℕ
now_of None = 0
now_of (Some s) = s.now

abbrev pub number_in : Option StationValue → ℕ
number_in None = 0
number_in (Some s) = s.number

abbrev pub events_of : Option StationValue → ℕ
events_of None = 0
events_of (Some s) = s.events

-- Whether there is something to collect, as the one-machine kernel has it.
abbrev pub number_of : Bool → ℕ
number_of true = 1
number_of false = 0

abbrev pub IsDoneAt : StationValue → Pid → Bool → ℕ → Type 0
IsDoneAt s pid false n = n ≡ 0
IsDoneAt s pid true n = (c : Settings) (es : List Entry) → StandsAt c es s → n ≡ number_of (is_allowed (reading c s.host es).view (steps.Collect pid))

abbrev pub IsDone : Option StationValue → Option Pid → ℕ → Type 0
IsDone None pid n = n ≡ 0
IsDone (Some s) None n = n ≡ 0
IsDone (Some s) (Some pid) n = IsDoneAt s pid (has s pid) n
