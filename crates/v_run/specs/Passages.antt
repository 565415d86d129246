-- What a job did through one of its ports, from the two seats that the port was made with to the two that came back.
use Rattle.std.specs.Prelude.{ℕ, ◌≡◌, ◌+◌, ◌⊎◌, Option, None, List, [], ◌∷◌, ◌++◌, length, option_to_list}
use Rattle.vk_types.specs.Types.{Answer, Call, Pid, StationEvent}
use Rattle.vk_base.specs.declared.event.StationEvent.TheVariants as events
use Rattle.vk_base.specs.Settings.{Settings}
use Rattle.vk_hub.specs.declared.event.HubEvent.{HubEvent}
use Rattle.vk_hub.specs.declared.event.HubEvent.TheVariants as hub_events
use Rattle.vk_hub.specs.Hubs.{HubLog}
use Rattle.vk_port.specs.Ports.{Action, Enters, Delivers, Drops, Hears, IsLog, Berth, Stand}
use Rattle.vk_port.specs.Stations.{StationHistory, entry_at}
use Rattle.vk_rules.specs.CallOutcomes.{given}
pub use Rattle.v_pages.specs.Followed.{IsNextCall}

-- What a job does through a port: it runs a process with this task, or it pumps, or it is the clock.
pub data Role : Type 0 where
  Runs : (r : Pid) (task : List Answer → Option Call) → Role
  Pumps : Role
  Ticks : Role

pub record Passage : Type 0 where
  pub role : Role
  -- where its port lay
  pub berth : Berth
  -- what it did, and where its two seats stood at its end
  pub actions : List Action
  pub left : Stand
  -- what its hub seat entered behind that
  pub last : List HubEvent

abbrev pub host_of : Passage → ℕ
host_of g = g.berth.host

abbrev pub number_of : Passage → ℕ
number_of g = g.berth.number

abbrev pub hub_number_of : Passage → ℕ
hub_number_of g = g.berth.hub_number

-- where two seats stand that were just made
abbrev pub nowhere : Stand
nowhere = record { seen = []; mine = []; heard = []; sent = [] }

-- a station's history before its first entry
abbrev pub fresh_station : Settings → ℕ → StationHistory
fresh_station c host = record { config = c; host = host; history = []; spare = 0 }

-- At most one entry is made behind a port's end: that its program has finished, or a halt.
abbrev pub IsLast : List HubEvent → Type 0
IsLast last = (last ≡ []) ⊎ (last ≡ hub_events.Finished ∷ []) ⊎ (last ≡ hub_events.Halt ∷ [])

-- of its own accord it enters calls, collects and ticks, and delivers only what it fetched
abbrev pub IsOwn : StationEvent → Type 0
IsOwn (events.Deliver frame) = ⊥
IsOwn e = Unit {0}

abbrev pub EntersOwn : List Action → Type 0
EntersOwn [] = Unit {0}
EntersOwn (Enters before e posted ∷ acts) = IsOwn e × EntersOwn acts
EntersOwn (Delivers heard frame before posted ∷ acts) = EntersOwn acts
EntersOwn (Drops heard frame ∷ acts) = EntersOwn acts
EntersOwn (Hears heard ∷ acts) = EntersOwn acts

-- What a process did: the calls that it made, and the answers that it got, by these actions of its port.
abbrev pub call_in : StationEvent → List Call
call_in (events.Call pid c) = c ∷ []
call_in e = []

abbrev pub answer_in : StationHistory → List (ℕ × StationEvent) → StationEvent → List Answer
answer_in o before (events.Call pid c) = option_to_list (given (entry_at o before (events.Call pid c)).answer)
answer_in o before (events.Collect pid) = option_to_list (given (entry_at o before (events.Collect pid)).answer)
answer_in o before e = []

abbrev pub calls_by : List Action → List Call
calls_by [] = []
calls_by (Enters before e posted ∷ acts) = call_in e ++ calls_by acts
calls_by (Delivers heard frame before posted ∷ acts) = calls_by acts
calls_by (Drops heard frame ∷ acts) = calls_by acts
calls_by (Hears heard ∷ acts) = calls_by acts

abbrev pub answers_by : StationHistory → List Action → List Answer
answers_by o [] = []
answers_by o (Enters before e posted ∷ acts) = answer_in o before e ++ answers_by o acts
answers_by o (Delivers heard frame before posted ∷ acts) = answers_by o acts
answers_by o (Drops heard frame ∷ acts) = answers_by o acts
answers_by o (Hears heard ∷ acts) = answers_by o acts

-- Whatever it does of its own accord, it does for this process: it makes the task's next call after these calls and answers, or
-- it collects.
abbrev pub IsNext : (List Answer → Option Call) → Pid → List Call → List Answer → StationEvent → Type 0
IsNext task r calls answers (events.Call pid c) = (pid ≡ r) × IsNextCall task calls answers c
IsNext task r calls answers (events.Collect pid) = pid ≡ r
IsNext task r calls answers e = ⊥

abbrev pub Plays : (List Answer → Option Call) → Pid → StationHistory → List Call → List Answer → List Action → Type 0
Plays task r o calls answers [] = Unit {0}
Plays task r o calls answers (Enters before e posted ∷ acts) =
    IsNext task r calls answers e × Plays task r o (calls ++ call_in e) (answers ++ answer_in o before e) acts
Plays task r o calls answers (Delivers heard frame before posted ∷ acts) = Plays task r o calls answers acts
Plays task r o calls answers (Drops heard frame ∷ acts) = Plays task r o calls answers acts
Plays task r o calls answers (Hears heard ∷ acts) = Plays task r o calls answers acts

-- the task has nothing more to call after these answers, one to each call
pub record IsAtEnd (task : List Answer → Option Call) (calls : List Call) (answers : List Answer) : Type 0 where
  pub answered : length answers ≡ length calls
  pub told : task answers ≡ None

-- it does nothing of its own accord
abbrev pub OnlyPumps : List Action → Type 0
OnlyPumps [] = Unit {0}
OnlyPumps (Enters before e posted ∷ acts) = ⊥
OnlyPumps (Delivers heard frame before posted ∷ acts) = OnlyPumps acts
OnlyPumps (Drops heard frame ∷ acts) = OnlyPumps acts
OnlyPumps (Hears heard ∷ acts) = OnlyPumps acts

-- it ticks, and does nothing else of its own accord
abbrev pub IsTick : StationEvent → Type 0
IsTick events.Tick = Unit {0}
IsTick e = ⊥

abbrev pub OnlyTicks : List Action → Type 0
OnlyTicks [] = Unit {0}
OnlyTicks (Enters before e posted ∷ acts) = IsTick e × OnlyTicks acts
OnlyTicks (Delivers heard frame before posted ∷ acts) = OnlyTicks acts
OnlyTicks (Drops heard frame ∷ acts) = OnlyTicks acts
OnlyTicks (Hears heard ∷ acts) = OnlyTicks acts

abbrev pub tick_count : List Action → ℕ
tick_count [] = 0
tick_count (Enters before e posted ∷ acts) = 1 + tick_count acts
tick_count (Delivers heard frame before posted ∷ acts) = tick_count acts
tick_count (Drops heard frame ∷ acts) = tick_count acts
tick_count (Hears heard ∷ acts) = tick_count acts

-- the fetches by which no frame was delivered: the station refused it, or the hub had ended
abbrev pub lost_count : List Action → ℕ
lost_count [] = 0
lost_count (Enters before e posted ∷ acts) = lost_count acts
lost_count (Delivers heard frame before posted ∷ acts) = lost_count acts
lost_count (Drops heard frame ∷ acts) = 1 + lost_count acts
lost_count (Hears heard ∷ acts) = 1 + lost_count acts

-- it heard that the hub had ended
abbrev pub HasHeard : List Action → Type 0
HasHeard [] = ⊥
HasHeard (Enters before e posted ∷ acts) = HasHeard acts
HasHeard (Delivers heard frame before posted ∷ acts) = HasHeard acts
HasHeard (Drops heard frame ∷ acts) = HasHeard acts
HasHeard (Hears heard ∷ acts) = Unit {0}

-- the station refused this frame
abbrev pub HasDropped : List ℕ → List Action → Type 0
HasDropped f [] = ⊥
HasDropped f (Enters before e posted ∷ acts) = HasDropped f acts
HasDropped f (Delivers heard frame before posted ∷ acts) = HasDropped f acts
HasDropped f (Drops heard frame ∷ acts) = (frame ≡ f) ⊎ HasDropped f acts
HasDropped f (Hears heard ∷ acts) = HasDropped f acts

-- it keeps to its role
abbrev pub IsRole : Role → StationHistory → List Action → Type 0
IsRole (Runs r task) o acts = (r.host ≡ o.host) × Plays task r o [] [] acts
IsRole Pumps o acts = OnlyPumps acts
IsRole Ticks o acts = OnlyTicks acts

-- The port was one of this station and of this hub, with new seats; its log is this.
pub record IsPassage (c : Settings) (o : HubLog) (g : Passage) : Type 0 where
  pub station : g.berth.station ≡ fresh_station c g.berth.host
  pub hub : g.berth.hub ≡ o
  pub log : IsLog g.berth nowhere g.actions g.left
  pub role : IsRole g.role (fresh_station c g.berth.host) g.actions
  pub last : IsLast g.last
