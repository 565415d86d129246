-- What follows from a passage's role.
use Rattle.std.proofs.Common.{Option, List, [], ◌∷◌, ◌++◌}
use Rattle.vk_types.specs.Types.{Answer, Call, Pid, StationEvent}
use Rattle.vk_base.specs.declared.event.StationEvent.TheVariants as events
use Rattle.vk_port.specs.Ports.{Action, Enters, Delivers, Drops, Hears}
use Rattle.vk_port.specs.Stations.{StationHistory}
use Rattle.v_run.specs.Passages.{EntersOwn, IsNext, IsOwn, IsRole, IsTick, OnlyPumps, OnlyTicks, Plays, Pumps, Role, Runs, Ticks, answer_in, call_in}

own_next : (task : List Answer → Option Call) (r : Pid) (calls : List Call) (answers : List Answer) (e : StationEvent)
    → IsNext task r calls answers e → IsOwn e
own_next task r calls answers (events.Call pid c) next = tt
own_next task r calls answers (events.Collect pid) next = tt
own_next task r calls answers events.Tick next = absurd next
own_next task r calls answers (events.Deliver f) next = absurd next

own_plays : (task : List Answer
    → Option Call) (r : Pid) (o : StationHistory) (calls : List Call) (answers : List Answer) (acts : List Action)
    → Plays task r o calls answers acts → EntersOwn acts
own_plays task r o calls answers [] plays = tt
own_plays task r o calls answers (Enters before e posted ∷ acts) plays =
    (own_next task r calls answers e plays.0, own_plays task r o (calls ++ call_in e) (answers ++ answer_in o before e) acts plays.1)
own_plays task r o calls answers (Delivers heard frame before posted ∷ acts) plays = own_plays task r o calls answers acts plays
own_plays task r o calls answers (Drops heard frame ∷ acts) plays = own_plays task r o calls answers acts plays
own_plays task r o calls answers (Hears heard ∷ acts) plays = own_plays task r o calls answers acts plays

own_pumps : (acts : List Action) → OnlyPumps acts → EntersOwn acts
own_pumps [] only = tt
own_pumps (Enters before e posted ∷ acts) only = absurd only
own_pumps (Delivers heard frame before posted ∷ acts) only = own_pumps acts only
own_pumps (Drops heard frame ∷ acts) only = own_pumps acts only
own_pumps (Hears heard ∷ acts) only = own_pumps acts only

own_tick : (e : StationEvent) → IsTick e → IsOwn e
own_tick (events.Call pid c) tick = absurd tick
own_tick (events.Collect pid) tick = absurd tick
own_tick events.Tick tick = tt
own_tick (events.Deliver f) tick = absurd tick

own_ticks : (acts : List Action) → OnlyTicks acts → EntersOwn acts
own_ticks [] only = tt
own_ticks (Enters before e posted ∷ acts) only = (own_tick e only.0, own_ticks acts only.1)
own_ticks (Delivers heard frame before posted ∷ acts) only = own_ticks acts only
own_ticks (Drops heard frame ∷ acts) only = own_ticks acts only
own_ticks (Hears heard ∷ acts) only = own_ticks acts only

pub own_role : (role : Role) (o : StationHistory) (acts : List Action) → IsRole role o acts → EntersOwn acts
own_role (Runs r task) o acts is = own_plays task r o [] [] acts is.1
own_role Pumps o acts is = own_pumps acts is
own_role Ticks o acts is = own_ticks acts is
