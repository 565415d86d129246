-- A call and the way to its answer.
use Rattle.std.proofs.Common.{◌≡◌, ℕ, ◌≤◌, Bool, true, false, Option, Some, None, List, [], ◌∷◌, ◌++◌, length, refl, sym, ap, ◌∙◌, subst, arith, append_assoc, append-nil, length-append, ◌⊎◌, inl, inr}
use Rattle.std.specs.Prelude.{if◌then◌else◌, option_to_list}
use Rattle.vk_types.specs.Types.{Answer, Call, Pid, StationEvent}
use Rattle.turn_cell.specs.declared.replay.Room.{Room}
use Rattle.turn_cell.specs.declared.replay.Room.TheVariants as rooms
use Rattle.vk_base.specs.declared.event.EventAnswer.TheVariants as answered
use Rattle.vk_base.specs.declared.event.StationEvent.TheVariants as events
use Rattle.vk_hub.specs.declared.event.HubEvent.TheVariants as hub_events
use Rattle.vk_port.specs.declared.port.Collected.TheVariants as collected
use Rattle.vk_port.specs.Ports.{Action, AtHub, AtStation, Delivers, Does, Drops, Enters, HasMade, HasWaited, Hears, IsCutEvent, IsCutPump, IsMet, IsPumping, IsRefused, Met, PortValue}
use Rattle.vk_port.specs.Stations.{StationHistory, entry_at, frames_at}
use Rattle.vk_rules.specs.CallOutcomes.{given}
use Rattle.vk_rules.specs.Each.{Each}
use Rattle.v_run.specs.Passages.{IsNextCall, Plays, answer_in, answers_by, calls_by, lost_count}
use Rattle.vk_threads.specs.Works.{FindsFull, HasCalled, HasCalledBy, HasCalledCut, HasPlayed, HasPlayedCut}
use Rattle.vk_port.proofs.Logs.{does_more, does_nothing}
use Rattle.vk_threads.proofs.Full.{full_after}
use Rattle.vk_threads.proofs.Playing.{answers_append, calls_append, heard_append, lost_append, met_own, met_pump, plays_append, pumping_plays, pumping_quiet}

-- the call itself
abbrev first_of : (o : StationHistory) → (before : List (ℕ × StationEvent)) → Pid → Call → List Action
first_of o before pid call = Enters before (events.Call pid call) (length (frames_at o before (events.Call pid call))) ∷ []

first_plays : (o : StationHistory) (before : List (ℕ × StationEvent)) (pid : Pid) (call : Call) (n : ℕ) (task : List Answer → Option Call)
    (calls : List Call) (answers : List Answer) → IsNextCall task calls answers call → Plays task pid o calls answers (Enters before (events.Call pid call) n ∷ [])
first_plays o before pid call n task calls answers next = ((refl, next), tt)

-- behind a call that was begun
module _ (old mid new : PortValue) (pid : Pid) (call : Call) (made : HasMade old mid [] (events.Call pid call) answered.Begun) where
  abbrev O : StationHistory
  O = old.station.origin

  abbrev acts : List Action
  acts = first_of O made.before pid call

  begun_none : answers_by O acts ≡ []
  begun_none = append-nil (answer_in O made.before (events.Call pid call)) ∙ ap (λ x. option_to_list (given x)) (sym made.answer)

  same : mid.station.origin ≡ O
  same = ap (λ x. x.origin) made.does.same.station

  plays_on : (more : List Action)
      → ((task : List Answer → Option Call) (calls : List Call) (answers : List Answer) → Plays task pid O calls answers more)
      → (task : List Answer → Option Call) (calls : List Call) (answers : List Answer) → IsNextCall task calls answers call
      → Plays task pid O calls answers (acts ++ more)
  plays_on more goes task calls answers next =
      plays_append task pid O calls answers acts more (first_plays O made.before pid call (length (frames_at O made.before (events.Call pid call))) task calls answers next)
      (goes task (calls ++ calls_by acts) (answers ++ answers_by O acts))

  collect_plays : (before : List (ℕ × StationEvent)) (n : ℕ) (task : List Answer → Option Call) (calls : List Call) (answers : List Answer)
      → Plays task pid O calls answers (Enters before (events.Collect pid) n ∷ [])
  collect_plays before n task calls answers = (refl, tt)

  called_waited : (a : Answer) → HasWaited mid new pid (collected.Answered a) → HasCalled old new pid call (Some a)
  called_waited a waited =
      let first = waited.0 in
      let pumping : Each (IsPumping O) first = subst (λ o. Each (IsPumping o) first) same waited.1 in
      let it = waited.2 in
      let last = Enters it.before (events.Collect pid) (length (frames_at mid.station.origin it.before (events.Collect pid))) ∷ [] in
      let more = first ++ last in
      let quiet = pumping_quiet O first pumping in
      let told : answers_by O last ≡ a ∷ [] =
      append-nil (answer_in O it.before (events.Collect pid))
      ∙ ap (λ x. option_to_list (given x)) (subst (λ o. (entry_at o it.before (events.Collect pid)).answer ≡ answered.Answered a) same (sym it.answer)) in (
        acts ++ more,
        record {
          does = does_more old mid new acts more made.does it.does;
          plays = plays_on more (λ task calls answers. pumping_plays task pid O calls answers first last pumping
              (collect_plays it.before (length (frames_at mid.station.origin it.before (events.Collect pid))) task calls answers));
        },
        calls_append acts more
            ∙ ap (λ l. call ∷ l) (calls_append first last ∙ ap (λ l. l ++ []) quiet.calls),
        answers_append O acts more
            ∙ (ap (λ l. l ++ answers_by O more) begun_none
            ∙ (answers_append O first last ∙ (ap (λ l. l ++ answers_by O last) quiet.answers ∙ told))),
        (let one = lost_append acts more in let two = lost_append first last in let none = quiet.lost in omega arith),
      )

  called_stopped : HasWaited mid new pid collected.Stopped → HasCalled old new pid call None
  called_stopped waited =
      let first = waited.0 in
      let pumping : Each (IsPumping O) first = subst (λ o. Each (IsPumping o) first) same waited.1 in
      let it = waited.2 in
      let last = Hears it.heard ∷ [] in
      let more = first ++ last in
      let quiet = pumping_quiet O first pumping in (
        acts ++ more,
        record {
          does = does_more old mid new acts more made.does it.does;
          plays = plays_on more (λ task calls answers. pumping_plays task pid O calls answers first last pumping tt);
        },
        calls_append acts more
            ∙ ap (λ l. call ∷ l) (calls_append first last ∙ ap (λ l. l ++ []) quiet.calls),
        answers_append O acts more
            ∙ (ap (λ l. l ++ answers_by O more) begun_none
            ∙ (answers_append O first last ∙ ap (λ l. l ++ []) quiet.answers)),
        heard_append acts more (heard_append first last tt),
        (let one = lost_append acts more in let two = lost_append first last in let none = quiet.lost in omega arith),
      )

  pub called_either : (came : Bool) (a : Answer) → HasWaited mid new pid (if came then collected.Answered a else collected.Stopped) →
      HasCalled old new pid call (if came then Some a else None)
  called_either true a waited = called_waited a waited
  called_either false a waited = called_stopped waited

  abbrev Cut : List Action → Met → Type 0
  Cut last m = IsCutEvent mid.station.origin (events.Collect pid) last m ⊎ IsCutPump mid.station.origin mid.host last m

  cut_collect : (o : StationHistory) (last : List Action) (m : Met) → IsCutEvent o (events.Collect pid) last m
      → ((task : List Answer → Option Call) (calls : List Call) (answers : List Answer) → Plays task pid O calls answers last) × (lost_count last ≤ 1)
  cut_collect o [] m cut = ((λ task calls answers. tt), omega arith)
  cut_collect o (Enters before x posted ∷ []) (AtHub (hub_events.Post f)) cut =
      let P : StationEvent → Type 0 = λ y. (task : List Answer → Option Call) (calls : List Call) (answers : List Answer)
      → Plays task pid O calls answers (Enters before y posted ∷ []) in
      (subst P (sym cut.0) (λ task calls answers. (refl, tt)), omega arith)
  cut_collect o (Enters before x posted ∷ []) (AtHub (hub_events.Fetch h)) cut = absurd cut
  cut_collect o (Enters before x posted ∷ []) (AtHub hub_events.Finished) cut = absurd cut
  cut_collect o (Enters before x posted ∷ []) (AtHub hub_events.Halt) cut = absurd cut
  cut_collect o (Enters before x posted ∷ []) (AtStation y) cut = absurd cut
  cut_collect o (Enters before x posted ∷ (y ∷ ys)) m cut = absurd cut
  cut_collect o (Delivers heard frame before posted ∷ xs) m cut = absurd cut
  cut_collect o (Drops heard frame ∷ xs) m cut = absurd cut
  cut_collect o (Hears heard ∷ xs) m cut = absurd cut

  cut_pump : (o : StationHistory) (host : ℕ) (last : List Action) (m : Met) → IsCutPump o host last m
      → ((task : List Answer → Option Call) (calls : List Call) (answers : List Answer) → Plays task pid O calls answers last) × (lost_count last ≤ 1)
  cut_pump o host [] m cut = ((λ task calls answers. tt), omega arith)
  cut_pump o host (Drops heard frame ∷ []) m cut = ((λ task calls answers. tt), omega arith)
  cut_pump o host (Drops heard frame ∷ (y ∷ ys)) m cut = absurd cut
  cut_pump o host (Delivers heard frame before posted ∷ []) m cut = ((λ task calls answers. tt), omega arith)
  cut_pump o host (Delivers heard frame before posted ∷ (y ∷ ys)) m cut = absurd cut
  cut_pump o host (Enters before x posted ∷ xs) m cut = absurd cut
  cut_pump o host (Hears heard ∷ xs) m cut = absurd cut

  cut_either : (last : List Action) (m : Met) → Cut last m
      → ((task : List Answer → Option Call) (calls : List Call) (answers : List Answer) → Plays task pid O calls answers last) × (lost_count last ≤ 1)
  cut_either last m (inl cut) = cut_collect mid.station.origin last m cut
  cut_either last m (inr cut) = cut_pump mid.station.origin mid.host last m cut

  full_either : (first last : List Action) (m : Met) → Cut last m → IsMet new rooms.Full m → FindsFull new (acts ++ (first ++ last))
  full_either first last m (inl cut) met = met_own new (acts ++ (first ++ last)) mid.station.origin (events.Collect pid) refl last m cut met
  full_either first last m (inr cut) met =
      subst (FindsFull new) (append_assoc acts first last) (met_pump new (acts ++ first) mid.station.origin mid.host last m cut met)

  pub called_cut_later : (why : Room) → (first : List Action) × Each (IsPumping mid.station.origin) first × IsRefused mid new why first Cut
      → HasCalledCut old new pid call why
  called_cut_later why refused =
      let first = refused.0 in
      let pumping : Each (IsPumping O) first = subst (λ o. Each (IsPumping o) first) same refused.1 in
      let it = refused.2 in
      let more = first ++ it.last in
      let quiet = pumping_quiet O first pumping in
      let cut = cut_either it.last it.met it.cut in (
        acts ++ more,
        record {
          does = does_more old mid new acts more made.does it.does;
          plays = plays_on more (λ task calls answers. pumping_plays task pid O calls answers first it.last pumping (cut.0 task calls answers));
        },
        (let one = lost_append acts more in let two = lost_append first it.last in let none = quiet.lost in let few = cut.1 in omega arith),
        (λ full. full_either first it.last it.met it.cut (subst (λ (w : Room). IsMet new w it.met) full it.is_met)),
      )

-- A process so far: it got these answers, one to each call, and lost nothing.
pub record PlaysSoFar (old now : PortValue) (pid : Pid) (task : List Answer → Option Call) (answers : List Answer) : Type 0 where
  pub acts : List Action
  pub does : Does old now acts
  pub plays : Plays task pid old.station.origin [] [] acts
  pub told : answers_by old.station.origin acts ≡ answers
  pub each : length (calls_by acts) ≡ length answers
  pub lost : lost_count acts ≡ 0

pub plays_none : (p : PortValue) (pid : Pid) (task : List Answer → Option Call) → PlaysSoFar p p pid task []
plays_none p pid task = record { acts = []; does = does_nothing p; plays = tt; told = refl; each = refl; lost = refl }

module _ (old mid new : PortValue) (pid : Pid) (task : List Answer → Option Call) (answers : List Answer) (so : PlaysSoFar old mid pid task answers) where
  here : mid.station.origin ≡ old.station.origin
  here = ap (λ x. x.origin) so.does.same.station

  next_is : (call : Call) → Some call ≡ task answers → IsNextCall task (calls_by so.acts) (answers_by old.station.origin so.acts) call
  next_is call is = record {
    answered = ap length so.told ∙ sym so.each;
    told = ap task so.told ∙ sym is;
  }

  on : (call : Call) → Some call ≡ task answers → (more : List Action) → HasCalledBy mid new pid call more
      → Does old new (so.acts ++ more) × Plays task pid old.station.origin [] [] (so.acts ++ more)
  on call is more by =
      let goes : Plays task pid old.station.origin (calls_by so.acts) (answers_by old.station.origin so.acts) more =
      subst (λ o. Plays task pid o (calls_by so.acts) (answers_by old.station.origin so.acts) more) here
      (by.plays task (calls_by so.acts) (answers_by old.station.origin so.acts) (next_is call is)) in
      (does_more old mid new so.acts more so.does by.does, plays_append task pid old.station.origin [] [] so.acts more so.plays goes)

  pub play_ended : None ≡ task answers → HasPlayed old mid pid task true
  play_ended is = (
    so.acts,
    so.does,
    so.plays,
    record { answered = ap length so.told ∙ sym so.each; told = ap task so.told ∙ sym is },
    so.lost,
  )

  pub play_more : (call : Call) (a : Answer) → Some call ≡ task answers → HasCalled mid new pid call (Some a) → PlaysSoFar old new pid task (answers ++ a ∷ [])
  play_more call a is called =
      let more = called.0 in
      let it = on call is more called.1 in
      let o = old.station.origin in
      let one : answers_by o more ≡ a ∷ [] = subst (λ p. answers_by p more ≡ a ∷ []) here called.3 in
      record {
        acts = so.acts ++ more;
        does = it.0;
        plays = it.1;
        told = answers_append o so.acts more ∙ (ap (λ l. l ++ answers_by o more) so.told ∙ ap (λ l. answers ++ l) one);
        each =
            (let calls = ap length (calls_append so.acts more) in
            let count = ap length called.2 in
            let sum = length-append (calls_by so.acts) (calls_by more) in
            let sum2 = length-append answers (a ∷ []) in
            let was = so.each in
            omega arith);
        lost = (let sum = lost_append so.acts more in let was = so.lost in let none = called.4 in omega arith);
      }

  pub play_stopped : (call : Call) → Some call ≡ task answers → HasCalled mid new pid call None → HasPlayed old new pid task false
  play_stopped call is called =
      let more = called.0 in
      let it = on call is more called.1 in (
        so.acts ++ more,
        it.0,
        it.1,
        heard_append so.acts more called.4,
        (let sum = lost_append so.acts more in let was = so.lost in let few = called.5 in omega arith),
        (let o = old.station.origin in
            let none : answers_by o more ≡ [] = subst (λ p. answers_by p more ≡ []) here called.3 in
            let calls = ap length (calls_append so.acts more) in
            let count = ap length called.2 in
            let sum = length-append (calls_by so.acts) (calls_by more) in
            let told = ap length (answers_append o so.acts more ∙ (ap (λ l. l ++ answers_by o more) so.told ∙ ap (λ l. answers ++ l) none ∙ append-nil answers)) in
            let was = so.each in
            omega arith),
      )

  pub play_cut : (call : Call) (why : Room) → Some call ≡ task answers → HasCalledCut mid new pid call why → HasPlayedCut old new pid task why
  play_cut call why is called =
      let more = called.0 in
      let it = on call is more called.1 in (
        so.acts ++ more,
        it.0,
        it.1,
        (let sum = lost_append so.acts more in let was = so.lost in let few = called.2 in omega arith),
        (λ full. full_after new so.acts more (called.3 full)),
      )
