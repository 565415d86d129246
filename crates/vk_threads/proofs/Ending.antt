-- From what a job did through its one port, and what came behind that, to its end.
use Rattle.std.proofs.Common.{◌≡◌, ◌≢◌, ℕ, ◌+◌, ◌≤◌, true, false, Option, Some, None, is_some, List, [], ◌∷◌, ◌++◌, length, refl, sym, ap, ◌∙◌, subst, arith, append-nil, ◌==◌, ◌⊎◌, inl, inr}
use Rattle.std.proofs.lemmas.Bool.Decides.{nat_tests}
use mathlib.Core.List.{IsPrefix}
use Rattle.vk_types.specs.Types.{Answer, Call, Pid}
use Rattle.turn_cell.proofs.Histories.{prefix_self}
use Rattle.turn_cell.specs.declared.replay.Room.{Room}
use Rattle.turn_cell.specs.declared.replay.Room.TheVariants as rooms
use Rattle.turn_cell.specs.Seats.{IsSameSeat}
use Rattle.vk_base.specs.Settings.{Settings, has_process}
use Rattle.vk_base.proofs.BoolLemmas.{and_second}
use Rattle.vk_hub.specs.declared.event.HubEvent.{HubEvent}
use Rattle.vk_hub.specs.declared.event.HubEvent.TheVariants as hub_events
use Rattle.vk_hub.specs.Hubs.{has_halt}
use Rattle.vk_port.specs.Ports.{Action, Berth, Does, IsLog, PortValue, Stand, after, berth_of, stand_of}
use Rattle.vk_port.specs.Stations.{StationHistory, is_process_of, is_used_up}
use Rattle.vk_port.proofs.Fronts.{prefix_over}
use Rattle.vk_rules.specs.Each.{Each}
use Rattle.v_run.specs.Jobs.{EndsRole, GoesOn, HaltsNot, KeepsTime, MetFull}
use Rattle.v_run.specs.Passages.{IsAtEnd, IsLast, IsRole, Passage, Pumps, Role, Runs, answers_by, calls_by, fresh_station, lost_count}
use Rattle.vk_threads.specs.declared.end.Seats.{Seats}
use Rattle.vk_threads.specs.Works.{FindsFull, HasClosed, HasEnded, HasHalted, HasPlayed, HasPlayedCut, HasPumped, HasPumpedCut}
use Rattle.vk_threads.specs.Ends.{EndsProcess, FinishesOrWaits, IsOf, IsThrough, MayEnd, TicksAll}

-- a log's end may have heard more
pub log_later : (b : Berth) (s t : Stand) (acts : List Action) (looked : List (ℕ × HubEvent)) → IsLog b s acts t → IsPrefix t.heard looked
    → IsLog b s acts (record t { heard = looked })
log_later b s t [] looked log later = (log.0, prefix_over s.heard t.heard looked log.1 later, log.2, log.3)
log_later b s t (a ∷ acts) looked log later = (log.0, log_later b (after b s a) t acts looked log.1 later)

-- What came behind a port's last action: its hub seat heard this, and then entered at most one event.
pub record Behind (q : PortValue) (s : Seats) (last : List HubEvent) (looked : List (ℕ × HubEvent)) : Type 0 where
  pub seat : s.seat ≡ q.seat
  pub same : IsSameSeat q.hub_seat s.hub_seat
  pub later : IsPrefix q.hub_seat.seen looked
  pub heard : IsPrefix looked s.hub_seat.seen
  pub sent : s.hub_seat.mine ≡ q.hub_seat.mine ++ last

abbrev pub passage_of : PortValue → PortValue → List Action → Role → List HubEvent → List (ℕ × HubEvent) → Passage
passage_of p q acts role last looked = record {
  role = role;
  berth = berth_of p;
  actions = acts;
  left = record { seen = q.seat.seen; mine = q.seat.mine; heard = looked; sent = q.hub_seat.mine };
  last = last;
}

module _ (p q : PortValue) (acts : List Action) (role : Role) (s : Seats) (last : List HubEvent) (looked : List (ℕ × HubEvent))
    (does : Does p q acts) (behind : Behind q s last looked) where
  abbrev G : Passage
  G = passage_of p q acts role last looked

  pub is_through : s.host ≡ p.host → IsRole role p.station.origin acts → IsLast last → IsThrough p s G
  is_through host keeps ends = record {
    host = host;
    berth = refl;
    log = log_later (berth_of p) (stand_of p) (stand_of q) acts looked does.log behind.later;
    role = keeps;
    last = ends;
    seat = subst (λ x. IsSameSeat p.seat x) (sym behind.seat) does.same.seat;
    seen = ap (λ x. x.seen) behind.seat;
    mine = ap (λ x. x.mine) behind.seat;
    hub_seat = (behind.same.0 ∙ does.same.hub_seat.0, behind.same.1 ∙ does.same.hub_seat.1, behind.same.2 ∙ does.same.hub_seat.2);
    heard = behind.heard;
    sent = behind.sent;
  }

-- What a port finds full, its passage has met.
pub met_full : (c : Settings) (p q : PortValue) (acts : List Action) (role : Role) (last : List HubEvent) → IsOf c p → Does p q acts → FindsFull q acts
    → MetFull c (passage_of p q acts role last q.hub_seat.seen)
met_full c p q acts role last of does (inl used) =
    let o : q.station.origin ≡ fresh_station c p.host = ap (λ x. x.origin) does.same.station ∙ of in
    inl (subst (λ x. is_used_up x q.seat.seen ≡ true) o used)
met_full c p q acts role last of does (inr (inl dropped)) = inr (inl dropped)
met_full c p q acts role last of does (inr (inr full)) = inr (inr full)

-- which event came last
pub last_none : IsLast []
last_none = inl refl

last_finished : IsLast (hub_events.Finished ∷ [])
last_finished = inr (inl refl)

pub last_halt : IsLast (hub_events.Halt ∷ [])
last_halt = inr (inr refl)

pub none_finished : ([] ≡ hub_events.Finished ∷ []) → ⊥
none_finished is = absurd (cc is)

pub halt_finished : (hub_events.Halt ∷ [] ≡ hub_events.Finished ∷ []) → ⊥
halt_finished is = absurd (cc is)

pub none_halt : ([] ≡ hub_events.Halt ∷ []) → ⊥
none_halt is = absurd (cc is)

finished_halt : (hub_events.Finished ∷ [] ≡ hub_events.Halt ∷ []) → ⊥
finished_halt is = absurd (cc is)

-- The end of a job with one port.
one_end : (p q : PortValue) (acts : List Action) (role : Role) (s : Seats) (last : List HubEvent) (looked : List (ℕ × HubEvent)) (met : Option Room)
    → Does p q acts → Behind q s last looked → s.host ≡ p.host → IsRole role p.station.origin acts → IsLast last → lost_count acts ≤ 1 → length last ≤ 1
    → KeepsTime 0 0 (passage_of p q acts role last looked) role
    → ((c : Settings) → IsOf c p → EndsRole c (passage_of p q acts role last looked) role)
    → (met ≡ None → HaltsNot (passage_of p q acts role last looked) role)
    → ((c : Settings) → IsOf c p → met ≡ None → GoesOn c (passage_of p q acts role last looked) role)
    → ((c : Settings) → IsOf c p → met ≡ Some rooms.Full → MetFull c (passage_of p q acts role last looked))
    → TicksAll 0 (passage_of p q acts role last looked) role → (is_some met ≡ true → has_halt s.hub_seat.seen ≡ true)
    → (may : MayEnd (p ∷ []) (role ∷ []) 0 (s ∷ []) met) × (may.passages ≡ passage_of p q acts role last looked ∷ [])
one_end p q acts role s last looked met does behind host keeps ends few short time at_end halts goes full all halted = (
  record {
    passages = passage_of p q acts role last looked ∷ [];
    through = (is_through p q acts role s last looked does behind host keeps ends, tt);
    each = refl;
    done = 0;
    time = (time, tt);
    whole = λ is. inl (all, tt);
    halted = halted;
    job = λ c of. record {
      losses = omega arith;
      last_entries = omega arith;
      roles = (at_end c of.0, tt);
      halts = λ is. (halts is, tt);
      goes_on = λ is. (goes c of.0 is, tt);
      full = λ is. inl (full c of.0 is);
    };
  },
  refl,
)

-- A port that was closed without a halt.
pub closed_behind : (q : PortValue) (s : Seats) → HasClosed q s.seat s.hub_seat false → Behind q s [] q.hub_seat.seen
closed_behind q s it = record {
  seat = it.seat;
  same = it.same;
  later = prefix_self q.hub_seat.seen;
  heard = it.heard;
  sent = it.sent ∙ sym (append-nil q.hub_seat.mine);
}

-- Where it was to be halted, the hub was halted, or was so before.
pub halted_behind : (q : PortValue) (s : Seats) (looked : List (ℕ × HubEvent)) → s.seat ≡ q.seat → IsSameSeat q.hub_seat s.hub_seat
    → IsPrefix q.hub_seat.seen looked → IsPrefix looked s.hub_seat.seen → HasHalted q.hub_seat.mine s.hub_seat.mine true
    → (Behind q s [] looked) ⊎ (Behind q s (hub_events.Halt ∷ []) looked)
halted_behind q s looked seat same later heard (inl sent) =
    inl (record { seat = seat; same = same; later = later; heard = heard; sent = sent ∙ sym (append-nil q.hub_seat.mine) })
halted_behind q s looked seat same later heard (inr sent) = inr (record { seat = seat; same = same; later = later; heard = heard; sent = sent })

-- A job that met a Room.
cut_end : (p q : PortValue) (acts : List Action) (role : Role) (s : Seats) (looked : List (ℕ × HubEvent)) (why : Room)
    → Does p q acts → s.host ≡ p.host → IsRole role p.station.origin acts → lost_count acts ≤ 1
    → ((last : List HubEvent) → KeepsTime 0 0 (passage_of p q acts role last looked) role)
    → ((c : Settings) (last : List HubEvent) → last ≢ hub_events.Finished ∷ [] → EndsRole c (passage_of p q acts role last looked) role)
    → ((c : Settings) (last : List HubEvent) → IsOf c p → why ≡ rooms.Full → MetFull c (passage_of p q acts role last looked))
    → ((last : List HubEvent) → TicksAll 0 (passage_of p q acts role last looked) role) → has_halt s.hub_seat.seen ≡ true
    → (Behind q s [] looked) ⊎ (Behind q s (hub_events.Halt ∷ []) looked) → MayEnd (p ∷ []) (role ∷ []) 0 (s ∷ []) (Some why)
cut_end p q acts role s looked why does host keeps few time at_end full all halted (inl behind) =
    (one_end p q acts role s [] looked (Some why) does behind host keeps last_none few (omega arith) (time [])
    (λ c of. at_end c [] none_finished) (λ is. absurd (cc is)) (λ c of is. absurd (cc is)) (λ c of is. full c [] of (some_is why rooms.Full is))
    (all []) (λ is. halted)).0
  where
    some_is : (x y : Room) → Some x ≡ Some y → x ≡ y
    some_is x y is = cc is
cut_end p q acts role s looked why does host keeps few time at_end full all halted (inr behind) =
    (one_end p q acts role s (hub_events.Halt ∷ []) looked (Some why) does behind host keeps last_halt few (omega arith) (time (hub_events.Halt ∷ []))
    (λ c of. at_end c (hub_events.Halt ∷ []) halt_finished) (λ is. absurd (cc is)) (λ c of is. absurd (cc is))
    (λ c of is. full c (hub_events.Halt ∷ []) of (some_is why rooms.Full is)) (all (hub_events.Halt ∷ [])) (λ is. halted)).0
  where
    some_is : (x y : Room) → Some x ≡ Some y → x ≡ y
    some_is x y is = cc is

-- PROCESSES.
module _ (p q : PortValue) (pid : Pid) (task : List Answer → Option Call) (s : Seats) (host : s.host ≡ p.host) (here : pid.host ≡ p.station.origin.host) where
  halted : (why : Room) → MayEnd (p ∷ []) (Runs pid task ∷ []) 0 (s ∷ []) (Some why) → EndsProcess p pid task (s ∷ []) (Some why)
  halted why may = record { may = may; waits = λ is. absurd (cc is) }

  -- it was told that the hub had ended
  pub process_stopped : HasPlayed p q pid task false → HasClosed q s.seat s.hub_seat false → EndsProcess p pid task (s ∷ []) None
  process_stopped played closed =
      let end = one_end p q played.0 (Runs pid task) s [] q.hub_seat.seen None played.1 (closed_behind q s closed) host (here, played.2) last_none played.4
      (omega arith) tt (λ c of is. absurd (none_finished is)) (λ is. none_halt)
      (λ c of is. inr (played.3, subst (λ o. length (calls_by played.0) ≡ length (answers_by o played.0) + 1) of played.5))
      (λ c of is. absurd (cc is)) tt
      (λ is. absurd (cc is)) in
      record { may = end.0; waits = λ is. subst (Each (FinishesOrWaits p.station.origin)) (sym end.1) (inr played.5, tt) }

  -- it met a Room
  pub process_cut : (why : Room) → HasPlayedCut p q pid task why → HasClosed q s.seat s.hub_seat true
      → EndsProcess p pid task (s ∷ []) (Some why)
  process_cut why played closed =
      halted why (cut_end p q played.0 (Runs pid task) s q.hub_seat.seen why played.1 host (here, played.2) played.3 (λ last. tt)
      (λ c last never is. absurd (never is))
      (λ c last of full. met_full c p q played.0 (Runs pid task) last of played.1 (played.4 full))
      (λ last. tt) (closed.halted refl)
      (halted_behind q s q.hub_seat.seen closed.seat closed.same (prefix_self q.hub_seat.seen) closed.heard closed.sent))

  -- it came to its end
  pub process_finished : HasPlayed p q pid task true → HasEnded q s.seat s.hub_seat None → EndsProcess p pid task (s ∷ []) None
  process_finished played ended =
      let end = one_end p q played.0 (Runs pid task) s (hub_events.Finished ∷ []) q.hub_seat.seen None played.1
      (record { seat = ended.seat; same = ended.same; later = prefix_self q.hub_seat.seen; heard = ended.finished.1; sent = ended.finished.0 })
      host (here, played.2) last_finished (let none = played.4 in omega arith) (omega arith) tt
      (λ c of is. subst (λ o. IsAtEnd task (calls_by played.0) (answers_by o played.0)) of played.3)
      (λ is. finished_halt) (λ c of is. inl refl) (λ c of is. absurd (cc is)) tt (λ is. absurd (cc is)) in
      record { may = end.0; waits = λ is. subst (Each (FinishesOrWaits p.station.origin)) (sym end.1) (inl refl, tt) }

  -- it came to its end, but met a Room there
  pub process_unfinished : (why : Room) → HasPlayed p q pid task true → HasEnded q s.seat s.hub_seat (Some why)
      → EndsProcess p pid task (s ∷ []) (Some why)
  process_unfinished why played ended =
      let it = ended.finished in
      halted why (cut_end p q played.0 (Runs pid task) s it.0 why played.1 host (here, played.2) (let none = played.4 in omega arith) (λ last. tt)
      (λ c last never is. absurd (never is)) (λ c last of full. inr (inr (it.4 full))) (λ last. tt) it.5
      (halted_behind q s it.0 ended.seat ended.same it.1 it.2 it.3))

-- however it ended
pub process_done : (p q : PortValue) (pid : Pid) (task : List Answer → Option Call) (s : Seats) → s.host ≡ p.host → pid.host ≡ p.station.origin.host
    → HasPlayed p q pid task true → (met : Option Room) → HasEnded q s.seat s.hub_seat met → EndsProcess p pid task (s ∷ []) met
process_done p q pid task s host here played None ended = process_finished p q pid task s host here played ended
process_done p q pid task s host here played (Some why) ended = process_unfinished p q pid task s host here why played ended

-- PUMPS.
module _ (p q : PortValue) (s : Seats) (host : s.host ≡ p.host) where
  pub pump_stopped : HasPumped p q → HasClosed q s.seat s.hub_seat false → MayEnd (p ∷ []) (Pumps ∷ []) 0 (s ∷ []) None
  pump_stopped pumped closed =
      (one_end p q pumped.0 Pumps s [] q.hub_seat.seen None pumped.1 (closed_behind q s closed) host pumped.2 last_none pumped.3 (omega arith) tt
      (λ c of. none_finished) (λ is. none_halt) (λ c of is. pumped.4) (λ c of is. absurd (cc is)) tt (λ is. absurd (cc is))).0

  pub pump_cut : (why : Room) → HasPumpedCut p q why → HasClosed q s.seat s.hub_seat true → MayEnd (p ∷ []) (Pumps ∷ []) 0 (s ∷ []) (Some why)
  pump_cut why pumped closed =
      cut_end p q pumped.0 Pumps s q.hub_seat.seen why pumped.1 host pumped.2 pumped.3 (λ last. tt)
      (λ c last never. never)
      (λ c last of full. met_full c p q pumped.0 Pumps last of pumped.1 (pumped.4 full))
      (λ last. tt) (closed.halted refl)
      (halted_behind q s q.hub_seat.seen closed.seat closed.same (prefix_self q.hub_seat.seen) closed.heard closed.sent)

pub process_here : (o : StationHistory) (pid : Pid) → is_process_of o pid ≡ true → pid.host ≡ o.host
process_here o pid is = let same = and_second (has_process o.config.specs pid) (pid.host == o.host) is in grind (arith, nat_tests)
