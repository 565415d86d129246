-- The laws of Send packets that arrive.
use Rattle.std.proofs.Common.{◌≡◌, ◌≢◌, ℕ, ◌+◌, ◌<◌, Bool, true, false, cond, ◌==◌, ◌&&◌, ◌||◌, not, nat_lt, List, [], ◌∷◌, fold, length, option_map, Option, Some, None, is_none, refl, sym, ap, subst, ◌∙◌, inl, inr, arith, max, slice_set}
use Rattle.std.proofs.lemmas.Bool.{and_from, and_parts, both_ways, eq-eqb, eqb-true, or_cases, cases_Bool, cases_lt, cond-true, cond-false, cond_both, le-ltb, lt-ltb, ne_eqb}
use Rattle.std.proofs.lemmas.List.Sums.{position_or_len_is}
use Rattle.std.proofs.lemmas.List.{length-map}
use Rattle.std.proofs.lemmas.Option.{same_Some, none-some}
use Rattle.std.specs.List.{position, position_or_len}
use Rattle.std.specs.Option.{option_map_or, option_or}
use Rattle.vk_types.specs.Types.{EventAnswer, Exchange, Name, Pid, Times}
use Rattle.vk_base.specs.declared.event.EventAnswer.TheVariants as events_answered
use Rattle.vk_base.specs.declared.kernel.Stage.TheVariants as stages
use Rattle.vk_base.specs.declared.step.Step.TheVariants as steps
use Rattle.vk_base.specs.Brought.{brought, posted}
use Rattle.vk_base.specs.Calls.{unseen}
use Rattle.vk_base.specs.Kernel.{◌>>=◌, Kernel, holds_of, is_at_target, is_live, name_of, put_exchange, same_name}
use Rattle.vk_base.specs.Packets.{Pending, Negative}
use Rattle.vk_base.specs.Pids.{same_pid}
use Rattle.vk_base.specs.Settings.{Settings}
use Rattle.vk_base.specs.Steps.{after_arrival, after_effect, is_allowed, next, only_if, taken, taking, with_arrival, Taking}
use Rattle.vk_base.proofs.PidLemmas.{same_pid_self}
use Rattle.v_laws.proofs.StepLemmas.{taking_is}
use Rattle.v_laws.proofs.Tables.{put_exchange_here, same_name_is, same_name_self}
use Rattle.v_sim.proofs.Made.{arriving_from}
use Rattle.vk_frame.specs.declared.header.Header.{Header}
use Rattle.vk_frame.specs.Rules.{is_young}
use Rattle.vk_packet.specs.Rules.{is_lawful}
use Rattle.vk_rules.specs.Aliens.{Alien, alien_after, alien_of, arrival_in, closes, span, stamp_in, is_alien_of, new_alien, place_for, slots_after, with_new_alien}
use Rattle.vk_rules.specs.Entries.{Entry, Input, is_tick}
use Rattle.vk_rules.specs.Frames.{Framed, answer_to_frame, every_station, frames_of, is_between, is_for}
use Rattle.vk_rules.specs.PacketOutcomes.{arrival, is_later, is_same, packet_outcome, send_outcome}
use Rattle.vk_rules.specs.Readings.{Reading, reading, reading_after}
use Rattle.vk_rules.specs.Right.{number_after, outcome_of, right_entry}
use Rattle.vk_rules.specs.Rounds.{Outcome, nothing, only_packets, told_sender}
use Rattle.vk_rules.specs.View.{after_steps}
use Rattle.v_ages.proofs.FarSlots.{mapped}
use Rattle.v_ages.proofs.Slots.{at, alien_there, at_past, at_set_same, position_map}
use Rattle.v_ages.proofs.Taken.{brought_procs, from_is}
use Rattle.v_whole.specs.EveryFrame.{EveryFrameHolds, HasAlien, HoldsAnyhow}
use Rattle.v_due.specs.Arriving.{Arrives, HasFreeSlot, HasOlderAlien, IsSendWelcome, LaterSendsReplace, NewSendsArrive, Sent, comes, packet_with}
use Rattle.v_due.specs.Failures.{reading_behind}

-- Its message has come: it waits at its target, or was taken there.
record HasCome (k : Kernel) (s : Sent) : Type 0 where
  exchange : Exchange
  is : k.exchanges (name_of s.from s.number) ≡ Some exchange
  at : exchange.at ≡ s.to
  message : exchange.message ≡ s.message
  part : exchange.part ≡ s.part
  waits : is_at_target exchange.stage ≡ true

-- the Arrive
arrives_there : (k : Kernel) (s : Sent) → same_pid s.to s.from ≡ false → is_live (k.procs s.to) ≡ true →
    HasCome (next (brought k (packet_with s)) (steps.Arrive s.from s.number)) s
unfolding with_arrival
arrives_there k s apart live =
    let l = brought k (packet_with s) in
    let name = name_of s.from s.number in
    let x = posted s.to s.message s.part in
    let there : l.exchanges name ≡ Some x = put_exchange_here k.exchanges name x in
    let alive : is_live (l.procs s.to) ≡ true = ap is_live (brought_procs k (packet_with s) s.to apart) ∙ live in
    let may = arriving_from l name x there refl alive in
    let goes = ap (λ o. after_effect l (o >>= λ (e : Exchange). Some (unseen (with_arrival l name e)))) may in
    let queued = ap (option_map (after_arrival name x name)) there
    ∙ ap Some (cond-true (same_name name name) (record x { stage = stages.Queued }) _ (same_name_self name)) in
    subst (λ m. HasCome m s) (sym goes)
    (record { exchange = record x { stage = stages.Queued }; is = queued; at = refl; message = refl; part = refl; waits = refl })

-- a Take behind it
take_keeps : (k : Kernel) (r : Pid) (s : Sent) (o : Option Taking) → taking k r ≡ o → HasCome k s →
    HasCome (after_effect k (o >>= λ t. Some (unseen (taken k r t)))) s
unfolding taken put_exchange
take_keeps k r s None g come = come
take_keeps k r s (Some t) g come =
    let name = name_of s.from s.number in
    let i = taking_is k r t g in
    elim (cases_Bool (same_name name t.name)) [
      | inl same ↦
          let x : come.exchange ≡ t.exchange =
          same_Some come.exchange t.exchange (sym come.is ∙ ap k.exchanges (same_name_is name t.name same) ∙ i.exchange) in
          record {
            exchange = record t.exchange { stage = stages.Taken };
            is = cond-true (same_name name t.name) (Some (record t.exchange { stage = stages.Taken })) (k.exchanges name) same;
            at = ap (λ (e : Exchange). e.at) (sym x) ∙ come.at;
            message = ap (λ (e : Exchange). e.message) (sym x) ∙ come.message;
            part = ap (λ (e : Exchange). e.part) (sym x) ∙ come.part;
            waits = refl;
          }
      | inr other ↦
          record {
            exchange = come.exchange;
            is = cond-false (same_name name t.name) (Some (record t.exchange { stage = stages.Taken })) (k.exchanges name) other ∙ come.is;
            at = come.at;
            message = come.message;
            part = come.part;
            waits = come.waits;
          }
    ]

arrival_comes : (k : Kernel) (s : Sent) → same_pid s.to s.from ≡ false → is_live (k.procs s.to) ≡ true →
    HasCome (after_steps k (Some (packet_with s)) (arrival k (packet_with s) (name_of s.from s.number) s.to).steps) s
arrival_comes k s apart live =
    let l = next (brought k (packet_with s)) (steps.Arrive s.from s.number) in
    let come = arrives_there k s apart live in
    cond_both (is_allowed l (steps.Take s.to)) (steps.Take s.to ∷ []) [] (λ ss. HasCome (fold next l ss) s)
    (λ t. take_keeps l s.to s (taking l s.to) refl come) (λ f. come)

-- What the Send amounts to.
new_tests : (number : ℕ) (o : Option Alien) → ((a : Alien) → o ≡ Some a → a.name.number < number) →
    (holds_of (is_later number) o ≡ false) × (holds_of (is_same number) o ≡ false)
new_tests number None new = (refl, refl)
new_tests number (Some a) new =
    let less = new a refl in
    (le-ltb number a.name.number (omega arith), ne_eqb a.name.number number (λ e. less-than-self a.name.number number less e))
  where
    less-than-self : (a b : ℕ) → a < b → a ≡ b → ⊥
    less-than-self a b less e = omega arith

outcome_arrives : (rd : Reading) (s : Sent) (slot : ℕ) → ((a : Alien) → alien_of rd.slots s.from ≡ Some a → a.name.number < s.number) →
    is_live (rd.view.procs s.to) ≡ true → place_for rd.slots s.from ≡ Some slot →
    send_outcome rd (packet_with s) (name_of s.from s.number) s.to ≡ arrival rd.view (packet_with s) (name_of s.from s.number) s.to
outcome_arrives rd s slot new live place =
    let o = alien_of rd.slots s.from in
    let tests = new_tests s.number o new in
    let comes_in = arrival rd.view (packet_with s) (name_of s.from s.number) s.to in
    let full = cond (is_none (place_for rd.slots s.from)) (only_packets (Pending s.to s.from s.number ∷ [])) comes_in in
    let dead = cond (not (is_live (rd.view.procs s.to))) (only_packets (Negative s.to s.from s.number ∷ [])) full in
    let same = cond (holds_of (is_same s.number) o) (only_packets (told_sender rd.view (name_of s.from s.number))) dead in
    cond-false (holds_of (is_later s.number) o) nothing same tests.0
    ∙ cond-false (holds_of (is_same s.number) o) (only_packets (told_sender rd.view (name_of s.from s.number))) dead tests.1
    ∙ cond-false (not (is_live (rd.view.procs s.to))) (only_packets (Negative s.to s.from s.number ∷ [])) full (ap not live)
    ∙ cond-false (is_none (place_for rd.slots s.from)) (only_packets (Pending s.to s.from s.number ∷ [])) comes_in
    (ap (λ p. is_none p) place)

-- The entry.
taken_answer : (c : Settings) (host : ℕ) (is : List Input) (s : Sent) → IsSendWelcome c host is s →
    answer_to_frame host (reading_behind c host is).now c.times.life (Framed s.header (packet_with s)) ≡ events_answered.Taken
taken_answer c host is s w =
    let last = cond (is_between s.header (packet_with s) && is_lawful (packet_with s)) events_answered.Taken events_answered.Bad in
    let young = is_young s.header (reading_behind c host is).now c.times.life in
    cond-false (not (is_for host s.header)) events_answered.Bad (cond (not young) events_answered.Old last) (ap not w.for)
    ∙ cond-false (not young) events_answered.Old last (ap not w.young)
    ∙ cond-true (is_between s.header (packet_with s) && is_lawful (packet_with s)) events_answered.Taken events_answered.Bad
    (and_from (is_between s.header (packet_with s)) (is_lawful (packet_with s)) w.between w.lawful)

arrival_entry : Settings → ℕ → Reading → Sent → Entry
arrival_entry c host rd s = record {
  input = comes s;
  answer = events_answered.Taken;
  tick = rd.now;
  number = number_after rd (comes s);
  frames = [];
  steps = (arrival rd.view (packet_with s) (name_of s.from s.number) s.to).steps;
}

entry_is : (c : Settings) (host : ℕ) (is : List Input) (s : Sent) (slot : ℕ) → IsSendWelcome c host is s →
    ((a : Alien) → alien_of (reading_behind c host is).slots s.from ≡ Some a → a.name.number < s.number) →
    place_for (reading_behind c host is).slots s.from ≡ Some slot →
    right_entry c host (reading_behind c host is) (comes s) ≡ arrival_entry c host (reading_behind c host is) s
unfolding right_entry packet_outcome arrival_entry
entry_is c host is s slot w new place =
    let rd = reading_behind c host is in
    ap (λ a. made rd a (outcome_of c host rd (comes s) a)) (taken_answer c host is s w)
    ∙ ap (made rd events_answered.Taken) (outcome_arrives rd s slot new w.live place)
  where
    made : Reading → EventAnswer → Outcome → Entry
    made rd a o = record {
      input = comes s;
      answer = a;
      tick = rd.now;
      number = number_after rd (comes s);
      frames = frames_of host rd.now (number_after rd (comes s)) (rd.events + 1) 1 o.packets;
      steps = o.steps;
    }

-- Slots.

-- an event that is no tick keeps each alien in its slot, under its name
kept_name : (t : Times) (e : Entry) (from : Pid) (slot : Option Alien) → is_tick e.input ≡ false →
    is_alien_of from (slot >>= alien_after t e) ≡ is_alien_of from slot
kept_name t e from None quiet = refl
kept_name t e from (Some a) quiet =
    ap (λ b. is_alien_of from (cond b None (Some (record a {
      newest = max a.newest (stamp_in e a.name);
      closed = option_or a.closed (only_if (closes e a.name) (Some e.tick));
    })))) (ap (λ b. b && holds_of (λ closed. nat_lt (max closed a.newest + span t) e.tick) a.closed) quiet)

kept_none : (t : Times) (e : Entry) (slot : Option Alien) → is_tick e.input ≡ false → is_none (slot >>= alien_after t e) ≡ is_none slot
kept_none t e None quiet = refl
kept_none t e (Some a) quiet =
    ap (λ b. is_none (cond b None (Some (record a {
      newest = max a.newest (stamp_in e a.name);
      closed = option_or a.closed (only_if (closes e a.name) (Some e.tick));
    })))) (ap (λ b. b && holds_of (λ closed. nat_lt (max closed a.newest + span t) e.tick) a.closed) quiet)

place_kept : (t : Times) (e : Entry) (slots : List (Option Alien)) (from : Pid) → is_tick e.input ≡ false →
    place_for (mapped t e slots) from ≡ place_for slots from
unfolding place_for
place_kept t e slots from quiet =
    ap (λ o. option_or o (position is_none (mapped t e slots))) (position_map (is_alien_of from) (λ slot. slot >>= alien_after t e) slots
    (λ x. kept_name t e from x quiet))
    ∙ ap (option_or (position (is_alien_of from) slots)) (position_map is_none (λ slot. slot >>= alien_after t e) slots
    (λ x. kept_none t e x quiet))

-- the place of the first that fits
position_is : (p : Option Alien → Bool) (slots : List (Option Alien)) (i : ℕ) → i < length slots → p (at slots i) ≡ true →
    ((k : ℕ) → k < i → p (at slots k) ≡ false) → position p slots ≡ Some i
position_is p slots i within fits before =
    let first : position_or_len p slots ≡ i = position_or_len_is p slots i None (omega arith) before (λ less. fits) in
    cond-true (nat_lt (position_or_len p slots) (length slots)) (Some (position_or_len p slots)) None
    (ap (λ n. nat_lt n (length slots)) first ∙ lt-ltb i (length slots) within)
    ∙ ap Some first

position_none : (p : Option Alien → Bool) (slots : List (Option Alien)) → ((k : ℕ) → p (at slots k) ≡ false) → position p slots ≡ None
position_none p slots none =
    let past : position_or_len p slots ≡ length slots = position_or_len_is p slots (length slots) None (omega arith) (λ k less. none k)
    (λ less. absurd (omega arith)) in
    cond-false (nat_lt (position_or_len p slots) (length slots)) (Some (position_or_len p slots)) None
    (ap (λ n. nat_lt n (length slots)) past ∙ le-ltb (length slots) (length slots) (omega arith))

some_there_is : (slot : Option Alien) → slot ≢ None → is_none slot ≡ false
some_there_is None there = absurd (there refl)
some_there_is (Some a) there = refl

free_place : (slots : List (Option Alien)) (from : Pid) (slot : ℕ) → HasFreeSlot slots from slot → place_for slots from ≡ Some slot
unfolding place_for
free_place slots from slot has =
    ap (λ o. option_or o (position is_none slots)) (position_none (is_alien_of from) slots has.none)
    ∙ position_is is_none slots slot has.within (ap (λ o. is_none o) has.free) (λ k less. some_there_is (at slots k) (has.lowest k less))

inside : (slots : List (Option Alien)) (i : ℕ) (a : Alien) → at slots i ≡ Some a → i < length slots
inside slots i a there = elim (cases_lt i (length slots)) [
  | inl less ↦ less
  | inr past ↦ absurd (none-some a (sym (at_past slots i past) ∙ there))
]

older_place : (slots : List (Option Alien)) (from : Pid) (number slot : ℕ) → HasOlderAlien slots from number slot →
    ((i j : ℕ) → is_alien_of from (at slots i) ≡ true → is_alien_of from (at slots j) ≡ true → i ≡ j) → place_for slots from ≡ Some slot
unfolding place_for
older_place slots from number slot has once =
    let fits : is_alien_of from (at slots slot) ≡ true =
    ap (is_alien_of from) has.is ∙ ap (λ q. same_pid q from) has.sender ∙ same_pid_self from in
    ap (λ o. option_or o (position is_none slots)) (position_is (is_alien_of from) slots slot (inside slots slot has.alien has.is) fits
    (λ k less. elim (cases_Bool (is_alien_of from (at slots k))) [
      | inl same ↦ let e = once k slot same fits in absurd (omega arith)
      | inr other ↦ other
    ]))

-- the slots behind the entry
new_slot : (t : Times) (e : Entry) (slots : List (Option Alien)) (name : Name) (slot : ℕ) → is_tick e.input ≡ false →
    place_for slots name.sender ≡ Some slot → slot < length slots → at (with_new_alien e (mapped t e slots) (Some name)) slot ≡ new_alien e name
new_slot t e slots name slot quiet place within =
    ap (λ o. at (option_map_or (λ i. slice_set (mapped t e slots) i (new_alien e name)) o (mapped t e slots)) slot)
    (place_kept t e slots name.sender quiet ∙ place)
    ∙ at_set_same (mapped t e slots) slot (new_alien e name)
    (subst (λ n. slot < n) (sym (length-map slots (λ slot. slot >>= alien_after t e))) within)

-- The entry, brought together.
alien_in : (c : Settings) (host : ℕ) (rd : Reading) (s : Sent) → new_alien (arrival_entry c host rd s) (name_of s.from s.number)
    ≡ Some (record { name = name_of s.from s.number; newest = s.header.stamp; closed = None })
unfolding arrival_entry
alien_in c host rd s =
    let name = name_of s.from s.number in
    ap (λ n. Some (record { name = name; newest = n; closed = None }))
    (cond-true (same_name name name) s.header.stamp 0 (same_name_self name))

slot_in : (c : Settings) (host : ℕ) (rd : Reading) (s : Sent) (slot : ℕ) → place_for rd.slots s.from ≡ Some slot → slot < length rd.slots →
    at (reading_after c.times rd (arrival_entry c host rd s)).slots slot
    ≡ Some (record { name = name_of s.from s.number; newest = s.header.stamp; closed = None })
unfolding reading_after slots_after arrival_entry
slot_in c host rd s slot place within =
    new_slot c.times (arrival_entry c host rd s) rd.slots (name_of s.from s.number) slot refl place within ∙ alien_in c host rd s

come_in : (c : Settings) (host : ℕ) (rd : Reading) (s : Sent) → same_pid s.to s.from ≡ false → is_live (rd.view.procs s.to) ≡ true →
    HasCome (reading_after c.times rd (arrival_entry c host rd s)).view s
unfolding reading_after arrival_entry
come_in c host rd s apart live = arrival_comes rd.view s apart live

arrival_of : (c : Settings) (host : ℕ) (rd : Reading) (s : Sent) → arrival_in (arrival_entry c host rd s) ≡ Some (name_of s.from s.number)
unfolding arrival_entry
arrival_of c host rd s = refl

none_told : (c : Settings) (host : ℕ) (rd : Reading) (s : Sent) → (arrival_entry c host rd s).frames ≡ []
unfolding arrival_entry
none_told c host rd s = refl

behind_is : (c : Settings) (host : ℕ) (is : List Input) (i : Input) →
    reading_behind c host (i ∷ is) ≡ reading_after c.times (reading_behind c host is) (right_entry c host (reading_behind c host is) i)
unfolding reading
behind_is c host is i = refl

receiver_here : (host : ℕ) (h : Header) (q : Pid) → (h.destination == host || h.destination == every_station) ≡ true →
    q.host ≡ h.destination → q.host ≡ host
receiver_here host h q t there = elim (or_cases (h.destination == host) (h.destination == every_station) t) [
  | inl here ↦ there ∙ eqb-true h.destination host here
  | inr all ↦ absurd (below q (there ∙ eqb-true h.destination every_station all))
]
  where
    below : (q : Pid) → q.host ≡ every_station → ⊥
    below q e = let b : q.host < 65535 = q.one_host in omega arith

target_apart : (c : Settings) (host : ℕ) (is : List Input) (s : Sent) → IsSendWelcome c host is s → same_pid s.to s.from ≡ false
target_apart c host is s w =
    let from = from_is host s.header (packet_with s) w.for w.between in
    ap (λ b. b && s.to.local == s.from.local) (ne_eqb s.to.host s.from.host (λ e. both_ways (s.from.host == host) from.away
    (eq-eqb s.from.host host (sym e ∙ here))))
  where
    here : s.to.host ≡ host
    here = receiver_here host s.header s.to (and_parts (s.header.destination == host || s.header.destination == every_station)
        (not (s.header.source == host)) w.for).0
        (eqb-true s.to.host s.header.destination (and_parts (s.from.host == s.header.source) (s.to.host == s.header.destination) w.between).1)

-- a message of its sender that waits is the one of its alien, so this one
alone_by : (c : Settings) (host : ℕ) (is : List Input) (s : Sent) (slot : ℕ) → HoldsAnyhow host (reading_behind c host (comes s ∷ is)) →
    at (reading_behind c host (comes s ∷ is)).slots slot ≡ Some
    (record { name = name_of s.from s.number; newest = s.header.stamp; closed = None }) →
    is_alien_of s.from (at (reading_behind c host (comes s ∷ is)).slots slot) ≡ true → (n : Name) →
    HasAlien (reading_behind c host (comes s ∷ is)).slots n → n.sender ≡ s.from → n ≡ name_of s.from s.number
alone_by c host is s slot holds alien own n has sender =
    let slots = (reading_behind c host (comes s ∷ is)).slots in
    let of : is_alien_of s.from (at slots has.slot) ≡ true =
    ap (is_alien_of s.from) has.is ∙ ap (λ (z : Name). same_pid z.sender s.from) has.name ∙ ap (λ q. same_pid q s.from) sender
    ∙ same_pid_self s.from in
    let place = holds.aliens.once s.from has.slot slot of own in
    let same = same_Some has.alien _ (sym has.is ∙ ap (at slots) place ∙ alien) in
    sym has.name ∙ ap (λ (z : Alien). z.name) same

arrives : EveryFrameHolds → (c : Settings) (host : ℕ) (is : List Input) (s : Sent) (slot : ℕ) → IsSendWelcome c host is s →
    ((a : Alien) → alien_of (reading_behind c host is).slots s.from ≡ Some a → a.name.number < s.number) →
    place_for (reading_behind c host is).slots s.from ≡ Some slot → slot < length (reading_behind c host is).slots →
    Arrives c host is s slot
arrives every c host is s slot w new place within =
    let rd = reading_behind c host is in
    let e = entry_is c host is s slot w new place in
    let after = behind_is c host is (comes s) ∙ ap (reading_after c.times rd) e in
    let come = subst (λ (r : Reading). HasCome r.view s) (sym after) (come_in c host rd s (target_apart c host is s w) w.live) in
    let alien = ap (λ (r : Reading). at r.slots slot) after ∙ slot_in c host rd s slot place within in
    let holds = every c host (comes s ∷ is) (tt, w.own) in
    let own : is_alien_of s.from (at (reading_behind c host (comes s ∷ is)).slots slot) ≡ true =
    ap (is_alien_of s.from) alien ∙ same_pid_self s.from in
    let from = from_is host s.header (packet_with s) w.for w.between in
    record {
      arrival = ap arrival_in e ∙ arrival_of c host rd s;
      exchange = come.exchange;
      there = come.is;
      at = come.at;
      message = come.message;
      part = come.part;
      waits = come.waits;
      silent = ap (λ (x : Entry). x.frames) e ∙ none_told c host rd s;
      alien = alien;
      only = λ i t. holds.aliens.once s.from i slot t own;
      alone = λ n x sender there waits. alone_by c host is s slot holds alien own n (holds.home n x there waits
          (ap (λ (q : Pid). q.host == host) sender ∙ from.away)) sender;
    }

pub new_sends_arrive : EveryFrameHolds → NewSendsArrive
new_sends_arrive every c host is s slot w has =
    arrives every c host is s slot w
    (λ a there. let x = alien_there (reading_behind c host is).slots s.from a there in
    absurd (both_ways (is_alien_of s.from (at (reading_behind c host is).slots x.place)) (has.none x.place) (ap (is_alien_of s.from) x.is
    ∙ x.of)))
    (free_place (reading_behind c host is).slots s.from slot has) has.within

pub later_sends_replace : EveryFrameHolds → LaterSendsReplace
later_sends_replace every c host is s slot w has =
    let slots = (reading_behind c host is).slots in
    let once = (every c host is w.own).aliens.once s.from in
    let own : is_alien_of s.from (at slots slot) ≡ true =
    ap (is_alien_of s.from) has.is ∙ ap (λ q. same_pid q s.from) has.sender ∙ same_pid_self s.from in
    arrives every c host is s slot w
    (λ a there. let x = alien_there slots s.from a there in
    let place = once x.place slot (ap (is_alien_of s.from) x.is ∙ x.of) own in
    let same = same_Some a has.alien (sym x.is ∙ ap (at slots) place ∙ has.is) in
    subst (λ (z : Alien). z.name.number < s.number) (sym same) has.earlier)
    (older_place slots s.from s.number slot has once) (inside slots slot has.alien has.is)
