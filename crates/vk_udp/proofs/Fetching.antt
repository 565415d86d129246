-- The fetches of one seat of the hub, one behind the other, and what the link was given to send for them.
use Rattle.std.proofs.Common.{◌≡◌, ◌≢◌, ℕ, zero, suc, ◌+◌, ◌≤◌, ◌<◌, Bool, true, false, Option, None, Result, Ok, Err, cond, get_or, take, length, map, List, [], ◌∷◌, ◌++◌, refl, sym, ap, ◌∙◌, subst, append-nil, arith}
use mathlib.Core.List.{IsPrefix}
use Rattle.std.proofs.lemmas.List.{append_cancel_right, take_all, take_more}
use Rattle.turn_cell.proofs.Histories.{events_own, prefix_self}
use Rattle.turn_cell.specs.declared.replay.Room.{Room}
use Rattle.turn_cell.specs.History.{events_of}
use Rattle.turn_cell.specs.Seats.{HasEntered, HasLooked, IsComplete, IsSameSeat, IsSeatOf, Sitting, Cell}
use Rattle.vk_event.specs.declared.port.StationPort.{StationPort}
use Rattle.vk_hub.specs.declared.event.Fetched.{Fetched}
use Rattle.vk_hub.specs.declared.event.Fetched.TheVariants as fetched
use Rattle.vk_hub.specs.declared.event.HubEvent.{HubEvent}
use Rattle.vk_hub.specs.declared.event.HubEvent.TheVariants as hub_events
use Rattle.vk_hub.specs.Hubs.{HubLog, fetched_from, is_at_limit, traffic_of}
use Rattle.vk_hub.specs.Links.{Frame}
use Rattle.vk_hub.specs.Posts.{IsFromPost}
use Rattle.v_node.specs.Links.{is_stop}
use Rattle.v_node.specs.Seats.{hub_stand_of}
use Rattle.vk_udp.specs.Asked.{AreAsks, Ask, rounds_of, sending, sent_for}
use Rattle.vk_udp.specs.Carried.{AreRounds, HasFetchedFor, HasGoneAround, HasGoneRound, room_in, stops_in}
use Rattle.vk_udp.specs.Wires.{Datagram, IsMore}
use Rattle.vk_udp.specs.declared.carrier.Sent.{Sent}
use Rattle.vk_udp.proofs.Asking.{asks_append, asks_stops, more_more, sent_append, there_append}

abbrev HubSeat : Type 0
HubSeat = Sitting HubLog HubEvent

pub same_seat : (s t u : HubSeat) → IsSameSeat s t → IsSameSeat t u → IsSameSeat s u
same_seat s t u one two = (two.0 ∙ one.0, two.1 ∙ one.1, two.2 ∙ one.2)

pub seat_of : (hub : Cell HubLog) (s t : HubSeat) → IsSeatOf hub s → IsSameSeat s t → IsSeatOf hub t
seat_of hub s t of same = (same.0 ∙ of.0, same.1 ∙ of.1)

-- what the seat had entered before its new entry
own_before : (old new : HubSeat) (before : List (ℕ × HubEvent)) (e : HubEvent) → new.number ≡ old.number → IsComplete new →
    new.seen ≡ before ++ (old.number, e) ∷ [] → new.mine ≡ old.mine ++ e ∷ [] → events_of old.number before ≡ old.mine
own_before old new before e same complete seen mine =
    append_cancel_right (events_of old.number before) old.mine (e ∷ [])
    (sym (events_own old.number e before)
    ∙ ap (events_of old.number) (sym seen)
    ∙ ap (λ n. events_of n new.seen) (sym same)
    ∙ complete
    ∙ mine)

-- What was fetched, in one turn.
abbrev pub HasGot : HubLog → StationPort → HubSeat → HubSeat → Fetched → Type 0
HasGot o p s t f =
    HasEntered (λ before. (is_at_limit before (hub_events.Fetch p.host) ≡ false) × (f ≡ fetched_from o.programs (traffic_of o before) p.host)) s t
    (hub_events.Fetch p.host)

-- A front of a list and one element more is a front.
front_more : {A : Type 0} (xs : List A) (i : ℕ) (d : A) → i < length xs → IsPrefix (take i xs ++ get_or xs i d ∷ []) xs
front_more [] i d low = absurd (omega arith)
front_more (x ∷ xs) zero d low = (xs, refl)
front_more (x ∷ xs) (suc i) d low = let rest = front_more xs i d (omega arith) in (rest.0, ap (λ l. x ∷ l) rest.1)

pub front_at : {A : Type 0} (xs : List A) (i : ℕ) → IsPrefix (take i xs) xs
front_at [] zero = ([], refl)
front_at [] (suc i) = ([], refl)
front_at (x ∷ xs) zero = (x ∷ xs, refl)
front_at (x ∷ xs) (suc i) = let rest = front_at xs i in (rest.0, ap (λ l. x ∷ l) rest.1)

zero_cond : (ended : Bool) → ended ≡ true → ◌≡◌ {A = ℕ} (cond ended 1 0) 0 → ⊥
zero_cond true is none = absurd (omega (arith, none))
zero_cond false is none = absurd (cc is)

pub going_on : (ended : Bool) → ended ≡ false → ◌≡◌ {A = ℕ} (cond ended 1 0) 0
going_on false is = refl
going_on true is = absurd (cc is)

pub gone : (ended : Bool) → ended ≡ true → ◌≡◌ {A = ℕ} (cond ended 1 0) 1
gone true is = refl
gone false is = absurd (cc is)

module _ (o : HubLog) where
  abbrev Told : Type 0
  Told = Option (List Datagram)

  abbrev Fetches : List StationPort → HubSeat → HubSeat → Told → Told → ℕ → Type 0
  Fetches = HasFetchedFor o

  -- ONE FETCH: it was refused
  pub fetched_refused : (s t : HubSeat) (l m : Told) → IsSameSeat s t → HasLooked s t → IsMore l m [] → Fetches [] s t l m 0
  fetched_refused s t l m same looked told = record {
    same = same;
    asked = record { asks = []; are = looked; there = refl };
    stopped = omega arith;
    told = told;
  }

  pub fetched_none : (s : HubSeat) (l : Told) → IsMore l l [] → Fetches [] s s l l 0
  fetched_none s l told = fetched_refused s s l l (refl, refl, refl) (prefix_self s.seen, refl) told

  -- it found nothing
  pub fetched_nothing : (p : StationPort) (s t : HubSeat) (l m : Told) → IsSameSeat s t → IsComplete t → HasLooked s t
      → fetched_from o.programs (traffic_of o t.seen) p.host ≡ fetched.Nothing → IsMore l m [] → Fetches (p ∷ []) s t l m 0
  fetched_nothing p s t l m same complete looked nothing told = record {
    same = same;
    asked = record {
      asks = record { there = p; before = t.seen; answer = fetched.Nothing } ∷ [];
      are = (
        record {
          later = looked.0;
          mine = ap (λ n. events_of n t.seen) (sym same.2) ∙ (complete ∙ looked.1);
          answered = nothing;
          posted = tt;
        },
        (prefix_self t.seen, looked.1),
      );
      there = refl;
    };
    stopped = omega arith;
    told = told;
  }

  -- it was entered
  fetched_given : (p : StationPort) (s t : HubSeat) (l m : Told) (f : Fetched) → IsSameSeat s t → IsComplete t → f ≢ fetched.Nothing → HasGot o p s t f
      → IsFromPost f p.host t.seen → IsMore l m (sending p f) → Fetches (p ∷ []) s t l m (is_stop f)
  fetched_given p s t l m (fetched.Frame frame) same complete some turn posted told = record {
    same = same;
    asked = record {
      asks = record { there = p; before = turn.before; answer = fetched.Frame frame } ∷ [];
      are = (
        record {
          later = turn.later;
          mine = own_before s t turn.before (hub_events.Fetch p.host) same.2 complete turn.seen turn.mine;
          answered = sym turn.gives.1;
          posted = subst (IsFromPost (fetched.Frame frame) p.host) turn.seen posted;
        },
        (
          subst (IsPrefix (turn.before ++ (s.number, hub_events.Fetch p.host) ∷ [])) (sym turn.seen)
              (prefix_self (turn.before ++ (s.number, hub_events.Fetch p.host) ∷ [])),
          turn.mine,
        ),
      );
      there = refl;
    };
    stopped = omega arith;
    told = told;
  }
  fetched_given p s t l m fetched.Stopped same complete some turn posted told = record {
    same = same;
    asked = record {
      asks = record { there = p; before = turn.before; answer = fetched.Stopped } ∷ [];
      are = (
        record {
          later = turn.later;
          mine = own_before s t turn.before (hub_events.Fetch p.host) same.2 complete turn.seen turn.mine;
          answered = sym turn.gives.1;
          posted = tt;
        },
        (
          subst (IsPrefix (turn.before ++ (s.number, hub_events.Fetch p.host) ∷ [])) (sym turn.seen)
              (prefix_self (turn.before ++ (s.number, hub_events.Fetch p.host) ∷ [])),
          turn.mine,
        ),
      );
      there = refl;
    };
    stopped = omega arith;
    told = told;
  }
  fetched_given p s t l m fetched.Nothing same complete some turn posted told = absurd (some refl)

  pub fetched_as : (p : StationPort) (s t : HubSeat) (l m : Told) (f g : Fetched) → f ≡ g → g ≢ fetched.Nothing → IsSameSeat s t → IsComplete t
      → (f ≢ fetched.Nothing → HasGot o p s t f) → IsFromPost f p.host t.seen → IsMore l m (sending p g)
      → Fetches (p ∷ []) s t l m (is_stop g)
  fetched_as p s t l m f g is some same complete turn posted told =
      fetched_given p s t l m g same complete some (subst (λ x. x ≢ fetched.Nothing → HasGot o p s t x) is turn some)
      (subst (λ x. IsFromPost x p.host t.seen) is posted) told

  -- ONE BEHIND THE OTHER
  pub fetched_on : (ps qs : List StationPort) (s t u : HubSeat) (k l m : Told) (a b : ℕ) → Fetches ps s t k l 0 → Fetches qs t u l m a → a ≡ b
      → Fetches (ps ++ qs) s u k m b
  fetched_on ps qs s t u k l m a b one two is =
      let xs = one.asked.asks in
      let ys = two.asked.asks in
      record {
        same = same_seat s t u one.same two.same;
        asked = record {
          asks = xs ++ ys;
          are = asks_append s.number o (hub_stand_of s) xs (hub_stand_of t) ys (hub_stand_of u) one.asked.are
              (subst (λ n. AreAsks n o (hub_stand_of t) ys (hub_stand_of u)) one.same.2 two.asked.are);
          there = there_append xs ys ∙ (ap (λ l. l ++ map (λ (x : Ask). x.there) ys) one.asked.there ∙ ap (λ l. ps ++ l) two.asked.there);
        };
        stopped = (let sum = asks_stops xs ys in let x = one.stopped in let y = two.stopped in omega arith);
        told = subst (IsMore k m) (sym (sent_append xs ys))
            (more_more k l m (sent_for xs) (sent_for ys) one.told two.told);
      }

  -- the link was given nothing more to send
  pub fetched_still : (ps : List StationPort) (s t : HubSeat) (k l m : Told) (n : ℕ) → Fetches ps s t k l n → m ≡ l → Fetches ps s t k m n
  fetched_still ps s t k l m n it is = record {
    same = it.same;
    asked = it.asked;
    stopped = it.stopped;
    told = subst (λ x. IsMore k x (sent_for it.asked.asks)) (sym is) it.told;
  }

  -- ONE ROUND, of which so many ports are done
  pub round_none : (ports : List StationPort) (s : HubSeat) (l : Told) → IsMore l l [] → Fetches (take 0 ports) s s l l 0
  round_none [] s l told = fetched_none s l told
  round_none (p ∷ ps) s l told = fetched_none s l told

  pub round_more : (ports : List StationPort) (i : ℕ) (d : StationPort) (s t u : HubSeat) (k l m : Told) (a : ℕ) → i < length ports
      → Fetches (take i ports) s t k l 0 → Fetches (get_or ports i d ∷ []) t u l m a → a ≡ 0 → Fetches (take (i + 1) ports) s u k m 0
  round_more ports i d s t u k l m a low one two is =
      subst (λ ps. Fetches ps s u k m 0) (sym (take_more ports i d low))
      (fetched_on (take i ports) (get_or ports i d ∷ []) s t u k l m a 0 one two is)

  pub round_ended : (ports : List StationPort) (i : ℕ) (d : StationPort) (s t u : HubSeat) (k l m : Told) (answer : Sent) → i < length ports
      → answer.ended ≡ true → Fetches (take i ports) s t k l 0 → Fetches (get_or ports i d ∷ []) t u l m (stops_in (Ok answer))
      → HasGoneRound o ports s u k m (Ok answer)
  round_ended ports i d s t u k l m answer low ended one two = record {
    asked = take i ports ++ get_or ports i d ∷ [];
    front = front_more ports i d low;
    whole = λ none met. absurd (zero_cond answer.ended ended none);
    fetched = fetched_on (take i ports) (get_or ports i d ∷ []) s t u k l m (cond answer.ended 1 0) (cond answer.ended 1 0) one two refl;
  }

  pub round_refused : (ports : List StationPort) (i : ℕ) (s t u : HubSeat) (k l m : Told) (why : Room)
      → Fetches (take i ports) s t k l 0 → Fetches [] t u l m 0 → HasGoneRound o ports s u k m (Err why)
  round_refused ports i s t u k l m why one two = record {
    asked = take i ports;
    front = front_at ports i;
    whole = λ none met. absurd (cc met);
    fetched = subst (λ ps. Fetches ps s u k m 0) (append-nil (take i ports)) (fetched_on (take i ports) [] s t u k l m 0 0 one two refl);
  }

  pub round_whole : (ports : List StationPort) (i : ℕ) (s t : HubSeat) (k l : Told) (answer : Sent) → length ports ≤ i → answer.ended ≡ false
      → Fetches (take i ports) s t k l 0 → HasGoneRound o ports s t k l (Ok answer)
  round_whole ports i s t k l answer all ended one = record {
    asked = ports;
    front = ([], append-nil ports);
    whole = λ none met. refl;
    fetched = subst (λ ps. Fetches ps s t k l (cond answer.ended 1 0)) (take_all i ports all)
        (subst (Fetches (take i ports) s t k l) (sym (going_on answer.ended ended)) one);
  }

  -- ROUND AFTER ROUND
  pub rounds_on : (ports : List StationPort) (s t u : HubSeat) (k l m : Told) (result : Result Sent Room) → AreRounds o ports s t k l
      → HasGoneRound o ports t u l m result → stops_in result ≡ 0 → room_in result ≡ None → AreRounds o ports s u k m
  rounds_on ports s t u k l m result one two stops met = (
    suc one.0,
    subst (λ ps. Fetches (rounds_of one.0 ports ++ ps) s u k m 0) (two.whole stops met)
        (fetched_on (rounds_of one.0 ports) two.asked s t u k l m (stops_in result) 0 one.1 two.fetched stops),
  )

  pub rounds_still : (ports : List StationPort) (s t : HubSeat) (k l m : Told) → AreRounds o ports s t k l → m ≡ l → AreRounds o ports s t k m
  rounds_still ports s t k l m one is = (one.0, fetched_still (rounds_of one.0 ports) s t k l m 0 one.1 is)

  pub around_cut : (ports : List StationPort) (s t u : HubSeat) (k l m : Told) (result : Result Sent Room) (b : ℕ) → AreRounds o ports s t k l
      → HasGoneRound o ports t u l m result → stops_in result ≡ b → HasGoneAround o ports s u k m b
  around_cut ports s t u k l m result b one two stops = record {
    rounds = one.0;
    last = two.asked;
    front = two.front;
    fetched = fetched_on (rounds_of one.0 ports) two.asked s t u k l m (stops_in result) b one.1 two.fetched stops;
  }

  pub around_whole : (ports : List StationPort) (s t : HubSeat) (k l : Told) → AreRounds o ports s t k l → HasGoneAround o ports s t k l 0
  around_whole ports s t k l one = record {
    rounds = one.0;
    last = [];
    front = (ports, refl);
    fetched = subst (λ ps. Fetches ps s t k l 0) (sym (append-nil (rounds_of one.0 ports))) one.1;
  }

pub frame_some : (f : Frame) → fetched.Frame f ≢ fetched.Nothing
frame_some f e = absurd (cc e)

pub stopped_some : fetched.Stopped ≢ fetched.Nothing
stopped_some e = absurd (cc e)
