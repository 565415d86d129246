-- The tables stand for the kernel in which a process has taken a message, where they stand for the one in which its Send is taken.
use Rattle.std.proofs.Common.{◌≡◌, ℕ, ◌+◌, ◌<◌, ◌≤◌, List, [], drop, length, map, slice_set, Option, Some, refl, sym, ap, subst, ◌∙◌, inl, inr}
use Rattle.std.specs.List.{position}
use Rattle.std.specs.Option.{option_map}
use Rattle.std.proofs.lemmas.Bool.{cases_Bool}
use Rattle.std.proofs.lemmas.List.{get_or-set_other, get_or-set_same, length-set}
use Rattle.std.proofs.lemmas.List.Quantifiers.{position-Some}
use Rattle.std.proofs.lemmas.Option.{same_Some}
use Rattle.vk_types.specs.Types.{Activity, Exchange, Name, Pid, Process, Waiting}
use Rattle.vk_base.specs.declared.activity.Activity.TheVariants as activities
use Rattle.vk_base.specs.declared.activity.Waiting.TheVariants as waitings
use Rattle.vk_base.specs.declared.kernel.Stage.TheVariants as stages
use Rattle.vk_base.specs.declared.kernel.State.TheVariants as states
use Rattle.vk_base.specs.declared.limits.TheConstants.{STATION_PROCESSES}
use Rattle.vk_base.specs.declared.step.Step.TheVariants as steps
use Rattle.vk_base.specs.Activities.{call_of, receive_in}
use Rattle.vk_base.specs.Calls.{unseen}
use Rattle.vk_base.specs.Kernel.{◌>>=◌, Kernel, put_exchange, put_process, queue_of, receiving}
use Rattle.vk_base.specs.Pids.{same_pid}
use Rattle.vk_base.specs.Steps.{Taking, received, take_step, taking, with_part}
unfoldable use Rattle.vk_base.specs.Steps.{taken}
use Rattle.v_laws.proofs.Queues.{queue-taken_elsewhere, queue-taken_here}
use Rattle.v_laws.proofs.SoundLemmas.{sound_step}
use Rattle.v_laws.proofs.StepLemmas.{IsTaking, taking_is}
use Rattle.v_laws.proofs.Tables.{same_pid_is}
use Rattle.vk_procs.specs.declared.seat.Seat.{Seat}
use Rattle.vk_procs.specs.Seats.{is_seat, process_of, reached, reached_by, seat_in}
use Rattle.vk_queue.specs.Lists.{queue_at}
use Rattle.vk_stands.specs.Fit.{AreFit, IsFitSeat}
use Rattle.vk_stands.specs.Tables.{Tables, names_at, slot_name, spot_of}
use Rattle.vk_stands.proofs.FitSeats.{fit_idle}
use Rattle.vk_stands.proofs.Fits.{fit_seated, map_all, slot_kept}
use Rattle.vk_stands.proofs.Found.{seat_found}
use Rattle.vk_stands.proofs.Listed.{low_place, places_apart}
use Rattle.vk_stands.proofs.OneSeat.{ChangesOne, seated, view_seated}
use Rattle.vk_stands.proofs.Parts.{AreQueues, Carries, Part, carries_seated, same_more}
use Rattle.vk_stands.proofs.Seats.{position-changed}
use Rattle.vk_stands.proofs.Took.{IsReceive, reached_name, reached_process, reached_seat, receive_is, rest_of}
use Rattle.vk_stands.proofs.Views.{StandsView, view_listed, goes_self}

-- the Send is taken, and nothing else yet
abbrev pub send_taken : Kernel → Taking → Kernel
send_taken k tk = record k { exchanges = put_exchange k.exchanges tk.name (record tk.exchange { stage = stages.Taken }) }

-- the list in this place without its first
abbrev pub first_out : List (List ℕ) → ℕ → List (List ℕ)
first_out lists at = slice_set lists at (drop 1 (queue_at lists at))

-- tables of which only that is noted
pub record Noted (host : ℕ) (t u : Tables) (k : Kernel) (pid : Pid) (s : Seat) : Type 0 where
  pub fit : AreFit host u
  pub view : StandsView host u k
  pub found : seat_in u.seats pid ≡ Some s
  pub places : (q : Pid) → position (is_seat q) u.seats ≡ position (is_seat q) t.seats
  pub slots : (slot : ℕ) → slot_name u.seats u.slots slot ≡ slot_name t.seats t.slots slot
  pub lists : u.lists ≡ t.lists
  pub names : u.names ≡ t.names

idle_waits : (w v : Waiting) (o : Activity) → IsReceive o w → o ≡ activities.Blocked v → v ≡ w
idle_waits w v o is at = let both : activities.Blocked w ≡ activities.Blocked v = sym is.blocked ∙ at in cc

module _ (host : ℕ) (t : Tables) (k : Kernel) (part : Part host t k) (pid : Pid) (own : pid.host ≡ host) (s : Seat)
    (found : seat_in t.seats pid ≡ Some s) (w : Waiting) (waits : receive_in s.doing ≡ Some w) (tk : Taking) (is : taking k pid ≡ Some tk)
    (at : ℕ)
    (place : position (is_seat pid) t.seats ≡ Some at) (u : Tables) (g : Noted host t u (send_taken k tk) pid s) where
  abbrev e : Exchange
  e = tk.exchange

  abbrev from : Pid
  from = tk.name.sender

  abbrev f : Seat → Seat
  f = reached from e.shown e.part

  abbrev y : Seat
  y = reached_seat w from e.shown e.part s

  abbrev l : Kernel
  l = taken k pid tk

  abbrev after : Process
  after = record tk.process { memory = with_part tk.call e tk.process.memory; state = states.Done tk.call (received tk.call from e) }

  facts : IsTaking k pid tk
  facts = taking_is k pid tk is

  receive : IsReceive s.doing w
  receive = receive_is s.doing w waits

  is_y : f s ≡ y
  is_y = ap (λ o. reached_by o from e.shown e.part s) waits

  process_is : process_of s ≡ tk.process
  process_is = same_Some (process_of s) tk.process (sym (part.view.procs pid own ∙ ap (option_map process_of) found) ∙ facts.process)

  call_is : call_of w ≡ tk.call
  call_is = same_Some (call_of w) tk.call (sym receive.call ∙ ap (λ (p : Process). receiving p.state) process_is ∙ facts.call)

  fit_of : IsFitSeat host s
  fit_of = let p = seat_found t.seats pid s found in part.fit.seats p.at s p.here

  after_is : process_of y ≡ after
  after_is =
      reached_process w from e s receive.itself (fit_of.waits w receive.blocked)
      ∙ (λ i. record (process_is i) {
        memory = with_part (call_is i) e (process_is i).memory;
        state = states.Done (call_is i) (received (call_is i) from e);
      })

  changes : ChangesOne (send_taken k tk) l pid s y
  unfolding taken
  changes = record {
    procs = λ q. ap (λ p. put_process k.procs pid p q) (sym after_is);
    others = λ n other. refl;
    forth = λ n x there. (x, there, goes_self x);
    back = λ n x there. (x, there, goes_self x);
    lookups = λ asker number. refl;
    same = record { pid = refl; part = refl; sends = refl; lookups = refl; moving = refl; opened = refl; done = refl };
    stage = λ target x z there here local doing stage. ap (λ (a : Exchange). a.stage) (same_Some z x (sym here ∙ there)) ∙ stage;
    spot = λ x z there here spot. ap spot_of (same_Some z x (sym here ∙ there)) ∙ spot;
    dead = λ dead. dead;
    waits = λ v blocked. absurd (cc);
    sends = λ x there here near blocked. absurd (receive.no_send x.target x.message
        (sym (idle_waits w (waitings.Send x.target x.message) s.doing receive blocked)));
  }

  keeps_pid : (x : Seat) → (f x).pid ≡ x.pid
  keeps_pid x = ap (λ (n : Name). n.sender) (reached_name from e.shown e.part x)

  abbrev pub took : Tables
  took = record (seated u pid f) { lists = first_out u.lists at }

  view_took : StandsView host (seated u pid f) l
  view_took = view_seated host u (send_taken k tk) l g.fit g.view pid own s g.found f keeps_pid
      (subst (ChangesOne (send_taken k tk) l pid s) (sym is_y) changes)

  took_fit : AreFit host took
  took_fit =
      let fit : AreFit host (seated u pid f) = fit_seated host u g.fit pid f keeps_pid
      (λ x there. subst (λ z. IsFitSeat host z → IsFitSeat host (f z)) (same_Some s x (sym g.found ∙ there))
      (subst (λ z. IsFitSeat host s → IsFitSeat host z) (sym is_y) (fit_idle host s y refl refl refl (λ w is. cc)))) in
      record {
        few = fit.few;
        lists = length-set u.lists at (drop 1 (queue_at u.lists at)) ∙ fit.lists;
        pool = fit.pool;
        places = fit.places;
        seats = fit.seats;
        apart = fit.apart;
        aliens = fit.aliens;
      }

  place_of : (q : Pid) → position (is_seat q) took.seats ≡ position (is_seat q) t.seats
  place_of q = position-changed (is_seat pid) f (is_seat q) (λ x. ap (λ p. same_pid p q) (keeps_pid x)) u.seats ∙ g.places q

  names_of : (q : List ℕ) → map (slot_name took.seats took.slots) q ≡ map (slot_name t.seats t.slots) q
  names_of q = map_all (slot_name took.seats took.slots) (slot_name t.seats t.slots) q
      (λ slot. slot_kept u pid f (reached_name from e.shown e.part) slot ∙ g.slots slot)

  low : at < length u.lists
  low =
      let at_place = position-Some (is_seat pid) t.seats at s place in
      subst (λ n. at < n) (sym g.fit.lists) (low_place at (length t.seats) STATION_PROCESSES at_place.0 part.fit.few)

  list_here : queue_at took.lists at ≡ drop 1 (queue_at t.lists at)
  list_here =
      get_or-set_same u.lists at (drop 1 (queue_at u.lists at)) [] low ∙ ap (λ ls. drop 1 (queue_at ls at)) g.lists

  queue_here : map Some (queue_of l pid) ≡ names_at took at
  queue_here =
      rest_of (slot_name t.seats t.slots) (queue_at t.lists at) tk.name (queue_of l pid)
      (ap (map Some) (sym (queue-taken_here k pid tk part.sound is)) ∙ part.queues pid at place)
      ∙ sym (names_of (drop 1 (queue_at t.lists at))) ∙ ap (map (slot_name took.seats took.slots)) (sym list_here)

  queues_took : AreQueues took l
  queues_took q i there = elim (cases_Bool (same_pid pid q)) [
    | inl same ↦
        let one : pid ≡ q = same_pid_is pid q same in
        let mine : i ≡ at = same_Some i at (sym (sym (place_of q) ∙ there) ∙ ap (λ p. position (is_seat p) t.seats) (sym one) ∙ place) in
        subst (λ p. map Some (queue_of l p) ≡ names_at took i) one (queue_here ∙ ap (names_at took) (sym mine))
    | inr other ↦
        ap (map Some) (queue-taken_elsewhere k pid tk q is other)
        ∙ part.queues q i (sym (place_of q) ∙ there)
        ∙ sym (ap (map (slot_name took.seats took.slots))
        (get_or-set_other u.lists at i (drop 1 (queue_at u.lists at)) []
        (places_apart t.seats s pid q at i place (sym (place_of q) ∙ there) other)
        ∙ ap (λ ls. queue_at ls i) g.lists) ∙ names_of (queue_at t.lists i))
  ]

  does : take_step k pid ≡ Some (unseen l)
  does = ap (λ (o : Option Taking). o >>= λ z. Some (unseen (taken k pid z))) is

  pub part_took : Part host took l
  unfolding taken
  part_took = record {
    fit = took_fit;
    view = view_listed (first_out u.lists at) view_took;
    sound = sound_step k (steps.Take pid) (unseen l) part.sound does;
    names = part.names ∙ sym g.names;
    unknown = part.unknown;
    queues = queues_took;
  }

  pub took_carries : Carries 0 u took
  took_carries =
      let c : Carries 0 u (seated u pid f) = carries_seated 0 u pid s g.found f keeps_pid
      (subst (λ z. z.note.sends ≤ s.note.sends + 0) (sym is_y) (same_more 0 s.note.sends))
      (subst (λ z. z.note.lookups ≤ s.note.lookups + 0) (sym is_y) (same_more 0 s.note.lookups))
      (λ v blocked work. let done : y.doing ≡ activities.Blocked v = ap (λ (z : Seat). z.doing) (sym is_y) ∙ blocked in absurd (cc)) in
      record { seats = c.seats; aliens = c.aliens }
