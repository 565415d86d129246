-- A move that begins is the right entry of its call.
use Rattle.std.proofs.Common.{◌≡◌, ◌≤◌, ℕ, ◌+◌, ◌==◌, Bool, true, false, cond, List, [], ◌∷◌, ◌++◌, fold, length, map, set, refl, ap, sym, ◌∙◌, subst, Some, None, arith}
use Rattle.std.specs.List.{list_any}
use Rattle.std.specs.Option.{option_map, option_map_or}
use Rattle.std.proofs.lemmas.List.{length-append}
use Rattle.std.proofs.lemmas.Option.{same_Some}
use Rattle.vk_types.specs.Types.{Call, Direction, Exchange, Move, MoveName, Pid, Step, Waiting}
use Rattle.v_laws.specs.Sound.{IsSoundAt}
use Rattle.v_laws.proofs.Tables.{put_exchange_here, put_process_here, same_pid_laws}
use Rattle.vk_base.specs.declared.event.EventAnswer.TheVariants as events_answered
use Rattle.vk_base.specs.declared.kernel.State.TheVariants as states
use Rattle.vk_base.specs.declared.step.Step.TheVariants as steps
use Rattle.vk_base.specs.Calls.{call_refusal, unseen}
unfoldable use Rattle.vk_base.specs.Calls.{move_begun}
use Rattle.vk_base.specs.Kernel.{Kernel, held, put_exchange, put_process}
use Rattle.vk_base.specs.Pids.{same_host, same_pid}
use Rattle.vk_base.specs.Settings.{Settings}
use Rattle.vk_base.specs.Steps.{after_effect, effect, next}
use Rattle.vk_base.proofs.BoolLemmas.{not_zero}
use Rattle.vk_local.proofs.Decided.{MayCall}
use Rattle.vk_packet.specs.Posts.{Posts}
use Rattle.vk_pool.specs.declared.alien.Alien.{Alien}
use Rattle.vk_pool.specs.Aliens.{alien_at, alien_from, moves_at, with_moves}
use Rattle.vk_procs.specs.declared.seat.Seat.{Seat}
use Rattle.vk_procs.specs.Seats.{process_of, seat_in}
use Rattle.vk_rules.specs.CallOutcomes.{effect_answer, packets_of}
unfoldable use Rattle.vk_rules.specs.CallOutcomes.{call_outcome}
use Rattle.vk_rules.specs.Entries.{Called, is_begun}
use Rattle.vk_rules.specs.Readings.{Reading}
use Rattle.vk_rules.specs.Right.{answer_to, right_entry}
use Rattle.vk_rules.specs.Rounds.{round}
use Rattle.vk_rules.specs.Works.{Work, is_of_round, no_work}
use Rattle.vk_stands.specs.Fit.{AreFit}
use Rattle.vk_stands.specs.Rules.{Makes, given_by, posted}
use Rattle.vk_stands.specs.Stands.{IsAlienKept, IsMoving, IsOwnMove, IsWaiting, IsWorking, Stands}
use Rattle.vk_stands.specs.Tables.{Tables, alien_name, read_alien}
use Rattle.vk_stands.proofs.After.{events_are, packets_are, reading_for}
use Rattle.vk_stands.proofs.AfterEntries.{begun_slots, begun_work, called_others, called_steps, called_view}
use Rattle.vk_stands.proofs.Aliens.{of_at}
use Rattle.vk_stands.proofs.MoverLeft.{same_wait}
use Rattle.vk_stands.proofs.MoverSeated.{stands_slotted}
use Rattle.vk_stands.proofs.OneAlien.{slots_put, slotted}
use Rattle.vk_stands.proofs.Parts.{Part, part_of}
use Rattle.vk_stands.proofs.Placed.{place_at}
use Rattle.vk_stands.proofs.Process.{with_process}
use Rattle.vk_stands.proofs.Seats.{find-changed}
use Rattle.vk_stands.proofs.SentMoves.{with_send}
use Rattle.vk_stands.proofs.Whole.{sound_next}
use Rattle.vk_move.specs.declared.begun.Verdict.TheVariants as verdicts
use Rattle.vk_move.specs.Begun.{Begun, HasFewMoves, verdict_in, waiting_in, begun_by_fields}
use Rattle.vk_move.specs.Moved.{round_from}
use Rattle.vk_move.proofs.BegunAlien.{aliens_then, part_more}
use Rattle.vk_move.proofs.BegunFits.{away_is, begun_as, begun_is, begun_seat, begun_tables, fits_begun, some_is}
use Rattle.vk_move.proofs.BegunKernel.{begins_there, move_in}
use Rattle.vk_move.proofs.BegunOwn.{last_is, still_own, waits_moving, with_last}
use Rattle.vk_move.proofs.BegunRound.{begun_packets_are, far_by, first_round, first_sent, nothing_behind}
use Rattle.vk_move.proofs.BegunSeat.{part_waits}
use Rattle.vk_move.proofs.Verdicts.{call_in, refusal_in, verdict_decided}

-- what the rule makes of the call is right
pub record IsBeginRight (c : Settings) (host : ℕ) (r : Reading) (pid : Pid) (call : Call) (t : Tables) (before : List Step) (out : Posts)
    (b : Begun) : Type 0 where
  pub answer : given_by b.answer ≡ answer_to c host r (Called pid call)
  pub makes : Makes c host r (right_entry c host r (Called pid call)) (record { tables = t; steps = before; out = out })
      (record {
        tables = record t { seats = b.seats; slots = b.slots };
        steps = before ++ steps.Call pid call ∷ [];
        out = posted out b.packets;
      })

own_move : (way : Direction) (pid : Pid) (dest src count : ℕ) (memory : List ℕ) → IsOwnMove way dest count (move_in way pid dest src count
    memory)
own_move way pid dest src count memory = record { direction_is = refl; dest_is = refl; count_is = refl }

module _ (c : Settings) (host : ℕ) (t : Tables) (r : Reading) (h : Stands c.times host t r) (fit : AreFit host t)
    (few : HasFewMoves t.slots) (pid : Pid) (own : pid.host ≡ host) (s : Seat) (may : MayCall t.seats pid s) (i : ℕ) (a : Alien)
    (here : alien_at t.slots i ≡ Some a) (way : Direction) (dest src count : ℕ)
    (is : verdict_in t.seats t.slots pid a.sender way dest src count ≡ verdicts.Begins)
    (holds : held r.view pid a.sender ≡ Some a.number) where
  abbrev call : Call
  call = call_in way a.sender dest src count

  abbrev waiting : Waiting
  waiting = waiting_in way a.sender dest src count

  abbrev n : ℕ
  n = moves_at t.slots i + 1

  abbrev name : MoveName
  name = record { exchange = alien_name a; number = n }

  abbrev f : Seat → Seat
  f = begun_seat host t fit few c.times r.now pid own s may.found i a here way dest src count is

  abbrev u : Tables
  u = begun_tables host t fit few c.times r.now pid own s may.found i a here way dest src count is

  -- The kernel begins it.
  in_view : r.view.procs pid ≡ Some (process_of s)
  in_view = h.procs pid own ∙ ap (option_map process_of) may.found

  found : alien_from t.slots a.sender ≡ Some a
  found = of_at t.slots i a fit.apart here

  kept : IsAlienKept r.view a
  kept = h.kept a.sender a found

  abbrev e : Exchange
  e = kept.exchange

  abbrev m : Move
  m = move_in way pid dest src count s.memory

  moves_are : moves_at t.slots i ≡ a.moves
  moves_are = ap (λ o. option_map_or (λ (x : Alien). x.moves) o 0) here

  longer : length e.moves + 1 ≡ n
  longer = ap (λ x. x + 1) (kept.moves ∙ sym moves_are)

  some : (count == 0) ≡ false
  some = some_is host t fit few c.times r.now pid own s may.found i a here way dest src count is

  away : same_host pid a.sender ≡ false
  away = away_is host t fit few c.times r.now pid own s may.found i a here way dest src count is

  free : call_refusal r.view pid (process_of s) call ≡ None
  free = sym (verdict_decided c.times host t r h fit pid own s may a.sender (fit.aliens i a here).foreign way dest src count)
      ∙ ap refusal_in is

  does : effect r.view (steps.Call pid call) ≡ Some (unseen (move_begun r.view pid (process_of s) call (alien_name a) e m))
  does = begins_there r.view pid (process_of s) in_view a.sender way dest src count free some away a.number e holds kept.is

  abbrev k : Kernel
  k = with_send r.view (alien_name a) (with_last e m)

  abbrev l : Kernel
  l = with_process k pid (process_of (f s))

  begun_there : move_begun r.view pid (process_of s) call (alien_name a) e m ≡ l
  unfolding move_begun
  begun_there = λ j. record r.view {
    procs = put_process r.view.procs pid
        (record (process_of s) { state = states.Blocked call; moving = Some (record { exchange = alien_name a; number = longer j }) });
    exchanges = put_exchange r.view.exchanges (alien_name a) (with_last e m);
  }

  kernel_is : next r.view (steps.Call pid call) ≡ l
  kernel_is = ap (after_effect r.view) does ∙ begun_there

  answer_is : answer_to c host r (Called pid call) ≡ events_answered.Begun
  answer_is = ap effect_answer does

  -- The tables stand for it.
  part_sent : Part host (slotted t i (with_moves n)) k
  part_sent = part_more host t r.view (part_of c.times host t r fit h) i a here e kept.is m n (length-append e.moves (m ∷ []) ∙ longer)
      (still_own t r.view pid s may.found may.ready (alien_name a) e kept.is m refl)

  waits_here : IsMoving l (f s) a.sender way dest count
  waits_here = record {
    name = name;
    noted = refl;
    partner_is = refl;
    exchange = with_last e m;
    is = put_exchange_here r.view.exchanges (alien_name a) (with_last e m);
    own = λ z there by. subst (IsOwnMove way dest count) (same_Some m z (sym (last_is e m n longer) ∙ there))
        (own_move way pid dest src count s.memory);
  }

  part : Part host u l
  part = part_waits host (slotted t i (with_moves n)) k part_sent pid own s may.found f (λ x. refl) (record {
    ready = may.ready;
    alive = refl;
    waits = λ v at. subst (IsWaiting l (f s)) (same_wait waiting v at) (waits_moving way l (f s) a.sender dest src count waits_here);
    fits = fits_begun host t fit few c.times r.now pid own s may.found i a here way dest src count is;
  }) (subst (IsSoundAt (λ g. false)) kernel_is (sound_next r.view (steps.Call pid call) h.sound))

  -- Packets: its first round.
  seat_then : seat_in u.seats pid ≡ Some (f s)
  seat_then = find-changed pid f (λ x. refl) t.seats ∙ ap (option_map f) may.found

  abbrev rounds : round_from pid 0 (seat_in u.seats pid) ≡ round l no_work pid
  rounds = first_round l pid u.seats (f s) seat_then (put_process_here k.procs pid (process_of (f s))) way a.sender dest src count refl name
      refl refl refl

  packets_then : packets_of r.view (next r.view (steps.Call pid call)) r.slots pid call (answer_to c host r (Called pid call))
      ≡ round_from pid 0 (seat_in u.seats pid)
  packets_then = (λ j. packets_of r.view (kernel_is j) r.slots pid call (answer_is j))
      ∙ begun_packets_are way r.view l r.slots pid a.sender dest src count ∙ sym rounds

  sent : list_any (is_of_round pid) (packets_of r.view (next r.view (steps.Call pid call)) r.slots pid call
      (answer_to c host r (Called pid call))) ≡ true
  sent = ap (list_any (is_of_round pid)) packets_then
      ∙ first_sent l pid u.seats (f s) seat_then (put_process_here k.procs pid (process_of (f s))) way a.sender dest src count refl name
      refl refl refl (not_zero count some)

  -- The reading after it.
  abbrev after : Reading
  after = reading_for c host r (Called pid call)

  view_is : after.view ≡ l
  view_is = called_view c host r pid call
      ∙ ap (fold next (next r.view (steps.Call pid call)))
      (nothing_behind way (next r.view (steps.Call pid call)) pid a.sender dest src count (answer_to c host r (Called pid call)))
      ∙ kernel_is

  work_is : after.work pid ≡ record { since = r.now; rounds = 1; acknowledged = 0; received = 0; fresh = false }
  work_is = begun_work c host r pid call (ap is_begun answer_is) sent

  abbrev started : Work
  started = record { since = r.now; rounds = 1; acknowledged = 0; received = 0; fresh = false }

  working : IsWorking c.times (f s) started waiting
  working = record { tries = refl; deadline = refl; far = far_by way (f s) started a.sender dest src count refl refl refl }

  slots_are : after.slots ≡ map (option_map read_alien) u.slots
  slots_are = begun_slots c host r pid call answer_is ∙ h.slots
      ∙ sym (ap (λ o. map (option_map read_alien) (set t.slots i (option_map (with_moves n) o))) here
      ∙ slots_put t i a (with_moves n a) here refl)

  low_by : (q : Pid) (x : Alien) (b : Bool) → cond b (Some (with_moves n a)) (alien_from t.slots q) ≡ Some x → x.moves ≤ r.events + 1
  low_by q x true at =
      let low = h.moved a.sender a found in
      let one : n ≡ x.moves = ap (λ (z : Alien). z.moves) (same_Some (with_moves n a) x at) in
      omega (arith, low, one, moves_are)
  low_by q x false at = let low = h.moved q x at in omega arith

  low : (q : Pid) (x : Alien) → alien_from u.slots q ≡ Some x → x.moves ≤ r.events + 1
  low q x at = low_by q x (same_pid a.sender q)
      (sym (aliens_then t i n a here (place_at t.slots a.sender i (fit.apart i a here)) q) ∙ at)

  stands : Stands c.times host u after
  stands = stands_slotted c.times host t r h pid s may.found f (λ x. refl) (λ x. refl) (λ x. refl) u.slots after
      (subst (Part host u) (sym view_is) part) slots_are (events_are c host r (Called pid call)) low
      (λ q other. called_others c host r pid call q (same_pid_laws.symm pid q ∙ other))
      (λ v at work. subst (λ w. IsWorking c.times (f s) w v) (sym work_is)
      (subst (IsWorking c.times (f s) started) (same_wait waiting v at) working))

  module _ (before : List Step) (out : Posts) where
    begins_as : IsBeginRight c host r pid call t before out
        (begun_as host t fit few c.times r.now pid own s may.found i a here way dest src count is)
    unfolding call_outcome
    begins_as = record {
      answer = sym answer_is;
      makes = record {
        steps = ap (λ ss. before ++ ss) (sym (called_steps c host r pid call
            ∙ ap (λ ss. steps.Call pid call ∷ ss)
            (nothing_behind way (next r.view (steps.Call pid call)) pid a.sender dest src count (answer_to c host r (Called pid call)))));
        packets = ap (posted out) (sym (packets_are c host r (Called pid call) ∙ packets_then));
        stands = stands;
      };
    }

    pub begins_right : IsBeginRight c host r pid call t before out (begun_by_fields c.times r.now pid way a.sender dest src count t.seats t.slots)
    begins_right = subst (IsBeginRight c host r pid call t before out)
        (sym (begun_is host t fit few c.times r.now pid own s may.found i a here way dest src count is)) begins_as
