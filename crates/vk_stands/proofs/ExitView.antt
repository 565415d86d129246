-- The tables stand for the view in which a process has exited.
use Rattle.std.proofs.Common.{◌≡◌, ℕ, ◌&&◌, Bool, true, false, List, map, Option, Some, None, is_some, refl, sym, ap, subst, ◌∙◌, inl, if◌then◌else◌}
use Rattle.std.specs.List.{find}
use Rattle.std.specs.Option.{option_map, option_flatten}
use Rattle.std.proofs.lemmas.Bool.{and_from, and_parts, and_right, both_ways, cond-true, cond-false, eqb-true, false_from_ne_true}
use Rattle.std.proofs.lemmas.Option.{same_Some}
use Rattle.vk_types.specs.Types.{Exchange, Name, Pid, Process, Registration, Waiting}
use Rattle.vk_base.specs.declared.activity.Activity.TheVariants as activities
use Rattle.vk_base.specs.declared.activity.Waiting.TheVariants as waitings
use Rattle.vk_base.specs.declared.answer.Answer.TheVariants as answers
use Rattle.vk_base.specs.declared.answer.Refusal.TheVariants as refusals
use Rattle.vk_base.specs.declared.kernel.Stage.TheVariants as stages
use Rattle.vk_base.specs.Activities.{done_with, state_of}
use Rattle.vk_base.specs.Calls.{dropped_at, is_bereft, is_message_at, released}
unfoldable use Rattle.vk_base.specs.Calls.{exited}
use Rattle.vk_base.specs.Firsts.{change_first}
use Rattle.vk_base.specs.Kernel.{Kernel, holds_of, is_at_target, is_live, name_of, sending}
use Rattle.vk_base.specs.Pids.{same_host, same_pid}
use Rattle.vk_base.proofs.OptionLemmas.{map_map}
use Rattle.v_laws.proofs.Tables.{same_pid_is}
use Rattle.v_laws.proofs.SoundExit.{lives_released}
use Rattle.vk_pool.specs.declared.alien.Alien.{Alien}
use Rattle.vk_pool.specs.declared.alien.AlienStage.TheVariants as alien_stages
use Rattle.vk_pool.specs.Aliens.{alien_from, is_alien_from, refused}
use Rattle.vk_procs.specs.declared.seat.Seat.{Seat}
use Rattle.vk_procs.specs.Seats.{bereft, finished, is_seat, killed, process_of, seat_in, waits_at}
use Rattle.vk_stands.specs.Stands.{IsAlienKept, IsSender, IsWaiting}
use Rattle.vk_stands.specs.Tables.{Tables, alien_name, seat_name, seat_spot, spot_of, stage_of}
use Rattle.vk_stands.proofs.Exited.{at_seat, back, bereft_name, dropped_by, dropped_spot, exchange_is, forth, gone, is_left, killed_doing, killed_same, killed_spot, killed_taken, left_behind, proc_here, proc_other, released_is, sender_waits, turned_away, turned_same, turned_spot, waits_at_is}
use Rattle.vk_stands.proofs.Found.{seat_found}
use Rattle.vk_stands.proofs.Lists.{find-mapped}
use Rattle.vk_stands.proofs.Parts.{Part}
use Rattle.vk_stands.proofs.Views.{Goes, StandsView, view_turned}
use Rattle.vk_stands.proofs.Waits.{IsSameSeat, only, only_here, only_other, seats_changed, stage_of_local, waiting_kept}

-- the tables then, but for lists and names
abbrev pub exit_seats : List Seat → Pid → List Seat
exit_seats seats pid = change_first (is_seat pid) killed (map (bereft pid) seats)

abbrev pub exit_slots : List (Option Alien) → Pid → ℕ → List (Option Alien)
exit_slots slots pid now = map (option_map (turned_away pid now)) slots

flat_map_in : (f : Alien → Alien) (o : Option (Option Alien)) →
    option_flatten (option_map (option_map f) o) ≡ option_map f (option_flatten o)
flat_map_in f None = refl
flat_map_in f (Some o) = refl

of_turned : (pid : Pid) (now : ℕ) (q : Pid) (slot : Option Alien) →
    is_alien_from q (option_map (turned_away pid now) slot) ≡ is_alien_from q slot
of_turned pid now q None = refl
of_turned pid now q (Some a) = ap (λ p. same_pid p q) (turned_same pid now a).sender

pub exit_alien_of : (slots : List (Option Alien)) (pid : Pid) (now : ℕ) (q : Pid) →
    alien_from (exit_slots slots pid now) q ≡ option_map (turned_away pid now) (alien_from slots q)
exit_alien_of slots pid now q =
    ap option_flatten (find-mapped (is_alien_from q) (is_alien_from q) (option_map (turned_away pid now)) (of_turned pid now q) slots)
    ∙ flat_map_in (turned_away pid now) (find (is_alien_from q) slots)

pub exit_seat_in : (seats : List Seat) (pid q : Pid) → seat_in (exit_seats seats pid) q ≡ option_map (left_behind pid) (seat_in seats q)
exit_seat_in seats pid q =
    seats_changed pid killed (λ x. refl) (map (bereft pid) seats) q
    ∙ ap (option_map (only pid killed)) (find-mapped (is_seat q) (is_seat q) (bereft pid)
    (λ x. ap (λ (n : Name). same_pid n.sender q) (bereft_name pid x)) seats)
    ∙ map_map (bereft pid) (only pid killed) (seat_in seats q)

far_same : (k : Kernel) (pid q : Pid) (o : Option Process) → same_host q pid ≡ false → option_map (released k pid q) o ≡ o
far_same k pid q None far = refl
far_same k pid q (Some p) far = ap Some (cond-false (is_bereft k pid q p) _ p
    (ap (λ b. b && is_some (sending p.state) && holds_of (is_message_at pid) (k.exchanges (name_of q p.sends))) far))

module _ (host : ℕ) (t : Tables) (k : Kernel) (part : Part host t k) (pid : Pid) (own : pid.host ≡ host) (s : Seat)
    (found : seat_in t.seats pid ≡ Some s) (ready : s.doing ≡ activities.Ready) (now : ℕ) (lists : List (List ℕ))
    (names : List Registration) where
  abbrev l : Kernel
  l = exited k pid (process_of s)

  abbrev pub exit_tables : Tables
  exit_tables = record { seats = exit_seats t.seats pid; lists = lists; slots = exit_slots t.slots pid now; names = names }

  abbrev f : Seat → Seat
  f = left_behind pid

  unbereft : (x : Seat) → waits_at pid x ≡ false → bereft pid x ≡ x
  unbereft x is = cond-false (waits_at pid x) (finished gone x) x is

  unsent : waits_at pid s ≡ false
  unsent = ap (λ d. same_pid s.at pid && is_some (sending (state_of d))) ready ∙ and_right (same_pid s.at pid) false refl

  -- one that is not bereft is as it was, but that it may not be alive
  kept_seat : (x : Seat) → waits_at pid x ≡ false → IsSameSeat x (f x)
  kept_seat x is = subst (λ z. IsSameSeat x (only pid killed z)) (sym (unbereft x is)) (killed_same (same_pid x.pid pid) x)

  pub kept_doing : (x : Seat) → waits_at pid x ≡ false → (f x).doing ≡ x.doing
  kept_doing x is = ap (λ z. (only pid killed z).doing) (unbereft x is) ∙ killed_doing (same_pid x.pid pid) x

  kept_taken : (x : Seat) → waits_at pid x ≡ false → (f x).note.taken ≡ x.note.taken
  kept_taken x is = ap (λ z. (only pid killed z).note.taken) (unbereft x is) ∙ killed_taken (same_pid x.pid pid) x

  kept_spot : (x : Seat) → waits_at pid x ≡ false → seat_spot (f x) ≡ seat_spot x
  kept_spot x is = ap (λ z. seat_spot (only pid killed z)) (unbereft x is) ∙ killed_spot (same_pid x.pid pid) x

  pub over : (x : Seat) (w : Waiting) → waits_at pid x ≡ true → (f x).doing ≡ activities.Blocked w → ⊥
  over x w is blocked =
      let sent = waits_at_is pid x is in
      let done : (f x).doing ≡ activities.Done (waitings.Send sent.0.0 sent.0.1) gone =
      killed_doing (same_pid (bereft pid x).pid pid) (bereft pid x)
      ∙ ap (λ (z : Seat). z.doing) (cond-true (waits_at pid x) (finished gone x) x is) ∙ ap (λ d. done_with d gone) sent.1 in
      let both : activities.Done (waitings.Send sent.0.0 sent.0.1) gone ≡ activities.Blocked w = sym done ∙ blocked in
      absurd (cc)

  procs_by : (q : Pid) (b : Bool) → same_pid q pid ≡ b → q.host ≡ host → l.procs q ≡ option_map process_of (seat_in exit_tables.seats q)
  procs_by q true same here =
      let seat : seat_in t.seats q ≡ Some s = ap (seat_in t.seats) (same_pid_is q pid same) ∙ found in
      let is : f s ≡ killed s = ap (only pid killed) (unbereft s unsent) ∙ only_here pid killed s (seat_found t.seats pid s found).named in
      proc_here host t k part pid own s found ready now q same
      ∙ sym (ap (option_map process_of) (exit_seat_in t.seats pid q ∙ ap (option_map f) seat ∙ ap Some is))
  procs_by q false other here =
      proc_other host t k part pid own s found ready now q other ∙ ap (option_map (released k pid q)) (part.view.procs q here)
      ∙ by_seat (seat_in t.seats q) refl ∙ sym (ap (option_map process_of) (exit_seat_in t.seats pid q))
    where
      by_seat : (o : Option Seat) → seat_in t.seats q ≡ o →
          option_map (released k pid q) (option_map process_of o) ≡ option_map process_of (option_map f o)
      by_seat None none = refl
      by_seat (Some x) some =
          ap Some (released_is host t k part pid own s found ready now q x some here)
          ∙ ap (λ z. Some (process_of z)) (sym (only_other pid killed (bereft pid x)
          (ap (λ (n : Name). same_pid n.sender pid) (bereft_name pid x) ∙ ap (λ p. same_pid p pid) (seat_found t.seats q x some).named
          ∙ other)))

  far_by : (q : Pid) → (q.host ≡ host → ⊥) → l.procs q ≡ k.procs q
  far_by q away =
      proc_other host t k part pid own s found ready now q
      (false_from_ne_true (same_pid q pid) (λ same. away (ap (λ (p : Pid). p.host) (same_pid_is q pid same) ∙ own)))
      ∙ far_same k pid q (k.procs q) (false_from_ne_true (same_host q pid) (λ same. away (eqb-true q.host pid.host same ∙ own)))

  same_lookups : (asker : Pid) (number : ℕ) → l.lookups asker number ≡ k.lookups asker number
  unfolding exited
  same_lookups asker number = refl

  -- what the exchange of a Send that there was has become
  pub became : (n : Name) (e y : Exchange) → k.exchanges n ≡ Some e → l.exchanges n ≡ Some y → dropped_at pid e ≡ y
  became n e y at there = same_Some (dropped_at pid e) y
      (sym (exchange_is host t k part pid own s found ready now n ∙ ap (option_map (dropped_at pid)) at) ∙ there)

  waits_by : (q : Pid) (x : Seat) (w : Waiting) (b : Bool) → waits_at pid x ≡ b → seat_in t.seats q ≡ Some x →
      (f x).doing ≡ activities.Blocked w → IsWaiting l (f x) w
  waits_by q x w true is at blocked = absurd (over x w is blocked)
  waits_by q x w false is at blocked =
      waiting_kept k l (forth host t k part pid own s found ready now) same_lookups x (f x) (kept_seat x is)
      (λ target e z there here local stage.
      let message : is_message_at pid e ≡ false = false_from_ne_true (is_message_at pid e) (λ yes_it_is.
      both_ways (waits_at pid x) is (sender_waits host t k part pid own s found ready now (seat_name x) e x there yes_it_is
      (ap (seat_in t.seats) (seat_found t.seats q x at).named ∙ at))) in
      let one : dropped_at pid e ≡ z = same_Some (dropped_at pid e) z
      (sym (exchange_is host t k part pid own s found ready now (seat_name x) ∙ ap (option_map (dropped_at pid)) there) ∙ here) in
      ap (λ (a : Exchange). a.stage) (sym one ∙ cond-false (is_message_at pid e) (record e { stage = stages.Dropped }) e message)
      ∙ stage ∙ ap stage_of_local (sym (kept_taken x is)))
      (λ e z there here spot. ap spot_of (sym (became (seat_name x) e z there here)) ∙ dropped_spot (is_message_at pid e) e ∙ spot
      ∙ sym (kept_spot x is))
      w (part.view.waiting q x w at (sym (kept_doing x is) ∙ blocked))

  not_dropped : (e y : Exchange) → dropped_at pid e ≡ y → is_at_target y.stage ≡ true → is_message_at pid e ≡ false
  not_dropped e y is near = false_from_ne_true (is_message_at pid e) (λ message.
      let one : record e { stage = stages.Dropped } ≡ y =
      sym (cond-true (is_message_at pid e) (record e { stage = stages.Dropped }) e message) ∙ is in
      let bad : false ≡ true = ap (λ (z : Exchange). is_at_target z.stage) one ∙ near in
      absurd (cc))

  still_by : (n : Name) (x : Seat) (y : Exchange) → seat_in t.seats n.sender ≡ Some x → l.exchanges n ≡ Some y →
      is_at_target y.stage ≡ true → IsSender n y x → IsSender n y (f x)
  still_by n x y at there near is =
      let e = back host t k part pid own s found ready now n y there in
      let message = not_dropped e.0 y e.2 near in
      let one : e.0 ≡ y = sym (cond-false (is_message_at pid e.0) (record e.0 { stage = stages.Dropped }) e.0 message) ∙ e.2 in
      let other : waits_at pid x ≡ false = false_from_ne_true (waits_at pid x) (λ sent.
      let here : e.0.at ≡ x.at = at_seat host t k part pid own s found ready now n e.0 x e.1 at (subst (λ z. IsSender n z x) (sym one) is) in
      both_ways (is_message_at pid e.0) message (and_from (same_pid e.0.at pid) (is_at_target e.0.stage)
      (ap (λ p. same_pid p pid) here ∙ (waits_at_is pid x sent).2) (ap (λ (z : Exchange). is_at_target z.stage) one ∙ near))) in
      record { waits = kept_doing x other ∙ is.waits; last = (kept_seat x other).sends ∙ is.last }

  pub kept_of : (q : Pid) (x : Alien) → alien_from t.slots q ≡ Some x → IsAlienKept k x
  kept_of q x at = part.view.kept q x at

  pub left_is : (q : Pid) (x : Alien) (e : Exchange) → alien_from t.slots q ≡ Some x → k.exchanges (alien_name x) ≡ Some e →
      is_message_at pid e ≡ is_left pid x
  left_is q x e at there =
      let v = kept_of q x at in
      let one : v.exchange ≡ e = same_Some v.exchange e (sym v.is ∙ there) in
      ap (is_message_at pid) (sym one)
      ∙ (λ i. same_pid (v.spot i).at pid && is_at_target (v.stage i))

  stage_by : (x : Alien) (e : Exchange) (b : Bool) → e.stage ≡ stage_of x →
      (if b then record e { stage = stages.Dropped } else e).stage ≡ stage_of (if b then refused now x else x)
  stage_by x e true same = refl
  stage_by x e false same = same

  stages_by : (q : Pid) (x : Alien) (e y : Exchange) → alien_from t.slots q ≡ Some x → k.exchanges (alien_name x) ≡ Some e →
      l.exchanges (alien_name x) ≡ Some y → e.stage ≡ stage_of x → y.stage ≡ stage_of (turned_away pid now x)
  stages_by q x e y at there here same =
      ap (λ (z : Exchange). z.stage) (sym (became (alien_name x) e y there here))
      ∙ ap (λ b. (if b then record e { stage = stages.Dropped } else e).stage) (left_is q x e at there)
      ∙ stage_by x e (is_left pid x) same

  dead_by : (q : Pid) (b : Bool) → same_pid q pid ≡ b → is_live (k.procs q) ≡ false → is_live (l.procs q) ≡ false
  dead_by q true same dead = ap is_live (proc_here host t k part pid own s found ready now q same)
  dead_by q false other dead =
      ap is_live (proc_other host t k part pid own s found ready now q other) ∙ lives_released k pid q (k.procs q) ∙ dead

  refused_by : (q : Pid) (x : Alien) (closed : ℕ) (b : Bool) → is_left pid x ≡ b → alien_from t.slots q ≡ Some x →
      (if b then refused now x else x).stage ≡ alien_stages.Refused closed → is_live (l.procs (if b then refused now x else x).at) ≡ false
  refused_by q x closed true left at is =
      ap is_live (proc_here host t k part pid own s found ready now x.at
      (and_parts (same_pid x.at pid) (is_at_target (stage_of x)) left).0)
  refused_by q x closed false other at is = dead_by x.at (same_pid x.at pid) refl ((kept_of q x at).refused closed is)

  pub view_exited : StandsView host exit_tables l
  view_exited = view_turned host t exit_tables k l f (turned_away pid now) part.fit part.view (record {
    seats = exit_seat_in t.seats pid;
    aliens = exit_alien_of t.slots pid now;
    procs = λ q here. procs_by q (same_pid q pid) refl here;
    far = far_by;
    forth = forth host t k part pid own s found ready now;
    back = λ n y at.
        let e = back host t k part pid own s found ready now n y at in
        inl (e.0, e.1, subst (Goes e.0) e.2 (dropped_by (is_message_at pid e.0) e.0));
    waits = λ q x w at blocked. waits_by q x w (waits_at pid x) refl at blocked;
    still = λ n x y at there here near is. still_by n x y at there near is;
    same = λ q x at. turned_same pid now x;
    stages = stages_by;
    spots = λ q x e y at there here spot. ap spot_of (sym (became (alien_name x) e y there here)) ∙ dropped_spot (is_message_at pid e) e
        ∙ spot ∙ sym (turned_spot pid now x);
    refused = λ q x closed at is. refused_by q x closed (is_left pid x) refl at is;
  })
