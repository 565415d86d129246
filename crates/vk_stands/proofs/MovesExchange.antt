-- The Send of another station's process has other moves, and nothing else of it changes: the tables stand for it too.
use Rattle.std.proofs.Common.{◌≡◌, ℕ, Bool, true, false, ◌&&◌, length, map, refl, sym, ap, ◌∙◌, subst, Option, Some, None, inl, inr}
use Rattle.std.specs.Option.{is_some}
use Rattle.std.proofs.lemmas.List.Elements.{filter_agree}
use Rattle.std.proofs.lemmas.Option.{same_Some, none-some}
use Rattle.vk_types.specs.Types.{Direction, Exchange, Move, Name, Pid, Waiting}
use Rattle.vk_base.specs.declared.activity.Activity.TheVariants as activities
use Rattle.vk_base.specs.declared.activity.Waiting.TheVariants as waitings
use Rattle.vk_base.specs.declared.call.Call.TheVariants as calls
use Rattle.vk_base.specs.declared.kernel.Direction.TheVariants as directions
use Rattle.vk_base.specs.declared.kernel.State.TheVariants as states
use Rattle.vk_base.specs.Kernel.{Kernel, holds_of, is_at_target, is_posted, is_queued, is_queued_at, move_of, name_of, same_name}
unfoldable use Rattle.vk_base.specs.Kernel.{queue_of}
use Rattle.vk_base.specs.Pids.{same_host, same_pid}
use Rattle.v_laws.specs.Sound.{IsSoundAt}
use Rattle.v_laws.proofs.SoundChanges.{orderly_where}
use Rattle.v_laws.proofs.Tables.{put_exchange_at, put_exchange_other, same_name_is}
use Rattle.vk_procs.specs.declared.seat.Seat.{Seat}
use Rattle.vk_procs.specs.Seats.{seat_in}
use Rattle.vk_pool.specs.declared.alien.Alien.{Alien}
use Rattle.vk_stands.specs.Stands.{IsHome, IsAlienKept, IsMoving, IsOwnMove, IsWaiting}
use Rattle.vk_stands.specs.Tables.{Spot, Tables, alien_name, spot_of}
use Rattle.vk_stands.proofs.Found.{seat_found}
use Rattle.vk_stands.proofs.Parts.{AreQueues, Part}
use Rattle.vk_stands.proofs.SentMoves.{with_send}

-- a Send is as it was, but for its moves
pub record HasSameMessage (e y : Exchange) : Type 0 where
  pub target : y.target ≡ e.target
  pub message : y.message ≡ e.message
  pub part : y.part ≡ e.part
  pub spot : spot_of y ≡ spot_of e
  pub stage : y.stage ≡ e.stage

others_self : (e : Exchange) → HasSameMessage e e
others_self e = record { target = refl; message = refl; part = refl; spot = refl; stage = refl }

-- what a process waits in is its own move there too
abbrev pub Owns : Kernel → Name → Exchange → Seat → Waiting → Type 0
Owns k name y s (waitings.MoveTo partner dest src count) = (v : IsMoving k s partner directions.To dest count) → v.name.exchange ≡ name →
    (m : Move) → move_of y v.name.number ≡ Some m → m.mover ≡ s.pid → IsOwnMove directions.To dest count m
Owns k name y s (waitings.MoveFrom partner dest src count) = (v : IsMoving k s partner directions.From dest count) →
    v.name.exchange ≡ name →
    (m : Move) → move_of y v.name.number ≡ Some m → m.mover ≡ s.pid → IsOwnMove directions.From dest count m
Owns k name y s w = Unit {0}

module _ (host : ℕ) (t : Tables) (k : Kernel) (part : Part host t k) (name : Name) (away : name.sender.host ≡ host → ⊥) (e y : Exchange)
    (is : k.exchanges name ≡ Some e) (same : HasSameMessage e y)
    (owns : (pid : Pid) (s : Seat) (w : Waiting) → seat_in t.seats pid ≡ Some s → s.doing ≡ activities.Blocked w → Owns k name y s w) where
  abbrev l : Kernel
  l = with_send k name y

  forth_by : (n : Name) (x : Exchange) (b : Bool) → same_name n name ≡ b → k.exchanges n ≡ Some x →
      (z : Exchange) × (l.exchanges n ≡ Some z) × HasSameMessage x z
  forth_by n x true t1 at =
      let one : e ≡ x = same_Some e x (sym is ∙ ap k.exchanges (sym (same_name_is n name t1)) ∙ at) in
      (y, put_exchange_at k.exchanges name y n t1, subst (λ z. HasSameMessage z y) one same)
  forth_by n x false f at = (x, put_exchange_other k.exchanges name y n f ∙ at, others_self x)

  pub forth_moved : (n : Name) (x : Exchange) → k.exchanges n ≡ Some x → (z : Exchange) × (l.exchanges n ≡ Some z) × HasSameMessage x z
  forth_moved n x at = forth_by n x (same_name n name) refl at

  back_by : (n : Name) (z : Exchange) (b : Bool) → same_name n name ≡ b → l.exchanges n ≡ Some z →
      (x : Exchange) × (k.exchanges n ≡ Some x) × HasSameMessage x z
  back_by n z true t1 at =
      let one : y ≡ z = same_Some y z (sym (put_exchange_at k.exchanges name y n t1) ∙ at) in
      (e, ap k.exchanges (same_name_is n name t1) ∙ is, subst (HasSameMessage e) one same)
  back_by n z false f at = (z, sym (put_exchange_other k.exchanges name y n f) ∙ at, others_self z)

  back : (n : Name) (z : Exchange) → l.exchanges n ≡ Some z → (x : Exchange) × (k.exchanges n ≡ Some x) × HasSameMessage x z
  back n z at = back_by n z (same_name n name) refl at

  -- Soundness.
  known_by : (n : Name) (o : Option Exchange) → k.exchanges n ≡ o → is_some o ≡ true → is_some (l.exchanges n) ≡ true
  known_by n None at t1 = cc
  known_by n (Some x) at t1 = ap is_some (forth_moved n x at).1

  pub sound_moved : IsSoundAt (λ g. false) l
  sound_moved =
      let old = part.sound in
      record {
        begun = λ n z at. let x = back n z at in let b = old.begun n x.0 x.1 in
            record { process = b.process; is = b.is; first = b.first; last = b.last };
        awaited = λ n z at local near.
            let x = back n z at in
            let a = old.awaited n x.0 x.1 (ap (same_host n.sender) (sym x.2.target) ∙ local) (ap is_at_target (sym x.2.stage) ∙ near) in
            record {
              process = a.process;
              is = a.is;
              alive = a.alive;
              blocked = a.blocked ∙ (λ i. states.Blocked (calls.Send (sym x.2.target i) (sym x.2.message i)));
              last = a.last;
            };
        near = λ n z at. let x = back n z at in (λ i. same_host (x.2.target i) (x.2.spot i).at) ∙ old.near n x.0 x.1;
        known = λ n came. known_by n (k.exchanges n) refl (old.known n came);
        once = old.once;
        posted = λ n z at posted.
            let x = back n z at in
            let u = old.posted n x.0 x.1 (ap is_posted (sym x.2.stage) ∙ posted) in
            record {
              remote = ap (same_host n.sender) x.2.target ∙ u.remote;
              away = u.away;
              at = ap (λ (p : Spot). p.at) x.2.spot ∙ u.at ∙ sym x.2.target;
              shown = ap (λ (p : Spot). p.shown) x.2.spot ∙ u.shown ∙ sym x.2.message;
            };
        came = λ n z at near. let x = back n z at in old.came n x.0 x.1 (ap is_at_target (sym x.2.stage) ∙ near);
        settled = λ sender m n x z at there less local sees posted. cc;
        resting = old.resting;
        sent = λ pid p target m at sends.
            let v = old.sent pid p target m at sends in
            let z = forth_moved (name_of pid p.sends) v.exchange v.is in
            record { exchange = z.0; is = z.1; target = z.2.target ∙ v.target; message = z.2.message ∙ v.message };
        registered = λ g. (orderly_where k l g old refl (λ q. refl)).registered;
        distinct = λ g. (orderly_where k l g old refl (λ q. refl)).distinct;
      }

  -- What processes wait in.
  own_name : (pid : Pid) (s : Seat) (number : ℕ) → seat_in t.seats pid ≡ Some s → same_name (name_of s.pid number) name ≡ false
  own_name pid s number found = by_test (same_name (name_of s.pid number) name) refl
    where
      by_test : (b : Bool) → same_name (name_of s.pid number) name ≡ b → b ≡ false
      by_test true t1 =
          let at = seat_found t.seats pid s found in
          absurd (away (sym (ap (λ (n : Name). n.sender.host) (same_name_is (name_of s.pid number) name t1))
          ∙ (part.fit.seats at.at s at.here).own))
      by_test false f = refl

  moving_by : (s : Seat) (partner : Pid) (direction : Direction) (dest count : ℕ) (v : IsMoving k s partner direction dest count)
      (b : Bool) →
      same_name v.name.exchange name ≡ b →
      (v.name.exchange ≡ name → (m : Move) → move_of y v.name.number ≡ Some m → m.mover ≡ s.pid → IsOwnMove direction dest count m) →
      IsMoving l s partner direction dest count
  moving_by s partner direction dest count v true t1 own = record {
    name = v.name;
    noted = v.noted;
    partner_is = v.partner_is;
    exchange = y;
    is = put_exchange_at k.exchanges name y v.name.exchange t1;
    own = own (same_name_is v.name.exchange name t1);
  }
  moving_by s partner direction dest count v false f own = record {
    name = v.name;
    noted = v.noted;
    partner_is = v.partner_is;
    exchange = v.exchange;
    is = put_exchange_other k.exchanges name y v.name.exchange f ∙ v.is;
    own = v.own;
  }

  waits_by : (pid : Pid) (s : Seat) (w : Waiting) → seat_in t.seats pid ≡ Some s → s.doing ≡ activities.Blocked w → Owns k name y s w →
      IsWaiting k s w → IsWaiting l s w
  waits_by pid s (waitings.Send target m) found state own v = record {
    exchange = v.exchange;
    is = put_exchange_other k.exchanges name y (name_of s.pid s.note.sends) (own_name pid s s.note.sends found) ∙ v.is;
    target_is = v.target_is;
    message_is = v.message_is;
    part_is = v.part_is;
    spot_is = v.spot_is;
    stage_is = v.stage_is;
    opened = v.opened;
    done = v.done;
  }
  waits_by pid s (waitings.MoveTo partner dest src count) found state own v =
      moving_by s partner directions.To dest count v (same_name v.name.exchange name) refl (own v)
  waits_by pid s (waitings.MoveFrom partner dest src count) found state own v =
      moving_by s partner directions.From dest count v (same_name v.name.exchange name) refl (own v)
  waits_by pid s (waitings.GetPid logical scope) found state own v = record { lookup = v.lookup; is = v.is; logical_is = v.logical_is }
  waits_by pid s waitings.Receive found state own v = tt
  waits_by pid s (waitings.ReceiveSegment start count) found state own v = tt

  pub waits_moved : (pid : Pid) (s : Seat) (w : Waiting) → seat_in t.seats pid ≡ Some s → s.doing ≡ activities.Blocked w → IsWaiting l s w
  waits_moved pid s w found state = waits_by pid s w found state (owns pid s w found state) (part.view.waiting pid s w found state)

  home_by : (n : Name) (x z : Exchange) → HasSameMessage x z → IsHome host t n x → IsHome host t n z
  home_by n x z o (inl m) = inl (
    m.0,
    (
      m.1.0,
      m.1.1,
      record {
        waits = m.1.2.waits ∙ (λ i. activities.Blocked (waitings.Send (sym o.target i) (sym o.message i)));
        last = m.1.2.last;
      },
    ),
  )
  home_by n x z o (inr m) = inr m

  pub home_moved : (n : Name) (z : Exchange) → l.exchanges n ≡ Some z → z.target.host ≡ host → is_at_target z.stage ≡ true →
      IsHome host t n z
  home_moved n z at here near =
      let x = back n z at in
      home_by n x.0 z x.2 (part.view.home n x.0 x.1 (ap (λ (p : Pid). p.host) (sym x.2.target) ∙ here)
      (ap is_at_target (sym x.2.stage) ∙ near))

  -- Queues.
  queued_by : (q : Pid) (n : Name) (o : Option Exchange) → l.exchanges n ≡ o →
      holds_of (is_queued_at q) (l.exchanges n) ≡ holds_of (is_queued_at q) (k.exchanges n)
  queued_by q n None at = none_by (k.exchanges n) refl
    where
      none_by : (o : Option Exchange) → k.exchanges n ≡ o →
          holds_of (is_queued_at q) (l.exchanges n) ≡ holds_of (is_queued_at q) (k.exchanges n)
      none_by None before = ap (holds_of (is_queued_at q)) at ∙ sym (ap (holds_of (is_queued_at q)) before)
      none_by (Some x) before = absurd (none-some (forth_moved n x before).0 (sym at ∙ (forth_moved n x before).1))
  queued_by q n (Some z) at =
      let x = back n z at in
      ap (holds_of (is_queued_at q)) at ∙ (λ i. same_pid (x.2.spot i).at q && is_queued (x.2.stage i))
      ∙ sym (ap (holds_of (is_queued_at q)) x.1)

  pub queues_moved : AreQueues t l
  unfolding queue_of
  queues_moved q at place = ap (map Some)
      (filter_agree (λ n. holds_of (is_queued_at q) (l.exchanges n)) (λ n. holds_of (is_queued_at q) (k.exchanges n))
      (λ n. queued_by q n (l.exchanges n) refl) k.arrived) ∙ part.queues q at place

-- As many moves as before.
pub record HasOtherMoves (e y : Exchange) : Type 0 where
  pub target : y.target ≡ e.target
  pub message : y.message ≡ e.message
  pub part : y.part ≡ e.part
  pub spot : spot_of y ≡ spot_of e
  pub stage : y.stage ≡ e.stage
  pub moves : length y.moves ≡ length e.moves

module _ (host : ℕ) (t : Tables) (k : Kernel) (part : Part host t k) (name : Name) (away : name.sender.host ≡ host → ⊥) (e y : Exchange)
    (is : k.exchanges name ≡ Some e) (same : HasOtherMoves e y)
    (owns : (pid : Pid) (s : Seat) (w : Waiting) → seat_in t.seats pid ≡ Some s → s.doing ≡ activities.Blocked w → Owns k name y s w) where
  message_same : HasSameMessage e y
  message_same = record { target = same.target; message = same.message; part = same.part; spot = same.spot; stage = same.stage }

  long_by : (n : Name) (x z : Exchange) (b : Bool) → same_name n name ≡ b → k.exchanges n ≡ Some x →
      (with_send k name y).exchanges n ≡ Some z →
      length z.moves ≡ length x.moves
  long_by n x z true t1 at there =
      let one : e ≡ x = same_Some e x (sym is ∙ ap k.exchanges (sym (same_name_is n name t1)) ∙ at) in
      let other : y ≡ z = same_Some y z (sym (put_exchange_at k.exchanges name y n t1) ∙ there) in
      ap (λ (a : Exchange). length a.moves) (sym other) ∙ same.moves ∙ ap (λ (a : Exchange). length a.moves) one
  long_by n x z false f at there = ap (λ (a : Exchange). length a.moves)
      (same_Some z x (sym there ∙ put_exchange_other k.exchanges name y n f ∙ at))

  kept : (a : Alien) → IsAlienKept k a → IsAlienKept (with_send k name y) a
  kept a v =
      let z = forth_moved host t k part name away e y is message_same owns (alien_name a) v.exchange v.is in
      record {
        exchange = z.0;
        is = z.1;
        target = z.2.target ∙ v.target;
        message = z.2.message ∙ v.message;
        part = z.2.part ∙ v.part;
        spot = z.2.spot ∙ v.spot;
        stage = z.2.stage ∙ v.stage;
        moves = long_by (alien_name a) v.exchange z.0 (same_name (alien_name a) name) refl v.is z.1 ∙ v.moves;
        made = v.made;
        refused = v.refused;
      }

  pub part_moved : Part host t (with_send k name y)
  part_moved = record {
    fit = part.fit;
    view = record {
      procs = part.view.procs;
      elsewhere = part.view.elsewhere;
      kept = λ sender a at. kept a (part.view.kept sender a at);
      waiting = waits_moved host t k part name away e y is message_same owns;
      home = home_moved host t k part name away e y is message_same owns;
    };
    sound = sound_moved host t k part name away e y is message_same owns;
    names = part.names;
    unknown = part.unknown;
    queues = queues_moved host t k part name away e y is message_same owns;
  }
