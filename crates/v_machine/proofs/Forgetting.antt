-- A kernel in which Sends of a process that are over are seen as the last of them.
use Rattle.std.proofs.Common.{◌≡◌, ℕ, ◌<◌, ◌≤◌, ◌&&◌, ◌⊎◌, true, false, get_or, set, List, length, length-set, filter, All, Option, Some, None, is_some, IsSome, refl, sym, ap, subst, ◌∙◌, inl, inr, arith}
use Rattle.std.specs.List.{slice_get}
use Rattle.std.proofs.lemmas.Bool.{and_from, and_parts, both_ways, cases_Bool, cond-true, lt-ltb, cases_lt}
use Rattle.std.proofs.lemmas.List.Elements.{All-nil}
use Rattle.std.proofs.lemmas.Option.{same_Some, slice_get-get_or}
use Rattle.vk_types.specs.Types.{Exchange, Name, Pid, Process}
use Rattle.vk_base.specs.Kernel.{◌>>=◌, Kernel, holds_of, is_queued, is_queued_at, name_of}
use Rattle.vk_base.specs.Pids.{same_pid, same_host}
use Rattle.vk_base.specs.Messages.{segment_of}
use Rattle.vk_base.specs.Ranges.{lies_in}
use Rattle.v_laws.specs.Sizes.{IsMoveFit, IsSized, reply_fits}
use Rattle.v_laws.specs.Sound.{IsSound, is_settled}
use Rattle.v_laws.proofs.SoundChanges.{orderly_where}
use Rattle.v_laws.proofs.Tables.{same_pid_is}
use Rattle.v_machine.specs.declared.tables.Store.{Store}
use Rattle.v_machine.specs.Begun.{Forgets, IsForgetting}
use Rattle.v_machine.specs.Kept.{IsAt, IsIndexed, IsKept, IsLatest, IsWaiting, kernel_in, latest_by, queued_at}
use Rattle.v_machine.specs.Lean.{AreLean, IsAlike, IsLean}
use Rattle.v_machine.specs.Places.{count_at, list_at, numbered, place_in}
use Rattle.v_machine.specs.Shortened.{IsShortened}
use Rattle.v_machine.specs.Spent.{current_kernel, emptied_kernel, has_ended, has_none, is_past, lean_kernel, unless_over}
use Rattle.v_machine.specs.Tables.{exchanges_by, kernel_by, process_of, procs_by}
use Rattle.v_machine.proofs.Current.{fails, posted_open, queued_open, target_open}
use Rattle.v_machine.proofs.CurrentSteps.{no_moves}
use Rattle.v_machine.proofs.KernelLemmas.{sent_there, set_self}
use Rattle.v_machine.proofs.PlaceLemmas.{at_place_other, at_place_same, some_at}
use Rattle.v_machine.proofs.SendLemmas.{stays_alike}
use Rattle.v_machine.proofs.TableLemmas.{count-set_even, count_is, exchanges_is, exchanges_same, length-even, procs-even, procs_is}

-- the exchange of this name is as it was, or as the last that is forgotten
abbrev pub IsAsLast : (before later : Name → Option Exchange) → Pid → ℕ → Exchange → Name → Type 0
IsAsLast before later pid low last n =
    (later n ≡ before n) ⊎ ((n.sender ≡ pid) × (0 < n.number) × (n.number ≤ low) × (later n ≡ Some last))

module _ (k : Kernel) (later : Name → Option Exchange) (pid : Pid) (low : ℕ) (p : Process) (last : Exchange) (at : k.procs pid ≡ Some p)
    (before : low < p.sends) (is_last : k.exchanges (name_of pid low) ≡ Some last)
    (ended : (n : ℕ) (e : Exchange) → n ≤ low → k.exchanges (name_of pid n) ≡ Some e → has_ended e ≡ true)
    (each : (n : Name) → IsAsLast k.exchanges later pid low last n) where
  abbrev pub shorter : Kernel
  shorter = record k { exchanges = later }

  last_ended : has_ended last ≡ true
  last_ended = ended low last (omega arith) is_last

  gone : (sender : Option Process) (number : ℕ) (o : Option Exchange) → is_past number sender ≡ true →
      ((e : Exchange) → o ≡ Some e → has_ended e ≡ true) → (o >>= unless_over sender number) ≡ None
  gone sender number None past over = refl
  gone sender number (Some e) past over =
      cond-true (is_past number sender && has_ended e) None (Some e) (and_from (is_past number sender) (has_ended e) past (over e refl))

  same_there : (n : Name) → (k.exchanges n >>= unless_over (k.procs n.sender) n.number) ≡ (later n >>= unless_over (k.procs n.sender)
      n.number)
  same_there n = elim (each n) [
    | inl same ↦ ap (λ o. o >>= unless_over (k.procs n.sender) n.number) (sym same)
    | inr w ↦
        let high = w.2 in
        let past : is_past n.number (k.procs n.sender) ≡ true =
        ap (λ q. is_past n.number (k.procs q)) w.0 ∙ ap (is_past n.number) at ∙ lt-ltb n.number p.sends (omega arith) in
        gone (k.procs n.sender) n.number (k.exchanges n) past
        (λ e is. ended n.number e w.2 (ap (λ q. k.exchanges (name_of q n.number)) (sym w.0) ∙ is))
        ∙ sym (gone (k.procs n.sender) n.number (later n) past
        (λ e is. ap has_ended (sym (same_Some last e (sym w.3 ∙ is))) ∙ last_ended))
  ]

  pub forgotten_alike : IsAlike k shorter
  unfolding current_kernel
  forgotten_alike = ap emptied_kernel (λ i. record k { exchanges = λ n. same_there n i })

  abbrev WasLast : Name → Exchange → Type 0
  WasLast n e = (last ≡ e) × (n.sender ≡ pid) × (0 < n.number) × (n.number ≤ low)

  back : (n : Name) (e : Exchange) → later n ≡ Some e → (k.exchanges n ≡ Some e) ⊎ WasLast n e
  back n e is = elim (each n) [
    | inl same ↦ inl (sym same ∙ is)
    | inr w ↦ inr (same_Some last e (sym w.3 ∙ is), w.0, w.1, w.2)
  ]

  over : (n : Name) (e : Exchange) → WasLast n e → has_ended e ≡ true
  over n e w = ap has_ended (sym w.0) ∙ last_ended

  pub forgotten_lean : AreLean k.exchanges → AreLean later
  forgotten_lean lean n e is = elim (back n e is) [
    | inl was ↦ lean n e was
    | inr w ↦ subst IsLean w.0 (lean (name_of pid low) last is_last)
  ]

  pub forgotten_sound : IsSound k → IsSound shorter
  forgotten_sound sound = record {
    begun = λ n e is. elim (back n e is) [
      | inl was ↦ let b = sound.begun n e was in record { process = b.process; is = b.is; first = b.first; last = b.last }
      | inr w ↦
          let b = sound.begun (name_of pid low) last is_last in
          let high = b.last in
          let number = w.3 in
          record { process = b.process; is = ap k.procs w.1 ∙ b.is; first = w.2; last = omega arith }
    ];
    awaited = λ n e is near live. elim (back n e is) [
      | inl was ↦
          let a = sound.awaited n e was near live in
          record { process = a.process; is = a.is; alive = a.alive; blocked = a.blocked; last = a.last }
      | inr w ↦ absurd (both_ways (has_ended e) (target_open e live) (over n e w))
    ];
    near = λ n e is. elim (back n e is) [
      | inl was ↦ sound.near n e was
      | inr w ↦ subst (λ (x : Exchange). same_host x.target x.at ≡ true) w.0 (sound.near (name_of pid low) last is_last)
    ];
    known = λ n came. elim (each n) [
      | inl same ↦ ap is_some same ∙ sound.known n came
      | inr w ↦ ap is_some w.3
    ];
    once = sound.once;
    posted = λ n e is live. elim (back n e is) [
      | inl was ↦ let u = sound.posted n e was live in record { remote = u.remote; away = u.away; at = u.at; shown = u.shown }
      | inr w ↦ absurd (both_ways (has_ended e) (posted_open e live) (over n e w))
    ];
    came = λ n e is live. elim (back n e is) [
      | inl was ↦ sound.came n e was live
      | inr w ↦ absurd (both_ways (has_ended e) (target_open e live) (over n e w))
    ];
    settled = λ sender m n x y at_m at_n less near sees gone. elim (back (name_of sender m) x at_m) [
      | inr w ↦ (and_parts (is_settled x.stage) (has_none x.moves) (over (name_of sender m) x w)).0
      | inl was ↦ elim (back (name_of sender n) y at_n) [
        | inl there ↦ sound.settled sender m n x y was there less near sees gone
        | inr w ↦
            let high = w.3 in
            (and_parts (is_settled x.stage) (has_none x.moves)
            (ended m x (omega arith) (ap (λ q. k.exchanges (name_of q m)) (sym w.1) ∙ was))).0
      ]
    ];
    resting = sound.resting;
    sent = λ q x target m there sends.
        let s = sound.sent q x target m there sends in
        elim (each (name_of q x.sends)) [
          | inl same ↦ record { exchange = s.exchange; is = same ∙ s.is; target = s.target; message = s.message }
          | inr w ↦
              let one : x ≡ p = same_Some x p (sym there ∙ ap k.procs w.0 ∙ at) in
              let count = ap (λ (z : Process). z.sends) one in
              let high = w.2 in
              absurd (omega arith)
        ];
    registered = λ host. (orderly_where k shorter host sound refl (λ q. refl)).registered;
    distinct = λ host. (orderly_where k shorter host sound refl (λ q. refl)).distinct;
  }

  pub forgotten_sized : (size : Pid → ℕ) → IsSized size k → IsSized size shorter
  forgotten_sized size sized = record {
    memory = sized.memory;
    room = sized.room;
    exchanges = λ n e is. elim (back n e is) [
      | inl was ↦ sized.exchanges n e was
      | inr w ↦
          let fit = sized.exchanges (name_of pid low) last is_last in
          let none = no_moves e.moves (and_parts (is_settled e.stage) (has_none e.moves) (over n e w)).1 in
          record {
            segment = subst (λ (x : Exchange). lies_in (segment_of x.message) (size n.sender) ≡ true) w.0
                (subst (λ q. lies_in (segment_of last.message) (size q) ≡ true) (sym w.1) fit.segment);
            reply = subst (λ (x : Exchange). reply_fits x.stage (size n.sender) ≡ true) w.0
                (subst (λ q. reply_fits last.stage (size q) ≡ true) (sym w.1) fit.reply);
            moves = subst (All (IsMoveFit size n)) (sym none) (All-nil (IsMoveFit size n));
          }
    ];
  }

-- The same of the tables of a store.
module _ (s t : Store) (pid : Pid) (at : ℕ) (xs ys : List Exchange) (low : ℕ) (here : IsAt s pid at) (is : xs ≡ get_or s.sends.items at xs)
    (places : t.places ≡ s.places) (procs : t.procs.items ≡ s.procs.items) (sends : t.sends.items ≡ set s.sends.items at ys)
    (asked : t.asked.items ≡ s.asked.items) (names : t.names.items ≡ s.names.items) (arrived : t.arrived ≡ s.arrived)
    (queues : t.queues.items ≡ s.queues.items) (latest : t.latest.items ≡ s.latest.items) (f : IsForgetting low xs ys) where
  abbrev pub before : Name → Option Exchange
  before = exchanges_by s.places s.sends.items

  abbrev pub after : Name → Option Exchange
  after = exchanges_by s.places (set s.sends.items at ys)

  old_sent : (number : ℕ) → before (name_of pid number) ≡ numbered xs number
  old_sent number = sent_there s.places s.procs.items s.sends.items s.asked.items pid at xs number here.place here.sends is

  new_sent : (number : ℕ) → after (name_of pid number) ≡ numbered ys number
  new_sent number = exchanges_is s.places (set s.sends.items at ys) (name_of pid number) ys
      (at_place_same s.places s.sends.items pid at ys here.place here.sends)

  of_sender : (n : Name) → n.sender ≡ pid → IsAsLast before after pid low f.last n
  of_sender n sender =
      let number = n.number in
      let old : before n ≡ numbered xs number = ap (λ q. before (name_of q number)) sender ∙ old_sent number in
      let new : after n ≡ numbered ys number = ap (λ q. after (name_of q number)) sender ∙ new_sent number in
      elim (cases_lt low number) [
        | inl less ↦ inl (new ∙ f.kept number less ∙ sym old)
        | inr high ↦ elim (cases_lt 0 number) [
          | inl some ↦ inr (sender, some, high, new ∙ f.forgotten number some high)
          | inr none ↦ let first : number ≡ 0 = omega arith in inl (new ∙ ap (numbered ys) first ∙ sym (ap (numbered xs) first) ∙ sym old)
        ]
      ]

  each_name : (n : Name) → IsAsLast before after pid low f.last n
  each_name n = elim (cases_Bool (same_pid n.sender pid)) [
    | inl t ↦ of_sender n (same_pid_is n.sender pid t)
    | inr g ↦ inl (exchanges_same s.places (set s.sends.items at ys) s.sends.items n
        (at_place_other s.places s.sends.items pid n.sender at ys here.place g))
  ]

  there : slice_get s.sends.items at ≡ Some xs
  there = slice_get-get_or s.sends.items at xs here.sends ∙ ap Some (sym is)

  counts : (to : ℕ) → count_at (set s.sends.items at ys) to ≡ count_at s.sends.items to
  counts = count-set_even s.sends.items at xs ys there f.count

  process : (p : Process) × (procs_by s.places s.procs.items s.sends.items s.asked.items pid ≡ Some p) × (low < p.sends)
  process =
      let y = some_at s.procs.items at here.procs in
      let count = count_is s.sends.items at xs there in
      let high = f.before in (
        process_of y.0 (count_at s.sends.items at) (count_at s.asked.items at),
        procs_is s.places s.procs.items s.sends.items s.sends.items s.asked.items s.asked.items pid at y.0 here.place y.1,
        omega arith,
      )

  ended_there : (n : ℕ) (e : Exchange) → n ≤ low → before (name_of pid n) ≡ Some e → has_ended e ≡ true
  ended_there n e low at_n = f.ended n e low (sym (old_sent n) ∙ at_n)

  last_there : before (name_of pid low) ≡ Some f.last
  last_there = old_sent low ∙ f.is_last

  pub kernel_shorter : kernel_in t ≡ record (kernel_in s) { exchanges = after }
  kernel_shorter =
      (λ i. kernel_by (places i) (procs i) (sends i) (asked i) (names i) (arrived i))
      ∙ ap (λ ps. record (kernel_in s) { procs = ps; exchanges = after })
      (procs-even s.places s.procs.items s.sends.items (set s.sends.items at ys) s.asked.items s.asked.items counts (λ to. refl))

  pub shorter_alike : IsAlike (kernel_in s) (kernel_in t)
  shorter_alike = subst (IsAlike (kernel_in s)) (sym kernel_shorter)
      (forgotten_alike (kernel_in s) after pid low process.0 f.last process.1 process.2 last_there ended_there each_name)

  pub shorter_sound : IsSound (kernel_in s) → IsSound (kernel_in t)
  shorter_sound sound = subst IsSound (sym kernel_shorter)
      (forgotten_sound (kernel_in s) after pid low process.0 f.last process.1 process.2 last_there ended_there each_name sound)

  pub shorter_sized : (size : Pid → ℕ) → IsSized size (kernel_in s) → IsSized size (kernel_in t)
  shorter_sized size sized = subst (IsSized size) (sym kernel_shorter)
      (forgotten_sized (kernel_in s) after pid low process.0 f.last process.1 process.2 last_there ended_there each_name size sized)

  pub shorter_lean : AreLean (kernel_in s).exchanges → AreLean (kernel_in t).exchanges
  shorter_lean lean = subst (λ (k : Kernel). AreLean k.exchanges) (sym kernel_shorter)
      (forgotten_lean (kernel_in s) after pid low process.0 f.last process.1 process.2 last_there ended_there each_name lean)

  -- the indexes fit as before
  dead : (r : Pid) (o : Option Exchange) → ((e : Exchange) → o ≡ Some e → has_ended e ≡ true) → holds_of (is_queued_at r) o ≡ false
  dead r None over = refl
  dead r (Some e) over =
      fails (is_queued_at r e) e (λ q. queued_open e (and_parts (same_pid e.at r) (is_queued e.stage) q).1) (over e refl)

  was_ended : (n : Name) → n.sender ≡ pid → n.number ≤ low → (e : Exchange) → before n ≡ Some e → has_ended e ≡ true
  was_ended n sender high e at_n = ended_there n.number e high (ap (λ q. before (name_of q n.number)) (sym sender) ∙ at_n)

  last_over : (e : Exchange) → Some f.last ≡ Some e → has_ended e ≡ true
  last_over e same = ap has_ended (sym (same_Some f.last e same)) ∙ ended_there low f.last (omega arith) last_there

  queued_same : (r : Pid) (n : Name) → queued_at after r n ≡ queued_at before r n
  queued_same r n = elim (each_name n) [
    | inl same ↦ ap (holds_of (is_queued_at r)) same
    | inr w ↦ dead r (after n) (λ e is_e. last_over e (sym w.3 ∙ is_e)) ∙ sym (dead r (before n) (was_ended n w.0 w.2))
  ]

  waits : (r : Pid) (ns : List Name) → IsWaiting before s.arrived r ns → IsWaiting after s.arrived r ns
  waits r ns was = record {
    queue = (λ i. filter (λ n. queued_same r n i) ns) ∙ was.queue ∙ sym (λ i. filter (λ n. queued_same r n i) s.arrived);
    came = was.came;
  }

  latest_there : IsIndexed s → (n : Name) (e : Exchange) → after n ≡ Some e →
      IsLatest (latest_by s.places s.latest.items n.sender e.target.host) n e
  latest_there old n e is_e = elim (each_name n) [
    | inl same ↦ old.open_last n e (sym same ∙ is_e)
    | inr w ↦
        let over = last_over e (sym w.3 ∙ is_e) in
        record {
          live = λ q. absurd (both_ways (has_ended e) (target_open e q) over);
          posted = λ q. absurd (both_ways (has_ended e) (posted_open e q) over);
        }
  ]

  pub shorter_indexed : IsIndexed s → IsIndexed t
  shorter_indexed old = record {
    procs = ap length procs ∙ old.procs ∙ sym (ap length places);
    sends = ap length sends ∙ length-set s.sends.items at ys ∙ old.sends ∙ sym (ap length places);
    asked = ap length asked ∙ old.asked ∙ sym (ap length places);
    queues = ap length queues ∙ old.queues ∙ sym (ap length places);
    latest = ap length latest ∙ old.latest ∙ sym (ap length places);
    waiting = λ r found.
        let was = waits r (list_at s.places s.queues.items r) (old.waiting r (subst (λ ps. IsSome (place_in ps r)) places found)) in
        subst (λ ns. IsWaiting (exchanges_by t.places t.sends.items) ns r (list_at t.places t.queues.items r)) (sym arrived)
        (subst (λ ex. IsWaiting ex s.arrived r (list_at t.places t.queues.items r)) (λ i. exchanges_by (sym places i) (sym sends i))
        (subst (IsWaiting after s.arrived r) (λ i. list_at (sym places i) (sym queues i) r) was));
    low = λ sender host.
        let number : latest_by t.places t.latest.items sender host ≡ latest_by s.places s.latest.items sender host =
        λ i. latest_by (places i) (latest i) sender host in
        let long : length (list_at t.places t.sends.items sender) ≡ length (list_at s.places s.sends.items sender) =
        (λ i. length (list_at (places i) (sends i) sender))
        ∙ length-even s.places (set s.sends.items at ys) s.sends.items sender counts in
        let was = old.low sender host in
        omega arith;
    open_last = λ n e is_e.
        let number : latest_by t.places t.latest.items n.sender e.target.host ≡ latest_by s.places s.latest.items n.sender e.target.host =
        λ i. latest_by (places i) (latest i) n.sender e.target.host in
        subst (λ m. IsLatest m n e) (sym number)
        (latest_there old n e (sym (λ i. exchanges_by (places i) (sends i) n) ∙ is_e));
  }

module _ (s t : Store) (pid : Pid) (at : ℕ) (xs ys : List Exchange) (here : IsAt s pid at) (is : xs ≡ get_or s.sends.items at xs)
    (places : t.places ≡ s.places) (procs : t.procs.items ≡ s.procs.items) (sends : t.sends.items ≡ set s.sends.items at ys)
    (asked : t.asked.items ≡ s.asked.items) (names : t.names.items ≡ s.names.items) (arrived : t.arrived ≡ s.arrived)
    (queues : t.queues.items ≡ s.queues.items) (latest : t.latest.items ≡ s.latest.items) where
  pub shortened : Forgets xs ys → IsKept s → IsShortened s t
  shortened (inl same) kept =
      let even = sends ∙ ap (set s.sends.items at) same ∙ set_self s.sends.items at xs is in
      let kernel : kernel_in t ≡ kernel_in s =
      λ i. kernel_by (places i) (procs i) (even i) (asked i) (names i) (arrived i) in
      record {
        alike = ap lean_kernel (sym kernel);
        kept = record {
          indexed = (stays_alike s t places procs even asked names arrived queues (ap length latest)
              (λ q h i. latest_by (places i) (latest i) q h) kept.indexed).indexed;
          sound = subst IsSound (sym kernel) kept.sound;
          size = kept.size;
          sized = subst (IsSized kept.size) (sym kernel) kept.sized;
        };
        lean = subst (λ (k : Kernel). AreLean k.exchanges) (sym kernel);
      }
  shortened (inr w) kept = record {
    alike = shorter_alike s t pid at xs ys w.0 here is places procs sends asked names arrived queues latest w.1;
    kept = record {
      indexed = shorter_indexed s t pid at xs ys w.0 here is places procs sends asked names arrived queues latest w.1 kept.indexed;
      sound = shorter_sound s t pid at xs ys w.0 here is places procs sends asked names arrived queues latest w.1 kept.sound;
      size = kept.size;
      sized = shorter_sized s t pid at xs ys w.0 here is places procs sends asked names arrived queues latest w.1 kept.size kept.sized;
    };
    lean = shorter_lean s t pid at xs ys w.0 here is places procs sends asked names arrived queues latest w.1;
  }
