-- Take.
use Rattle.std.proofs.Common.{◌≡◌, ℕ, ◌+◌, ◌<◌, ◌≤◌, true, false, length, Option, Some, None, refl, sym, ap, subst, ◌∙◌}
use Rattle.std.proofs.lemmas.Bool.{both_ways, and_parts}
use Rattle.std.proofs.lemmas.Option.{same_Some, none-some}
use Rattle.vk_types.specs.Types.{Call, Exchange, Name, Pid, Process, Stage, State}
use Rattle.vk_base.specs.declared.call.Call.TheVariants as calls
use Rattle.vk_base.specs.declared.kernel.Stage.TheVariants as stages
use Rattle.vk_base.specs.declared.kernel.State.TheVariants as states
use Rattle.vk_base.specs.Calls.{unseen}
use Rattle.vk_base.specs.Kernel.{Kernel, queue_of, receiving, is_queued, is_queued_at, holds_of}
use Rattle.vk_base.specs.Pids.{same_pid}
use Rattle.vk_base.specs.Steps.{Taking, taking, taken, take_step, first_of}
use Rattle.v_laws.proofs.FilterLemmas.{first_passes}
use Rattle.v_laws.proofs.Options.{some_that_holds}
use Rattle.v_laws.proofs.Queues.{first_is}
use Rattle.v_machine.specs.declared.tables.Store.{Store}
use Rattle.v_machine.specs.Kept.{IsKept, IsIndexed, IsAt, IsNoNearer, kernel_in, tables_in}
use Rattle.v_machine.specs.Places.{place_in, at_place}
use Rattle.v_machine.specs.Rules.{IsLive, Goes, Stays, GoesOrNot, Delivers, HasRoom}
use Rattle.v_machine.specs.Spent.{has_ended}
use Rattle.v_machine.specs.Tables.{Tables, kernel_of}
use Rattle.v_machine.proofs.Current.{queued_open}
use Rattle.v_machine.proofs.Fits.{asked_room}
use Rattle.v_machine.proofs.PlaceLemmas.{nowhere}
use Rattle.v_machine.proofs.StepLemmas.{found}
use Rattle.v_machine.proofs.TableLemmas.{exchanges_nowhere}

pub receiving_is : (s : State) (c : Call) → receiving s ≡ Some c → s ≡ states.Blocked c
receiving_is states.Ready c e = absurd (none-some c e)
receiving_is (states.Blocked calls.Receive) c e = ap states.Blocked (same_Some calls.Receive c e)
receiving_is (states.Blocked (calls.ReceiveSegment start count)) c e = ap states.Blocked (same_Some (calls.ReceiveSegment start count) c e)
receiving_is (states.Blocked d) c e = absurd (none-some c e)
receiving_is (states.Done d a) c e = absurd (none-some c e)

-- the first of a queue is queued there
pub first_is_queued : (k : Kernel) (pid : Pid) (name : Name) → first_of (queue_of k pid) ≡ Some name →
    (e : Exchange) × (k.exchanges name ≡ Some e) × (is_queued e.stage ≡ true)
unfolding queue_of
first_is_queued k pid name is =
    let first = first_is (queue_of k pid) name is in
    let passes = first_passes (λ n. holds_of (is_queued_at pid) (k.exchanges n)) k.arrived name first.0 first.1 in
    let e = some_that_holds (is_queued_at pid) (k.exchanges name) passes in
    (e.0, e.1, (and_parts (same_pid e.0.at pid) (is_queued e.0.stage) e.2).1)

-- what is queued may be taken
pub taken_is_nearer : (s : Stage) → is_queued s ≡ true → IsNoNearer s stages.Taken
taken_is_nearer stages.Queued t =
    record { queued = λ u. absurd (both_ways false refl u); live = λ u. refl; posted = λ u. absurd (both_ways false refl u) }
taken_is_nearer s t = absurd (both_ways false refl t)

room_is : (p : Process) (c : Call) → ((start count : ℕ) → p.state ≡ states.Blocked (calls.ReceiveSegment start count) →
    start + count ≤ length p.memory) → p.state ≡ states.Blocked c → HasRoom c p.memory
room_is p (calls.ReceiveSegment start count) fits is = fits start count is
room_is p c fits is = tt

module _ (s between : Store) (pid : Pid) (at : ℕ) (p : Process) (c : Call) (name : Name) (kept : IsKept s) (here : IsAt s pid at)
    (there : (kernel_in s).procs pid ≡ Some p) (waits : receiving p.state ≡ Some c)
    (first : Some name ≡ first_of (queue_of (kernel_in s) pid)) (same : (noted : ℕ) → tables_in between noted ≡ tables_in s noted) where
  same_kernel : kernel_in between ≡ kernel_in s
  same_kernel = ap kernel_of (same 0)

  pub take_missing : (o : Option Exchange) → (kernel_in s).exchanges name ≡ o → o ≡ None → take_step (kernel_in s) pid ≡ None
  unfolding taking
  take_missing o is none =
      let e = first_is_queued (kernel_in s) pid name (sym first) in
      absurd (none-some e.0 (sym none ∙ sym is ∙ e.1))

  pub take_delivered : (after : Store) (from : ℕ) → IsIndexed between → IsAt between name.sender from → (u : Unit {0}) →
      Delivers at from name c between after (Some u) → Goes (take_step (kernel_in s) pid) None after
  unfolding taking
  take_delivered after from indexed sender u delivers =
      let e = first_is_queued (kernel_in s) pid name (sym first) in
      let t : Taking = record { process = p; call = c; name = name; exchange = e.0 } in
      let o : taking (kernel_in s) pid ≡ Some t =
      found ((kernel_in s).procs pid) p _ _ there
      (found (receiving p.state) c _ _ waits
      (found (first_of (queue_of (kernel_in s) pid)) name _ _ (sym first)
      (found ((kernel_in s).exchanges name) e.0 _ _ e.1 refl))) in
      let place = ap (λ (x : Tables). x.pids) (same 0) in
      let done = delivers pid p e.0 (ap (λ ps. place_in ps pid) place ∙ here.place) sender.place
      (ap (λ (k : Kernel). k.procs pid) same_kernel ∙ there) (ap (λ (k : Kernel). k.exchanges name) same_kernel ∙ e.1)
      (room_is p c (λ start count is. asked_room kept.size (kernel_in s) pid p start count kept.sized there is)
      (receiving_is p.state c waits)) e.2 indexed in
      record {
        effect = found (taking (kernel_in s) pid) t _ _ o (ap (λ k. Some (unseen k)) (sym (done.0 ∙ ap (λ k. taken k pid t) same_kernel)));
        indexed = done.1;
      }

  pub take_by : (after : Store) (from : ℕ) (done : Option (Unit {0})) → IsIndexed between → IsAt between name.sender from →
      Delivers at from name c between after done → GoesOrNot (take_step (kernel_in s) pid) s after done
  take_by after from (Some u) indexed sender delivers = take_delivered after from indexed sender u delivers
  take_by after from None indexed sender delivers = (
    take_missing ((kernel_in s).exchanges name) refl (ap (λ (k : Kernel). k.exchanges name) (sym same_kernel) ∙ delivers.0 sender.place),
    subst (Stays s) (sym delivers.1) (record { tables = same; indexed = indexed }),
  )

  pub take_lost : IsIndexed between → None ≡ place_in between.places name.sender → (take_step (kernel_in s) pid ≡ None) × Stays s between
  unfolding at_place
  take_lost indexed none = (
    take_missing ((kernel_in s).exchanges name) refl
        (ap (λ (k : Kernel). k.exchanges name) (sym same_kernel)
        ∙ exchanges_nowhere between.places between.sends.items name (nowhere between.places between.sends.items name.sender (sym none))),
    record { tables = same; indexed = indexed },
  )

  pub live_first : (from : ℕ) → IsAt between name.sender from → IsLive between from name.number
  live_first from sender =
      let e = first_is_queued (kernel_in s) pid name (sym first) in (
        name.sender,
        sender.place,
        ap (λ (k : Kernel). holds_of has_ended (k.exchanges name)) same_kernel ∙ ap (holds_of has_ended) e.1 ∙ queued_open e.0 e.2,
      )

  pub still_low : at < length between.procs.items
  still_low = subst (λ (n : ℕ). at < n) (ap (λ (x : Tables). length x.procs) (sym (same 0))) here.procs
