-- A Send to another station is begun: its exchange is posted, and its sender waits in it.
use Rattle.std.proofs.Common.{◌≡◌, ℕ, false, ◌&&◌, map, Some, refl, sym, ap, ◌∙◌}
use Rattle.std.specs.List.{position}
use Rattle.std.specs.Option.{option_map}
use Rattle.vk_types.specs.Types.{Message, Pid}
use Rattle.vk_base.specs.declared.call.Call.TheVariants as calls
use Rattle.vk_base.specs.declared.step.Step.TheVariants as steps
use Rattle.vk_base.specs.Calls.{unseen}
unfoldable use Rattle.vk_base.specs.Calls.{sent}
use Rattle.vk_base.specs.Kernel.{Kernel}
use Rattle.vk_base.specs.Pids.{same_host, same_pid}
use Rattle.vk_base.specs.Steps.{effect}
use Rattle.v_laws.proofs.Queues.{queue-sent_elsewhere}
use Rattle.v_laws.proofs.SoundLemmas.{sound_step}
use Rattle.vk_procs.specs.declared.seat.Seat.{Seat}
use Rattle.vk_procs.specs.Seats.{begun_send, is_seat, process_of, seat_in}
use Rattle.vk_stands.specs.Tables.{Tables}
use Rattle.vk_stands.proofs.OneSeat.{seated}
use Rattle.vk_stands.proofs.Parts.{AreQueues, Part}
use Rattle.vk_stands.proofs.Seats.{position-changed}
use Rattle.vk_stands.proofs.Sent.{CanSend, begun_fit, view_sent}
use Rattle.vk_stands.proofs.SentQueues.{names_still}

module _ (host : ℕ) (t : Tables) (k : Kernel) (part : Part host t k) (pid : Pid) (own : pid.host ≡ host) (s : Seat)
    (found : seat_in t.seats pid ≡ Some s) (target : Pid) (m : Message) (g : CanSend s m) (far : same_host pid target ≡ false)
    (slot : ℕ) (here : position (is_seat pid) t.seats ≡ Some slot) where
  abbrev l : Kernel
  l = sent k pid (process_of s) target m

  queues_posted : AreQueues (seated t pid (begun_send target m)) l
  queues_posted q i place =
      let there : position (is_seat q) t.seats ≡ Some i =
      sym (position-changed (is_seat pid) (begun_send target m) (is_seat q) (λ x. refl) t.seats) ∙ place in
      ap (map Some) (queue-sent_elsewhere k pid (process_of s) target m q part.sound
      (part.view.procs pid own ∙ ap (option_map process_of) found) (ap (λ b. b && same_pid target q) far))
      ∙ part.queues q i there
      ∙ sym (names_still host t k part pid own s found g.ready slot here (begun_send target m) (λ x. refl) q i there)

  pub part_posted : effect k (steps.Call pid (calls.Send target m)) ≡ Some (unseen l) → Part host (seated t pid (begun_send target m)) l
  unfolding sent
  part_posted does = record {
    fit = begun_fit host t k part pid own s found target m g;
    view = view_sent host t k part pid own s found target m g t.lists;
    sound = sound_step k (steps.Call pid (calls.Send target m)) (unseen l) part.sound does;
    names = part.names;
    unknown = part.unknown;
    queues = queues_posted;
  }
