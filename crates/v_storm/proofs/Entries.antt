-- One entry of a station more: its view stays plain, its memories keep their sizes, and what it sends is plain.
use Rattle.std.proofs.Common.{◌≡◌, ℕ, ◌+◌, ◌^◌, ◌<◌, true, false, List, [], ◌∷◌, fold, find, length, Option, Some, None, option_map, refl, sym, subst, arith, cond}
use Rattle.std.proofs.lemmas.Bool.{both_ways}
use Rattle.std.proofs.lemmas.Option.{none-some, same_Some}
use Rattle.vk_types.specs.Types.{EventAnswer, Process, ProcessSpec, Step}
use Rattle.vk_base.specs.declared.step.Step.TheVariants as steps
use Rattle.vk_base.specs.Kernel.{initial_process}
use Rattle.vk_base.specs.Packets.{Packet}
use Rattle.vk_base.specs.Settings.{is_process}
use Rattle.vk_base.specs.Steps.{effect, is_allowed, next}
use Rattle.vk_base.proofs.OptionLemmas.{mapped_is}
use Rattle.v_ages.proofs.Outcomes.{mild_packet}
use Rattle.v_ages.proofs.Quiet.{NoCall}
use Rattle.v_laws.specs.Sizes.{size_in}
use Rattle.v_laws.proofs.StepLemmas.{IsNoCall}
use Rattle.v_lawful.specs.Sending.{IsFaultless, IsInput}
use Rattle.v_lawful.specs.Sizes.{HasSizes}
use Rattle.v_lawful.proofs.Brought.{IsForStation}
use Rattle.v_lawful.proofs.CallEvents.{behind_quiet, tick_quiet}
use Rattle.v_lawful.proofs.Entries.{IsSentLog, none_sent, one_more}
use Rattle.v_lawful.proofs.Events.{no_packet}
use Rattle.v_lawful.proofs.SizeEvents.{events_keep_sizes, memories_keep_their_sizes}
use Rattle.v_lawful.proofs.Taken.{taken_is, none_by}
use Rattle.vk_drive.specs.Tasks.{settings, specs}
use Rattle.vk_rules.specs.CallOutcomes.{call_outcome, collect_outcome, effect_answer, steps_behind, tick_outcome}
use Rattle.vk_rules.specs.Each.{Each}
use Rattle.vk_rules.specs.Entries.{Called, Collected, Delivered, Entry, Input, Ticked, is_delivery, is_frame_taken, taken_in, taken_packet}
use Rattle.vk_rules.specs.Frames.{Frame, Framed, Headed, Noise, Unsealed, answer_to_frame, frames_of, sender_of}
use Rattle.vk_rules.specs.Histories.{emitted}
use Rattle.vk_rules.specs.Readings.{Reading, reading, reading_after}
use Rattle.vk_rules.specs.Right.{answer_to, entry_of, outcome_of, own_pids, right_entry}
use Rattle.vk_rules.specs.View.{after_steps}
use Rattle.vk_rules.proofs.Lists.{each_append, each_if, each_weaker}
use Rattle.vk_rules.proofs.Rising.{events_are}
use Rattle.vk_rules.proofs.Taken.{outcome_by, packet_taken}
use Rattle.v_storm.proofs.Views.{IsOurs, IsPlain, IsPlainPacket, IsPlainState, IsPlainView}
use Rattle.v_storm.proofs.Brought.{after_plain}
use Rattle.v_storm.proofs.Calls.{call_plain}
use Rattle.v_storm.proofs.Packets.{call_packets_plain, outcome_packets_plain, tick_packets_plain}
use Rattle.v_storm.proofs.Steps.{steps_plain}
use Rattle.std.specs.Prelude.{Bool}

-- What comes to a station in a storm.
abbrev pub IsPlainUnsealed : Unsealed → Type 0
IsPlainUnsealed Noise = Unit {0}
IsPlainUnsealed (Headed h) = Unit {0}
IsPlainUnsealed (Framed h p) = IsPlainPacket p

abbrev pub IsPlainInput : Input → Type 0
IsPlainInput (Called pid call) = IsOurs pid × IsPlain call
IsPlainInput (Collected pid) = Unit {0}
IsPlainInput Ticked = Unit {0}
IsPlainInput (Delivered o) = IsPlainUnsealed o

-- Steps of a packet that comes.
no_call_is : (s : Step) → NoCall s → IsNoCall s
no_call_is (steps.Call pid c) f = absurd (both_ways true f refl)
no_call_is s f = tt

pub taken_quiet : (host : ℕ) (r : Reading) (o : Option Frame) → Each IsNoCall (outcome_by host r o).steps
taken_quiet host r None = tt
taken_quiet host r (Some f) =
    let ss = (mild_packet host r f.packet (sender_of f.packet) 0).steps in each_weaker NoCall IsNoCall _ ss no_call_is

outcome_view : (host : ℕ) (r : Reading) (o : Option Frame) → ((f : Frame) → o ≡ Some f → IsForStation host f.packet × IsPlainPacket f.packet) →
    IsPlainView host r.view → IsPlainView host (after_steps r.view (packet_taken o) (outcome_by host r o).steps)
outcome_view host r None taken v = v
outcome_view host r (Some f) taken v =
    let t = taken f refl in after_plain host r.view f.packet _ t.0.far t.1 (taken_quiet host r (Some f)) v

outcome_packets : (host : ℕ) (r : Reading) (o : Option Frame) → ((f : Frame) → o ≡ Some f → IsPlainPacket f.packet) →
    IsPlainView host r.view → Each IsPlainPacket (outcome_by host r o).packets
outcome_packets host r None taken v = tt
outcome_packets host r (Some f) taken v = outcome_packets_plain host r f.packet (taken f refl) v

-- the frame that is taken is the one that came
either_frame : (b : Bool) (f g : Frame) → cond b (Some f) None ≡ Some g → f ≡ g
either_frame true f g is = same_Some f g is
either_frame false f g is = absurd (none-some g is)

pub taken_plain : (a : EventAnswer) (o : Unsealed) (f : Frame) → IsPlainUnsealed o → taken_in (Delivered o) a ≡ Some f →
    IsPlainPacket f.packet
taken_plain a Noise f plain is = absurd (none_by (is_frame_taken a) f is)
taken_plain a (Headed h) f plain is = absurd (none_by (is_frame_taken a) f is)
taken_plain a (Framed h p) f plain is =
    subst (λ (z : Frame). IsPlainPacket z.packet) (either_frame (is_frame_taken a) (record { header = h; packet = p }) f is) plain

-- The view.
quiet_view : (host : ℕ) (r : Reading) (e : Entry) → is_delivery e.input ≡ false → IsPlainView host (fold next r.view e.steps) →
    IsPlainView host (after_steps r.view (taken_packet e) e.steps)
quiet_view host r e h v = subst (λ o. IsPlainView host (after_steps r.view o e.steps)) (sym (no_packet e h)) v

pub view_plain : (host : ℕ) (r : Reading) (i : Input) → IsInput host i → IsPlainInput i → IsPlainView host r.view →
    IsPlainView host (reading_after settings.times r (right_entry settings host r i)).view
unfolding reading_after right_entry call_outcome collect_outcome tick_outcome
view_plain host r (Called pid call) i plain v =
    let a = effect_answer (effect r.view (steps.Call pid call)) in
    let after = next r.view (steps.Call pid call) in
    quiet_view host r (right_entry settings host r (Called pid call)) refl
    (steps_plain host after (steps_behind after pid call a) (behind_quiet after pid call a)
    (call_plain host r.view pid call (effect r.view (steps.Call pid call)) refl plain.0 plain.1 v))
view_plain host r (Collected pid) i plain v =
    quiet_view host r (right_entry settings host r (Collected pid)) refl
    (steps_plain host r.view _ (each_if IsNoCall (is_allowed r.view (steps.Collect pid)) (steps.Collect pid ∷ []) (λ t. (tt, tt))) v)
view_plain host r Ticked i plain v =
    quiet_view host r (right_entry settings host r Ticked) refl
    (steps_plain host r.view _ (tick_quiet settings.times (r.now + 1) r (own_pids settings host)) v)
view_plain host r (Delivered o) i plain v =
    let a = answer_to_frame host r.now settings.times.life o in
    outcome_view host r (taken_in (Delivered o) a)
    (λ g is. (taken_is host r.now settings.times.life o g i is, taken_plain a o g plain is)) v

-- The packets.
pub packets_plain : (host : ℕ) (r : Reading) (i : Input) → IsInput host i → IsPlainInput i → IsPlainView host r.view →
    Each IsPlainPacket (outcome_of settings host r i (answer_to settings host r i)).packets
unfolding call_outcome collect_outcome tick_outcome
packets_plain host r (Called pid call) i plain v =
    let a = effect_answer (effect r.view (steps.Call pid call)) in
    call_packets_plain host r.view (next r.view (steps.Call pid call)) r.slots pid call a plain.0 plain.1
    (call_plain host r.view pid call (effect r.view (steps.Call pid call)) refl plain.0 plain.1 v)
packets_plain host r (Collected pid) i plain v = tt
packets_plain host r Ticked i plain v = tick_packets_plain host settings.times (r.now + 1) r v
packets_plain host r (Delivered o) i plain v =
    let a = answer_to_frame host r.now settings.times.life o in
    outcome_packets host r (taken_in (Delivered o) a) (λ g is. taken_plain a o g plain is) v

each_frame : (host stamp number event output : ℕ) (ps : List Packet) → Each IsPlainPacket ps →
    Each (λ (f : Frame). IsPlainPacket f.packet) (frames_of host stamp number event output ps)
each_frame host stamp number event output [] h = tt
each_frame host stamp number event output (p ∷ ps) h = (h.0, each_frame host stamp number event (output + 1) ps h.1)

entry_plain : (host : ℕ) (r : Reading) (i : Input) → Each IsPlainPacket (outcome_of settings host r i (answer_to settings host r i)).packets →
    Each (λ (f : Frame). IsPlainPacket f.packet) (right_entry settings host r i).frames
unfolding right_entry
entry_plain host r i each = each_frame host _ _ (r.events + 1) 1 _ each

-- The entries of a station in a storm, and what they say.
pub record IsPlainLog (host : ℕ) (es : List Entry) : Type 0 where
  pub sent : IsSentLog settings host es
  pub sizes : HasSizes host (size_in specs) (reading settings host es).view
  pub view : IsPlainView host (reading settings host es).view
  pub frames : Each (λ (f : Frame). IsPlainPacket f.packet) (emitted es)

pub log_more : (host : ℕ) (es : List Entry) (i : Input) → IsFaultless settings host → length es + 1 < 2 ^ 63 → IsInput host i →
    IsPlainInput i → IsPlainLog host es → IsPlainLog host (entry_of settings host es i ∷ es)
unfolding reading
log_more host es i fine small input plain log =
    let r = reading settings host es in
    let count = events_are settings host es in
    record {
      sent = one_more settings host es i fine small input log.sent;
      sizes = events_keep_sizes settings host (size_in specs) r i log.sent.fitting (omega (arith, count, small)) input log.sizes;
      view = view_plain host r i input plain log.view;
      frames = each_append (λ (f : Frame). IsPlainPacket f.packet) (entry_of settings host es i).frames (emitted es)
          (entry_plain host r i (packets_plain host r i input plain log.view)) log.frames;
    }

-- before the first
first_state : (o : Option ProcessSpec) (p : Process) → option_map initial_process o ≡ Some p → IsPlainState p.state × (p.alive ≡ true)
first_state o p is =
    let s = mapped_is initial_process o p is in subst (λ (z : Process). IsPlainState z.state × (z.alive ≡ true)) s.2 (tt, refl)

pub log_none : (host : ℕ) → IsFaultless settings host → IsPlainLog host []
unfolding reading
log_none host fine = record {
  sent = none_sent settings host;
  sizes = memories_keep_their_sizes settings host [] fine tt (omega arith);
  view = record {
    states = λ pid p at. (first_state (find (is_process pid) specs) p at).0;
    alive = λ pid p own at. (first_state (find (is_process pid) specs) p at).1;
    exchanges = λ n e at. absurd (none-some e at);
    lookups = λ asker number. refl;
  };
  frames = tt;
}
