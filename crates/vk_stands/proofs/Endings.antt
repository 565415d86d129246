-- A packet that amounts to one step or to none, and answers no work.
use Rattle.std.proofs.Common.{◌≡◌, ℕ, Bool, true, false, cond, List, [], ◌∷◌, ◌++◌, map, Option, Some, refl, sym, ap, subst, ◌∙◌}
use Rattle.std.specs.List.{filter_map, list_any, sum_by}
use Rattle.std.specs.Option.{option_map}
use Rattle.std.proofs.lemmas.List.{append-nil}
use Rattle.vk_types.specs.Types.{Name, Pid, Process, Step}
use Rattle.vk_base.specs.declared.event.EventAnswer.TheVariants as events_answered
use Rattle.vk_base.specs.Brought.{brought, settled}
use Rattle.vk_base.specs.Kernel.{Kernel, holds_of}
use Rattle.vk_base.specs.Packets.{Packet}
use Rattle.vk_base.specs.Settings.{Settings}
use Rattle.vk_base.specs.Steps.{first_of, next}
use Rattle.vk_frame.specs.declared.header.Header.{Header}
use Rattle.vk_packet.specs.Posts.{Posts}
use Rattle.vk_rules.specs.Aliens.{as_arrival, is_closing, is_copy}
use Rattle.vk_rules.specs.Entries.{Delivered}
use Rattle.vk_rules.specs.Frames.{Framed}
use Rattle.vk_rules.specs.PacketOutcomes.{packet_outcome}
use Rattle.vk_rules.specs.Readings.{Reading}
use Rattle.vk_rules.specs.Right.{answer_to, right_entry}
use Rattle.vk_rules.specs.Rounds.{Outcome, list_if, step_where}
use Rattle.vk_rules.specs.View.{after_steps}
use Rattle.vk_rules.specs.Works.{Work, count_in, is_answer, is_of_round, is_packet_to}
use Rattle.vk_stands.specs.Rules.{Makes, posted}
use Rattle.vk_stands.specs.Stands.{Stands}
use Rattle.vk_stands.specs.Tables.{Tables, read_alien}
use Rattle.vk_stands.proofs.After.{events_are, packets_are, reading_for}
use Rattle.vk_stands.proofs.AfterFrames.{came_outcome, came_slots_still, came_steps, came_view, came_work_still}
use Rattle.vk_stands.proofs.Parts.{Carries, Part, carries_more, stands_part}
use Rattle.vk_stands.proofs.Whole.{stands_same}

pub record EndsSend (packet : Packet) (step : Step) : Type 0 where
  pub no_copy : (name : Name) → is_copy name packet ≡ false
  pub no_answer : (q : Pid) (w : Work) (o : Option Process) → holds_of (is_answer q w packet) o ≡ false
  pub no_arrival : filter_map as_arrival (step ∷ []) ≡ []
  pub no_bytes : sum_by count_in (step ∷ []) ≡ 0
  pub stays : (before k : Kernel) → settled before packet k ≡ k

-- tables with the same aliens that stand for the kernel after it
pub record ComesToTables (host : ℕ) (t u : Tables) (k : Kernel) : Type 0 where
  pub part : Part host u k
  pub carries : Carries 0 t u
  pub read : map (option_map read_alien) u.slots ≡ map (option_map read_alien) t.slots

either_zero : (b : Bool) (n : ℕ) → n ≡ 0 → cond b n 0 ≡ 0
either_zero true n is = is
either_zero false n is = refl

nothing_arrives : (step : Step) (b : Bool) → filter_map as_arrival (step ∷ []) ≡ [] → filter_map as_arrival (list_if b (step ∷ [])) ≡ []
nothing_arrives step true none = none
nothing_arrives step false none = refl

nothing_copied : (step : Step) (b : Bool) → sum_by count_in (step ∷ []) ≡ 0 → sum_by count_in (list_if b (step ∷ [])) ≡ 0
nothing_copied step true none = none
nothing_copied step false none = refl

pub posts_same : (out : Posts) → out ≡ posted out []
posts_same out = λ i. record out { posts = sym (append-nil out.posts) i }

module _ (c : Settings) (host : ℕ) (r : Reading) (h : Header) (packet : Packet)
    (taken : answer_to c host r (Delivered (Framed h packet)) ≡ events_answered.Taken) (t : Tables) (stands : Stands c.times host t r)
    (step : Step) (e : EndsSend packet step) (does : Bool) (is : packet_outcome host r packet ≡ step_where does step) where
  abbrev after : Reading
  after = reading_for c host r (Delivered (Framed h packet))

  steps_are : (packet_outcome host r packet).steps ≡ list_if does (step ∷ [])
  steps_are = ap (λ (o : Outcome). o.steps) is

  view_is : after.view ≡ after_steps r.view (Some packet) (list_if does (step ∷ []))
  view_is = came_view c host r h packet taken ∙ ap (after_steps r.view (Some packet)) steps_are

  slots_same : after.slots ≡ r.slots
  slots_same = came_slots_still c host r h packet taken
      (ap (λ ss. first_of (filter_map as_arrival ss)) steps_are ∙ ap first_of (nothing_arrives step does e.no_arrival))
      (λ i a at. (e.no_copy a.name, ap (λ (o : Outcome). list_any (is_closing a.name) o.packets) is))

  work_same : (q : Pid) → after.work q ≡ r.work q
  work_same q = came_work_still c host r h packet taken q (e.no_answer q (r.work q) (r.view.procs q))
      (ap (λ (o : Outcome). list_any (is_of_round q) o.packets) is)
      (either_zero (is_packet_to q packet) (sum_by count_in (packet_outcome host r packet).steps)
      (ap (sum_by count_in) steps_are ∙ nothing_copied step does e.no_bytes))

  idle : does ≡ false → Stands c.times host t after
  idle f = stands_same c.times host t r after stands
      (view_is ∙ ap (λ b. after_steps r.view (Some packet) (list_if b (step ∷ []))) f) slots_same
      (events_are c host r (Delivered (Framed h packet))) work_same

  busy : does ≡ true → (u : Tables) → ComesToTables host t u (next (brought r.view packet) step) → Stands c.times host u after
  busy yes_does u comes =
      let view : after.view ≡ next (brought r.view packet) step =
      view_is ∙ ap (λ b. after_steps r.view (Some packet) (list_if b (step ∷ []))) yes_does
      ∙ e.stays r.view (next (brought r.view packet) step) in
      stands_part c.times host t u r after stands (subst (Part host u) (sym view) comes.part) (carries_more comes.carries) (record {
        slots = slots_same ∙ stands.slots ∙ sym comes.read;
        events = events_are c host r (Delivered (Framed h packet));
        works = λ pid s w at blocked work. work_same pid;
      })

  stands_by : (b : Bool) → does ≡ b → (u : Tables) → (b ≡ true → ComesToTables host t u (next (brought r.view packet) step)) →
      Stands c.times host (cond b u t) after
  stands_by true yes_does u comes = busy yes_does u (comes refl)
  stands_by false f u comes = idle f

  -- the step is made where it is due, and the tables are then these
  pub ending_makes : (u : Tables) → (does ≡ true → ComesToTables host t u (next (brought r.view packet) step)) → (done : List Step) (out : Posts) →
      Makes c host r (right_entry c host r (Delivered (Framed h packet))) (record { tables = t; steps = done; out = out })
      (record { tables = cond does u t; steps = done ++ list_if does (step ∷ []); out = out })
  ending_makes u comes done out = record {
    steps = ap (λ ss. done ++ ss) (sym (came_steps c host r h packet taken ∙ steps_are));
    packets = posts_same out ∙ ap (posted out) (sym (packets_are c host r (Delivered (Framed h packet))
        ∙ ap (λ (o : Outcome). o.packets) (came_outcome c host r h packet taken ∙ is)));
    stands = stands_by does refl u comes;
  }
