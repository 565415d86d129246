-- Replies within the station are their right entries.
use Rattle.std.proofs.Common.{◌≡◌, ℕ, true, false, List, [], ◌∷◌, ◌++◌, length, Option, Some, None, refl, sym, ap, subst, ◌∙◌, inl}
use Rattle.std.specs.Option.{is_none}
use Rattle.std.proofs.lemmas.Bool.{eq-eqb, eqb-true}
use Rattle.vk_types.specs.Types.{Call, Exchange, Message, Pid, Step}
use Rattle.vk_base.specs.declared.activity.Activity.TheVariants as activities
use Rattle.vk_base.specs.declared.activity.Waiting.TheVariants as waitings
use Rattle.vk_base.specs.declared.answer.Answer.TheVariants as answers
use Rattle.vk_base.specs.declared.event.EventAnswer.TheVariants as events_answered
use Rattle.vk_base.specs.declared.kernel.Stage.TheVariants as stages
use Rattle.vk_base.specs.declared.step.Step.TheVariants as steps
use Rattle.vk_base.specs.Calls.{answered, replied}
use Rattle.vk_base.specs.Kernel.{◌>>=◌, Kernel, held, is_taken, name_of, with_stage}
use Rattle.vk_base.specs.Pids.{same_host}
use Rattle.vk_base.specs.Ranges.{lies_in, range_of, with_bytes}
use Rattle.vk_base.specs.Settings.{Settings}
use Rattle.vk_base.specs.Steps.{after_effect, effect, next}
use Rattle.v_laws.specs.Sound.{IsSoundAt}
use Rattle.vk_packet.specs.Posts.{Posts}
use Rattle.vk_procs.specs.declared.seat.Seat.{Seat}
use Rattle.vk_procs.specs.Seats.{overwritten, seat_in}
use Rattle.vk_rules.specs.CallOutcomes.{effect_answer, packets_of, steps_behind}
use Rattle.vk_rules.specs.Entries.{Called}
use Rattle.vk_rules.specs.Readings.{Reading}
use Rattle.vk_rules.specs.Right.{answer_to, right_entry}
use Rattle.vk_stands.specs.Fit.{AreFit}
use Rattle.vk_stands.specs.Held.{Holding, local_holding}
use Rattle.vk_stands.specs.Rules.{Makes}
use Rattle.vk_stands.specs.Stands.{IsSending, Stands}
use Rattle.vk_stands.specs.Tables.{Spot, Tables, seat_name}
use Rattle.vk_stands.proofs.Found.{seat_found}
use Rattle.vk_stands.proofs.Held.{IsHolding, held_here}
use Rattle.vk_stands.proofs.LocalReply.{answered_with, finish_next, landed, part_replied, reached_by_reply, replied_carries}
use Rattle.vk_stands.proofs.OneSeat.{seated}
use Rattle.vk_stands.proofs.Parts.{Part, part_of}
use Rattle.vk_stands.proofs.Whole.{sound_next}
use Rattle.vk_local.proofs.Decided.{MayCall}
use Rattle.vk_local.proofs.Moved.{seat_of}
use Rattle.vk_local.proofs.Rules.{ok_makes}

-- The one whose message the caller has taken, by the tables and in the view.
pub record IsReplied (k : Kernel) (seats : List Seat) (pid to : Pid) : Type 0 where
  pub seat : Seat
  pub found : seat_in seats to ≡ Some seat
  pub target : Pid
  pub message : Message
  pub waits : seat.doing ≡ activities.Blocked (waitings.Send target message)
  pub near : same_host seat.pid target ≡ true
  pub exchange : Exchange
  pub held_is : held k pid to ≡ Some seat.note.sends
  pub is : k.exchanges (name_of to seat.note.sends) ≡ Some exchange
  pub taken : is_taken exchange.stage ≡ true

module _ (c : Settings) (host : ℕ) (t : Tables) (r : Reading) (h : Stands c.times host t r) (fit : AreFit host t) (pid : Pid)
    (own : pid.host ≡ host) (s : Seat) (may : MayCall t.seats pid s) (to : Pid) (near : same_host pid to ≡ true) where
  there : to.host ≡ host
  there = sym (eqb-true pid.host to.host near) ∙ own

  replied_by : (o : Option Holding) → local_holding t.seats pid to ≡ o → is_none o ≡ false → IsHolding r.view pid to o →
      IsReplied r.view t.seats pid to
  replied_by None is some holds = cc
  replied_by (Some g) is some holds =
      let x = seat_of t.seats pid to g is in
      let v : IsSending r.view x.0 x.2.target g.message = h.waiting to x.0 (waitings.Send x.2.target g.message) x.1 x.2.waits in
      let at : v.exchange.at ≡ pid = ap (λ (z : Spot). z.at) v.spot_is ∙ x.2.at in
      record {
        seat = x.0;
        found = x.1;
        target = x.2.target;
        message = g.message;
        waits = x.2.waits;
        near = eq-eqb x.0.pid.host x.2.target.host (ap (λ (p : Pid). p.host) (seat_found t.seats to x.0 x.1).named ∙ there ∙ sym own
            ∙ ap (λ (p : Pid). p.host) (sym at)
            ∙ sym (eqb-true v.exchange.target.host v.exchange.at.host (h.sound.near (seat_name x.0) v.exchange v.is))
            ∙ ap (λ (p : Pid). p.host) v.target_is);
        exchange = holds.exchange;
        held_is = holds.held ∙ ap Some x.2.number;
        is = ap (λ n. r.view.exchanges (name_of to n)) (sym x.2.number) ∙ holds.is;
        taken = holds.taken;
      }

  pub replied_is : is_none (local_holding t.seats pid to) ≡ false → IsReplied r.view t.seats pid to
  replied_is some = replied_by (local_holding t.seats pid to) refl some (held_here c.times host t r h fit pid own to there)

  module _ (x : IsReplied r.view t.seats pid to) (call : Call) (m : Message) (dest : ℕ) (bytes : List ℕ)
      (lies : lies_in (range_of dest (length bytes)) (length x.seat.memory) ≡ true)
      (asks : effect r.view (steps.Call pid call) ≡ replied r.view pid call to m dest bytes)
      (behind_is : (k : Kernel) → steps_behind k pid call (events_answered.Answered answers.Ok) ≡ steps.Finish to ∷ [])
      (none : (k : Kernel) → packets_of r.view k r.slots pid call (events_answered.Answered answers.Ok) ≡ []) where
    name_is : name_of to x.seat.note.sends ≡ seat_name x.seat
    name_is = ap (λ p. name_of p x.seat.note.sends) (sym (seat_found t.seats to x.seat x.found).named)

    at : r.view.exchanges (seat_name x.seat) ≡ Some x.exchange
    at = ap r.view.exchanges (sym name_is) ∙ x.is

    abbrev l : Kernel
    l = with_stage r.view (seat_name x.seat) x.exchange (stages.Replied m dest bytes)

    does : effect r.view (steps.Call pid call) ≡ Some (answered l pid call answers.Ok)
    does = asks
        ∙ ap (λ (o : Option ℕ). o >>= λ n. r.view.exchanges (name_of to n) >>= λ e.
        Some (answered (with_stage r.view (name_of to n) e (stages.Replied m dest bytes)) pid call answers.Ok)) x.held_is
        ∙ ap (λ (o : Option Exchange). o >>= λ e.
        Some (answered (with_stage r.view (name_of to x.seat.note.sends) e (stages.Replied m dest bytes)) pid call answers.Ok)) x.is
        ∙ ap (λ n. Some (answered (with_stage r.view n x.exchange (stages.Replied m dest bytes)) pid call answers.Ok)) name_is

    lands : overwritten dest bytes x.seat.memory ≡ with_bytes x.seat.memory dest bytes
    lands = landed dest bytes x.seat.memory lies

    abbrev after : Kernel
    after = reached_by_reply r.view to x.seat x.exchange x.target x.message m dest bytes

    part : Part host t r.view
    part = part_of c.times host t r fit h

    leads : next l (steps.Finish to) ≡ after
    leads = finish_next host t r.view part to there x.seat x.found x.target x.message x.waits x.exchange at (inl x.taken) m dest bytes lands

    sound : IsSoundAt (λ g. false) after
    sound = subst (IsSoundAt (λ g. false)) leads (sound_next l (steps.Finish to)
        (subst (IsSoundAt (λ g. false)) (ap (after_effect r.view) does) (sound_next r.view (steps.Call pid call) h.sound)))

    abbrev u : Tables
    u = seated t to (answered_with m dest bytes)

    part_after : Part host u after
    part_after = part_replied host t r.view part to there x.seat x.found x.target x.message x.waits x.exchange at
        (inl x.taken) m dest bytes lands sound

    pub reply_makes : (before : List Step) (out : Posts) → Makes c host r (right_entry c host r (Called pid call))
        (record { tables = t; steps = before; out = out })
        (record { tables = u; steps = before ++ (steps.Call pid call ∷ steps.Finish to ∷ []); out = out })
    reply_makes before out = ok_makes c host t r h pid call before out l after (steps.Finish to ∷ []) u does (behind_is l)
        (none l) leads part_after
        (replied_carries host t r.view part to there x.seat x.found x.target x.message x.waits x.exchange at
        (inl x.taken) m dest bytes lands) refl

    pub reply_answer : events_answered.Answered answers.Ok ≡ answer_to c host r (Called pid call)
    reply_answer = sym (ap effect_answer does)

    pub reply_fits : AreFit host u
    reply_fits = part_after.fit
