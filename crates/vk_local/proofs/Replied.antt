-- The rules of replies within the station.
use Rattle.std.proofs.Common.{◌≡◌, ℕ, Bool, true, false, not, List, [], ◌∷◌, ◌++◌, length, Option, Some, None, refl, sym, ap, subst, ◌∙◌, arith}
use Rattle.std.specs.Option.{is_none, option_map, option_map_or}
use Rattle.std.proofs.lemmas.Bool.{eqb-true, le-leb}
use Rattle.std.proofs.lemmas.Option.{none-some}
use Rattle.vk_types.specs.Types.{Call, Message, Outcome, Pid, Process, Refusal, Step}
use Rattle.vk_base.specs.declared.activity.Outcome.TheVariants as outcomes
use Rattle.vk_base.specs.declared.answer.Answer.TheVariants as answers
use Rattle.vk_base.specs.declared.answer.Refusal.TheVariants as refusals
use Rattle.vk_base.specs.declared.call.Call.TheVariants as calls
use Rattle.vk_base.specs.declared.event.EventAnswer.TheVariants as events_answered
use Rattle.vk_base.specs.declared.step.Step.TheVariants as steps
use Rattle.vk_base.specs.Calls.{call_refusal, called, first_that_holds, replied}
use Rattle.vk_base.specs.Firsts.{change_first}
use Rattle.vk_base.specs.Kernel.{◌>>=◌, Kernel, held, name_of}
use Rattle.vk_base.specs.Pids.{same_host}
use Rattle.vk_base.specs.Ranges.{lies_in, range_of}
use Rattle.vk_base.specs.Settings.{Settings}
use Rattle.vk_base.specs.Steps.{effect}
use Rattle.vk_packet.specs.Posts.{Posts}
use Rattle.vk_procs.specs.declared.seat.Seat.{Seat}
use Rattle.vk_procs.specs.Seats.{finished, is_seat, process_of}
use Rattle.vk_rules.specs.CallOutcomes.{packets_of, steps_behind}
use Rattle.vk_rules.specs.Readings.{Reading}
use Rattle.vk_rules.specs.Rounds.{list_if, told_sender}
use Rattle.vk_stands.specs.Fit.{AreFit}
use Rattle.vk_stands.specs.Held.{local_holding}
use Rattle.vk_stands.specs.Stands.{Stands}
use Rattle.vk_stands.specs.Tables.{Tables}
use Rattle.vk_stands.proofs.LocalReply.{answered_with, written_none}
use Rattle.vk_stands.proofs.Seats.{change_agree}
use Rattle.vk_local.specs.Access.{not_awaiting}
use Rattle.vk_local.specs.Calls.{after_reply, done_by, finish_steps, replied_seats, reply_steps, unless}
use Rattle.vk_local.specs.Done.{IsReply}
use Rattle.vk_local.specs.Rules.{IsSeatsRule, may_call}
use Rattle.vk_local.proofs.Decided.{MayCall, reply_decided}
use Rattle.vk_local.proofs.ReplyRules.{IsReplied, replied_is, reply_answer, reply_fits, reply_makes}
use Rattle.vk_local.proofs.Rules.{IsRuleDone, refused_done, seats_rule}

awaited_is : (b : Bool) → first_that_holds ((b, refusals.NotAwaiting) ∷ []) ≡ None → b ≡ false
awaited_is true is = absurd (none-some refusals.NotAwaiting (sym is))
awaited_is false is = refl

module _ (c : Settings) (host : ℕ) (t : Tables) (r : Reading) (h : Stands c.times host t r) (fit : AreFit host t) (pid : Pid)
    (own : pid.host ≡ host) (s : Seat) (may : MayCall t.seats pid s) (to : Pid) (near : same_host pid to ≡ true) (m : Message)
    (before : List Step) (out : Posts) where
  there : to.host ≡ host
  there = sym (eqb-true pid.host to.host near) ∙ own

  here : r.view.procs pid ≡ Some (process_of s)
  here = h.procs pid own ∙ ap (option_map process_of) may.found

  abbrev call : Call
  call = calls.Reply m to

  behind_is : (k : Kernel) → steps_behind k pid call (events_answered.Answered answers.Ok) ≡ steps.Finish to ∷ []
  behind_is k = ap (λ b. list_if b (steps.Finish to ∷ [])) near

  none : (k : Kernel) → packets_of r.view k r.slots pid call (events_answered.Answered answers.Ok) ≡ []
  none k = ap (λ b. list_if (not b) (option_map_or (λ number. told_sender k (name_of to number)) (held r.view pid to) [])) near

  module _ (free : not_awaiting t.seats pid to ≡ None) where
    x : IsReplied r.view t.seats pid to
    x = replied_is c host t r h fit pid own s may to near (awaited_is (is_none (local_holding t.seats pid to)) free)

    asks : effect r.view (steps.Call pid call) ≡ replied r.view pid call to m 0 []
    asks = ap (λ (o : Option Process). o >>= λ p. called r.view pid p call (call_refusal r.view pid p call)) here
        ∙ ap (called r.view pid (process_of s) call) (sym (reply_decided c.times host t r h fit pid own s may to m there) ∙ free)

    lies : lies_in (range_of 0 0) (length x.seat.memory) ≡ true
    lies = le-leb 0 (length x.seat.memory) (omega arith)

    seats_are : replied_seats t.seats to m ≡ change_first (is_seat to) (answered_with m 0 []) t.seats
    seats_are = change_agree (is_seat to) (finished (outcomes.Replied m)) (answered_with m 0 []) t.seats x.seat x.found
        (ap (finished (outcomes.Replied m)) (sym (written_none x.seat)))

    accepted : IsRuleDone c host r pid call t before out (Some outcomes.Ok) (change_first (is_seat to) (answered_with m 0 []) t.seats)
        (before ++ (steps.Call pid call ∷ steps.Finish to ∷ []))
    accepted = record {
      answer = reply_answer c host t r h fit pid own s may to near x call m 0 [] lies asks behind_is none;
      makes = reply_makes c host t r h fit pid own s may to near x call m 0 [] lies asks behind_is none before out;
      fits = reply_fits c host t r h fit pid own s may to near x call m 0 [] lies asks behind_is none;
    }

  by_refusal : (o : Option Refusal) → not_awaiting t.seats pid to ≡ o →
      IsRuleDone c host r pid call t before out (done_by o) (unless o (replied_seats t.seats to m) t.seats)
      (before ++ (steps.Call pid call ∷ finish_steps o to))
  by_refusal None free = subst (λ xs. IsRuleDone c host r pid call t before out (Some outcomes.Ok) xs
      (before ++ (steps.Call pid call ∷ steps.Finish to ∷ []))) (sym (seats_are free)) (accepted free)
  by_refusal (Some why) is = refused_done c host t r h fit pid call before out (process_of s) why here
      (sym is ∙ reply_decided c.times host t r h fit pid own s may to m there)

  pub reply_is : IsRuleDone c host r pid call t before out (done_by (not_awaiting t.seats pid to)) (after_reply t.seats pid to m)
      (before ++ reply_steps t.seats pid to m)
  reply_is = by_refusal (not_awaiting t.seats pid to) refl

-- as the code has it
pub reply_rule : (pid to : Pid) (m : Message) (seats new : List Seat) (before after : List Step) (p : Option Outcome) →
    may_call seats pid ≡ true → same_host pid to ≡ true → IsReply pid to m p seats new before after →
    IsSeatsRule pid (calls.Reply m to) p seats new before after
reply_rule pid to m seats new before after p may near is =
    seats_rule pid (calls.Reply m to) (λ xs. done_by (not_awaiting xs pid to)) (λ xs. after_reply xs pid to m)
    (λ xs. reply_steps xs pid to m) p seats new before after may is
    (λ c t r s out h fit can. reply_is c pid.host t r h fit pid refl s can to near m before out)
