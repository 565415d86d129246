-- The rule of replies with bytes within the station.
use Rattle.std.proofs.Common.{◌≡◌, ℕ, true, false, not, List, [], ◌∷◌, ◌++◌, length, Option, Some, None, refl, sym, ap, subst, ◌∙◌}
use Rattle.std.specs.Option.{option_map, option_map_or}
use Rattle.std.proofs.lemmas.Bool.{cond-false, eqb-true}
use Rattle.std.proofs.lemmas.Option.{same_Some}
use Rattle.v_laws.proofs.MoveLists.{all_bytes}
use Rattle.vk_types.specs.Types.{Call, Message, Outcome, Pid, Process, Refusal, Step}
use Rattle.vk_base.specs.declared.activity.Outcome.TheVariants as outcomes
use Rattle.vk_base.specs.declared.answer.Answer.TheVariants as answers
use Rattle.vk_base.specs.declared.call.Call.TheVariants as calls
use Rattle.vk_base.specs.declared.event.EventAnswer.TheVariants as events_answered
use Rattle.vk_base.specs.declared.step.Step.TheVariants as steps
use Rattle.vk_base.specs.Calls.{call_refusal, called, replied}
use Rattle.vk_base.specs.Firsts.{change_first}
use Rattle.vk_base.specs.Kernel.{◌>>=◌, Kernel, held, name_of}
use Rattle.vk_base.specs.Pids.{same_host, same_pid}
use Rattle.vk_base.specs.Ranges.{bytes_in, lies_in, range_of}
use Rattle.vk_base.specs.Settings.{Settings}
use Rattle.vk_base.specs.Steps.{effect}
use Rattle.vk_packet.specs.Posts.{Posts}
use Rattle.vk_procs.specs.declared.seat.Seat.{Seat}
use Rattle.vk_procs.specs.declared.seat.Passed.TheVariants as gifts
use Rattle.vk_procs.specs.Seats.{finished, is_seat, passed_by, process_of, seat_in, written}
use Rattle.vk_rules.specs.CallOutcomes.{packets_of, steps_behind}
use Rattle.vk_rules.specs.Readings.{Reading}
use Rattle.vk_rules.specs.Rounds.{list_if, told_sender}
use Rattle.vk_stands.specs.Fit.{AreFit}
use Rattle.vk_stands.specs.Stands.{Stands}
use Rattle.vk_stands.specs.Tables.{Tables}
use Rattle.vk_stands.proofs.LocalReply.{answered_with}
use Rattle.vk_stands.proofs.Seats.{change_twice}
use Rattle.vk_local.specs.declared.access.Segment.{Segment}
use Rattle.vk_local.specs.Access.{access_refusal}
use Rattle.vk_local.specs.Calls.{after_reply_segment, bytes_passed, done_by, finish_steps, replied_seats, reply_access, reply_segment_steps, unless}
use Rattle.vk_local.specs.Done.{IsReplySegment}
use Rattle.vk_local.specs.Rules.{IsSeatsRule, may_call}
use Rattle.vk_local.proofs.Decided.{MayCall, segment_decided}
use Rattle.vk_local.proofs.Moved.{IsPartner, is_held, mine_is, partner_apart, partner_is}
use Rattle.vk_local.proofs.ReplyRules.{IsReplied, replied_is, reply_answer, reply_fits, reply_makes}
use Rattle.vk_local.proofs.Rules.{IsRuleDone, refused_done, seats_rule}

module _ (c : Settings) (host : ℕ) (t : Tables) (r : Reading) (h : Stands c.times host t r) (fit : AreFit host t) (pid : Pid)
    (own : pid.host ≡ host) (s : Seat) (may : MayCall t.seats pid s) (to : Pid) (near : same_host pid to ≡ true) (m : Message)
    (g : Segment)
    (before : List Step) (out : Posts) where
  there : to.host ≡ host
  there = sym (eqb-true pid.host to.host near) ∙ own

  here : r.view.procs pid ≡ Some (process_of s)
  here = h.procs pid own ∙ ap (option_map process_of) may.found

  abbrev call : Call
  call = calls.ReplySegment m to g.dest g.src g.count

  abbrev bytes : List ℕ
  bytes = bytes_in (range_of g.src g.count) s.memory

  behind_is : (k : Kernel) → steps_behind k pid call (events_answered.Answered answers.Ok) ≡ steps.Finish to ∷ []
  behind_is k = ap (λ b. list_if b (steps.Finish to ∷ [])) near

  none : (k : Kernel) → packets_of r.view k r.slots pid call (events_answered.Answered answers.Ok) ≡ []
  none k = ap (λ b. list_if (not b) (option_map_or (λ number. told_sender k (name_of to number)) (held r.view pid to) [])) near

  module _ (free : access_refusal t.seats pid to (reply_access g) ≡ None) where
    partner : IsPartner t.seats pid to (reply_access g)
    partner = partner_is host t fit pid s may to (reply_access g) free

    x : IsReplied r.view t.seats pid to
    x = replied_is c host t r h fit pid own s may to near (is_held host t fit pid s may to (reply_access g) free)

    asks : effect r.view (steps.Call pid call) ≡ replied r.view pid call to m g.dest bytes
    asks = ap (λ (o : Option Process). o >>= λ p. called r.view pid p call (call_refusal r.view pid p call)) here
        ∙ ap (called r.view pid (process_of s) call) (sym (segment_decided c.times host t r h fit pid own s may to m g there) ∙ free)

    lies : lies_in (range_of g.dest (length bytes)) (length x.seat.memory) ≡ true
    lies = ap (λ n. lies_in (range_of g.dest n) (length x.seat.memory))
        (all_bytes g.src g.count s.memory (mine_is host t fit pid s may to (reply_access g) free))
        ∙ ap (λ (z : Seat). lies_in (range_of g.dest g.count) (length z.memory))
        (same_Some x.seat partner.seat (sym x.found ∙ partner.found))
        ∙ partner.granted

    apart : same_pid pid to ≡ false
    apart = partner_apart t.seats pid to s partner.seat partner.target partner.message may partner.found partner.waits

    seats_are : replied_seats (bytes_passed t.seats pid to g) to m ≡ change_first (is_seat to) (answered_with m g.dest bytes) t.seats
    seats_are =
        ap (λ xs. change_first (is_seat to) (finished (outcomes.Replied m)) xs)
        (cond-false (same_pid pid to) t.seats (passed_by (seat_in t.seats pid) to (gifts.Bytes g.src g.count g.dest) t.seats) apart
        ∙ ap (λ o. passed_by o to (gifts.Bytes g.src g.count g.dest) t.seats) may.found)
        ∙ change_twice (is_seat to) (written g.dest bytes) (finished (outcomes.Replied m)) (λ z. refl) t.seats

    accepted : IsRuleDone c host r pid call t before out (Some outcomes.Ok) (change_first (is_seat to) (answered_with m g.dest bytes) t.seats)
        (before ++ (steps.Call pid call ∷ steps.Finish to ∷ []))
    accepted = record {
      answer = reply_answer c host t r h fit pid own s may to near x call m g.dest bytes lies asks behind_is none;
      makes = reply_makes c host t r h fit pid own s may to near x call m g.dest bytes lies asks behind_is none before out;
      fits = reply_fits c host t r h fit pid own s may to near x call m g.dest bytes lies asks behind_is none;
    }

  by_refusal : (o : Option Refusal) → access_refusal t.seats pid to (reply_access g) ≡ o →
      IsRuleDone c host r pid call t before out (done_by o) (unless o (replied_seats (bytes_passed t.seats pid to g) to m) t.seats)
      (before ++ (steps.Call pid call ∷ finish_steps o to))
  by_refusal None free = subst (λ xs. IsRuleDone c host r pid call t before out (Some outcomes.Ok) xs
      (before ++ (steps.Call pid call ∷ steps.Finish to ∷ []))) (sym (seats_are free)) (accepted free)
  by_refusal (Some why) is = refused_done c host t r h fit pid call before out (process_of s) why here
      (sym is ∙ segment_decided c.times host t r h fit pid own s may to m g there)

  pub segment_is : IsRuleDone c host r pid call t before out (done_by (access_refusal t.seats pid to (reply_access g)))
      (after_reply_segment t.seats pid to m g) (before ++ reply_segment_steps t.seats pid to m g)
  segment_is = by_refusal (access_refusal t.seats pid to (reply_access g)) refl

-- as the code has it
pub segment_rule : (pid to : Pid) (m : Message) (g : Segment) (seats new : List Seat) (before after : List Step) (p : Option Outcome) →
    may_call seats pid ≡ true → same_host pid to ≡ true → IsReplySegment pid to m g p seats new before after →
    IsSeatsRule pid (calls.ReplySegment m to g.dest g.src g.count) p seats new before after
segment_rule pid to m g seats new before after p may near is =
    seats_rule pid (calls.ReplySegment m to g.dest g.src g.count) (λ xs. done_by (access_refusal xs pid to (reply_access g)))
    (λ xs. after_reply_segment xs pid to m g) (λ xs. reply_segment_steps xs pid to m g) p seats new before after may is
    (λ c t r s out h fit can. segment_is c pid.host t r h fit pid refl s can to near m g before out)
