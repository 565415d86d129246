-- The round of a work has a packet; at a due tick that does not give it up it goes out, and at every other tick it does not.
use Rattle.std.proofs.Common.{◌≡◌, ℕ, zero, suc, ◌+◌, ◌-◌, ◌*◌, ◌/◌, ◌<◌, Bool, true, false, ◌&&◌, ◌||◌, not, List, [], ◌∷◌, flat_map, fold, map, option_map, option_to_list, Some, None, refl, sym, ap, ◌∙◌, inl, inr, arith}
use Rattle.std.proofs.lemmas.Bool.{and_from, both_ways, cases_Bool, cond-true, cond-false, not_from_false, or_left, or_right}
use Rattle.std.proofs.lemmas.List.Folds.{list_any-append}
use Rattle.std.specs.List.{cons_option, list_any, filter_map, range_with_len}
use Rattle.std.specs.Option.{option_map_or}
use Rattle.vk_types.specs.Types.{Call, Exchange, Message, MoveName, Pid, Process, Times}
use Rattle.vk_base.specs.declared.call.Call.TheVariants as calls
use Rattle.vk_base.specs.declared.kernel.State.TheVariants as states
use Rattle.vk_base.specs.Kernel.{Kernel, blocked_in, is_moving, name_of}
use Rattle.vk_base.specs.Packets.{Packet, Send, AskPid}
use Rattle.vk_base.specs.Pids.{same_pid}
use Rattle.vk_base.specs.Steps.{next}
use Rattle.vk_base.proofs.BoolLemmas.{and_false}
use Rattle.vk_base.proofs.PidLemmas.{same_pid_self}
use Rattle.v_laws.proofs.Options.{some_there}
use Rattle.v_laws.proofs.Tables.{same_pid_is}
use Rattle.vk_rules.specs.CallOutcomes.{failed, failing_step, sent_again, tick_outcome}
use Rattle.vk_rules.specs.Entries.{Ticked}
use Rattle.vk_rules.specs.Readings.{Reading, reading, reading_after}
use Rattle.vk_rules.specs.Right.{own_pids, right_entry}
use Rattle.vk_rules.specs.Rounds.{data_packet, list_if, offsets, request_packet, round, round_of, round_of_call, send_packets}
use Rattle.vk_rules.specs.Works.{Work, is_due, is_of_round, is_unanswered}
use Rattle.v_ended.specs.Ends.{is_work}
use Rattle.v_ended.proofs.Spared.{doing, doing_blocked, state_of}
use Rattle.v_due.specs.Failures.{DueWorksGoOutAgain, reading_behind}
use Rattle.v_due.proofs.Blocked.{frames_any, more_behind}
use Rattle.v_due.proofs.Dues.{doing_behind, own_here, stands_behind}
use Rattle.v_due.proofs.Ticks.{StandsAtWork, first_other}
use Rattle.v_due.proofs.Told.{view_after}
use Rattle.v_due.proofs.Waits.{HasMore}

abbrev HasRound : Pid → List Packet → Type 0
HasRound s ps = list_any (is_of_round s) ps ≡ true

-- Each kind of round.
first_of_round : (s : Pid) (p : Packet) (ps : List Packet) → is_of_round s p ≡ true → HasRound s (p ∷ ps)
first_of_round s p ps t = ap (λ b. b || list_any (is_of_round s) ps) t

send_round : (k : Kernel) (s target : Pid) (m : Message) (p : Process) (e : Exchange) → k.exchanges (name_of s p.sends) ≡ Some e →
    HasRound s (send_packets k s p target m)
send_round k s target m p e is =
    ap (λ o. list_any (is_of_round s) (option_to_list (option_map (λ (e : Exchange). Send s target p.sends m e.part) o))) is
    ∙ first_of_round s (Send s target p.sends m e.part) [] (same_pid_self s)

some_offset : (from total : ℕ) → from < total → (n : ℕ) × ((total - from + 1023) / 1024 ≡ suc n)
some_offset from total less = by_quotient ((total - from + 1023) / 1024) refl
  where
    by_quotient : (q : ℕ) → (total - from + 1023) / 1024 ≡ q → (n : ℕ) × (q ≡ suc n)
    by_quotient zero is = absurd (omega arith)
    by_quotient (suc n) is = (n, refl)

data_round : (s partner : Pid) (memory : List ℕ) (dest src count from : ℕ) (m : MoveName) → from < count →
    HasRound s (map (data_packet s partner memory dest src count m) (offsets from count))
data_round s partner memory dest src count from m less =
    let n = some_offset from count less in
    ap (λ q. list_any (is_of_round s) (map (data_packet s partner memory dest src count m) (map (λ i. from + 1024 * i) (range_with_len 0 q)))) n.1
    ∙ first_of_round s (data_packet s partner memory dest src count m (from + 1024 * 0))
    (map (data_packet s partner memory dest src count m) (map (λ i. from + 1024 * i) (range_with_len (0 + 1) n.0))) (same_pid_self s)

call_round : (k : Kernel) (w : Work) (s : Pid) (call : Call) (at : StandsAtWork k s call) → is_work s call ≡ true → HasMore w.acknowledged call →
    HasRound s (round_of_call k w s at.process call)
call_round k w s (calls.Send target m) at work more =
    let e = at.sent target m refl in
    ap (λ b. list_any (is_of_round s) (list_if b (send_packets k s at.process target m))) work ∙ send_round k s target m at.process e.0 e.1
call_round k w s (calls.MoveTo partner dest src count) at work more =
    let m = some_there at.process.moving (at.named (ap is_moving at.state)) in
    ap (λ o. list_any (is_of_round s)
    (option_map_or (λ (n : MoveName). map (data_packet s partner at.process.memory dest src count n) (offsets w.acknowledged count)) o [])) m.1
    ∙ data_round s partner at.process.memory dest src count w.acknowledged m.0 more
call_round k w s (calls.MoveFrom partner dest src count) at work more =
    let m = some_there at.process.moving (at.named (ap is_moving at.state)) in
    ap (λ o. list_any (is_of_round s) (option_map_or (λ (n : MoveName). request_packet s partner src count w.received n ∷ []) o [])) m.1
    ∙ first_of_round s (request_packet s partner src count w.received m.0) [] (same_pid_self s)
call_round k w s (calls.GetPid logical scope) at work more = first_of_round s (AskPid s at.process.lookups logical) [] (same_pid_self s)
call_round k w s calls.Receive at work more = absurd (both_ways false refl work)
call_round k w s (calls.ReceiveSegment start count) at work more = absurd (both_ways false refl work)
call_round k w s (calls.Reply m to) at work more = absurd (both_ways false refl work)
call_round k w s (calls.ReplySegment m to dest src count) at work more = absurd (both_ways false refl work)
call_round k w s (calls.Forward m from to) at work more = absurd (both_ways false refl work)
call_round k w s (calls.SetPid logical q scope) at work more = absurd (both_ways false refl work)
call_round k w s (calls.Load start count) at work more = absurd (both_ways false refl work)
call_round k w s (calls.Store start bytes) at work more = absurd (both_ways false refl work)
call_round k w s calls.Exit at work more = absurd (both_ways false refl work)

pub round_some : (k : Kernel) (w : Work) (s : Pid) (call : Call) (at : StandsAtWork k s call) → is_work s call ≡ true → HasMore w.acknowledged call →
    HasRound s (round k w s)
unfolding round
round_some k w s call at work more =
    ap (λ o. list_any (is_of_round s) (option_map_or (round_of k w s) o [])) at.is
    ∙ ap (λ x. list_any (is_of_round s) (option_map_or (round_of_call k w s at.process) (blocked_in x) [])) at.state
    ∙ call_round k w s call at work more

-- One of the rounds of a tick.
any_of_each : (test : Packet → Bool) (f : Pid → List Packet) (s : Pid) (pids : List Pid) → list_any (same_pid s) pids ≡ true →
    list_any test (f s) ≡ true → list_any test (flat_map f pids) ≡ true
any_of_each test f s [] there is = absurd (both_ways false refl there)
any_of_each test f s (q ∷ qs) there is =
    list_any-append test (f q) (flat_map f qs)
    ∙ elim (cases_Bool (same_pid s q)) [
      | inl same ↦ or_left (list_any test (f q)) (list_any test (flat_map f qs)) (ap (λ z. list_any test (f z)) (sym (same_pid_is s q same)) ∙ is)
      | inr other ↦ or_right (list_any test (f q)) (list_any test (flat_map f qs))
          (any_of_each test f s qs (ap (λ b. b || list_any (same_pid s) qs) (sym other) ∙ there) is)
    ]

-- A work that does not fail at a tick: no step is of its process.
pub none_fails : (t : Times) (now : ℕ) (rd : Reading) (s : Pid) (call : Call) (pids : List Pid) (k : Kernel) →
    (is_due t now (rd.work s) && is_unanswered t (rd.work s)) ≡ false → doing k s ≡ Some (states.Blocked call) →
    doing (fold next k (filter_map (failed t now rd) pids)) s ≡ Some (states.Blocked call)
none_fails t now rd s call [] k off at = at
none_fails t now rd s call (q ∷ qs) k off at = elim (cases_Bool (same_pid s q)) [
  | inl same ↦
      let none = cond-false (is_due t now (rd.work s) && is_unanswered t (rd.work s)) (failing_step rd.view s) None off in
      let first = ap (failed t now rd) (sym (same_pid_is s q same)) ∙ none in
      ap (λ o. doing (fold next k (cons_option o (filter_map (failed t now rd) qs))) s) first ∙ none_fails t now rd s call qs k off at
  | inr other ↦
      first_other t now rd k s q qs (Some (states.Blocked call)) (failed t now rd q) other refl
      (λ l spared. none_fails t now rd s call qs l off (ap state_of spared.procs ∙ at))
]

pub due_works_go_out_again : DueWorksGoOutAgain
unfolding reading reading_after right_entry tick_outcome
due_works_go_out_again c host is s call at due answered =
    let rd = reading_behind c host is in
    let t = c.times in
    let here = own_here c host s at.waits.here in
    let stands = stands_behind c host is s call (rd.view.procs s) at refl in
    let more = more_behind c host is s call here (doing_behind c host is s call at.waits) in
    let goes = cond-true (is_due t (rd.now + 1) (rd.work s) && not (is_unanswered t (rd.work s))) (round rd.view (rd.work s) s) []
    (and_from (is_due t (rd.now + 1) (rd.work s)) (not (is_unanswered t (rd.work s))) due
    (not_from_false (is_unanswered t (rd.work s)) answered)) in
    let some = ap (λ ps. list_any (is_of_round s) ps) goes ∙ round_some rd.view (rd.work s) s call stands at.work more in
    let off = ap (λ b. is_due t (rd.now + 1) (rd.work s) && b) answered ∙ and_false (is_due t (rd.now + 1) (rd.work s)) in
    let still = none_fails t (rd.now + 1) rd s call (own_pids c host) rd.view off (doing_behind c host is s call at.waits) in
    record {
      round = frames_any s host _ _ _ 1 (flat_map (sent_again t (rd.now + 1) rd) (own_pids c host))
          ∙ any_of_each (is_of_round s) (sent_again t (rd.now + 1) rd) s (own_pids c host) at.waits.here some;
      waits = doing_blocked ((view_after c host rd Ticked).procs s) call still;
    }
