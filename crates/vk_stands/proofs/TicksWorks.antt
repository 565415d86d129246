-- What a tick's entry says of works: a round goes out, or nothing happens to it.
use Rattle.std.proofs.Common.{◌≡◌, ◌<◌, ℕ, zero, suc, ◌+◌, ◌-◌, ◌*◌, ◌/◌, ◌%◌, ◌==◌, Bool, true, false, cond, ◌&&◌, ◌||◌, List, [], ◌∷◌, ◌++◌, map, flat_map, refl, ap, sym, ◌∙◌, subst, Option, Some, None, arith, leb, ltb}
use Rattle.std.specs.List.{cons_option, filter_map, list_any, range_with_len, slice_get}
use Rattle.std.specs.Option.{option_map_or, option_to_list}
use Rattle.std.proofs.lemmas.Bool.{and_parts, ltb-true}
use Rattle.std.proofs.lemmas.List.Concat.{flat_map-cons}
use Rattle.std.proofs.lemmas.List.Folds.{list_any-append}
use Rattle.std.proofs.lemmas.Option.{same_Some}
use Rattle.vk_types.specs.Types.{MoveName, Name, Pid, Times, Waiting}
use Rattle.vk_base.specs.declared.activity.Activity.TheVariants as activities
use Rattle.vk_base.specs.declared.activity.Waiting.TheVariants as waitings
use Rattle.vk_base.specs.Activities.{done_with}
use Rattle.vk_base.specs.Kernel.{Kernel, holds_of}
use Rattle.vk_base.specs.Packets.{Packet}
use Rattle.vk_base.specs.Pids.{same_pid}
use Rattle.vk_base.proofs.PidLemmas.{same_pid_self}
use Rattle.vk_packet.specs.Rules.{is_place}
use Rattle.vk_procs.specs.declared.seat.Seat.{Seat}
use Rattle.vk_rules.specs.Aliens.{is_closing}
use Rattle.vk_rules.specs.CallOutcomes.{failed, sent_again}
use Rattle.vk_rules.specs.Entries.{Entry}
use Rattle.vk_rules.specs.Readings.{Reading}
use Rattle.vk_rules.specs.Rounds.{data_packet, data_packets, request_packet, round}
use Rattle.vk_rules.specs.Works.{Work, is_of_round, work_after}
use Rattle.vk_stands.specs.Fit.{is_move_of, may_go_on}
use Rattle.vk_stands.specs.Stands.{IsFar, IsWorking}
use Rattle.vk_stands.specs.Tables.{is_work}
use Rattle.vk_stands.specs.Ticks.{Ticking, at_rest, work_round, tick_packets, tick_steps, ticked_seat, ticking, ticking_by, ticking_in, tried_again, unanswered}
use Rattle.vk_stands.proofs.After.{IsEntryDone, work_sent_again, work_still}
use Rattle.vk_stands.proofs.AfterCalls.{none_if, none_of_round, skips_closing, skips_others}
use Rattle.vk_stands.proofs.TicksAll.{AreSeatsApart}
use Rattle.vk_stands.proofs.TicksSeat.{IsSeatRead, right_ticking}
use Rattle.vk_timer.specs.declared.work.Due.{Due}
use Rattle.vk_timer.specs.declared.work.Due.TheVariants as dues
use Rattle.vk_timer.specs.Works.{due_at}

-- Lists that are joined.
cons_joined : {A : Type 0} (o : Option A) (xs : List A) → cons_option o xs ≡ option_to_list o ++ xs
cons_joined None xs = refl
cons_joined (Some x) xs = refl

module _ {A X : Type 0} (test : A → Bool) (f : X → List A) where
  pub none_joined : (xs : List X) → ((i : ℕ) (x : X) → slice_get xs i ≡ Some x → list_any test (f x) ≡ false) →
      list_any test (flat_map f xs) ≡ false
  none_joined [] none = refl
  none_joined (x ∷ xs) none =
      ap (list_any test) (flat_map-cons f x xs) ∙ list_any-append test (f x) (flat_map f xs)
      ∙ ap (λ b. b || list_any test (flat_map f xs)) (none 0 x refl) ∙ none_joined xs (λ i y at. none (suc i) y at)

  either_way : (a b : Bool) → b ≡ true → (a || b) ≡ true
  either_way true b t = refl
  either_way false b t = t

  pub some_joined : (xs : List X) (i : ℕ) (x : X) → slice_get xs i ≡ Some x → list_any test (f x) ≡ true →
      list_any test (flat_map f xs) ≡ true
  some_joined [] i x at some = cc
  some_joined (y ∷ xs) zero x at some =
      ap (list_any test) (flat_map-cons f y xs) ∙ list_any-append test (f y) (flat_map f xs)
      ∙ ap (λ b. b || list_any test (flat_map f xs)) (ap (λ z. list_any test (f z)) (same_Some y x at) ∙ some)
  some_joined (y ∷ xs) (suc i) x at some =
      ap (list_any test) (flat_map-cons f y xs) ∙ list_any-append test (f y) (flat_map f xs)
      ∙ either_way (list_any test (f y)) (list_any test (flat_map f xs)) (some_joined xs i x at some)

-- The steps and packets of all processes.
module _ (times : Times) (now host : ℕ) (r : Reading) where
  pub all_steps : (seats : List Seat) → ((i : ℕ) (s : Seat) → slice_get seats i ≡ Some s → IsSeatRead times host r s) →
      filter_map (failed times now r) (map (λ (s : Seat). s.pid) seats) ≡ tick_steps times now seats
  all_steps [] told = refl
  all_steps (x ∷ xs) told =
      ap (cons_option (failed times now r x.pid)) (all_steps xs (λ i y at. told (suc i) y at))
      ∙ cons_joined (failed times now r x.pid) (tick_steps times now xs)
      ∙ ap (λ ss. ss ++ tick_steps times now xs) (sym (right_ticking times now host r x (told 0 x refl)).steps)
      ∙ sym (flat_map-cons (λ s. (ticking times now s).steps) x xs)

  pub all_sent : (seats : List Seat) → ((i : ℕ) (s : Seat) → slice_get seats i ≡ Some s → IsSeatRead times host r s) →
      flat_map (sent_again times now r) (map (λ (s : Seat). s.pid) seats) ≡ tick_packets times now seats
  all_sent [] told = refl
  all_sent (x ∷ xs) told =
      flat_map-cons (sent_again times now r) x.pid (map (λ (s : Seat). s.pid) xs)
      ∙ ap (λ ps. sent_again times now r x.pid ++ ps) (all_sent xs (λ i y at. told (suc i) y at))
      ∙ ap (λ ps. ps ++ tick_packets times now xs) (sym (right_ticking times now host r x (told 0 x refl)).packets)
      ∙ sym (flat_map-cons (λ s. (ticking times now s).packets) x xs)

  -- they close nothing
  pub none_closed : (name : Name) (seats : List Seat) → ((i : ℕ) (s : Seat) → slice_get seats i ≡ Some s → IsSeatRead times host r s) →
      list_any (is_closing name) (tick_packets times now seats) ≡ false
  none_closed name seats told = none_joined (is_closing name) (λ s. (ticking times now s).packets) seats (λ i s at.
      ap (list_any (is_closing name)) (right_ticking times now host r s (told i s at)).packets
      ∙ none_if (is_closing name) _ (round r.view (r.work s.pid) s.pid) (none_of_round (is_closing name) r.view
      (r.work s.pid) s.pid (skips_closing name s.pid)))

  -- those of a round of one process are its own
  module _ (seats : List Seat) (told : (i : ℕ) (s : Seat) → slice_get seats i ≡ Some s → IsSeatRead times host r s) (apart : AreSeatsApart seats)
      (at : ℕ) (s : Seat) (here : slice_get seats at ≡ Some s) where
    others_by : (i : ℕ) (x : Seat) (b : Bool) → slice_get seats i ≡ Some x → same_pid x.pid s.pid ≡ b →
        list_any (is_of_round s.pid) (ticking times now s).packets ≡ false →
        list_any (is_of_round s.pid) (ticking times now x).packets ≡ false
    others_by i x true there same none =
        let one : s ≡ x = same_Some s x (sym here ∙ ap (slice_get seats) (sym (apart i at x s there here same)) ∙ there) in
        ap (λ z. list_any (is_of_round s.pid) (ticking times now z).packets) (sym one) ∙ none
    others_by i x false there other none =
        ap (list_any (is_of_round s.pid)) (right_ticking times now host r x (told i x there)).packets
        ∙ none_if (is_of_round s.pid) _ (round r.view (r.work x.pid) x.pid)
        (none_of_round (is_of_round s.pid) r.view (r.work x.pid) x.pid (skips_others s.pid x.pid other))

    own_by : (b : Bool) → list_any (is_of_round s.pid) (ticking times now s).packets ≡ b →
        list_any (is_of_round s.pid) (tick_packets times now seats) ≡ b
    own_by true some = some_joined (is_of_round s.pid) (λ x. (ticking times now x).packets) seats at s here some
    own_by false none = none_joined (is_of_round s.pid) (λ x. (ticking times now x).packets) seats
        (λ i x there. others_by i x (same_pid x.pid s.pid) there refl none)

    pub own_rounds : list_any (is_of_round s.pid) (tick_packets times now seats) ≡ list_any (is_of_round s.pid)
        (ticking times now s).packets
    own_rounds = own_by (list_any (is_of_round s.pid) (ticking times now s).packets) refl

-- A round has a packet.
some_by : (test : Packet → Bool) (f : ℕ → Packet) (from count n : ℕ) → 0 < n → ((offset : ℕ) → test (f offset) ≡ true) →
    list_any test (map f (map (λ i. from + 1024 * i) (range_with_len 0 n))) ≡ true
some_by test f from count zero some all = absurd (omega (arith, some))
some_by test f from count (suc n) some all =
    ap (λ b. b || list_any test (map f (map (λ i. from + 1024 * i) (range_with_len 1 n)))) (all (from + 1024 * 0))

under_way : (s : Seat) (partner : Pid) (count : ℕ) (o : Option MoveName) →
    (holds_of (is_move_of partner) o && is_place count s.note.offset) ≡ true →
    (m : MoveName) × (o ≡ Some m) × (s.note.offset < count)
under_way s partner count None goes = cc
under_way s partner count (Some m) goes =
    let place = and_parts (holds_of (is_move_of partner) (Some m)) (is_place count s.note.offset) goes in
    let last = and_parts (ltb 0 count && leb count 65536 && (s.note.offset % 1024 == 0)) (ltb s.note.offset count) place.1 in
    (m, refl, ltb-true s.note.offset count last.1)

any_first : (pid : Pid) (rest : Bool) → (same_pid pid pid || rest) ≡ true
any_first pid rest = ap (λ b. b || rest) (same_pid_self pid)

pub round_some : (s : Seat) (w : Waiting) → is_work s.pid w ≡ true → may_go_on s.note w ≡ true →
    list_any (is_of_round s.pid) (work_round s w) ≡ true
round_some s (waitings.Send target m) far goes = any_first s.pid false
round_some s (waitings.GetPid logical scope) far goes = any_first s.pid false
round_some s (waitings.MoveTo partner dest src count) far goes =
    let m = under_way s partner count s.note.moving goes in
    ap (λ o. list_any (is_of_round s.pid) (option_map_or (data_packets s.pid partner s.memory dest src count s.note.offset) o [])) m.1
    ∙ some_by (is_of_round s.pid) (data_packet s.pid partner s.memory dest src count m.0) s.note.offset count
    ((count - s.note.offset + 1023) / 1024) (omega (arith, m.2)) (λ offset. same_pid_self s.pid)
round_some s (waitings.MoveFrom partner dest src count) far goes =
    let m = under_way s partner count s.note.moving goes in
    ap (λ o. list_any (is_of_round s.pid) (option_map_or (λ
    (m : MoveName). request_packet s.pid partner src count s.note.offset m ∷ []) o [])) m.1
    ∙ any_first s.pid false
round_some s waitings.Receive far goes = cc
round_some s (waitings.ReceiveSegment start count) far goes = cc

-- The work of a process that waits in it still.
far_again : (times : Times) (now : ℕ) (s : Seat) (v : Work) (w : Waiting) → IsFar s v w →
    IsFar (tried_again times now w s) (record v { since = now; rounds = v.rounds + 1; fresh = false }) w
far_again times now s v (waitings.MoveTo partner dest src count) far = far
far_again times now s v (waitings.MoveFrom partner dest src count) far = (far.0, refl)
far_again times now s v (waitings.Send target m) far = tt
far_again times now s v (waitings.GetPid logical scope) far = tt
far_again times now s v waitings.Receive far = tt
far_again times now s v (waitings.ReceiveSegment start count) far = tt

module _ (times : Times) (k : Kernel) (e : Entry) (s : Seat) (v : Work) (w : Waiting) (is : s.doing ≡ activities.Blocked w)
    (far : is_work s.pid w ≡ true) (goes : may_go_on s.note w ≡ true) (work : IsWorking times s v w)
    (does : (sent : Bool) → list_any (is_of_round s.pid) (ticking times e.tick s).packets ≡ sent →
    IsEntryDone k s.pid e v false false sent false 0) where
  here : ticking times e.tick s ≡ ticking_by times e.tick s w (due_at times e.tick s.note.work)
  here = ap (ticking_in times e.tick s) is
      ∙ ap (λ b. cond b (ticking_by times e.tick s w (due_at times e.tick s.note.work)) (at_rest s)) far

  by_due : (d : Due) → ticking times e.tick s ≡ ticking_by times e.tick s w d →
      (ticking_by times e.tick s w d).seat.doing ≡ activities.Blocked w →
      IsWorking times (ticking_by times e.tick s w d).seat (work_after k s.pid e v) w
  by_due dues.NotDue it blocked =
      subst (λ x. IsWorking times s x w) (sym (work_still k s.pid e v (does false (ap (λ (x : Ticking). list_any
      (is_of_round s.pid) x.packets) it)))) work
  by_due dues.Resend it blocked =
      subst (λ x. IsWorking times (tried_again times e.tick w s) x w)
      (sym (work_sent_again k s.pid e v (does true (ap (λ (x : Ticking). list_any
      (is_of_round s.pid) x.packets) it ∙ round_some s w far goes))))
      (record { tries = ap (λ n. n + 1) work.tries; deadline = refl; far = far_again times e.tick s v w work.far })
  by_due dues.GiveUp it blocked =
      let both : activities.Done w (unanswered w) ≡ activities.Blocked w = ap (λ d. done_with d (unanswered w))
      (sym is) ∙ blocked in absurd (cc)

  pub work_ticked : (ticked_seat times e.tick s).doing ≡ activities.Blocked w →
      IsWorking times (ticked_seat times e.tick s) (work_after k s.pid e v) w
  work_ticked blocked =
      subst (λ (x : Ticking). IsWorking times x.seat (work_after k s.pid e v) w) (sym here)
      (by_due (due_at times e.tick s.note.work) here (subst (λ (x : Ticking). x.seat.doing ≡ activities.Blocked w) here blocked))
