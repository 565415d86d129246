-- A job is given for the first member that has its helper, as a report is taken for it.
use Rattle.std.proofs.Common.{◌≡◌, ℕ, ◌+◌, Bool, true, false, ◌||◌, not, List, [], ◌∷◌, map, Option, Some, None, refl, sym, ap, ◌∙◌, inl, inr, arith, cond}
use Rattle.std.specs.Prelude.{IfSome, nat_lt, option_map, slice_get}
use Rattle.std.specs.List.{list_all, list_any, position, position_or_len}
use Rattle.std.specs.Option.{is_some}
use Rattle.std.proofs.lemmas.Bool.{both_ways, cases_order, cond_both}
use Rattle.std.proofs.lemmas.List.{length-map}
use Rattle.std.proofs.lemmas.List.Quantifiers.{position-Some}
use Rattle.std.proofs.lemmas.Option.{get_or_from_slice_get, slice_get-map}
use Rattle.vk_types.specs.Types.{Answer, Message, Pid}
use Rattle.vk_base.specs.declared.answer.Answer.TheVariants as answers
use Rattle.vk_base.specs.Pids.{same_pid}
use Rattle.vk_base.proofs.OptionLemmas.{mapped_is}
use Rattle.vk_group.specs.declared.code.Code.{Code}
use Rattle.vk_group.specs.declared.code.Code.TheVariants as codes
use Rattle.vk_group.specs.declared.group.Group.{Group}
use Rattle.vk_group.specs.declared.member.Member.{Member}
use Rattle.vk_group.specs.declared.member.Progress.TheVariants as works
use Rattle.vk_group.specs.declared.notes.Note.{Note}
use Rattle.vk_event.specs.declared.pair.HelperPair.{HelperPair}
use Rattle.vk_group.specs.declared.request.Request.{Request}
use Rattle.vk_group.specs.declared.request.Request.TheVariants as requests
use Rattle.vk_group.specs.declared.stage.HelperJob.{HelperJob}
use Rattle.vk_group.specs.declared.stage.Stage.{Stage}
use Rattle.vk_group.specs.declared.stage.Stage.TheVariants as stages
use Rattle.vk_group.specs.declared.stage.Wait.{Wait}
use Rattle.vk_group.specs.Groups.{all_reported, answered, answered_all, answered_at, begun_by, by_job, by_waiting, group_after, heard, helper_due, is_client, is_ending, job_due, left_after, loaded_result, loaded_send, new_group, notes_after, number_of, ready_from, refused, refused_as, rest, result_from, settled, taken, told_next, verdict, wait_over}
use Rattle.vk_group.specs.Members.{change, given, has_replied, holds_job, is_due, is_helper, is_ready, made_ready, new_member, pair_of, pairs_of, reopened, restarted, told, was_told, work_of}
use Rattle.vk_group.specs.Messages.{message_in, request_in}
use Rattle.vk_group.proofs.Constant.{constant_at, pairs_new}
use Rattle.vk_group.proofs.Staged.{if_bound}
use Rattle.vk_group.proofs.Works.{changed_here, unchanged}
use Rattle.v_laws.proofs.Tables.{same_pid_is}

-- the first of these pairs that has this helper
abbrev pub helps : Pid → HelperPair → Bool
helps h p = same_pid p.helper h

abbrev pub first_of : List HelperPair → Pid → Option ℕ
first_of pairs h = position (helps h) pairs

place_same : (h : Pid) (ms : List Member) → position_or_len (is_helper h) ms ≡ position_or_len (helps h) (pairs_of ms)
place_same h [] = refl
place_same h (m ∷ ms) = ap (λ n. cond (not (is_helper h m)) (1 + n) 0) (place_same h ms)

first_in : (h : Pid) (ms : List Member) → position (is_helper h) ms ≡ first_of (pairs_of ms) h
first_in h ms = λ i. cond (nat_lt (place_same h ms i) (sym (length-map ms pair_of) i)) (Some (place_same h ms i)) None

own_first : (pairs : List HelperPair) (from : Pid) (n : ℕ) → first_of pairs from ≡ Some n → (p : HelperPair) →
    slice_get pairs n ≡ Some p → first_of pairs p.helper ≡ Some n
own_first pairs from n at p is =
    let passes : same_pid p.helper from ≡ true =
    ap (helps from) (sym (get_or_from_slice_get pairs n p p is)) ∙ (position-Some (helps from) pairs n p at).1 in
    ap (first_of pairs) (same_pid_is p.helper from passes) ∙ at

module _ (pairs : List HelperPair) where
  -- whose helper is ready is the first that has it
  abbrev Firsts : List Member → Type 0
  Firsts ms = (n : ℕ) (m : Member) → slice_get ms n ≡ Some m → is_ready m ≡ true → first_of pairs m.pair.helper ≡ Some n

  abbrev pub IsFirstDue : Stage → Type 0
  IsFirstDue (stages.StoreJob j) = first_of pairs j.helper ≡ Some j.member
  IsFirstDue (stages.GiveJob j) = first_of pairs j.helper ≡ Some j.member
  IsFirstDue stages.Receive = Unit {0}
  IsFirstDue (stages.LoadSend client dest) = Unit {0}
  IsFirstDue (stages.LoadResult number helper replied) = Unit {0}
  IsFirstDue (stages.Refuse to code counts) = Unit {0}
  IsFirstDue (stages.Thank helper) = Unit {0}
  IsFirstDue (stages.StoreReply w n) = Unit {0}
  IsFirstDue (stages.HandOver w n) = Unit {0}
  IsFirstDue (stages.EndWait client code) = Unit {0}
  IsFirstDue (stages.Tell number helper) = Unit {0}
  IsFirstDue stages.Exit = Unit {0}
  IsFirstDue stages.Ended = Unit {0}

  pub record AreFirst (g : Group) : Type 0 where
    pub firsts : Firsts g.members
    pub due : IsFirstDue g.stage

  firsts_changed : (ms : List Member) (number : ℕ) (f : Member → Member) →
      ((m : Member) → slice_get ms number ≡ Some m → is_ready (f m) ≡ true → first_of pairs (f m).pair.helper ≡ Some number) →
      Firsts ms → Firsts (change number f ms)
  firsts_changed ms number f here firsts n m is ready = elim (cases_order n number) [
    | inl same ↦
        let x = mapped_is f (slice_get ms number) m
        (sym (changed_here f ms number) ∙ ap (λ z. slice_get (change number f ms) z) (sym same) ∙ is) in
        ap (λ (z : Member). first_of pairs z.pair.helper) (sym x.2) ∙ here x.0 x.1 (ap is_ready x.2 ∙ ready) ∙ ap (λ z. Some z) (sym same)
    | inr apart ↦ elim apart [
      | inl below ↦ firsts n m (sym (unchanged f ms number n (λ same. absurd (omega (arith, same, below)))) ∙ is) ready
      | inr above ↦ firsts n m (sym (unchanged f ms number n (λ same. absurd (omega (arith, same, above)))) ∙ is) ready
    ]
  ]

  firsts_restarted : (ms : List Member) → Firsts ms → Firsts (restarted ms)
  firsts_restarted ms firsts n m is ready =
      let x = mapped_is reopened (slice_get ms n) m (sym (slice_get-map reopened ms n) ∙ is) in
      ap (λ (z : Member). first_of pairs z.pair.helper) (sym x.2) ∙ firsts n x.0 x.1 (ap is_ready x.2 ∙ ready)

  firsts_new : Firsts (map new_member pairs)
  firsts_new n m is ready =
      let x = mapped_is new_member (slice_get pairs n) m (sym (slice_get-map new_member pairs n) ∙ is) in
      absurd (both_ways false refl (ap is_ready x.2 ∙ ready))

  -- what is done between two requests
  job_first : (g : Group) → Firsts g.members → IfSome (job_due g) (λ (j : HelperJob). first_of pairs j.helper ≡ Some j.member)
  job_first g firsts =
      if_bound g.asked _ _ (λ a asked. if_bound (position is_due g.members) _ _ (λ n at. if_bound (slice_get g.members n) _ _ (λ m is.
      if_bound m.ready _ _ (λ dest ready. firsts n m is (ap is_some ready)))))

  settled_first : (g : Group) (w : Wait) (o : Option Note) → IsFirstDue (settled g w o)
  settled_first g w (Some n) = tt
  settled_first g w None =
      cond_both (all_reported g) (stages.EndWait w.client (cond (list_any has_replied g.members) codes.NoMore codes.Nobody))
      (cond (is_ending g) (stages.EndWait w.client codes.Bad) stages.Receive) IsFirstDue (λ all. tt)
      (λ busy. cond_both (is_ending g) (stages.EndWait w.client codes.Bad) stages.Receive IsFirstDue (λ t. tt) (λ f. tt))

  helper_first : (g : Group) → IfSome (helper_due g) IsFirstDue
  helper_first g = if_bound (position _ g.members) _ _ (λ n at. if_bound (slice_get g.members n) _ _ (λ m is. tt))

  told_first : (g : Group) (o : Option Stage) → IfSome o IsFirstDue → IsFirstDue (told_next g o)
  told_first g (Some s) is = is
  told_first g None is = cond_both (list_all was_told g.members) stages.Exit stages.Receive IsFirstDue (λ t. tt) (λ f. tt)

  waiting_first : (g : Group) (o : Option Wait) → IsFirstDue (by_waiting g o)
  waiting_first g (Some w) = settled_first g w (slice_get g.notes 0)
  waiting_first g None =
      cond_both (is_ending g) (told_next g (helper_due g)) stages.Receive IsFirstDue
      (λ t. told_first g (helper_due g) (helper_first g)) (λ f. tt)

  by_job_first : (g : Group) (o : Option HelperJob) → IfSome o (λ (j : HelperJob). first_of pairs j.helper ≡ Some j.member) → IsFirstDue (by_job g o)
  by_job_first g (Some j) is = is
  by_job_first g None is = waiting_first g g.waiting

  first_rest : (g : Group) → Firsts g.members → AreFirst (rest g)
  first_rest g firsts = record {
    firsts = firsts;
    due = cond_both (is_ending g) (by_waiting g g.waiting) (by_job g (job_due g)) IsFirstDue (λ t. waiting_first g g.waiting)
        (λ f. by_job_first g (job_due g) (job_first g firsts));
  }

  -- a request
  first_ready : (g : Group) (from : Pid) (dest : ℕ) (o : Option ℕ) → first_of pairs from ≡ o → pairs_of g.members ≡ pairs →
      Firsts g.members → AreFirst (ready_from g from dest o)
  first_ready g from dest None at same firsts = record { firsts = firsts; due = tt }
  first_ready g from dest (Some n) at same firsts =
      first_rest (record g { members = made_ready n dest g.members })
      (firsts_changed g.members n (λ m. record m { ready = Some dest }) (λ m is ready. here m is) firsts)
    where
      here : (m : Member) → slice_get g.members n ≡ Some m → first_of pairs m.pair.helper ≡ Some n
      here m is = own_first pairs from n at m.pair
          (ap (λ ps. slice_get ps n) (sym same) ∙ slice_get-map pair_of g.members n ∙ ap (option_map pair_of) is)

  first_result : (g : Group) (from : Pid) (replied : Bool) (o : Option ℕ) → Firsts g.members → AreFirst (result_from g from replied o)
  first_result g from replied None firsts = record { firsts = firsts; due = tt }
  first_result g from replied (Some n) firsts =
      cond_both (holds_job (slice_get g.members n)) (record g { stage = stages.LoadResult n from replied }) (refused_as g from (Some n))
      AreFirst (λ t. record { firsts = firsts; due = tt }) (λ f. record { firsts = firsts; due = tt })

  first_taken : (g : Group) (from : Pid) (request : Request) → pairs_of g.members ≡ pairs → Firsts g.members →
      AreFirst (taken g from request)
  first_taken g from (requests.GroupSend dest) same firsts =
      cond_both (is_ending g) (refused g from codes.Bad true) (record g { stage = stages.LoadSend from dest }) AreFirst
      (λ t. record { firsts = firsts; due = tt }) (λ f. record { firsts = firsts; due = tt })
  first_taken g from (requests.GetReply dest) same firsts =
      cond_both (is_ending g || not (is_client g.asked from)) (refused g from codes.Bad true)
      (rest (record g { waiting = Some (record { client = from; dest = dest }) })) AreFirst
      (λ t. record { firsts = firsts; due = tt })
      (λ f. first_rest (record g { waiting = Some (record { client = from; dest = dest }) }) firsts)
  first_taken g from (requests.Ready dest) same firsts =
      first_ready g from dest (number_of g from) (ap (λ ps. first_of ps from) (sym same) ∙ sym (first_in from g.members)) same firsts
  first_taken g from (requests.Result replied) same firsts = first_result g from replied (number_of g from) firsts
  first_taken g from requests.Bad same firsts = record { firsts = firsts; due = tt }

  first_heard : (g : Group) (a : Answer) → pairs_of g.members ≡ pairs → Firsts g.members → AreFirst (heard g a)
  first_heard g (answers.ReceivedSegment from m count) same firsts = first_taken g from (request_in m count) same firsts
  first_heard g _ same firsts = record { firsts = firsts; due = tt }

  -- what was loaded
  first_begun : (g : Group) (client : Pid) (dest : ℕ) (m : Message) (o : Option Code) → Firsts g.members →
      AreFirst (begun_by g client dest m o)
  first_begun g client dest m (Some code) firsts = record { firsts = firsts; due = tt }
  first_begun g client dest m None firsts = first_rest (record g {
    members = restarted g.members;
    asked = Some (record { client = client; message = m });
    notes = [];
    waiting = Some (record { client = client; dest = dest });
  }) (firsts_restarted g.members firsts)

  first_send : (g : Group) (client : Pid) (dest : ℕ) (o : Option Message) → Firsts g.members → AreFirst (loaded_send g client dest o)
  first_send g client dest None firsts = record { firsts = firsts; due = tt }
  first_send g client dest (Some m) firsts = first_begun g client dest m (verdict g m) firsts

  first_report : (g : Group) (number : ℕ) (helper : Pid) (replied : Bool) (o : Option Message) → Firsts g.members →
      AreFirst (loaded_result g number helper replied o)
  first_report g number helper replied None firsts = record { firsts = firsts; due = tt }
  first_report g number helper replied (Some m) firsts = record {
    firsts = firsts_changed g.members number (λ m. record m { work = work_of replied }) (λ m is ready. firsts number m is ready) firsts;
    due = tt;
  }

  first_at : (stage : Stage) (g : Group) (a : Answer) → pairs_of g.members ≡ pairs → Firsts g.members → IsFirstDue stage →
      AreFirst (answered_at stage g a)
  first_at stages.Receive g a same firsts due = first_heard g a same firsts
  first_at (stages.LoadSend client dest) g a same firsts due = first_send g client dest (message_in a) firsts
  first_at (stages.LoadResult number helper replied) g a same firsts due = first_report g number helper replied (message_in a) firsts
  first_at (stages.Refuse to code counts) g a same firsts due = first_rest (record g { left = left_after counts g.left }) firsts
  first_at (stages.Thank helper) g a same firsts due = first_rest g firsts
  first_at (stages.StoreJob j) g a same firsts due = record { firsts = firsts; due = due }
  first_at (stages.GiveJob j) g a same firsts due =
      first_rest (record g { members = given j.member g.members })
      (firsts_changed g.members j.member (λ m. record m { ready = None; work = works.Given })
      (λ m is ready. absurd (both_ways false refl ready)) firsts)
  first_at (stages.StoreReply w n) g a same firsts due = record { firsts = firsts; due = tt }
  first_at (stages.HandOver w n) g a same firsts due = first_rest (wait_over (record g { notes = notes_after a g.notes })) firsts
  first_at (stages.EndWait client code) g a same firsts due = first_rest (wait_over g) firsts
  first_at (stages.Tell number helper) g a same firsts due =
      first_rest (record g { members = told number g.members })
      (firsts_changed g.members number (λ m. record m { ready = None; told = true })
      (λ m is ready. absurd (both_ways false refl ready)) firsts)
  first_at stages.Exit g a same firsts due = record { firsts = firsts; due = tt }
  first_at stages.Ended g a same firsts due = record { firsts = firsts; due = tt }

  first_from : (g : Group) (given : List Answer) → pairs_of g.members ≡ pairs → AreFirst g → AreFirst (answered_all g given)
  first_from g [] same f = f
  first_from g (a ∷ later) same f =
      first_from (answered g a) later (constant_at g.stage g a ∙ same) (first_at g.stage g a same f.firsts f.due)

  -- of every coordinator, after all its answers
  pub are_first : (replies : ℕ) (given : List Answer) → AreFirst (group_after pairs replies given)
  are_first replies given =
      first_from (new_group pairs replies) given (pairs_new pairs) (first_rest (record {
        members = map new_member pairs;
        asked = None;
        notes = [];
        waiting = None;
        left = replies;
        stage = stages.Receive;
      }) firsts_new)
