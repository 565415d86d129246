-- What an account and the members have in common, and that every answer keeps it.
use Rattle.std.proofs.Common.{◌≡◌, ℕ, zero, suc, Bool, true, false, eqb, List, [], ◌∷◌, ◌++◌, map, drop, Option, Some, None, refl, ap, sym, subst, ◌∙◌, append-nil, append_assoc}
use Rattle.std.specs.Prelude.{IfSome, option_map, slice_get}
use Rattle.std.specs.List.{IsDistinct, filter_map}
use Rattle.std.proofs.lemmas.Bool.{cond_both}
use Rattle.std.proofs.lemmas.List.{map_push}
use Rattle.std.proofs.lemmas.List.Elements.{filter_map-append}
use Rattle.vk_types.specs.Types.{Answer, Message, Pid}
use Rattle.vk_base.specs.declared.answer.Answer.TheVariants as answers
use Rattle.vk_group.specs.declared.code.Code.{Code}
use Rattle.vk_group.specs.declared.code.Code.TheVariants as codes
use Rattle.vk_group.specs.declared.group.Group.{Group}
use Rattle.vk_group.specs.declared.member.Member.{Member}
use Rattle.vk_group.specs.declared.member.Progress.TheVariants as works
use Rattle.vk_group.specs.declared.member.Progress.{Progress}
use Rattle.vk_group.specs.declared.notes.Note.{Note}
use Rattle.vk_event.specs.declared.pair.HelperPair.{HelperPair}
use Rattle.vk_group.specs.declared.request.Request.{Request}
use Rattle.vk_group.specs.declared.request.Request.TheVariants as requests
use Rattle.vk_group.specs.declared.stage.OpenSend.{OpenSend}
use Rattle.vk_group.specs.declared.stage.Stage.{Stage}
use Rattle.vk_group.specs.declared.stage.Stage.TheVariants as stages
use Rattle.vk_group.specs.Accounts.{Account, Report, accounted, account_from, account_after, began, deed_at, deed_of, hands, loaded, note_in, note_member, nothing_for, report_member, report_of}
use Rattle.vk_group.specs.Groups.{answered, answered_all, answered_at, begun_by, group_after, heard, is_ending, left_after, loaded_result, loaded_send, new_group, notes_after, number_of, ready_from, refused, refused_as, rest, result_from, taken, verdict, wait_over}
use Rattle.vk_group.specs.Members.{given, holds_job, is_given, made_ready, new_member, reported, restarted, told}
use Rattle.vk_group.specs.Messages.{message_in, request_in}
use Rattle.vk_group.proofs.Amounts.{AreAlike, AreThose, one_more, push_distinct, still}
use Rattle.vk_group.proofs.Staged.{IsStaged, IsCodeRight, next_staged, verdict_staged}
use Rattle.vk_group.proofs.Works.{none_done, none_given, none_replied, others_given, others_reported, was_done, was_given, was_replied, work_at, work_given, work_in, work_made_ready, work_reported, work_told}

-- The members that were given the job, reported and replied are those of the account. The replies among the reports are those that were
-- handed over and those that are left, in this order.
pub record Books (ms : List Member) (notes : List Note) (h : Account) : Type 0 where
  pub jobs_apart : IsDistinct eqb h.jobs
  pub jobs_are : AreThose was_given h.jobs ms
  pub reports_apart : IsDistinct eqb (map report_member h.reports)
  pub reports_are : AreThose was_done (map report_member h.reports) ms
  pub replies_apart : IsDistinct eqb (map note_member (h.handed_over ++ notes))
  pub replies_are : AreThose was_replied (map note_member (h.handed_over ++ notes)) ms
  pub whole : h.handed_over ++ notes ≡ filter_map note_in h.reports

-- nothing was done yet
books_none : (o : Option OpenSend) (ms : List Member) → ((i : ℕ) → was_given (work_at ms i) ≡ false) →
    ((i : ℕ) → was_done (work_at ms i) ≡ false) → ((i : ℕ) → was_replied (work_at ms i) ≡ false) → Books ms [] (nothing_for o)
unfolding IsDistinct
books_none o ms given done replied = record {
  jobs_apart = tt;
  jobs_are = λ i. sym (given i);
  reports_apart = tt;
  reports_are = λ i. sym (done i);
  replies_apart = tt;
  replies_are = λ i. sym (replied i);
  whole = refl;
}

-- a change that is none of any member's work
books_same : (ms new : List Member) (notes : List Note) (h : Account) → ((i : ℕ) → work_at new i ≡ work_at ms i) → Books ms notes h →
    Books new notes h
books_same ms new notes h same b = record {
  jobs_apart = b.jobs_apart;
  jobs_are = λ i. b.jobs_are i ∙ ap was_given (sym (same i));
  reports_apart = b.reports_apart;
  reports_are = λ i. b.reports_are i ∙ ap was_done (sym (same i));
  replies_apart = b.replies_apart;
  replies_are = λ i. b.replies_are i ∙ ap was_replied (sym (same i));
  whole = b.whole;
}

-- a job is given
books_given : (ms : List Member) (notes : List Note) (h : Account) (n : ℕ) → work_at ms n ≡ Some works.Open → Books ms notes h →
    Books (given n ms) notes (record h { jobs = h.jobs ++ n ∷ [] })
books_given ms notes h n is b =
    let now = work_given ms n is in
    let others = others_given ms n in
    record {
      jobs_apart = push_distinct h.jobs n b.jobs_apart (b.jobs_are n ∙ ap was_given is);
      jobs_are = one_more was_given h.jobs n ms (given n ms) others (ap was_given now) b.jobs_are;
      reports_apart = b.reports_apart;
      reports_are =
          still was_done (map report_member h.reports) n ms (given n ms) others (ap was_done now ∙ sym (ap was_done is)) b.reports_are;
      replies_apart = b.replies_apart;
      replies_are =
          still was_replied (map note_member (h.handed_over ++ notes)) n ms (given n ms) others
          (ap was_replied now ∙ sym (ap was_replied is)) b.replies_are;
      whole = b.whole;
    }

-- a reply is reported
books_replied : (ms : List Member) (notes : List Note) (h : Account) (n : ℕ) (m : Message) → work_at ms n ≡ Some works.Given →
    Books ms notes h →
    Books (reported n true ms) (notes ++ record { member = n; message = m } ∷ [])
    (record h { reports = h.reports ++ record { member = n; reply = Some m } ∷ [] })
books_replied ms notes h n m is b =
    let note : Note = record { member = n; message = m } in
    let report : Report = record { member = n; reply = Some m } in
    let new = reported n true ms in
    let now = work_reported ms n true is in
    let others : AreAlike ms new n = λ i. others_reported ms n i true in
    let reports = map_push report_member h.reports report in
    let more : h.handed_over ++ (notes ++ note ∷ []) ≡ h.handed_over ++ notes ++ note ∷ [] =
    sym (append_assoc h.handed_over notes (note ∷ [])) in
    let numbers = ap (map note_member) more ∙ map_push note_member (h.handed_over ++ notes) note in
    record {
      jobs_apart = b.jobs_apart;
      jobs_are = still was_given h.jobs n ms new others (ap was_given now ∙ sym (ap was_given is)) b.jobs_are;
      reports_apart =
          subst (IsDistinct eqb) (sym reports)
          (push_distinct (map report_member h.reports) n b.reports_apart (b.reports_are n ∙ ap was_done is));
      reports_are =
          subst (λ ns. AreThose was_done ns new) (sym reports)
          (one_more was_done (map report_member h.reports) n ms new others (ap was_done now) b.reports_are);
      replies_apart =
          subst (IsDistinct eqb) (sym numbers)
          (push_distinct (map note_member (h.handed_over ++ notes)) n b.replies_apart (b.replies_are n ∙ ap was_replied is));
      replies_are =
          subst (λ ns. AreThose was_replied ns new) (sym numbers)
          (one_more was_replied (map note_member (h.handed_over ++ notes)) n ms new others (ap was_replied now) b.replies_are);
      whole = more ∙ ap (λ ns. ns ++ note ∷ []) b.whole ∙ sym (filter_map-append note_in h.reports (report ∷ []));
    }

-- that there is none is reported
books_failed : (ms : List Member) (notes : List Note) (h : Account) (n : ℕ) → work_at ms n ≡ Some works.Given → Books ms notes h →
    Books (reported n false ms) notes (record h { reports = h.reports ++ record { member = n; reply = None } ∷ [] })
books_failed ms notes h n is b =
    let report : Report = record { member = n; reply = None } in
    let new = reported n false ms in
    let now = work_reported ms n false is in
    let others : AreAlike ms new n = λ i. others_reported ms n i false in
    let reports = map_push report_member h.reports report in
    record {
      jobs_apart = b.jobs_apart;
      jobs_are = still was_given h.jobs n ms new others (ap was_given now ∙ sym (ap was_given is)) b.jobs_are;
      reports_apart =
          subst (IsDistinct eqb) (sym reports)
          (push_distinct (map report_member h.reports) n b.reports_apart (b.reports_are n ∙ ap was_done is));
      reports_are =
          subst (λ ns. AreThose was_done ns new) (sym reports)
          (one_more was_done (map report_member h.reports) n ms new others (ap was_done now) b.reports_are);
      replies_apart = b.replies_apart;
      replies_are =
          still was_replied (map note_member (h.handed_over ++ notes)) n ms new others
          (ap was_replied now ∙ sym (ap was_replied is)) b.replies_are;
      whole =
          b.whole ∙ sym (append-nil (filter_map note_in h.reports)) ∙ sym (filter_map-append note_in h.reports (report ∷ []));
    }

-- the earliest reply is handed over
books_handed : (ms : List Member) (notes : List Note) (h : Account) (n : Note) → notes ≡ n ∷ drop 1 notes → Books ms notes h →
    Books ms (drop 1 notes) (record h { handed_over = h.handed_over ++ n ∷ [] })
books_handed ms notes h n is b =
    let same : (h.handed_over ++ n ∷ []) ++ drop 1 notes ≡ h.handed_over ++ notes =
    append_assoc h.handed_over (n ∷ []) (drop 1 notes) ∙ ap (λ ns. h.handed_over ++ ns) (sym is) in
    record {
      jobs_apart = b.jobs_apart;
      jobs_are = b.jobs_are;
      reports_apart = b.reports_apart;
      reports_are = b.reports_are;
      replies_apart = subst (λ ns. IsDistinct eqb (map note_member ns)) (sym same) b.replies_apart;
      replies_are = subst (λ ns. AreThose was_replied (map note_member ns) ms) (sym same) b.replies_are;
      whole = same ∙ b.whole;
    }

-- A group keeps its books where they are right and it does what they allow.
pub record KeepsBooks (h : Account) (g : Group) : Type 0 where
  pub books : Books g.members g.notes h
  pub staged : IsStaged g.members g.notes g.stage

kept_rest : (g : Group) (h : Account) → Books g.members g.notes h → KeepsBooks h (rest g)
kept_rest g h b = record { books = b; staged = next_staged g }

kept_refused : (g : Group) (h : Account) (to : Pid) (code : Code) (counts : Bool) → Books g.members g.notes h →
    IsCodeRight g.members g.notes code → KeepsBooks h (refused g to code counts)
kept_refused g h to code counts b is = record { books = b; staged = is }

-- a request

kept_ready : (g : Group) (h : Account) (from : Pid) (dest : ℕ) (o : Option ℕ) → Books g.members g.notes h →
    KeepsBooks h (ready_from g from dest o)
kept_ready g h from dest None b = record { books = b; staged = tt }
kept_ready g h from dest (Some n) b =
    kept_rest (record g { members = made_ready n dest g.members }) h
    (books_same g.members (made_ready n dest g.members) g.notes h (work_made_ready g.members n dest) b)

given_is : (w : Progress) → is_given w ≡ true → w ≡ works.Given
given_is works.Open e = cc
given_is works.Given e = refl
given_is works.Replied e = cc
given_is works.Failed e = cc

holds_is : (o : Option Member) → holds_job o ≡ true → option_map work_in o ≡ Some works.Given
holds_is None e = cc
holds_is (Some m) e = ap Some (given_is m.work e)

kept_result : (g : Group) (h : Account) (from : Pid) (replied : Bool) (o : Option ℕ) → Books g.members g.notes h →
    KeepsBooks h (result_from g from replied o)
kept_result g h from replied None b = record { books = b; staged = tt }
kept_result g h from replied (Some n) b =
    cond_both (holds_job (slice_get g.members n)) (record g { stage = stages.LoadResult n from replied }) (refused_as g from (Some n))
    (KeepsBooks h) (λ e. record { books = b; staged = holds_is (slice_get g.members n) e }) (λ f. record { books = b; staged = tt })

kept_taken : (g : Group) (h : Account) (from : Pid) (request : Request) → Books g.members g.notes h → KeepsBooks h (taken g from request)
kept_taken g h from (requests.GroupSend dest) b =
    cond_both (is_ending g) (refused g from codes.Bad true) (record g { stage = stages.LoadSend from dest }) (KeepsBooks h)
    (λ t. record { books = b; staged = tt }) (λ f. record { books = b; staged = tt })
kept_taken g h from (requests.GetReply dest) b =
    cond_both _ (refused g from codes.Bad true) (rest (record g { waiting = Some (record { client = from; dest = dest }) })) (KeepsBooks h)
    (λ t. record { books = b; staged = tt }) (λ f. kept_rest (record g { waiting = Some (record { client = from; dest = dest }) }) h b)
kept_taken g h from (requests.Ready dest) b = kept_ready g h from dest (number_of g from) b
kept_taken g h from (requests.Result replied) b = kept_result g h from replied (number_of g from) b
kept_taken g h from requests.Bad b = record { books = b; staged = tt }

kept_heard : (g : Group) (h : Account) (a : Answer) → Books g.members g.notes h → KeepsBooks h (heard g a)
kept_heard g h (answers.ReceivedSegment from m count) b = kept_taken g h from (request_in m count) b
kept_heard g h _ b = record { books = b; staged = tt }

-- the message of a group Send, or what a member replied

kept_begun : (g : Group) (h : Account) (client : Pid) (dest : ℕ) (m : Message) (o : Option Code) → IfSome o (IsCodeRight g.members g.notes) →
    Books g.members g.notes h → KeepsBooks (accounted h (began client m o)) (begun_by g client dest m o)
kept_begun g h client dest m None is b =
    kept_rest (record g {
      members = restarted g.members;
      asked = Some (record { client = client; message = m });
      notes = [];
      waiting = Some (record { client = client; dest = dest });
    }) (nothing_for (Some (record { client = client; message = m })))
    (books_none (Some (record { client = client; message = m })) (restarted g.members) (none_given g.members)
    (none_done g.members) (none_replied g.members))
kept_begun g h client dest m (Some code) is b = kept_refused g h client code true b is

kept_send : (g : Group) (h : Account) (client : Pid) (dest : ℕ) (o : Option Message) → Books g.members g.notes h →
    KeepsBooks (accounted h (loaded g client o)) (loaded_send g client dest o)
kept_send g h client dest None b = record { books = b; staged = tt }
kept_send g h client dest (Some m) b = kept_begun g h client dest m (verdict g m) (verdict_staged g m) b

kept_report : (g : Group) (h : Account) (n : ℕ) (helper : Pid) (replied : Bool) (o : Option Message) →
    work_at g.members n ≡ Some works.Given → Books g.members g.notes h →
    KeepsBooks (accounted h (option_map (report_of n replied) o)) (loaded_result g n helper replied o)
kept_report g h n helper replied None is b = record { books = b; staged = tt }
kept_report g h n helper true (Some m) is b = record { books = books_replied g.members g.notes h n m is b; staged = tt }
kept_report g h n helper false (Some m) is b = record { books = books_failed g.members g.notes h n is b; staged = tt }

-- a reply of a member went to a client
kept_handed : (g : Group) (h : Account) (n : Note) (a : Answer) → g.notes ≡ n ∷ drop 1 g.notes → Books g.members g.notes h →
    KeepsBooks (accounted h (hands n a)) (rest (wait_over (record g { notes = notes_after a g.notes })))
kept_handed g h n answers.Ok is b =
    kept_rest (wait_over (record g { notes = drop 1 g.notes })) (record h { handed_over = h.handed_over ++ n ∷ [] })
    (books_handed g.members g.notes h n is b)
kept_handed g h n _ is b = kept_rest (wait_over g) h b

-- every answer keeps the books

kept_at : (stage : Stage) (g : Group) (h : Account) (a : Answer) → Books g.members g.notes h → IsStaged g.members g.notes stage →
    KeepsBooks (accounted h (deed_at stage g a)) (answered_at stage g a)
kept_at stages.Receive g h a b is = kept_heard g h a b
kept_at (stages.LoadSend client dest) g h a b is = kept_send g h client dest (message_in a) b
kept_at (stages.LoadResult number helper replied) g h a b is = kept_report g h number helper replied (message_in a) is b
kept_at (stages.Refuse to code counts) g h a b is = kept_rest (record g { left = left_after counts g.left }) h b
kept_at (stages.Thank helper) g h a b is = kept_rest g h b
kept_at (stages.StoreJob j) g h a b is = record { books = b; staged = is }
kept_at (stages.GiveJob j) g h a b is =
    kept_rest (record g { members = given j.member g.members }) (record h { jobs = h.jobs ++ j.member ∷ [] })
    (books_given g.members g.notes h j.member is b)
kept_at (stages.StoreReply w n) g h a b is = record { books = b; staged = is }
kept_at (stages.HandOver w n) g h a b is = kept_handed g h n a is b
kept_at (stages.EndWait client code) g h a b is = kept_rest (wait_over g) h b
kept_at (stages.Tell number helper) g h a b is =
    kept_rest (record g { members = told number g.members }) h
    (books_same g.members (told number g.members) g.notes h (work_told g.members number) b)
kept_at stages.Exit g h a b is = record { books = b; staged = tt }
kept_at stages.Ended g h a b is = record { books = b; staged = tt }

kept_from : (g : Group) (h : Account) (given : List Answer) → KeepsBooks h g → KeepsBooks (account_from g h given) (answered_all g given)
kept_from g h [] k = k
kept_from g h (a ∷ rest) k = kept_from (answered g a) (accounted h (deed_of g a)) rest (kept_at g.stage g h a k.books k.staged)

new_given : (pairs : List HelperPair) (i : ℕ) → was_given (work_at (map new_member pairs) i) ≡ false
new_given [] i = refl
new_given (p ∷ ps) zero = refl
new_given (p ∷ ps) (suc i) = new_given ps i

new_done : (pairs : List HelperPair) (i : ℕ) → was_done (work_at (map new_member pairs) i) ≡ false
new_done [] i = refl
new_done (p ∷ ps) zero = refl
new_done (p ∷ ps) (suc i) = new_done ps i

new_replied : (pairs : List HelperPair) (i : ℕ) → was_replied (work_at (map new_member pairs) i) ≡ false
new_replied [] i = refl
new_replied (p ∷ ps) zero = refl
new_replied (p ∷ ps) (suc i) = new_replied ps i

-- of every coordinator, after all its answers
pub kept : (pairs : List HelperPair) (requests : ℕ) (given : List Answer) →
    KeepsBooks (account_after pairs requests given) (group_after pairs requests given)
kept pairs requests given =
    kept_from (new_group pairs requests) (nothing_for None) given
    (kept_rest (record {
      members = map new_member pairs;
      asked = None;
      notes = [];
      waiting = None;
      left = requests;
      stage = stages.Receive;
    }) (nothing_for None) (books_none None (map new_member pairs) (new_given pairs) (new_done pairs) (new_replied pairs)))
