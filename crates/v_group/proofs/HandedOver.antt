-- A reply that a coordinator handed over is one that it heard of, at a place where it called.
use Rattle.std.proofs.Common.{◌≡◌, ◌⊎◌, ℕ, zero, suc, List, [], ◌∷◌, ◌++◌, slice_get, Option, Some, None, refl, sym, ap, subst, ◌∙◌, inl, inr}
use Rattle.std.specs.Prelude.{option_map}
use Rattle.std.specs.List.{cons_option, filter_map}
use Rattle.std.proofs.lemmas.Option.{same_Some, none-some}
use Rattle.vk_types.specs.Types.{Answer, Message, Pid, ProcessSpec, Step}
use Rattle.vk_base.specs.Kernel.{initial_kernel}
use Rattle.vk_base.specs.Steps.{Run, run}
use Rattle.vk_group.specs.declared.notes.Note.{Note}
use Rattle.vk_group.specs.declared.stage.OpenSend.{OpenSend}
use Rattle.vk_event.specs.declared.pair.HelperPair.{HelperPair}
use Rattle.vk_group.specs.Accounts.{Account, Began, Deed, Gave, Handed, Heard, Report, account_after, accounted, note_in}
use Rattle.vk_group.proofs.Told.{handed_over_once}
use Rattle.v_pages.specs.Followed.{answers_before}
use Rattle.v_group.specs.Grouped.{HandedOverAreMembers, IsGroup, IsMemberReply}
use Rattle.v_group.proofs.Replies.{replies_members}
use Rattle.v_group.proofs.SameSend.{report_done}
use Rattle.v_group.proofs.Since.{IsDoneSince, done_since, done_joined}
use Rattle.v_group.proofs.Working.{gave_not, handed_not, heard_not}

-- What stands in a list.
none_at : {A : Type 0} (l : ℕ) (x : A) → (let none : List A = [] in slice_get none l ≡ Some x) → ⊥
none_at zero x e = none-some x e
none_at (suc l) x e = none-some x e

last_or : {A : Type 0} (xs : List A) (y : A) (l : ℕ) (x : A) → slice_get (xs ++ y ∷ []) l ≡ Some x → (slice_get xs l ≡ Some x) ⊎ (y ≡ x)
last_or [] y zero x e = inr (same_Some y x e)
last_or [] y (suc l) x e = absurd (none_at l x e)
last_or (z ∷ zs) y zero x e = inl e
last_or (z ∷ zs) y (suc l) x e = last_or zs y l x e

at_front : {A : Type 0} (xs ys : List A) (l : ℕ) (x : A) → slice_get xs l ≡ Some x → slice_get (xs ++ ys) l ≡ Some x
at_front [] ys l x e = absurd (none_at l x e)
at_front (z ∷ zs) ys zero x e = e
at_front (z ∷ zs) ys (suc l) x e = at_front zs ys l x e

-- a reply among the reports
record IsReportIn (rs : List Report) (n : Note) : Type 0 where
  place : ℕ
  report : Report
  is : slice_get rs place ≡ Some report
  noted : note_in report ≡ Some n

report_later : (r : Report) (rs : List Report) (n : Note) → IsReportIn rs n → IsReportIn (r ∷ rs) n
report_later r rs n x = record { place = suc x.place; report = x.report; is = x.is; noted = x.noted }

report_by : (r : Report) (rs : List Report) (n : Note) (l : ℕ) (o : Option Note) → note_in r ≡ o →
    slice_get (cons_option o (filter_map note_in rs)) l ≡ Some n →
    ((m : ℕ) → slice_get (filter_map note_in rs) m ≡ Some n → IsReportIn rs n) → IsReportIn (r ∷ rs) n
report_by r rs n l None is e again = report_later r rs n (again l e)
report_by r rs n zero (Some m) is e again = record { place = 0; report = r; is = refl; noted = is ∙ e }
report_by r rs n (suc l) (Some m) is e again = report_later r rs n (again l e)

report_in : (rs : List Report) (n : Note) (l : ℕ) → slice_get (filter_map note_in rs) l ≡ Some n → IsReportIn rs n
report_in [] n l e = absurd (none_at l n e)
report_in (r ∷ rs) n l e = report_by r rs n l (note_in r) refl e (λ m. report_in rs n m)

abbrev as_note : ℕ → Message → Note
as_note number m = record { member = number; message = m }

noted_as : (number : ℕ) (o : Option Message) (n : Note) → option_map (as_note number) o ≡ Some n →
    (number ≡ n.member) × (o ≡ Some n.message)
noted_as number None n e = absurd (none-some n e)
noted_as number (Some m) n e =
    let same : as_note number m ≡ n = same_Some (as_note number m) n e in
    (ap (λ (z : Note). z.member) same, ap (λ (z : Note). Some z.message) same)

-- a report is in the account where it was there before, and no group Send begins, or where it is made
reports_or : (h : Account) (o : Option Deed) (l : ℕ) (r : Report) → slice_get (accounted h o).reports l ≡ Some r →
    ((slice_get h.reports l ≡ Some r) × ((asked : OpenSend) → o ≡ Some (Began asked) → ⊥)) ⊎ (o ≡ Some (Heard r))
reports_or h None l r e = inl (e, λ asked is. none-some (Began asked) is)
reports_or h (Some (Began a)) l r e = absurd (none_at l r e)
reports_or h (Some (Gave number)) l r e = inl (e, λ asked is. gave_not number asked (same_Some (Gave number) (Began asked) is))
reports_or h (Some (Heard x)) l r e = elim (last_or h.reports x l r e) [
  | inl old ↦ inl (old, λ asked is. heard_not x asked (same_Some (Heard x) (Began asked) is))
  | inr new ↦ inr (ap (λ z. Some (Heard z)) new)
]
reports_or h (Some (Handed n)) l r e = inl (e, λ asked is. handed_not n asked (same_Some (Handed n) (Began asked) is))

module _ (specs : List ProcessSpec) (ss : List Step) (whole : Run) (r : Pid) (pairs : List HelperPair) (replies : ℕ)
    (g : run (initial_kernel specs) ss ≡ Some whole) (all : IsGroup specs ss r pairs replies) where
  heard_by : (i l : ℕ) (heard : Report) →
      slice_get (account_after pairs replies (answers_before specs ss r i)).reports l ≡ Some heard →
      IsDoneSince specs ss r pairs replies i (Heard heard)
  heard_by i l heard = done_since specs ss r pairs replies all.coordinator (λ (h : Account). slice_get h.reports l ≡ Some heard) (Heard heard)
      (λ h o. reports_or h o l heard) (λ j a is deed. report_done specs ss whole r pairs replies g all j a heard is deed)
      (none_at l heard) i

-- a reply that was handed over is in a report
record IsHeardOf (h : Account) (n : Note) : Type 0 where
  place : ℕ
  report : Report
  is : slice_get h.reports place ≡ Some report
  member : report.member ≡ n.member
  message : report.reply ≡ Some n.message

handed_heard : (pairs : List HelperPair) (replies : ℕ) (given : List Answer) (l : ℕ) (n : Note) →
    slice_get (account_after pairs replies given).handed_over l ≡ Some n → IsHeardOf (account_after pairs replies given) n
handed_heard pairs replies given l n e =
    let h = account_after pairs replies given in
    let once = handed_over_once pairs replies given in
    let x = report_in h.reports n l (ap (λ ns. slice_get ns l) (sym once.reported) ∙ at_front h.handed_over once.later l n e) in
    let both = noted_as x.report.member x.report.reply n x.noted in
    record { place = x.place; report = x.report; is = x.is; member = both.0; message = both.1 }

pub handed_over_members : HandedOverAreMembers
handed_over_members specs ss whole r pairs replies i l n g all e =
    let x = handed_heard pairs replies (answers_before specs ss r i) l n e in
    let h = heard_by specs ss whole r pairs replies g all i x.place x.report x.is in
    let m : IsMemberReply specs ss r pairs replies h.place n =
    subst (λ z. IsMemberReply specs ss r pairs replies h.place (record { member = z; message = n.message })) x.member
    (replies_members specs ss whole r pairs replies h.place x.report n.message g all h.done x.message) in
    (h.place, h.earlier, m, done_joined specs ss r pairs replies m.given.current.begun i (Heard x.report) h m.same (heard_not x.report))
