-- A line that is read as a step follows a form of traces.
use Rattle.std.proofs.Common.{◌≡◌, ℕ, nat_le, true, false, List, [], ◌∷◌, ◌++◌, codes, decimal, is_some, Option, Some, None, zero, suc, Bool, ◌||◌, refl, ap, ◌∙◌, arith}
use Rattle.std.specs.Option.{option_map_or}
use Rattle.hex.specs.Hex.{decode_pairs}
use Rattle.std.proofs.lemmas.Bool.{le-leb}
use Rattle.vk_types.specs.Types.{Call, Message, Pid, ProcessSpec, Step}
use Rattle.vk_base.specs.Settings.{has_process}
use Rattle.vk_base.specs.Pids.{IsPid}
use Rattle.vk_base.specs.Messages.{IsMessage}
use Rattle.vk_base.specs.declared.answer.Ending.TheVariants as endings
use Rattle.vk_base.specs.declared.call.Call.TheVariants as calls
use Rattle.vk_base.specs.declared.call.Scope.TheVariants as scopes
use Rattle.vk_base.specs.declared.step.Step.TheVariants as steps
use Rattle.vk_text.specs.Laws.{IsCount, IsData, IsOrdinal, IsReadable}
use Rattle.vk_text.specs.Lines.{StartsNoWord, words_from}
use Rattle.vk_text.specs.Spelling.{bytes_text, call_words, message_text, pid_text}
use Rattle.vk_text.specs.Words.{bytes_of, message_of, number_of, pid_of}
use Rattle.vk_text.proofs.ByteLists.{all_bytes}
use Rattle.vk_text.proofs.Messages.{messages}
use Rattle.vk_text.proofs.Spelled.{number_read, pids}
use Rattle.v_trace.specs.Laws.{IsLawfulStep}
use Rattle.v_trace.specs.Texts.{step_words}
use Rattle.v_trace.proofs.StepWords.{step_spelled}
use Rattle.vk_forms.specs.declared.slot.SlotKind.TheVariants as kinds
use Rattle.vk_forms.specs.declared.table.TextKind.TheVariants as texts
use Rattle.vk_forms.specs.Follow.{follows, is_whole, stop, stop_behind, stop_of}
use Rattle.vk_forms.specs.Forms.{Form, forms_of}
use Rattle.vk_forms.specs.Laws.{AllFit, StepsFollowForms}
use Rattle.vk_forms.specs.Slots.{fits, fits_kind, kind_of}
use Rattle.vk_forms.proofs.Following.{form_ends}

-- Words of each kind.

no_pid : pid_of [] ≡ None
unfolding pid_of
no_pid = refl

no_message : message_of [] ≡ None
unfolding message_of decode_pairs
no_message = refl

no_bytes : bytes_of [] ≡ None
unfolding bytes_of decode_pairs
no_bytes = refl

no_number : (most : ℕ) → number_of most [] ≡ None
unfolding number_of
no_number most = refl

pid_word : (specs : List ProcessSpec) (word : List ℕ) (p : Pid) → pid_of word ≡ Some p → fits specs (codes "PID") word ≡ true
unfolding fits kind_of
pid_word specs [] p h = let e = no_pid in cc
pid_word specs (b ∷ bs) p h = ap is_some h

process_word : (specs : List ProcessSpec) (word : List ℕ) (p : Pid) → pid_of word ≡ Some p → has_process specs p ≡ true
    → fits specs (codes "PROCESS") word ≡ true
unfolding fits kind_of
process_word specs [] p h t = let e = no_pid in cc
process_word specs (b ∷ bs) p h t = ap (λ o. option_map_or (has_process specs) o false) h ∙ t

message_word : (specs : List ProcessSpec) (word : List ℕ) (m : Message) → message_of word ≡ Some m → fits specs (codes "MESSAGE") word ≡ true
unfolding fits kind_of
message_word specs [] m h = let e = no_message in cc
message_word specs (b ∷ bs) m h = ap is_some h

bytes_word : (specs : List ProcessSpec) (word bytes : List ℕ) → bytes_of word ≡ Some bytes → fits specs (codes "BYTES") word ≡ true
unfolding fits kind_of
bytes_word specs [] bytes h = let e = no_bytes in cc
bytes_word specs (b ∷ bs) bytes h = ap is_some h

number_word : (specs : List ProcessSpec) (slot word : List ℕ) (least most n : ℕ) → kind_of slot ≡ kinds.Number least most
    → number_of most word ≡ Some n → nat_le least n ≡ true → fits specs slot word ≡ true
unfolding fits
number_word specs slot [] least most n k h t = let e = no_number most in cc
number_word specs slot (b ∷ bs) least most n k h t =
    ap (λ kind. fits_kind specs kind slot (b ∷ bs)) k ∙ (ap (λ o. option_map_or (nat_le least) o false) h ∙ t)

a_pid : (specs : List ProcessSpec) (p : Pid) → IsPid p → fits specs (codes "PID") (pid_text p) ≡ true
a_pid specs p h = pid_word specs (pid_text p) p ((pids p (pid_text p) h).1 refl)

a_process : (specs : List ProcessSpec) (p : Pid) → IsPid p → has_process specs p ≡ true → fits specs (codes "PROCESS") (pid_text p) ≡ true
a_process specs p h t = process_word specs (pid_text p) p ((pids p (pid_text p) h).1 refl) t

a_message : (specs : List ProcessSpec) (m : Message) → IsMessage m → fits specs (codes "MESSAGE") (message_text m) ≡ true
a_message specs m h = message_word specs (message_text m) m ((messages m (message_text m) h).1 refl)

some_bytes : (specs : List ProcessSpec) (bytes : List ℕ) → IsData bytes → fits specs (codes "BYTES") (bytes_text bytes) ≡ true
some_bytes specs bytes h = bytes_word specs (bytes_text bytes) bytes ((all_bytes bytes (bytes_text bytes) h).1 refl)

a_count : (specs : List ProcessSpec) (n : ℕ) → IsCount n → fits specs (codes "COUNT") (decimal n) ≡ true
unfolding kind_of
a_count specs n h =
    number_word specs (codes "COUNT") (decimal n) 0 4294967295 n refl (number_read 4294967295 n (omega arith) (omega arith)) (le-leb 0 n (omega arith))

a_number : (specs : List ProcessSpec) (n : ℕ) → IsOrdinal n → fits specs (codes "NUMBER") (decimal n) ≡ true
unfolding kind_of
a_number specs n h =
    number_word specs (codes "NUMBER") (decimal n) 1 9223372036854775807 n refl
    (number_read 9223372036854775807 n (omega arith) (omega arith)) (le-leb 1 n (omega arith))

-- The form at a place.

all_follow : (specs : List ProcessSpec) (ss ws : List (List ℕ)) → AllFit specs ss ws → stop specs ss ws ≡ record { slot = []; left = [] }
unfolding stop
all_follow specs [] [] h = refl
all_follow specs (s ∷ ss) (w ∷ ws) h = rw (h.0) (all_follow specs ss ws h.1)
all_follow specs [] (w ∷ ws) h = absurd h
all_follow specs (s ∷ ss) [] h = absurd h

front_follows : (specs : List ProcessSpec) (ss us vs : List (List ℕ)) → AllFit specs ss us → stop specs ss (us ++ vs) ≡ record { slot = []; left = vs }
unfolding stop
front_follows specs [] [] vs h = refl
front_follows specs (s ∷ ss) (u ∷ us) vs h = rw (h.0) (front_follows specs ss us vs h.1)
front_follows specs [] (u ∷ us) vs h = absurd h
front_follows specs (s ∷ ss) [] vs h = absurd h

abbrev at_place : List Form → ℕ → Option Form
at_place [] k = None
at_place (f ∷ fs) zero = Some f
at_place (f ∷ fs) (suc k) = at_place fs k

or_true : (b : Bool) → (b || true) ≡ true
or_true true = refl
or_true false = refl

follows_at : (specs : List ProcessSpec) (ws : List (List ℕ)) (fs : List Form) (k : ℕ) (f : Form) → at_place fs k ≡ Some f
    → stop_of specs f ws ≡ record { slot = []; left = [] } → follows specs ws fs ≡ true
unfolding follows
follows_at specs ws [] k f h e = cc
follows_at specs ws (g ∷ gs) zero f h e =
    let same : g ≡ f = cc in ap (λ s. is_whole s || follows specs ws gs) (ap (λ x. stop_of specs x ws) same ∙ e)
follows_at specs ws (g ∷ gs) (suc k) f h e =
    ap (λ b. is_whole (stop_of specs g ws) || b) (follows_at specs ws gs k f h e) ∙ or_true (is_whole (stop_of specs g ws))

no_front : StartsNoWord (words_from [] 0)
unfolding words_from
no_front = tt

call_fits_front : (specs : List ProcessSpec) (p : Pid) → IsPid p → has_process specs p ≡ true
    → AllFit specs (words_from (codes "call PROCESS") 0) (codes "call" ∷ pid_text p ∷ [])
unfolding words_from fits kind_of
call_fits_front specs p h t = (refl, (a_process specs p h t, tt))

plain : (specs : List ProcessSpec) (k : ℕ) (row : List ℕ) (ws : List (List ℕ)) → at_place (forms_of texts.Trace) k ≡ Some (record { front = []; row = row })
    → AllFit specs (words_from row 0) ws → follows specs ws (forms_of texts.Trace) ≡ true
plain specs k row ws h fit =
    follows_at specs ws (forms_of texts.Trace) k (record { front = []; row = row }) h
    (ap (λ s. stop_behind specs row s) (form_ends specs (words_from [] 0) ws no_front) ∙ all_follow specs (words_from row 0) ws fit)

called : (specs : List ProcessSpec) (k : ℕ) (row : List ℕ) (p : Pid) (ws : List (List ℕ))
    → at_place (forms_of texts.Trace) k ≡ Some (record { front = codes "call PROCESS"; row = row })
    → IsPid p → has_process specs p ≡ true → AllFit specs (words_from row 0) ws
    → follows specs (codes "call" ∷ pid_text p ∷ ws) (forms_of texts.Trace) ≡ true
called specs k row p ws h is_pid there fit =
    follows_at specs (codes "call" ∷ pid_text p ∷ ws) (forms_of texts.Trace) k (record { front = codes "call PROCESS"; row = row }) h
    (ap (λ s. stop_behind specs row s)
    (front_follows specs (words_from (codes "call PROCESS") 0) (codes "call" ∷ pid_text p ∷ []) ws (call_fits_front specs p is_pid there))
    ∙ all_follow specs (words_from row 0) ws fit)

call_follows : (specs : List ProcessSpec) (p : Pid) (call : Call) → IsPid p → has_process specs p ≡ true → IsReadable call
    → follows specs (codes "call" ∷ pid_text p ∷ call_words call) (forms_of texts.Trace) ≡ true
unfolding call_words words_from fits kind_of
call_follows specs p (calls.Send target message) h t r =
    called specs 2 (codes "send PID MESSAGE") p _ refl h t (refl, (a_pid specs target r.0, (a_message specs message r.1, tt)))
call_follows specs p calls.Receive h t r = called specs 3 (codes "receive") p _ refl h t (refl, tt)
call_follows specs p (calls.ReceiveSegment start count) h t r =
    called specs 4 (codes "receivesegment COUNT COUNT") p _ refl h t (refl, (a_count specs start r.0, (a_count specs count r.1, tt)))
call_follows specs p (calls.Reply message to) h t r =
    called specs 5 (codes "reply MESSAGE PID") p _ refl h t (refl, (a_message specs message r.0, (a_pid specs to r.1, tt)))
call_follows specs p (calls.ReplySegment message to dest src count) h t r =
    called specs 6 (codes "replysegment MESSAGE PID COUNT COUNT COUNT") p _ refl h t
    (refl, (a_message specs message r.0, (a_pid specs to r.1, (a_count specs dest r.2, (a_count specs src r.3, (a_count specs count r.4, tt))))))
call_follows specs p (calls.Forward message from to) h t r =
    called specs 7 (codes "forward MESSAGE PID PID") p _ refl h t
    (refl, (a_message specs message r.0, (a_pid specs from r.1, (a_pid specs to r.2, tt))))
call_follows specs p (calls.MoveTo partner dest src count) h t r =
    called specs 8 (codes "moveto PID COUNT COUNT COUNT") p _ refl h t
    (refl, (a_pid specs partner r.0, (a_count specs dest r.1, (a_count specs src r.2, (a_count specs count r.3, tt)))))
call_follows specs p (calls.MoveFrom partner dest src count) h t r =
    called specs 9 (codes "movefrom PID COUNT COUNT COUNT") p _ refl h t
    (refl, (a_pid specs partner r.0, (a_count specs dest r.1, (a_count specs src r.2, (a_count specs count r.3, tt)))))
call_follows specs p (calls.SetPid logical pid scopes.Local) h t r =
    called specs 10 (codes "setpid COUNT PID local") p _ refl h t (refl, (a_count specs logical r.0, (a_pid specs pid r.1, (refl, tt))))
call_follows specs p (calls.SetPid logical pid scopes.Remote) h t r =
    called specs 11 (codes "setpid COUNT PID remote") p _ refl h t (refl, (a_count specs logical r.0, (a_pid specs pid r.1, (refl, tt))))
call_follows specs p (calls.SetPid logical pid scopes.Both) h t r =
    called specs 12 (codes "setpid COUNT PID both") p _ refl h t (refl, (a_count specs logical r.0, (a_pid specs pid r.1, (refl, tt))))
call_follows specs p (calls.GetPid logical scopes.Local) h t r =
    called specs 13 (codes "getpid COUNT local") p _ refl h t (refl, (a_count specs logical r, (refl, tt)))
call_follows specs p (calls.GetPid logical scopes.Remote) h t r =
    called specs 14 (codes "getpid COUNT remote") p _ refl h t (refl, (a_count specs logical r, (refl, tt)))
call_follows specs p (calls.GetPid logical scopes.Both) h t r =
    called specs 15 (codes "getpid COUNT both") p _ refl h t (refl, (a_count specs logical r, (refl, tt)))
call_follows specs p (calls.Load start count) h t r =
    called specs 16 (codes "load COUNT COUNT") p _ refl h t (refl, (a_count specs start r.0, (a_count specs count r.1, tt)))
call_follows specs p (calls.Store start bytes) h t r =
    called specs 17 (codes "store COUNT BYTES") p _ refl h t (refl, (a_count specs start r.0, (some_bytes specs bytes r.1, tt)))
call_follows specs p calls.Exit h t r = called specs 18 (codes "exit") p _ refl h t (refl, tt)

step_follows : (specs : List ProcessSpec) (s : Step) → IsLawfulStep specs s → follows specs (step_words s) (forms_of texts.Trace) ≡ true
unfolding step_words words_from fits kind_of
step_follows specs (steps.Call pid call) h = call_follows specs pid call h.0.0 h.1 h.0.1
step_follows specs (steps.Arrive sender number) h =
    plain specs 19 (codes "arrive PID NUMBER") _ refl (refl, (a_pid specs sender h.0.0, (a_number specs number h.0.1, tt)))
step_follows specs (steps.Take pid) h = plain specs 20 (codes "take PID") _ refl (refl, (a_pid specs pid h.0, tt))
step_follows specs (steps.Finish pid) h = plain specs 21 (codes "finish PID") _ refl (refl, (a_pid specs pid h.0, tt))
step_follows specs (steps.Fail pid endings.NoProcess) h =
    plain specs 22 (codes "fail PID noprocess") _ refl (refl, (a_pid specs pid h.0.0, (refl, tt)))
step_follows specs (steps.Fail pid endings.TimedOut) h =
    plain specs 23 (codes "fail PID timedout") _ refl (refl, (a_pid specs pid h.0.0, (refl, tt)))
step_follows specs (steps.Fail pid endings.Ok) h = absurd h.0.1
step_follows specs (steps.Fail pid endings.Gone) h = absurd h.0.1
step_follows specs (steps.OpenMove sender number moving) h =
    plain specs 24 (codes "open PID NUMBER NUMBER") _ refl
    (refl, (a_pid specs sender h.0.0, (a_number specs number h.0.1, (a_number specs moving h.0.2, tt))))
step_follows specs (steps.Copy sender number moving offset count) h =
    plain specs 25 (codes "copy PID NUMBER NUMBER COUNT COUNT") _ refl
    (refl, (a_pid specs sender h.0.0, (a_number specs number h.0.1, (a_number specs moving h.0.2, (a_count specs offset h.0.3, (a_count specs count h.0.4, tt))))))
step_follows specs (steps.End pid endings.Ok) h = plain specs 26 (codes "end PID ok") _ refl (refl, (a_pid specs pid h.0.0, (refl, tt)))
step_follows specs (steps.End pid endings.TimedOut) h = plain specs 27 (codes "end PID timedout") _ refl (refl, (a_pid specs pid h.0.0, (refl, tt)))
step_follows specs (steps.End pid endings.Gone) h = plain specs 28 (codes "end PID gone") _ refl (refl, (a_pid specs pid h.0.0, (refl, tt)))
step_follows specs (steps.End pid endings.NoProcess) h = absurd h.0.1
step_follows specs (steps.Hear asker number pid) h =
    plain specs 29 (codes "hear PID NUMBER PID") _ refl (refl, (a_pid specs asker h.0.0, (a_number specs number h.0.1, (a_pid specs pid h.0.2, tt))))
step_follows specs (steps.Found asker pid) h =
    plain specs 30 (codes "found PID PID") _ refl (refl, (a_pid specs asker h.0.0, (a_pid specs pid h.0.1, tt)))
step_follows specs (steps.Lost asker) h = plain specs 31 (codes "lost PID") _ refl (refl, (a_pid specs asker h.0, tt))
step_follows specs (steps.Collect pid) h = plain specs 32 (codes "collect PROCESS") _ refl (refl, (a_process specs pid h.0 h.1, tt))

pub steps_follow : StepsFollowForms
steps_follow specs step line h e = ap (λ ws. follows specs ws (forms_of texts.Trace)) (step_spelled (words_from line 0) step e) ∙ step_follows specs step h
