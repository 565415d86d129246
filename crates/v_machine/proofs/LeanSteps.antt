-- Steps that keep every exchange without bytes of spent moves, the two of moves once such bytes are given back.
use Rattle.std.proofs.Common.{◌≡◌, ℕ, ◌+◌, cond, min, List, [], ◌∷◌, ◌++◌, Option, Some, None, refl, sym, ap, subst, ◌∙◌, arith}
use Rattle.std.proofs.lemmas.Bool.{cond_both, ltb-true}
use Rattle.std.proofs.lemmas.Option.{same_Some}
use Rattle.vk_types.specs.Types.{Call, Exchange, Message, Move, Name, Pid, Process, Refusal, Step}
use Rattle.vk_base.specs.declared.call.Call.TheVariants as calls
use Rattle.vk_base.specs.declared.kernel.Direction.TheVariants as directions
use Rattle.vk_base.specs.declared.kernel.Stage.TheVariants as stages
use Rattle.vk_base.specs.declared.step.Step.TheVariants as steps
use Rattle.vk_base.specs.Calls.{Effect, sent_exchange, sent, replied, forward, forwarded, is_at_once, copied_at_once, new_move, move_begun, begin_move, is_message_at, dropped_at, get_pid, lookup_begun, found_at_once, exited, accepted, called, call_refusal}
use Rattle.vk_base.specs.Kernel.{◌>>=◌, Kernel, name_of, same_name, held, put_exchange}
use Rattle.vk_base.specs.Ranges.{range_of, bytes_in}
use Rattle.vk_base.specs.Steps.{arriving, is_older, after_arrival, with_arrival, taking, taken, Taking, finishing, failing, Opening, opening_move, move_opened, Copying, copying, copied, ending, hearing, finding, asking, collecting, effect}
use Rattle.vk_base.proofs.OptionLemmas.{bind_is}
use Rattle.v_laws.proofs.MoveLists.{next_is}
use Rattle.v_laws.proofs.MoveSteps.{opened_with, noted}
use Rattle.v_laws.proofs.Options.{of_either}
use Rattle.v_laws.proofs.StepLemmas.{taking_is, opening_is, copying_is}
use Rattle.v_laws.proofs.Tables.{put_exchange_here}
use Rattle.v_machine.specs.Lean.{IsLean, AreLean, opened_in, opened_before, GivesBackOf, GivesBack}
use Rattle.v_machine.specs.Moves.{with_exchange}
use Rattle.v_machine.specs.Sends.{given_back, handed_on}
use Rattle.v_machine.proofs.LeanExchanges.{lean_stage, lean_handed, lean_new, lean_pushed, lean_opened, lean_copied, lean_put, lean_put_over, lean_map}

as_lean : (e f : Effect) → Some e ≡ Some f → AreLean e.after.exchanges → AreLean f.after.exchanges
as_lean e f g lean = subst (λ (x : Effect). AreLean x.after.exchanges) (same_Some e f g) lean

-- The calls.
lean_replied : (k : Kernel) (pid : Pid) (c : Call) (to : Pid) (m : Message) (dest : ℕ) (bytes : List ℕ) (e : Effect) → AreLean k.exchanges →
    replied k pid c to m dest bytes ≡ Some e → AreLean e.after.exchanges
lean_replied k pid c to m dest bytes e lean g =
    let number = bind_is (held k pid to) _ e g in
    let x = bind_is (k.exchanges (name_of to number.0)) _ e number.2 in
    as_lean _ e x.2 (lean_put k.exchanges (name_of to number.0) (record x.0 { stage = stages.Replied m dest bytes }) lean
    (lean_stage x.0 (stages.Replied m dest bytes) (lean (name_of to number.0) x.0 x.1)))

lean_forward : (k : Kernel) (pid : Pid) (c : Call) (m : Message) (from to : Pid) (e : Effect) → AreLean k.exchanges →
    forward k pid c m from to ≡ Some e → AreLean e.after.exchanges
unfolding forwarded
lean_forward k pid c m from to e lean g =
    let number = bind_is (held k pid from) _ e g in
    let x = bind_is (k.exchanges (name_of from number.0)) _ e number.2 in
    as_lean _ e x.2 (lean_put k.exchanges (name_of from number.0) (handed_on m to x.0) lean
    (lean_handed x.0 m to (lean (name_of from number.0) x.0 x.1)))

lean_at_once : (k : Kernel) (pid : Pid) (c : Call) (into : Pid) (dest : ℕ) (bytes : List ℕ) (e : Effect) → AreLean k.exchanges →
    copied_at_once k pid c into dest bytes ≡ Some e → AreLean e.after.exchanges
unfolding copied_at_once
lean_at_once k pid c into dest bytes e lean g = let q = bind_is (k.procs into) _ e g in as_lean _ e q.2 lean

lean_begin : (k : Kernel) (pid : Pid) (p : Process) (c : Call) (partner : Pid) (m : Move) (e : Effect) → AreLean k.exchanges →
    begin_move k pid p c partner m ≡ Some e → AreLean e.after.exchanges
unfolding move_begun
lean_begin k pid p c partner m e lean g =
    let number = bind_is (held k pid partner) _ e g in
    let x = bind_is (k.exchanges (name_of partner number.0)) _ e number.2 in
    as_lean _ e x.2 (lean_put k.exchanges (name_of partner number.0) (record x.0 { moves = x.0.moves ++ m ∷ [] }) lean
    (lean_pushed x.0 m (lean (name_of partner number.0) x.0 x.1)))

lean_got : (k : Kernel) (pid : Pid) (p : Process) (c : Call) (logical : ℕ) (o : Option Pid) → AreLean k.exchanges →
    AreLean (get_pid k pid p c logical o).after.exchanges
unfolding lookup_begun
lean_got k pid p c logical None lean = lean
lean_got k pid p c logical (Some q) lean = lean

lean_sent : (k : Kernel) (pid : Pid) (p : Process) (target : Pid) (m : Message) → AreLean k.exchanges →
    AreLean (sent k pid p target m).exchanges
unfolding sent
lean_sent k pid p target m lean = lean_put k.exchanges (name_of pid (p.sends + 1)) (sent_exchange pid p target m) lean
    (lean_new (sent_exchange pid p target m) refl refl)

lean_exited : (k : Kernel) (pid : Pid) (p : Process) → AreLean k.exchanges → AreLean (exited k pid p).exchanges
unfolding exited
lean_exited k pid p lean = lean_map k.exchanges (λ n. dropped_at pid) lean
    (λ n e l. cond_both (is_message_at pid e) (record e { stage = stages.Dropped }) e IsLean (λ t. lean_stage e stages.Dropped l) (λ f. l))

lean_accepted : (k : Kernel) (pid : Pid) (p : Process) (c : Call) (e : Effect) → AreLean k.exchanges → accepted k pid p c ≡ Some e →
    AreLean e.after.exchanges
lean_accepted k pid p (calls.Send target m) e lean g = as_lean _ e g (lean_sent k pid p target m lean)
lean_accepted k pid p calls.Receive e lean g = as_lean _ e g lean
lean_accepted k pid p (calls.ReceiveSegment start count) e lean g = as_lean _ e g lean
lean_accepted k pid p (calls.Reply m to) e lean g = lean_replied k pid (calls.Reply m to) to m 0 [] e lean g
lean_accepted k pid p (calls.ReplySegment m to dest src count) e lean g =
    lean_replied k pid (calls.ReplySegment m to dest src count) to m dest (bytes_in (range_of src count) p.memory) e lean g
lean_accepted k pid p (calls.Forward m from to) e lean g = lean_forward k pid (calls.Forward m from to) m from to e lean g
lean_accepted k pid p (calls.MoveTo partner dest src count) e lean g =
    let c : Call = calls.MoveTo partner dest src count in
    let bytes = bytes_in (range_of src count) p.memory in
    of_either (λ (x : Effect). AreLean x.after.exchanges) (is_at_once pid partner count) (copied_at_once k pid c partner dest bytes)
    (begin_move k pid p c partner (new_move pid directions.To dest src count bytes)) e
    (λ once. lean_at_once k pid c partner dest bytes e lean)
    (λ later. lean_begin k pid p c partner (new_move pid directions.To dest src count bytes) e lean) g
lean_accepted k pid p (calls.MoveFrom partner dest src count) e lean g =
    let c : Call = calls.MoveFrom partner dest src count in
    of_either (λ (x : Effect). AreLean x.after.exchanges) (is_at_once pid partner count)
    (k.procs partner >>= λ q. copied_at_once k pid c pid dest (bytes_in (range_of src count) q.memory))
    (begin_move k pid p c partner (new_move pid directions.From dest src count [])) e
    (λ once h. let q = bind_is (k.procs partner) _ e h in
    lean_at_once k pid c pid dest (bytes_in (range_of src count) q.0.memory) e lean q.2)
    (λ later. lean_begin k pid p c partner (new_move pid directions.From dest src count []) e lean) g
lean_accepted k pid p (calls.SetPid logical q scope) e lean g = as_lean _ e g lean
lean_accepted k pid p (calls.GetPid logical scope) e lean g =
    as_lean _ e g (lean_got k pid p (calls.GetPid logical scope) logical (found_at_once k pid logical scope) lean)
lean_accepted k pid p (calls.Load start count) e lean g = as_lean _ e g lean
lean_accepted k pid p (calls.Store start bytes) e lean g = as_lean _ e g lean
lean_accepted k pid p calls.Exit e lean g = as_lean _ e g (lean_exited k pid p lean)

lean_called : (k : Kernel) (pid : Pid) (p : Process) (c : Call) (why : Option Refusal) (e : Effect) → AreLean k.exchanges →
    called k pid p c why ≡ Some e → AreLean e.after.exchanges
lean_called k pid p c None e lean g = lean_accepted k pid p c e lean g
lean_called k pid p c (Some why) e lean g = as_lean _ e g lean

-- The other steps.
lean_arrived : (k : Kernel) (name : Name) (e : Exchange) → AreLean k.exchanges → AreLean (with_arrival k name e).exchanges
unfolding with_arrival
lean_arrived k name e lean = lean_map k.exchanges (after_arrival name e) lean
    (λ n x l. cond_both (same_name n name) (record x { stage = stages.Queued })
    (cond (is_older name e n x) (record x { stage = stages.Dropped }) x) IsLean (λ t. lean_stage x stages.Queued l)
    (λ f. cond_both (is_older name e n x) (record x { stage = stages.Dropped }) x IsLean (λ t. lean_stage x stages.Dropped l) (λ g. l)))

lean_taken : (k : Kernel) (r : Pid) (t : Taking) → AreLean k.exchanges → taking k r ≡ Some t → AreLean (taken k r t).exchanges
unfolding taken
lean_taken k r t lean g = lean_put k.exchanges t.name (record t.exchange { stage = stages.Taken }) lean
    (lean_stage t.exchange stages.Taken (lean t.name t.exchange (taking_is k r t g).exchange))

unchanged : (u l : Kernel) → u ≡ l → AreLean l.exchanges → AreLean u.exchanges
unchanged u l same lean = subst (λ (x : Kernel). AreLean x.exchanges) (sym same) lean

lean_move_opened : (k u : Kernel) (name : Name) (number : ℕ) (o : Opening) → AreLean k.exchanges → opening_move k name number ≡ Some o →
    GivesBackOf name (min (opened_in (k.exchanges name)) number) number (move_opened k name number o) u → AreLean u.exchanges
unfolding move_opened
lean_move_opened k u name number o lean g gives =
    let is = opening_is k name number o g in
    let later = ltb-true o.exchange.opened number is.later in
    let x : Exchange = opened_with o.exchange number (noted o.sender o.move) in
    let before = ap opened_in is.exchange in
    let from : min (opened_in (k.exchanges name)) number ≡ o.exchange.opened = omega arith in
    let exchanges = put_exchange (put_exchange k.exchanges name x) name in
    unchanged u _ (gives x (put_exchange_here k.exchanges name x)
    ∙ ap (λ n. with_exchange (move_opened k name number o) name (given_back n number x)) from)
    (lean_put_over k.exchanges name x (given_back o.exchange.opened number x) lean
    (lean_opened o.exchange number o.move (noted o.sender o.move) (lean name o.exchange is.exchange) later is.move))

lean_move_copied : (k u : Kernel) (name : Name) (number offset count : ℕ) (c : Copying) → AreLean k.exchanges →
    copying k name number offset count ≡ Some c → GivesBackOf name number number (copied k name offset count c) u → AreLean u.exchanges
unfolding copied
lean_move_copied k u name number offset count c lean g gives =
    let is = copying_is k name number offset count c g in
    let x : Exchange = record c.exchange { done = c.exchange.done + count } in
    unchanged u _ (gives x (put_exchange_here k.exchanges name x))
    (lean_put_over k.exchanges name x (given_back number number x) lean
    (lean_copied c.exchange number (c.exchange.done + count) (lean name c.exchange is.exchange)
    (next_is c.exchange number c.move offset count is.next).opened))

pub lean_after : (k u : Kernel) (s : Step) (e : Effect) → AreLean k.exchanges → effect k s ≡ Some e →
    GivesBack s (opened_before k s) e.after u → AreLean u.exchanges
lean_after k u (steps.Call pid c) e lean g keeps = let p = bind_is (k.procs pid) _ e g in
    keeps (lean_called k pid p.0 c (call_refusal k pid p.0 c) e lean p.2)
lean_after k u (steps.Arrive sender number) e lean g keeps = let x = bind_is (arriving k (name_of sender number)) _ e g in
    keeps (as_lean _ e x.2 (lean_arrived k (name_of sender number) x.0 lean))
lean_after k u (steps.Take r) e lean g keeps = let t = bind_is (taking k r) _ e g in
    keeps (as_lean _ e t.2 (lean_taken k r t.0 lean t.1))
lean_after k u (steps.Finish s) e lean g keeps = let f = bind_is (finishing k s) _ e g in keeps (as_lean _ e f.2 lean)
lean_after k u (steps.Fail s why) e lean g keeps = let f = bind_is (failing k s why) _ e g in keeps (as_lean _ e f.2 lean)
lean_after k u (steps.OpenMove sender number moving) e lean g gives =
    let name = name_of sender number in
    let o = bind_is (opening_move k name moving) _ e g in
    let after : e.after ≡ move_opened k name moving o.0 = ap (λ (x : Effect). x.after) (sym (same_Some _ e o.2)) in
    lean_move_opened k u name moving o.0 lean o.1
    (subst (λ l. GivesBackOf name (min (opened_in (k.exchanges name)) moving) moving l u) after gives)
lean_after k u (steps.Copy sender number moving offset count) e lean g gives =
    let name = name_of sender number in
    let c = bind_is (copying k name moving offset count) _ e g in
    let after : e.after ≡ copied k name offset count c.0 = ap (λ (x : Effect). x.after) (sym (same_Some _ e c.2)) in
    lean_move_copied k u name moving offset count c.0 lean c.1 (subst (λ l. GivesBackOf name moving moving l u) after gives)
lean_after k u (steps.End r why) e lean g keeps = let x = bind_is (ending k r why) _ e g in keeps (as_lean _ e x.2 lean)
lean_after k u (steps.Hear asker number pid) e lean g keeps = let l = bind_is (hearing k asker number pid) _ e g in
    keeps (as_lean _ e l.2 lean)
lean_after k u (steps.Found asker pid) e lean g keeps = let p = bind_is (finding k asker pid) _ e g in
    keeps (as_lean _ e p.2 lean)
lean_after k u (steps.Lost asker) e lean g keeps = let p = bind_is (asking k asker) _ e g in
    keeps (as_lean _ e p.2 lean)
lean_after k u (steps.Collect pid) e lean g keeps = let d = bind_is (collecting k pid) _ e g in
    keeps (as_lean _ e d.2 lean)
