-- An exit is its right entry.
use Rattle.std.proofs.Common.{◌≡◌, Bool, true, false, ℕ, List, [], ◌∷◌, ◌++◌, flat_map, Option, Some, None, refl, sym, ap, subst, ◌∙◌, if◌then◌else◌}
use Rattle.std.specs.List.{position}
use Rattle.std.specs.Option.{option_map}
use Rattle.vk_types.specs.Types.{Outcome, Pid, Process, Step, Times}
use Rattle.vk_base.specs.declared.activity.Outcome.TheVariants as outcomes
use Rattle.vk_base.specs.declared.answer.Answer.TheVariants as answers
use Rattle.vk_base.specs.declared.call.Call.TheVariants as calls
use Rattle.vk_base.specs.declared.step.Step.TheVariants as steps
use Rattle.vk_base.specs.Calls.{answered, call_refusal, called, exited}
use Rattle.vk_base.specs.Kernel.{◌>>=◌, Kernel}
use Rattle.vk_base.specs.Packets.{Negative}
use Rattle.vk_base.specs.Steps.{effect}
use Rattle.vk_packet.specs.Posts.{Posts}
use Rattle.vk_pool.specs.declared.alien.Alien.{Alien}
use Rattle.vk_procs.specs.declared.seat.Seat.{Seat}
use Rattle.vk_procs.specs.Seats.{is_seat, process_of}
use Rattle.vk_rules.specs.Entries.{Called}
use Rattle.vk_stands.specs.Fit.{AreFit}
use Rattle.vk_stands.specs.Rules.{IsCallRule, given_by, posted}
use Rattle.vk_stands.specs.Stands.{Stands}
use Rattle.vk_stands.specs.Tables.{Tables}
use Rattle.vk_stands.proofs.After.{reading_for}
use Rattle.vk_stands.proofs.ExitEntry.{told_for}
use Rattle.vk_stands.proofs.ExitFits.{exit_fit}
use Rattle.vk_stands.proofs.ExitStands.{exit_answer, exit_packets_are, exit_stands, exit_steps}
use Rattle.vk_stands.proofs.Seats.{placed}
use Rattle.vk_local.specs.Done.{IsExit}
use Rattle.vk_local.specs.Exits as exits
use Rattle.vk_local.specs.Exits.{is_left, negatives, sent_by, told_left, told_slot}
use Rattle.vk_local.specs.Rules.{IsExitRule, may_call}
use Rattle.vk_local.proofs.Decided.{MayCall, ready_refusal}
use Rattle.vk_local.proofs.Rules.{at_times, may_be}

-- what the code gives back, in one
record Whole : Type 0 where
  answer : Option Outcome
  tables : Tables
  steps : List Step
  out : Posts

-- whom it tells, by the tables
told_by : (a : Alien) (b : Bool) →
    (if b then Negative a.target a.sender a.number ∷ [] else []) ≡ told_left (if b then Some (sent_by a) else None)
told_by a true = refl
told_by a false = refl

told_is : (pid : Pid) (slot : Option Alien) → told_for pid slot ≡ told_slot pid slot
told_is pid None = refl
told_is pid (Some a) = told_by a (is_left pid a)

all_told : (pid : Pid) (slots : List (Option Alien)) → flat_map (told_for pid) slots ≡ negatives pid slots
all_told pid [] = refl
all_told pid (slot ∷ slots) =
    ap (λ ps. ps ++ flat_map (told_for pid) slots) (told_is pid slot) ∙ ap (λ ps. told_slot pid slot ++ ps) (all_told pid slots)

-- a process that is alive and ready may exit
exit_does : (k : Kernel) (seats : List Seat) (pid : Pid) (s : Seat) → MayCall seats pid s → k.procs pid ≡ Some (process_of s) →
    effect k (steps.Call pid calls.Exit) ≡ Some (answered (exited k pid (process_of s)) pid calls.Exit answers.Ok)
exit_does k seats pid s may at =
    ap (λ (o : Option Process). o >>= λ p. called k pid p calls.Exit (call_refusal k pid p calls.Exit)) at
    ∙ ap (called k pid (process_of s) calls.Exit) (ready_refusal k seats pid s calls.Exit may)

module _ (pid : Pid) (now : ℕ) (t : Tables) (before : List Step) (out : Posts) (fit : AreFit pid.host t) (may : may_call t.seats pid
    ≡ true) where
  -- the tables, with the place where the process is
  tables_are : (tick at : ℕ) → position (is_seat pid) t.seats ≡ Some at → tick ≡ now →
      record (exits.exited t pid tick) { lists = exits.emptied t.lists (Some at) } ≡ exits.exited t pid now
  tables_are tick at place is = λ i. record (exits.exited t pid (is i)) { lists = exits.emptied t.lists (sym place i) }

  pub exit_rule : (times : Times) → IsCallRule times pid.host now pid calls.Exit (given_by (Some outcomes.Ok))
      (record { tables = t; steps = before; out = out })
      (record {
        tables = exits.exited t pid now;
        steps = before ++ steps.Call pid calls.Exit ∷ [];
        out =
            posted out (negatives pid t.slots);
      })
  exit_rule times c r times_is now_is h =
      let s = may_be t.seats pid may in
      let place = placed pid t.seats s.0 s.1.found in
      let stands : Stands c.times pid.host t r = at_times pid.host t r c.times times times_is h in
      let at : r.view.procs pid ≡ Some (process_of s.0) = stands.procs pid refl ∙ ap (option_map process_of) s.1.found in
      let does = exit_does r.view t.seats pid s.0 s.1 at in (
        sym (exit_answer c pid.host t r fit stands pid refl s.0 s.1.found s.1.ready place.0 place.1 does),
        record {
          steps = ap (λ ss. before ++ ss)
              (sym (exit_steps c pid.host t r fit stands pid refl s.0 s.1.found s.1.ready place.0 place.1 does));
          packets = ap (posted out) (sym (exit_packets_are c pid.host t r fit stands pid refl s.0 s.1.found s.1.ready place.0 place.1 does
              ∙ all_told pid t.slots));
          stands = subst (λ u. Stands c.times pid.host u (reading_for c pid.host r (Called pid calls.Exit)))
              (tables_are r.now place.0 place.1 now_is)
              (exit_stands c pid.host t r fit stands pid refl s.0 s.1.found s.1.ready place.0 place.1 does);
        },
      )

  pub exit_fits : AreFit pid.host (exits.exited t pid now)
  exit_fits =
      let s = may_be t.seats pid may in
      let place = placed pid t.seats s.0 s.1.found in
      subst (λ o. AreFit pid.host (record (exits.exited t pid now) { lists = exits.emptied t.lists o })) (sym place.1)
      (exit_fit pid.host t pid now place.0 (exits.exited t pid now).names fit)

-- what the code makes of it
pub exit_done : (pid : Pid) (now : ℕ) (t u : Tables) (before after : List Step) (sent out : Posts) (o : Option Outcome) →
    may_call t.seats pid ≡ true → IsExit pid now o t u before after sent out → IsExitRule pid now o t u before after sent out
exit_done pid now t u before after sent out o may is fit =
    subst Rule (λ i. record {
      answer = sym is.outcome i;
      tables = record { seats = sym is.seats i; lists = sym is.lists i; slots = sym is.slots i; names = sym is.names i };
      steps = sym is.steps i;
      out = sym is.packets i;
    })
    (exit_rule pid now t before sent fit may, exit_fits pid now t before sent fit may)
  where
    Rule : Whole → Type 0
    Rule z = ((times : Times) → IsCallRule times pid.host now pid calls.Exit (given_by z.answer)
        (record { tables = t; steps = before; out = sent }) (record { tables = z.tables; steps = z.steps; out = z.out }))
        × AreFit pid.host z.tables
