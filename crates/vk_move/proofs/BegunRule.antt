-- A move that a process calls for with a partner of another station is its right entry: refused, made at once, or begun.
use Rattle.std.proofs.Common.{◌≡◌, ℕ, true, false, not, List, [], ◌∷◌, ◌++◌, refl, ap, sym, ◌∙◌, subst, Option, Some, None}
use Rattle.std.specs.List.{position}
use Rattle.std.specs.Option.{is_none, option_map}
use Rattle.std.proofs.lemmas.Bool.{both_ways, eq-eqb}
use Rattle.vk_types.specs.Types.{Call, Direction, Outcome, Pid, Refusal, Step, Times}
use Rattle.vk_base.specs.declared.answer.Answer.TheVariants as answers
use Rattle.vk_base.specs.declared.call.Call.TheVariants as calls
use Rattle.vk_base.specs.declared.event.EventAnswer.TheVariants as events_answered
use Rattle.vk_base.specs.declared.kernel.Direction.TheVariants as directions
use Rattle.vk_base.specs.declared.step.Step.TheVariants as steps
use Rattle.vk_base.proofs.OptionLemmas.{bind_is}
use Rattle.vk_base.specs.Calls.{answered, call_refusal}
use Rattle.vk_base.specs.Kernel.{Kernel, held, is_move}
use Rattle.vk_base.specs.Pids.{same_host}
use Rattle.vk_base.specs.Settings.{Settings}
use Rattle.vk_local.specs.Rules.{may_call}
use Rattle.vk_local.proofs.Decided.{MayCall}
use Rattle.vk_local.proofs.Rules.{may_be, ok_makes, refused_makes}
use Rattle.vk_local.proofs.Taken.{same_carries}
use Rattle.vk_packet.specs.Posts.{Posts}
use Rattle.vk_pool.specs.declared.alien.Alien.{Alien}
use Rattle.vk_pool.specs.Aliens.{alien_from, is_alien_from}
use Rattle.vk_procs.specs.declared.seat.Seat.{Seat}
use Rattle.vk_procs.specs.Seats.{process_of, seat_in}
use Rattle.vk_rules.specs.CallOutcomes.{effect_answer}
use Rattle.vk_rules.specs.Readings.{Reading}
use Rattle.vk_stands.specs.Fit.{AreFit}
use Rattle.vk_stands.specs.Held.{Holding, alien_holding, remote_holding}
use Rattle.vk_stands.specs.Rules.{Doing, posted}
use Rattle.vk_stands.specs.Stands.{Stands}
use Rattle.vk_stands.specs.Tables.{Tables}
use Rattle.vk_stands.proofs.Held.{IsHolding, held_alien, held_there}
use Rattle.vk_stands.proofs.Parts.{part_of}
use Rattle.vk_stands.proofs.Placed.{IsAlienAt, alien_is_at}
use Rattle.vk_stands.proofs.Quiet.{refused_answer}
use Rattle.vk_move.specs.declared.begun.Verdict.{Verdict}
use Rattle.vk_move.specs.declared.begun.Verdict.TheVariants as verdicts
use Rattle.vk_move.specs.Begun.{Begun, HasFewMoves, IsBeginRule, IsMoveBegun, begun_by, doing_of, is_away, move_begun, verdict_in, waiting_in, begun_by_fields}
use Rattle.vk_move.proofs.Begins.{begins_held, made_empty}
use Rattle.vk_move.proofs.BegunEntry.{IsBeginRight, begins_right}
use Rattle.vk_move.proofs.BegunFits.{begun_is, fit_begun}
use Rattle.vk_move.proofs.BegunKernel.{known_held, made_at_once}
use Rattle.vk_move.proofs.BegunRound.{no_packets_are, nothing_behind}
use Rattle.vk_move.proofs.Pieces.{none_posted}
use Rattle.vk_move.proofs.Verdicts.{call_in, holds_some, refusal_in, verdict_decided}

-- The alien of a partner that the process holds.
pub record IsHeldPartner (t : Tables) (pid partner : Pid) : Type 0 where
  pub holding : Holding
  pub is : remote_holding t.slots pid partner ≡ Some holding
  pub alien : Alien
  pub found : alien_from t.slots partner ≡ Some alien
  pub number : holding.number ≡ alien.number
  pub place : IsAlienAt t.slots partner alien

held_by : (t : Tables) (pid partner : Pid) (o : Option Holding) → remote_holding t.slots pid partner ≡ o → is_none o ≡ false →
    IsHeldPartner t pid partner
held_by t pid partner None is some = cc
held_by t pid partner (Some g) is some =
    let x = bind_is (alien_from t.slots partner) (alien_holding pid) g is in
    record {
      holding = g;
      is = is;
      alien = x.0;
      found = x.1;
      number = (held_alien pid x.0 g x.2).number;
      place = alien_is_at t.slots partner x.0 x.1;
    }

held_number : (k : Kernel) (pid partner : Pid) (o : Option Holding) (g : Holding) → o ≡ Some g → IsHolding k pid partner o →
    held k pid partner ≡ Some g.number
held_number k pid partner None g is h = cc
held_number k pid partner (Some x) g is h = h.held ∙ ap (option_map (λ (y : Holding). y.number)) is

-- Of a direction.
module _ (c : Settings) (host : ℕ) (t : Tables) (r : Reading) (h : Stands c.times host t r) (fit : AreFit host t)
    (few : HasFewMoves t.slots) (pid : Pid) (own : pid.host ≡ host) (s : Seat) (may : MayCall t.seats pid s) (partner : Pid)
    (far : partner.host ≡ host → ⊥) (way : Direction) (dest src count : ℕ) (before : List Step) (out : Posts) where
  abbrev call : Call
  call = call_in way partner dest src count

  abbrev verdict : Verdict
  verdict = verdict_in t.seats t.slots pid partner way dest src count

  in_view : r.view.procs pid ≡ Some (process_of s)
  in_view = h.procs pid own ∙ ap (option_map process_of) may.found

  decided : refusal_in verdict ≡ call_refusal r.view pid (process_of s) call
  decided = verdict_decided c.times host t r h fit pid own s may partner far way dest src count

  partner_held : refusal_in verdict ≡ None → IsHeldPartner t pid partner
  partner_held free = held_by t pid partner (remote_holding t.slots pid partner) refl
      (holds_some c.times host t r h fit pid own s may partner far way dest src count free)

  held_is : (p : IsHeldPartner t pid partner) → held r.view pid partner ≡ Some p.alien.number
  held_is p = held_number r.view pid partner (remote_holding t.slots pid partner) p.holding p.is
      (held_there c.times host t r h fit pid own partner far)
      ∙ ap Some p.number

  abbrev Right : Begun → Type 0
  Right b = IsBeginRight c host r pid call t before out b

  abbrev by : Verdict → Begun
  by v = begun_by c.times r.now pid (waiting_in way partner dest src count) (position (is_alien_from partner) t.slots) partner v t.seats
      t.slots

  refused : (why : Refusal) → verdict ≡ verdicts.Refused why → Right (by (verdicts.Refused why))
  refused why is =
      let refuses : call_refusal r.view pid (process_of s) call ≡ Some why = sym decided ∙ ap refusal_in is in
      let makes = refused_makes c host t r h pid call before out (process_of s) why in_view refuses in
      record {
        answer = sym (refused_answer c host r pid call (process_of s) why in_view refuses);
        makes = record { steps = makes.steps; packets = sym (none_posted out) ∙ makes.packets; stands = makes.stands };
      }

  made : verdict ≡ verdicts.Made → Right (by verdicts.Made)
  made is =
      let free : call_refusal r.view pid (process_of s) call ≡ None = sym decided ∙ ap refusal_in is in
      let p = partner_held (ap refusal_in is) in
      let q = known_held r.view pid partner p.alien.number (held_is p) in
      let does = made_at_once r.view pid (process_of s) in_view partner way dest src count free
      (made_empty t.seats t.slots pid partner way dest src count is) q.0 q.1 in
      let makes = ok_makes c host t r h pid call before out r.view r.view [] t does
      (nothing_behind way r.view pid partner dest src count (events_answered.Answered answers.Ok))
      (no_packets_are way r.view r.view r.slots pid partner dest src count (events_answered.Answered answers.Ok) refl) refl
      (part_of c.times host t r fit h) (same_carries t) refl in
      record {
        answer = sym (ap effect_answer does);
        makes = record { steps = makes.steps; packets = sym (none_posted out) ∙ makes.packets; stands = makes.stands };
      }

  begun : verdict ≡ verdicts.Begins → Right (begun_by_fields c.times r.now pid way partner dest src count t.seats t.slots)
  begun is =
      let p = partner_held (ap refusal_in is) in
      subst (λ (x : Pid). IsBeginRight c host r pid (call_in way x dest src count) t before out
      (begun_by_fields c.times r.now pid way x dest src count t.seats t.slots)) p.place.sender
      (begins_right c host t r h fit few pid own s may p.place.at p.alien p.place.here way dest src count
      (ap (λ (x : Pid). verdict_in t.seats t.slots pid x way dest src count) p.place.sender ∙ is)
      (ap (held r.view pid) p.place.sender ∙ held_is p) before out)

  by_verdict : (v : Verdict) → verdict ≡ v → Right (by v)
  by_verdict (verdicts.Refused why) is = refused why is
  by_verdict verdicts.Made is = made is
  by_verdict verdicts.Begins is = subst (λ v. Right (by v)) is (begun is)

  pub way_right : Right (begun_by_fields c.times r.now pid way partner dest src count t.seats t.slots)
  way_right = by_verdict verdict refl

-- The tables fit afterwards.
module _ (host : ℕ) (t : Tables) (fit : AreFit host t) (few : HasFewMoves t.slots) (times : Times) (now : ℕ) (pid : Pid)
    (own : pid.host ≡ host) (s : Seat) (found : seat_in t.seats pid ≡ Some s) (partner : Pid) (way : Direction) (dest src count : ℕ) where
  abbrev Fits : Begun → Type 0
  Fits b = AreFit host (record t { seats = b.seats; slots = b.slots })

  fits_by : (v : Verdict) → verdict_in t.seats t.slots pid partner way dest src count ≡ v →
      Fits (begun_by times now pid (waiting_in way partner dest src count)
      (position (is_alien_from partner) t.slots) partner v t.seats t.slots)
  fits_by (verdicts.Refused why) is = fit
  fits_by verdicts.Made is = fit
  fits_by verdicts.Begins is =
      let p = begins_held t.seats t.slots pid partner way dest src count is in
      subst (λ v. Fits (begun_by times now pid (waiting_in way partner dest src count) (position (is_alien_from partner) t.slots) partner v
      t.seats t.slots)) is
      (subst (λ (x : Pid). Fits (begun_by_fields times now pid way x dest src count t.seats t.slots)) p.1.sender
      (let there = ap (λ (x : Pid). verdict_in t.seats t.slots pid x way dest src count) p.1.sender ∙ is in
      subst Fits (sym (begun_is host t fit few times now pid own s found p.1.at p.0 p.1.here way dest src count there))
      (fit_begun host t fit few times now pid own s found p.1.at p.0 p.1.here way dest src count there)))

  pub way_fits : Fits (begun_by_fields times now pid way partner dest src count t.seats t.slots)
  way_fits = fits_by (verdict_in t.seats t.slots pid partner way dest src count) refl

-- A call of a move is of a direction.
of_move : (P : Call → Type 0) (pid : Pid) →
    ((way : Direction) (partner : Pid) (dest src count : ℕ) → not (same_host pid partner) ≡ true → P (call_in way partner dest src count)) →
    (call : Call) → is_move call ≡ true → is_away pid call ≡ true → P call
of_move P pid each (calls.MoveTo partner dest src count) moves away = each directions.To partner dest src count away
of_move P pid each (calls.MoveFrom partner dest src count) moves away = each directions.From partner dest src count away
of_move P pid each c moves away = cc

same_begun : (times : Times) (now : ℕ) (pid : Pid) (way : Direction) (partner : Pid) (dest src count : ℕ) (seats : List Seat)
    (slots : List (Option Alien)) → begun_by_fields times now pid way partner dest src count seats slots
    ≡ move_begun times now pid (call_in way partner dest src count) seats slots
same_begun times now pid directions.To partner dest src count seats slots = refl
same_begun times now pid directions.From partner dest src count seats slots = refl

-- The rule, as the code has it.
module _ (times : Times) (now : ℕ) (pid : Pid) (seats : List Seat) (slots : List (Option Alien)) (few : HasFewMoves slots)
    (may : may_call seats pid ≡ true) (before : List Step) (out : Posts) where
  abbrev Rule : Call → Begun → Type 0
  Rule call b = IsBeginRule times now pid call b.answer (doing_of seats slots before out)
      (doing_of b.seats b.slots (before ++ steps.Call pid call ∷ []) (posted out b.packets))

  way_rule : (way : Direction) (partner : Pid) (dest src count : ℕ) → not (same_host pid partner) ≡ true →
      Rule (call_in way partner dest src count) (begun_by_fields times now pid way partner dest src count seats slots)
  way_rule way partner dest src count away t fit =
      let u : Tables = record t { seats = seats; slots = slots } in
      let s = may_be seats pid may in
      let far : partner.host ≡ pid.host → ⊥ =
      λ same. both_ways (not (same_host pid partner)) (ap not (eq-eqb pid.host partner.host (sym same))) away in (
        λ c r times_is now_is h.
            let x = way_right c pid.host u r (subst (λ z. Stands z pid.host u r) (sym times_is) h) fit few pid refl s.0 s.1 partner far way
            dest src count before out in
            let y = subst (λ n. IsBeginRight c pid.host r pid (call_in way partner dest src count) u before out
            (begun_by_fields times n pid way partner dest src count seats slots)) now_is
            (subst (λ z. IsBeginRight c pid.host r pid (call_in way partner dest src count) u before out
            (begun_by_fields z r.now pid way partner dest src count seats slots)) times_is x) in
            (y.answer, y.makes),
        way_fits pid.host u fit few times now pid refl s.0 s.1.found partner way dest src count,
      )

  begin_rule : (call : Call) → is_move call ≡ true → is_away pid call ≡ true → Rule call (move_begun times now pid call seats slots)
  begin_rule call moves away = of_move (λ x. Rule x (move_begun times now pid x seats slots)) pid
      (λ way partner dest src count far. subst (Rule (call_in way partner dest src count))
      (same_begun times now pid way partner dest src count seats slots) (way_rule way partner dest src count far)) call moves away

  -- of what the code gives back
  pub begun_rule : (call : Call) → is_move call ≡ true → is_away pid call ≡ true → (answer : Option Outcome) (new : List Seat)
      (then_slots : List (Option Alien)) (after : List Step) (sent : Posts) → answer ≡ (move_begun times now pid call seats slots).answer →
      new ≡ (move_begun times now pid call seats slots).seats → then_slots ≡ (move_begun times now pid call seats slots).slots →
      after ≡ before ++ steps.Call pid call ∷ [] → sent ≡ posted out (move_begun times now pid call seats slots).packets →
      IsMoveBegun times now pid call answer (doing_of seats slots before out) (doing_of new then_slots after sent)
  begun_rule call moves away answer new then_slots after sent answered seated slotted listed posts = record {
    answer = answered;
    seats = seated;
    slots = slotted;
    packets = posts;
    steps = listed;
    right =
        subst (λ (x : Option Outcome × Doing). IsBeginRule times now pid call x.0 (doing_of seats slots before out) x.1)
        (λ i. (sym answered i, doing_of (sym seated i) (sym slotted i) (sym listed i) (sym posts i)))
        (begin_rule call moves away);
  }
