-- Moves within the station are their right entries.
use Rattle.std.proofs.Common.{◌≡◌, ℕ, true, false, List, [], ◌∷◌, ◌++◌, length, Option, Some, None, refl, sym, ap, subst, ◌∙◌}
use Rattle.std.specs.Option.{option_map}
use Rattle.std.proofs.lemmas.Bool.{eqb-true}
use Rattle.vk_types.specs.Types.{Call, Direction, Outcome, Pid, Refusal, Step}
use Rattle.vk_base.specs.declared.answer.Answer.TheVariants as answers
use Rattle.vk_base.specs.declared.kernel.Direction.TheVariants as directions
use Rattle.vk_base.specs.declared.step.Step.TheVariants as steps
use Rattle.vk_base.specs.Calls.{answered}
use Rattle.vk_base.specs.Kernel.{Kernel, with_memory}
use Rattle.vk_base.specs.Pids.{same_host, same_pid}
use Rattle.vk_base.specs.Ranges.{bytes_in, lies_in, range_of, with_bytes}
use Rattle.vk_base.specs.Settings.{Settings}
use Rattle.vk_base.specs.Steps.{after_effect, effect}
use Rattle.v_laws.specs.Sound.{IsSoundAt}
use Rattle.v_laws.proofs.Tables.{same_pid_laws}
use Rattle.vk_packet.specs.Posts.{Posts}
use Rattle.vk_procs.specs.declared.seat.Seat.{Seat}
use Rattle.vk_procs.specs.Seats.{process_of}
use Rattle.vk_rules.specs.CallOutcomes.{effect_answer}
use Rattle.vk_rules.specs.Readings.{Reading}
use Rattle.vk_stands.specs.Fit.{AreFit}
use Rattle.vk_stands.specs.Stands.{Stands}
use Rattle.vk_stands.specs.Tables.{Tables}
use Rattle.vk_stands.proofs.Parts.{Part, part_of}
use Rattle.vk_stands.proofs.Whole.{sound_next}
use Rattle.vk_local.specs.declared.access.Access.{Access}
use Rattle.vk_local.specs.declared.access.Segment.{Segment}
use Rattle.vk_local.specs.Access.{access_refusal}
use Rattle.vk_local.specs.Calls.{after_move, bytes_passed, done_by, move_access, move_call, moved_seats, unless}
use Rattle.vk_local.specs.Done.{IsMove}
use Rattle.vk_local.specs.Rules.{IsSeatsRule, may_call}
use Rattle.vk_local.proofs.Copied.{copied_carries, copied_part}
use Rattle.vk_local.proofs.Decided.{MayCall, move_decided}
use Rattle.vk_local.proofs.Moved.{IsPartner, mine_is, moved_from, moved_to, partner_apart, partner_is}
use Rattle.vk_local.proofs.Rules.{IsRuleDone, ok_makes, refused_done, seats_rule}

-- the kernel stays sound over an allowed call
sound_call : (k l : Kernel) (pid : Pid) (call : Call) → IsSoundAt (λ g. false) k →
    effect k (steps.Call pid call) ≡ Some (answered l pid call answers.Ok) →
    IsSoundAt (λ g. false) l
sound_call k l pid call sound does = subst (IsSoundAt (λ g. false)) (ap (after_effect k) does) (sound_next k (steps.Call pid call) sound)

module _ (c : Settings) (host : ℕ) (t : Tables) (r : Reading) (h : Stands c.times host t r) (fit : AreFit host t) (pid : Pid)
    (own : pid.host ≡ host)
    (s : Seat) (may : MayCall t.seats pid s) (to : Pid) (near : same_host pid to ≡ true) (g : Segment) (before : List Step)
    (out : Posts) where
  there : to.host ≡ host
  there = sym (eqb-true pid.host to.host near) ∙ own

  here : r.view.procs pid ≡ Some (process_of s)
  here = h.procs pid own ∙ ap (option_map process_of) may.found

  part : Part host t r.view
  part = part_of c.times host t r fit h

  abbrev to_call : Call
  to_call = move_call directions.To to g

  abbrev from_call : Call
  from_call = move_call directions.From to g

  abbrev to_access : Access
  to_access = move_access directions.To g

  abbrev from_access : Access
  from_access = move_access directions.From g

  abbrev Done : Direction → Option Refusal → List Seat → Type 0
  Done way o seats =
      IsRuleDone c host r pid (move_call way to g) t before out (done_by o) seats (before ++ steps.Call pid (move_call way to g) ∷ [])

  module _ (free : access_refusal t.seats pid to to_access ≡ None) where
    partner : IsPartner t.seats pid to to_access
    partner = partner_is host t fit pid s may to to_access free

    at : r.view.procs to ≡ Some (process_of partner.seat)
    at = h.procs to there ∙ ap (option_map process_of) partner.found

    apart : same_pid pid to ≡ false
    apart = partner_apart t.seats pid to s partner.seat partner.target partner.message may partner.found partner.waits

    abbrev l : Kernel
    l = with_memory r.view to (process_of partner.seat) (with_bytes partner.seat.memory g.dest (bytes_in
        (range_of g.src g.count) s.memory))

    does : effect r.view (steps.Call pid to_call) ≡ Some (answered l pid to_call answers.Ok)
    does = moved_to r.view pid to (process_of s) (process_of partner.seat) here at near g.dest g.src g.count
        (sym (move_decided c.times host t r h fit pid own s may directions.To to g there) ∙ free)

    mine : lies_in (range_of g.src g.count) (length s.memory) ≡ true
    mine = mine_is host t fit pid s may to to_access free

    after_part : Part host (record t { seats = bytes_passed t.seats pid to g }) l
    after_part = copied_part host t r.view part pid to there s partner.seat may.found partner.found apart g mine partner.granted
        (sound_call r.view l pid to_call h.sound does)

    to_accepted : Done directions.To None (bytes_passed t.seats pid to g)
    to_accepted = record {
      answer = sym (ap effect_answer does);
      makes = ok_makes c host t r h pid to_call before out l l []
          (record t { seats = bytes_passed t.seats pid to g }) does refl refl refl after_part
          (copied_carries host t r.view part pid to there s partner.seat may.found partner.found apart g mine partner.granted) refl;
      fits = after_part.fit;
    }

  module _ (free : access_refusal t.seats pid to from_access ≡ None) where
    giver : IsPartner t.seats pid to from_access
    giver = partner_is host t fit pid s may to from_access free

    abbrev m : Kernel
    m = with_memory r.view pid (process_of s) (with_bytes s.memory g.dest (bytes_in (range_of g.src g.count) giver.seat.memory))

    does_from : effect r.view (steps.Call pid from_call) ≡ Some (answered m pid from_call answers.Ok)
    does_from = moved_from r.view pid to (process_of s) (process_of giver.seat) here
        (h.procs to there ∙ ap (option_map process_of) giver.found) near g.dest g.src g.count
        (sym (move_decided c.times host t r h fit pid own s may directions.From to g there) ∙ free)

    apart_from : same_pid to pid ≡ false
    apart_from = same_pid_laws.symm to pid ∙ partner_apart t.seats pid to s giver.seat giver.target giver.message may giver.found giver.waits

    own_room : lies_in (range_of g.dest g.count) (length s.memory) ≡ true
    own_room = mine_is host t fit pid s may to from_access free

    part_from : Part host (record t { seats = bytes_passed t.seats to pid g }) m
    part_from = copied_part host t r.view part to pid own giver.seat s giver.found may.found apart_from g giver.granted own_room
        (sound_call r.view m pid from_call h.sound does_from)

    from_accepted : Done directions.From None (bytes_passed t.seats to pid g)
    from_accepted = record {
      answer = sym (ap effect_answer does_from);
      makes = ok_makes c host t r h pid from_call before out m m []
          (record t { seats = bytes_passed t.seats to pid g }) does_from refl refl refl
          part_from (copied_carries host t r.view part to pid own giver.seat s giver.found may.found apart_from g
          giver.granted own_room) refl;
      fits = part_from.fit;
    }

  accepted : (way : Direction) → access_refusal t.seats pid to (move_access way g) ≡ None →
      Done way None (moved_seats way t.seats pid to g)
  accepted directions.To free = to_accepted free
  accepted directions.From free = from_accepted free

  by_refusal : (way : Direction) (o : Option Refusal) → access_refusal t.seats pid to (move_access way g) ≡ o →
      Done way o (unless o (moved_seats way t.seats pid to g) t.seats)
  by_refusal way None free = accepted way free
  by_refusal way (Some why) is = refused_done c host t r h fit pid (move_call way to g) before out (process_of s) why here
      (sym is ∙ move_decided c.times host t r h fit pid own s may way to g there)

  pub move_is : (way : Direction) → Done way (access_refusal t.seats pid to (move_access way g)) (after_move way t.seats pid to g)
  move_is way = by_refusal way (access_refusal t.seats pid to (move_access way g)) refl

-- The rule, as the code has it.
pub move_rule : (way : Direction) (pid to : Pid) (g : Segment) (seats new : List Seat) (before after : List Step) (p : Option Outcome) →
    may_call seats pid ≡ true → same_host pid to ≡ true → IsMove way pid to g p seats new before after →
    IsSeatsRule pid (move_call way to g) p seats new before after
move_rule way pid to g seats new before after p may near is =
    seats_rule pid (move_call way to g) (λ xs. done_by (access_refusal xs pid to (move_access way g))) (λ xs. after_move way xs pid to g)
    (λ xs. steps.Call pid (move_call way to g) ∷ []) p seats new before after may is
    (λ c t r s out h fit can. move_is c pid.host t r h fit pid refl s can to near g before out way)
