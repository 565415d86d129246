use Rattle.std.proofs.Common.{◌≡◌, ◌∙◌, ◌++◌, ◌∷◌, [], List, true, ap, nat_le, subst, sym}
use Rattle.std.proofs.lemmas.Bool.{and_parts}
use Rattle.turn_cell.specs.Seats.{Sitting}
use Rattle.vk_hub.specs.declared.event.HubEvent.{HubEvent}
use Rattle.vk_hub.specs.Hubs.{HubLog, Traffic, waits_nowhere}
use Rattle.vk_threads.specs.declared.opening.Spare.{Spare}
use Rattle.vk_threads.specs.Gathered.{AreShut, HaveComeBack, with_halt}
use Rattle.vk_threads.proofs.Looking.{same_traffic}
use Rattle.vk_threads.proofs.Sitting.{shut_less}
use Rattle.vk_threads.proofs.gather.close_run.Goals as goal

pub returns : goal.returns
returns c =
    let closed = c.close-closed.ensures in
    let o = c.args.hub.origin in
    let seated : c.push.new.self.items ≡ with_halt c.args.ends.items c.args.halt =
    c.in_ok-push.ensures.items ∙ ap (λ l. l ++ c.args.halt ∷ []) c.in_ok-seats.ensures.hub_seats in
    let same = same_traffic c.close-closed.result o c.close-closed.result.history closed.plan closed.stations closed.programs in
    let parts : c.are_both.result ≡ true → (c.is_idle-idle.result ≡ true) × (c.in_ok-logs.still ≡ true) =
    λ is. and_parts c.is_idle-idle.result c.in_ok-logs.still (sym c.are_both.ensures ∙ is) in
    record {
      heard = c.close-closed.result.history;
      back = subst (λ (l : List (Sitting HubLog HubEvent)). HaveComeBack c.args.hub.seats l c.close-closed.result.history) seated
          (record { seen = closed.seen; mine = closed.mine; others = closed.others; different = closed.different; numbers = closed.numbers });
      shut = subst (λ (l : List Spare). AreShut c.args.specs.now c.args.rounds c.are_both.result c.args.sites.items l c.in_ok-logs.logs.items)
          c.in_ok-seats.ensures.spares
          (shut_less c.args.specs.now c.args.rounds c.in_ok-logs.still c.are_both.result c.args.sites.items c.in_ok-seats.field-0.seats.items
          c.in_ok-logs.logs.items (λ is. (parts is).1) c.in_ok-logs.ensures);
      finished = c.has_finished-finished.ensures ∙ (λ i. nat_le (closed.programs i) (same i).finished);
      idle = λ is. ap (λ (t : Traffic). waits_nowhere t.waiting) (sym same) ∙ (sym c.is_idle-idle.ensures ∙ (parts is).0);
    }
