use Rattle.std.proofs.Common.{◌≡◌, ◌∙◌, ◌++◌, ◌∷◌, [], false, List, ap, append_assoc, subst, sym}
use Rattle.std.proofs.lemmas.Result.{IfOk-weaker}
use Rattle.turn_cell.specs.Seats.{Sitting}
use Rattle.vk_hub.specs.declared.event.HubEvent.{HubEvent}
use Rattle.vk_hub.specs.Hubs.{HubLog}
use Rattle.vk_threads.specs.declared.opening.Site.{Site}
use Rattle.vk_threads.specs.declared.opening.Spare.{Spare}
use Rattle.vk_threads.specs.Gathered.{AreShut, HaveComeBack, all_hub_seats, all_spares}
use Rattle.vk_threads.proofs.Sitting.{shut_less}
use Rattle.vk_udp.specs.Gathered.{hub_seats_of, site_of}
use Rattle.vk_udp.proofs.gather.close_node.Goals as goal

pub returns : goal.returns
returns c =
    let ends = c.args.ends.items in
    let closed = c.close-closed.ensures in
    let seated : c.push-2.new.self.items ≡ hub_seats_of ends c.args.fetches c.args.halt =
    c.in_ok-push-2.ensures.items
    ∙ ap (λ l. l ++ c.args.halt ∷ []) (c.in_ok-push.ensures.items ∙ ap (λ l. l ++ c.args.fetches ∷ []) c.in_ok-seats.ensures.hub_seats)
    ∙ append_assoc (all_hub_seats ends) (c.args.fetches ∷ []) (c.args.halt ∷ []) in
    IfOk-weaker c.whole.result _ _
    (λ log same. record {
      heard = c.close-closed.result.history;
      back = subst (λ (l : List (Sitting HubLog HubEvent)). HaveComeBack c.args.node.hub.seats l c.close-closed.result.history) seated
          (record { seen = closed.seen; mine = closed.mine; others = closed.others; different = closed.different; numbers = closed.numbers });
      shut = subst (AreShut [] 0 false (site_of c.args.node.host c.args.node.cell ∷ []) (all_spares ends)) (c.one_log-log.ensures ∙ ap (λ l. l ∷ []) (sym same))
          (subst (λ (l : List Spare). AreShut [] 0 false (site_of c.args.node.host c.args.node.cell ∷ []) l c.in_ok-logs.logs.items) c.in_ok-seats.ensures.spares
          (subst (λ (l : List Site). AreShut [] 0 false l c.in_ok-seats.field-0.seats.items c.in_ok-logs.logs.items) c.in_ok-sites.ensures
          (shut_less [] 0 c.in_ok-logs._still false c.in_ok-sites.sites.items c.in_ok-seats.field-0.seats.items c.in_ok-logs.logs.items (λ is. absurd (cc is))
          c.in_ok-logs.ensures)));
    })
    c.whole.ensures
