use Rattle.std.proofs.Common.{rules}
use Rattle.vk_hub.proofs.Posted.{from_post}
use Rattle.vk_hub.proofs.hub.Hub.fetch_by.Goals as goal

pub returns-in-Some-clause-posted : goal.returns-in-Some-clause-posted
returns-in-Some-clause-posted g c =
    from_post c.args.self.now.origin c.args.request.now c.args.seat.now c.step_when_ready.new.seat _ (search rules)
