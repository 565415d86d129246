-- How many frames an event of a station has at most.
use Rattle.std.proofs.Common.{◌≡◌, ◌≤◌, ℕ, false, length, subst}
use Rattle.vk_types.specs.Types.{EventAnswer}
use Rattle.vk_packet.specs.Posts.{Posts, framed}
use Rattle.vk_rules.specs.Entries.{Input, is_tick}
use Rattle.vk_host.specs.declared.desk.Desk.{Desk}
use Rattle.vk_host.specs.Desks.{value_in}
use Rattle.vk_host.specs.Sealed.{IsSealed}
use Rattle.vk_host.specs.Standing.{StandsSomewhere}
use Rattle.vk_host.specs.Values.{StationValue}
use Rattle.vk_host.proofs.Events.{Happens, event_is}
use Rattle.vk_host.proofs.FewFrames.{few_frames}

module _ (old : StationValue) (i : Input) (given : EventAnswer) (d : Desk) (lamport count : ℕ) (h : Happens old i given d lamport count)
    (out : Posts) (made : IsSealed d.host d.now lamport count d.out out) (somewhere : StandsSomewhere old) where
  abbrev new : StationValue
  new = value_in (record d { out = out }) lamport count

  -- one that is no tick
  pub few_sent : is_tick i ≡ false → length (framed out) ≤ 64
  few_sent still = few_frames old new i given (event_is old i given d lamport count h out made) somewhere still

  -- and any, where they are no more than there is room for
  pub few_ticked : length (framed out) ≤ out.room → length (framed out) ≤ 2048
  few_ticked few =
      subst (λ n. length (framed out) ≤ n)
      ((event_is old i given d lamport count h out made).stands somewhere.0 somewhere.1 somewhere.2).room few
