-- All jobs of a node were run: what they came to says nothing more of what they are made of.
use Rattle.std.proofs.Common.{◌≡◌, ℕ, suc, Option, Some, List, [], ◌∷◌, ◌++◌, length, refl, ap, ◌∙◌, subst, arith}
use Rattle.vk_types.specs.Types.{Answer, Call}
use Rattle.turn_cell.specs.Seats.{Cell, IsSeatOf, Sitting}
use Rattle.vk_hub.specs.declared.event.HubEvent.{HubEvent}
use Rattle.vk_hub.specs.Hubs.{HubLog}
use Rattle.vk_hub.specs.Links.{Frame}
use Rattle.vk_io.specs.Crews.{AllEnd}
use Rattle.vk_port.specs.Stations.{StationHistory}
use Rattle.vk_program.specs.declared.assigned.Assigned.{Assigned}
use Rattle.vk_threads.specs.Ends.{EndsProcess}
use Rattle.vk_udp.specs.Dealt.{AreNodeDealt, AreProcesses, IsProcessJob}
use Rattle.vk_udp.specs.Ended.{AreNodeEnds, HasRunDocked}
use Rattle.vk_udp.specs.Jobs.{ends_as}
use Rattle.vk_udp.specs.Values.{CarrierDuty, ClockDuty}
use Rattle.vk_udp.specs.Wires.{Datagram}
use Rattle.vk_udp.specs.declared.work.NodeEnd.{NodeEnd}
use Rattle.vk_udp.specs.declared.work.NodeEnd.TheVariants as ends
use Rattle.vk_udp.specs.declared.work.NodeWork.{NodeWork}
use Rattle.vk_udp.specs.declared.work.NodeWork.TheVariants as works

module _ {G L : Type 0} (P S : Type 0) (task : G → List Answer → Option Call) (handed : L → Option (List Frame)) (given : L → Option (List Datagram))
    (faults : L → ℕ) (cell : Cell StationHistory) (hub : Cell HubLog) (host : ℕ) where
  abbrev EndEach : List (NodeWork G P L S) → List (NodeEnd L) → Type 0
  EndEach [] [] = Unit {0}
  EndEach (w ∷ ws) (e ∷ es) = ends_as task handed given faults w e × EndEach ws es
  EndEach ws es = ⊥

  end_each : (ws : List (NodeWork G P L S)) (es : List (NodeEnd L)) → AllEnd (ends_as task handed given faults) ws es → EndEach ws es
  end_each [] [] all = tt
  end_each [] (e ∷ es) all = let n : suc (length es) ≡ 0 = all.0 in absurd (omega arith)
  end_each (w ∷ ws) [] all = let n : 0 ≡ suc (length ws) = all.0 in absurd (omega arith)
  end_each (w ∷ ws) (e ∷ es) all =
      let n : suc (length es) ≡ suc (length ws) = all.0 in
      (all.1 0 w e refl refl, end_each ws es (omega arith, λ k j x at_job at_end. all.1 (suc k) j x at_job at_end))

  last_ends : (k : ClockDuty) (d : CarrierDuty) (es : List (NodeEnd L)) → EndEach (works.Clock k ∷ works.Carrier (Some d) ∷ []) es
      → AreNodeEnds task handed given faults cell hub host k d [] es
  last_ends k d [] m = absurd m
  last_ends k d (e ∷ []) m = absurd m.1
  last_ends k d (ends.Carried x ∷ f ∷ es) m = absurd m.0
  last_ends k d (ends.Own e ∷ ends.Own f ∷ es) m = absurd m.1.0
  last_ends k d (ends.Own e ∷ ends.Carried x ∷ f ∷ es) m = absurd m.1.1
  last_ends k d (ends.Own e ∷ ends.Carried x ∷ []) m = (m.0, m.1.0)

  own_ends : (k : ClockDuty) (d : CarrierDuty) (a : Assigned G) (others : List (Assigned G)) (w : NodeWork G P L S) (e : NodeEnd L)
      (es : List (NodeEnd L)) → IsProcessJob cell hub host a w → ends_as task handed given faults w e
      → AreNodeEnds task handed given faults cell hub host k d others es → AreNodeEnds task handed given faults cell hub host k d (a ∷ others) (e ∷ es)
  own_ends k d a others w e es job ended rest =
      by_end e (subst (λ (x : NodeWork G P L S). ends_as task handed given faults x e) job.is ended)
    where
      by_end : (e : NodeEnd L) → ends_as {G = G} {P = P} {L = L} {S = S} task handed given faults (works.Process job.duty) e
          → AreNodeEnds task handed given faults cell hub host k d (a ∷ others) (e ∷ es)
      by_end (ends.Own e) ended = (
        record {
          port = job.duty.port;
          at = job.port;
          ended = subst (λ x. EndsProcess job.duty.port x (task a.program) e.seats.items e.met) job.pid
              (subst (λ x. EndsProcess job.duty.port job.duty.pid (task x) e.seats.items e.met) job.program ended);
        },
        rest,
      )
      by_end (ends.Carried x) ended = absurd ended

  all_ends : (k : ClockDuty) (d : CarrierDuty) (programs : List (Assigned G)) (first : List (NodeWork G P L S)) (es : List (NodeEnd L))
      → AreProcesses cell hub host programs first → EndEach (first ++ works.Clock k ∷ works.Carrier (Some d) ∷ []) es
      → AreNodeEnds task handed given faults cell hub host k d programs es
  all_ends k d [] [] es are m = last_ends k d es m
  all_ends k d [] (w ∷ ws) es are m = absurd are
  all_ends k d (a ∷ others) [] es are m = absurd are
  all_ends k d (a ∷ others) (w ∷ ws) [] are m = absurd m
  all_ends k d (a ∷ others) (w ∷ ws) (e ∷ es) are m = own_ends k d a others w e es are.0 m.0 (all_ends k d others ws es are.1 m.1)

  -- THE JOBS WERE RUN
  pub have_run : (programs : List (Assigned G)) (rounds : ℕ) (start : Option CarrierDuty) (d : CarrierDuty) (jobs : List (NodeWork G P L S))
      (es : List (NodeEnd L)) (halt : Sitting HubLog HubEvent) → start ≡ Some d → AreNodeDealt cell hub host programs rounds start jobs
      → AllEnd (ends_as task handed given faults) jobs es → IsSeatOf hub halt → halt.mine ≡ []
      → HasRunDocked task handed given faults cell hub host programs rounds d es halt
  have_run programs rounds start d jobs es halt is dealt each seat unhalted = record {
    clock = dealt.clock;
    clock_port = dealt.clock_port;
    so_many = dealt.so_many;
    each_end = all_ends dealt.clock d programs dealt.first es dealt.each
        (end_each (dealt.first ++ works.Clock dealt.clock ∷ works.Carrier (Some d) ∷ []) es
        (subst (λ (l : List (NodeWork G P L S)). AllEnd (ends_as task handed given faults) l es)
        (dealt.all ∙ ap (λ x. dealt.first ++ works.Clock dealt.clock ∷ works.Carrier x ∷ []) is) each));
    seat = seat;
    unhalted = unhalted;
  }
