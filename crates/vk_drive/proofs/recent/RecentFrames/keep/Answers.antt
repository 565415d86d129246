use Rattle.std.proofs.Common.{◌≡◌, ◌+◌, ◌%◌, [], ◌∷◌, ◌++◌, length, take, set, sym, ap, subst, ◌∙◌, append_assoc, arith}
use Rattle.std.specs.Prelude.{slice_get, sum_by}
use Rattle.std.proofs.lemmas.List.{length-map, length-set, take_all}
use Rattle.std.proofs.lemmas.List.Sums.{sum_by-append}
use Rattle.vk_cluster.proofs.Loops.{take_get}
use Rattle.vk_host.specs.Sealed.{sealed}
use Rattle.vk_drive.specs.Driving.{KeepsRecent}
use Rattle.vk_drive.proofs.Kept.{one_kept, told_at}
use Rattle.vk_drive.proofs.recent.RecentFrames.keep.Goals as goal

pub loop-at-preserved : goal.loop-at-preserved
loop-at-preserved c =
    let at = c.loop-at.at in
    let old = c.loop-at.self in
    let bytes = c.frame.result.now in
    let sent = c.args.station.now.frames in
    record {
      kept = λ all fs shows before.
          let one =
          told_at fs at c.header_of.result bytes (c.header_of.ensures fs shows)
          (ap (λ l. slice_get l at) (sym shows.sends.frames) ∙ c.frame.ensures) in
          let more = append_assoc all (take at fs) (one.frame ∷ []) ∙ ap (λ l. all ++ l) (sym (take_get fs at one.frame one.found)) in
          subst (λ l. KeepsRecent l c.put.new.self) more
          (one_kept old c.put.new.self (all ++ take at fs) one.frame (c.loop-at.invariant.kept all fs shows before)
          (c.put.ensures.frames ∙ ap (set old.frames.items (old.count % 32)) one.is) c.put.ensures.count);
      places = ap length c.put.ensures.frames ∙ length-set old.frames.items (old.count % 32) _ ∙ c.loop-at.invariant.places;
      count = let before = c.loop-at.invariant.count in let put = c.put.ensures.count in omega (arith, before, put);
      size =
          let before = c.loop-at.invariant.size in
          let put = c.put.ensures.size in
          let more = ap (sum_by length) (take_get sent at bytes c.frame.ensures) in
          let parts : sum_by length (take at sent ++ bytes ∷ []) ≡ sum_by length (take at sent) + sum_by length (bytes ∷ []) =
          sum_by-append length (take at sent) (bytes ∷ []) in
          omega arith;
    }

pub returns-clause-kept : goal.returns-clause-kept
returns-clause-kept c all fs shows before =
    let shown = ap length shows.sends.frames ∙ length-map fs sealed in
    let count = c.frame_count-at-end.ensures in
    subst (λ l. KeepsRecent (all ++ l) c.loop-at.self) (take_all c.loop-at.at fs (omega (arith, shown, count)))
    (c.loop-at.invariant.kept all fs shows before)
