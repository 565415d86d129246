use Rattle.std.proofs.Common.{◌≡◌, ◌+◌, ◌<◌, [], ◌∷◌, ◌++◌, length, take, refl, sym, ap, subst, ◌∙◌, arith, vec_len, vec_capacity}
use Rattle.std.specs.Prelude.{slice_get, sum_by, Some}
use Rattle.std.specs.Global.{Vec}
use Rattle.std.proofs.lemmas.List.{length-map, take_all}
use Rattle.std.proofs.lemmas.List.Sums.{sum_by-append}
use Rattle.vk_rules.proofs.Lists.{each_at}
use Rattle.vk_cluster.specs.declared.emitted.Span.{Span}
use Rattle.vk_cluster.specs.Blocks.{IsFrameSized}
use Rattle.vk_cluster.specs.Piles.{IsAdding, items_of, pile_of}
use Rattle.vk_cluster.proofs.Handed.{named_again}
use Rattle.vk_cluster.proofs.Loops.{adding_count, sum_next, take_get}
use Rattle.vk_cluster.proofs.Piles.{added, adding_more, adding_none}
use Rattle.vk_cluster.proofs.cluster.keep.Goals as goal

pub loop-at-init : goal.loop-at-init
loop-at-init c = record {
  adding = adding_none (pile_of c.args.emitted.now) c.requires.kept;
  events = refl;
  for_bytes = omega arith;
  for_frames = omega arith;
}

pub put-requires : goal.put-requires
put-requires c =
    let next = sum_next c.args.host.now.frames c.loop-at.at c.frame.result.now c.frame.ensures in
    let bytes = c.loop-at.invariant.adding.bytes in
    let count = c.requires.few.few in
    let room = c.requires.room in
    let kept = c.loop-at.invariant in
    record {
      to = named_again c.frame.result.now c.packet-to.result.0 (c.loop-at.at + 1) c.packet-to.result.1.now
          (c.packet-to.ensures.opens c.frame.result.now c.frame.ensures);
      frame = each_at IsFrameSized c.args.host.now.frames c.loop-at.at c.frame.result.now c.requires.few.each c.frame.ensures;
      bytes = omega arith;
      frames = omega arith;
      most = omega arith;
    }

pub loop-at-preserved : goal.loop-at-preserved
loop-at-preserved c =
    let fs = c.args.host.now.frames in
    let f = c.frame.result.now in
    let more = take_get fs c.loop-at.at f c.frame.ensures in
    record {
      adding =
          subst (IsAdding (pile_of c.args.emitted.now) (pile_of c.put.new.self)) (sym more)
          (adding_more (pile_of c.args.emitted.now) (pile_of c.loop-at.emitted) (pile_of c.put.new.self) (take c.loop-at.at fs) f
          c.loop-at.invariant.adding c.put.ensures.pile);
      events = c.put.ensures.events ∙ c.loop-at.invariant.events;
      for_bytes =
          let before = c.loop-at.invariant.for_bytes in
          let put = c.put.ensures.bytes in
          let one : sum_by length (take (c.loop-at.at + 1) fs) ≡ sum_by length (take c.loop-at.at fs ++ f ∷ []) = ap (sum_by length) more in
          let two : sum_by length (take c.loop-at.at fs ++ f ∷ []) ≡ sum_by length (take c.loop-at.at fs) + sum_by length (f ∷ []) =
          sum_by-append length (take c.loop-at.at fs) (f ∷ []) in
          omega arith;
      for_frames = let before = c.loop-at.invariant.for_frames in let put = c.put.ensures.frames in omega arith;
    }

pub end_event-requires : goal.end_event-requires
end_event-requires c =
    let fs = take c.loop-at.at c.args.host.now.frames in
    let count = adding_count (pile_of c.args.emitted.now) (pile_of c.loop-at.emitted) fs c.loop-at.invariant.adding in
    let same = sym c.loop-at.invariant.events in
    record {
      place = subst (λ (v : Vec (Vec Span)). c.args.place < length v.items) same c.requires.place;
      first = let from = c.len-first.ensures in omega arith;
      room =
          subst (λ (v : Vec (Vec Span)). (s : Vec Span) → slice_get v.items c.args.place ≡ Some s → vec_len s < vec_capacity s) same
          c.requires.room.for_event;
    }

pub returns : goal.returns
returns c =
    let before = pile_of c.args.emitted.now in
    let fs = c.args.host.now.frames in
    let low : c.args.place < length before.events =
    omega (arith, c.requires.place, length-map c.args.emitted.now.events.items items_of) in
    let first : c.len-first.result ≡ length before.frames = c.len-first.ensures in
    let all : IsAdding before (pile_of c.loop-at.emitted) fs =
    subst (IsAdding before (pile_of c.loop-at.emitted)) (take_all c.loop-at.at fs (omega arith)) c.loop-at.invariant.adding in
    added before (pile_of c.loop-at.emitted) (pile_of c.end_event.new.self) fs c.args.place c.len-first.result low first all
    c.end_event.ensures
