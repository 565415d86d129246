use Rattle.std.proofs.Common.{◌+◌, ◌≤◌, length, refl, sym, ap, subst, ◌∙◌, arith}
use Rattle.std.specs.Prelude.{sum_by}
use Rattle.std.specs.Vec.{with_item}
use Rattle.std.proofs.lemmas.List.{length-map}
use Rattle.std.proofs.lemmas.Result.{err_from_is_err_and}
use Rattle.vk_host.specs.Values.{StationValue}
use Rattle.vk_host.specs.Responses.{answer_of}
use Rattle.vk_cluster.specs.declared.emitted.TheConstants.{EVENT_BYTES}
use Rattle.vk_cluster.specs.declared.frames.TheConstants.{MOST_BYTES}
use Rattle.vk_cluster.specs.Piles.{AreFrames, IsAdded, items_of, pile_of}
use Rattle.vk_join.proofs.Playing.{IsPlaying, bytes_at, events_low, few_at, found_here, frames_at, over_at, own_at, place_low, played_next, put_there}
use Rattle.vk_join.proofs.replay.Replay.play.Goals as goal

pub index_mut-requires : goal.index_mut-requires
index_mut-requires c =
    let p : IsPlaying c.args.config.now c.args.logs.now c.args.position c.args.entry.now c.args.event.now c.args.self.now =
    record { frames = c.frames_are_spelled_once.ensures; packets = c.packets_are_spelled_once.ensures.read; next = c.requires } in
    omega (arith, place_low p, c.args.self.now.hosts.ok.0)

pub respond-response-requires : goal.respond-response-requires
respond-response-requires c =
    let p : IsPlaying c.args.config.now c.args.logs.now c.args.position c.args.entry.now c.args.event.now c.args.self.now =
    record { frames = c.frames_are_spelled_once.ensures; packets = c.packets_are_spelled_once.ensures.read; next = c.requires } in
    let s = c.index_mut.result.now in
    let here = found_here p s c.index_mut.ensures.value in
    record { few = few_at p s here; own = own_at p s here }

pub index-requires : goal.index-requires
index-requires c =
    let p : IsPlaying c.args.config.now c.args.logs.now c.args.position c.args.entry.now c.args.event.now c.args.self.now =
    record { frames = c.frames_are_spelled_once.ensures; packets = c.packets_are_spelled_once.ensures.read; next = c.requires } in
    omega (arith, place_low p, c.args.self.now.hosts.ok.0)

pub keep_frames-requires : goal.keep_frames-requires
keep_frames-requires c =
    let p : IsPlaying c.args.config.now c.args.logs.now c.args.position c.args.entry.now c.args.event.now c.args.self.now =
    record { frames = c.frames_are_spelled_once.ensures; packets = c.packets_are_spelled_once.ensures.read; next = c.requires } in
    let s = c.index_mut.result.now in
    let t = c.respond-response.new.self in
    let here = found_here p s c.index_mut.ensures.value in
    let same = put_there p s t c.index.result.now here c.index.ensures in
    let bytes = c.requires.played.bytes in
    let most = c.requires.played.most in
    record {
      kept = c.requires.played.at.kept;
      place = omega (arith, events_low p, length-map c.args.self.now.emitted.events.items items_of);
      most = omega arith;
      few =
          subst (λ (v : StationValue). AreFrames v.frames) (sym same)
          (frames_at p s t (answer_of c.respond-response.new.self c.respond-response.result) here c.respond-response.ensures.event);
      bytes =
          subst (λ (v : StationValue). sum_by length v.frames ≤ EVENT_BYTES) (sym same)
          (bytes_at p s t (answer_of c.respond-response.new.self c.respond-response.result) here c.respond-response.ensures.event);
    }

pub returns-in_err-keep_frames-clause-refused : goal.returns-in_err-keep_frames-clause-refused
returns-in_err-keep_frames-clause-refused c =
    let p : IsPlaying c.args.config.now c.args.logs.now c.args.position c.args.entry.now c.args.event.now c.args.self.now =
    record { frames = c.frames_are_spelled_once.ensures; packets = c.packets_are_spelled_once.ensures.read; next = c.requires } in
    let s = c.index_mut.result.now in
    let t = c.respond-response.new.self in
    let here = found_here p s c.index_mut.ensures.value in
    let u = c.index.result.now in
    let left = err_from_is_err_and c.from_residual.result c.from_residual.ensures.1 in
    rw (left.1, left.2)
    (over_at p s t u (answer_of c.respond-response.new.self c.respond-response.result) here c.respond-response.ensures.event (put_there p s t u here c.index.ensures)
    c.in_err-keep_frames.ensures.refused)

pub index-requires-2 : goal.index-requires-2
index-requires-2 c =
    let p : IsPlaying c.args.config.now c.args.logs.now c.args.position c.args.entry.now c.args.event.now c.args.self.now =
    record { frames = c.frames_are_spelled_once.ensures; packets = c.packets_are_spelled_once.ensures.read; next = c.requires } in
    omega (arith, place_low p, c.args.self.now.hosts.ok.0)

pub returns-clause-played : goal.returns-clause-played
returns-clause-played c =
    let p : IsPlaying c.args.config.now c.args.logs.now c.args.position c.args.entry.now c.args.event.now c.args.self.now =
    record { frames = c.frames_are_spelled_once.ensures; packets = c.packets_are_spelled_once.ensures.read; next = c.requires } in
    let s = c.index_mut.result.now in
    let t = c.respond-response.new.self in
    let here = found_here p s c.index_mut.ensures.value in
    let r = c.args.self.now in
    let same = put_there p s t c.index.result.now here c.index.ensures in
    let again = put_there p s t c.index-2.result.now here c.index-2.ensures in
    let pile = pile_of c.keep_frames.new.emitted in
    played_next p s t (answer_of c.respond-response.new.self c.respond-response.result)
    (record { alloc = r.alloc; hosts = with_item r.hosts c.args.position.place t; emitted = c.keep_frames.new.emitted; keys = c.push_key.new.keys })
    c.number-number.result here c.respond-response.ensures.event
    (subst (λ (w : StationValue). IsAdded (pile_of r.emitted) pile c.args.position.place w.frames) same c.in_ok-keep_frames.ensures.added)
    refl (c.number-number.ensures ∙ ap (λ (w : StationValue). w.number) again) c.in_ok-push_key.ensures
    (subst (λ (w : StationValue). length (pile_of r.emitted).bytes + sum_by length w.frames ≤ MOST_BYTES) same
    c.in_ok-keep_frames.ensures.most)
