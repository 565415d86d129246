use Rattle.std.proofs.Common.{◌≡◌, ◌≤◌, ◌||◌, false, length, nat_le, nat_lt, Some, refl, sym, ap, subst, ◌∙◌, arith}
use Rattle.std.proofs.lemmas.List.{length-map}
use Rattle.std.proofs.lemmas.Result.{err_from_is_err_and}
use Rattle.vk_base.specs.declared.limits.TheConstants.{EVENTS}
use Rattle.vk_base.specs.Settings.{has_station}
use Rattle.vk_cluster.specs.declared.emitted.TheConstants.{LAST_BYTES}
use Rattle.vk_cluster.specs.Clusters.{cluster_of}
use Rattle.vk_cluster.specs.Piles.{items_of}
use Rattle.vk_rules.specs.Laws.{station_of}
use Rattle.vk_cluster.specs.Standing.{IsAdvance, StandsSomewhere, advanced}
use Rattle.vk_cluster.specs.Values.{ClusterValue}
use Rattle.vk_cluster.proofs.Arms.{events_low}
use Rattle.vk_cluster.proofs.Taking.{actor_station, few_bytes, few_events, same_pile, same_value}
use Rattle.vk_cluster.proofs.cluster.ClusterParts.advance.Goals as goal

pub place_of-place-requires : goal.place_of-place-requires
place_of-place-requires c =
    ap (has_station c.args.self.now.config.specs) c.acting.ensures
    ∙ actor_station c.args.self.now.config.specs c.args.event.now c.requires.actors

pub make_room-requires : goal.make_room-requires
make_room-requires c =
    let v = cluster_of c.args.self.now in
    let low = events_low v c.requires.somewhere c.place_of-place.result c.acting.result c.place_of-place.ensures in
    let below : (nat_le EVENTS v.events || nat_lt LAST_BYTES c.size.result) ≡ false = sym c.is_full.ensures ∙ c.if-is_full.false in
    record {
      place = omega (arith, length-map c.args.self.now.emitted.events.items items_of);
      small = omega arith;
      few =
          let few : length v.pile.bytes ≤ 266076160 =
          subst (λ n. n ≤ LAST_BYTES) c.size.ensures (few_bytes (nat_le EVENTS v.events) c.size.result below) in
          omega arith;
    }

pub play-requires : goal.play-requires
play-requires c =
    let old = c.args.self.now in
    let e = c.make_room.new.self in
    let same =
    same_value old e (same_pile old.emitted e c.in_ok-make_room.ensures.frames c.in_ok-make_room.ensures.events) in
    let low : (nat_le EVENTS old.events || nat_lt LAST_BYTES c.size.result) ≡ false = sym c.is_full.ensures ∙ c.if-is_full.false in
    record {
      somewhere = subst StandsSomewhere (sym same) c.requires.somewhere;
      few = few_events old.events (nat_lt LAST_BYTES c.size.result) low;
      actors = c.requires.actors;
      place = c.place_of-place.ensures ∙ ap Some c.acting.ensures;
      room = c.in_ok-make_room.ensures.room;
    }

pub returns-then-is_full : goal.returns-then-is_full
returns-then-is_full c =
    let old = c.args.self.now in
    record {
      step = tt;
      room = tt;
      cause = ap (λ n. nat_le EVENTS old.events || nat_lt LAST_BYTES n) (sym c.size.ensures) ∙ sym c.is_full.ensures ∙ c.if-is_full.true;
      same = refl;
    }

pub returns-in_err-make_room : goal.returns-in_err-make_room
returns-in_err-make_room c =
    let old = c.args.self.now in
    let e = c.make_room.new.self in
    let p = err_from_is_err_and c.from_residual.result c.from_residual.ensures.1 in
    rw (p.1, p.2) (record {
      step = tt;
      room = tt;
      cause = ap (λ n. nat_le EVENTS old.events || nat_lt LAST_BYTES n) (sym c.size.ensures) ∙ sym c.is_full.ensures ∙ c.if-is_full.false;
      same =
          same_value old e
          (same_pile old.emitted e c.in_err-make_room.ensures.frames c.in_err-make_room.ensures.events);
    })

pub returns : goal.returns
returns c =
    let old = c.args.self.now in
    let e = c.make_room.new.self in
    let same =
    same_value old e (same_pile old.emitted e c.in_ok-make_room.ensures.frames c.in_ok-make_room.ensures.events) in
    record {
      step = subst (λ (v : ClusterValue). IsAdvance v (cluster_of c.play.new.self) c.args.event.now
          (advanced (station_of c.args.event.now) c.play.new.response c.play.result)) same c.play.ensures;
      room = ap (λ n. nat_le EVENTS old.events || nat_lt LAST_BYTES n) (sym c.size.ensures) ∙ sym c.is_full.ensures ∙ c.if-is_full.false;
      cause = tt;
      same = tt;
    }
