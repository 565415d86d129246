use Rattle.std.proofs.Common.{Some, refl, ap, ◌∙◌}
use Rattle.vk_drive.proofs.Acted.{few_bytes, few_events, few_frames, one, own, played, shown}
use Rattle.vk_drive.proofs.stations.StormStations.play.Goals as goal

pub respond-requires-clause-few : goal.respond-requires-clause-few
respond-requires-clause-few c =
    few_events c.requires.may.0 c.args.self.now c.args.next.now c.args.frame c.requires.may.1 c.place_of-place.result
    (c.place_of-place.ensures ∙ ap Some c.station.ensures) c.index_mut-host.result.now c.index_mut-host.ensures.value

pub respond-requires-clause-own : goal.respond-requires-clause-own
respond-requires-clause-own c =
    own c.requires.may.0 c.args.self.now c.args.next.now c.args.frame c.requires.may.1 c.place_of-place.result
    (c.place_of-place.ensures ∙ ap Some c.station.ensures) c.index_mut-host.result.now c.index_mut-host.ensures.value

pub keep-requires-clause-told : goal.keep-requires-clause-told
keep-requires-clause-told c =
    let es = c.requires.may.0 in
    let old = c.args.self.now in
    let may = c.requires.may.1 in
    let place = c.place_of-place.result in
    let there = c.place_of-place.ensures ∙ ap Some c.station.ensures in
    let s = c.index_mut-host.result.now in
    let comes = c.bytes_with-bytes.ensures es old may refl in (
      (one es old c.args.next.now c.args.frame may place there s c.index_mut-host.ensures.value c.frames_unseal_again.ensures
          c.bytes_with-bytes.result.now comes c.respond.new.host c.respond.new.into c.respond.ensures).entry.frames,
      shown es old c.args.next.now c.args.frame may place there s c.index_mut-host.ensures.value c.frames_unseal_again.ensures
          c.bytes_with-bytes.result.now comes c.respond.new.host c.respond.new.into c.respond.ensures,
    )

pub keep-requires-clause-few : goal.keep-requires-clause-few
keep-requires-clause-few c =
    let es = c.requires.may.0 in
    let old = c.args.self.now in
    let may = c.requires.may.1 in
    few_frames es old c.args.next.now c.args.frame may c.place_of-place.result (c.place_of-place.ensures ∙ ap Some c.station.ensures)
    c.index_mut-host.result.now c.index_mut-host.ensures.value c.frames_unseal_again.ensures c.bytes_with-bytes.result.now
    (c.bytes_with-bytes.ensures es old may refl) c.respond.new.host c.respond.new.into c.respond.ensures

pub keep-requires-clause-bytes : goal.keep-requires-clause-bytes
keep-requires-clause-bytes c =
    let es = c.requires.may.0 in
    let old = c.args.self.now in
    let may = c.requires.may.1 in
    few_bytes es old c.args.next.now c.args.frame may c.place_of-place.result (c.place_of-place.ensures ∙ ap Some c.station.ensures)
    c.index_mut-host.result.now c.index_mut-host.ensures.value c.frames_unseal_again.ensures c.bytes_with-bytes.result.now
    (c.bytes_with-bytes.ensures es old may refl) c.respond.new.host c.respond.new.into c.respond.ensures

pub returns : goal.returns
returns c es may =
    let old = c.args.self.now in
    played es old c.args.next.now c.args.frame may c.place_of-place.result (c.place_of-place.ensures ∙ ap Some c.station.ensures)
    c.index_mut-host.result.now c.index_mut-host.ensures.value c.frames_unseal_again.ensures c.bytes_with-bytes.result.now
    (c.bytes_with-bytes.ensures es old may refl) c.respond.new.host c.respond.new.into c.respond.ensures _ refl c.keep.ensures.kept
    c.keep.ensures.count c.keep.ensures.size
