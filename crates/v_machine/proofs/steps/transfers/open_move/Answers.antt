use Rattle.std.proofs.Common.{sym}
use Rattle.vk_base.specs.Kernel.{move_of}
use Rattle.v_laws.proofs.StepLemmas.{only_if_is}
use Rattle.v_machine.specs.Kept.{kernel_in}
use Rattle.v_machine.proofs.Fits.{read_room}
use Rattle.v_machine.proofs.MoveSteps.{opens, opens_not}
use Rattle.v_machine.proofs.Stores.{process_at, is_error}
use Rattle.v_machine.proofs.steps.transfers.open_move.Goals as goal

pub returns-in_err-noted : goal.returns-in_err-noted
returns-in_err-noted c =
    let s = c.args.store.now in
    let name = c.args.name in
    let here = c.in-Some.ensures.here in
    let p = process_at s name.sender c.in-Some.at here in
    let e = c.in-Some-sent_of.sent.now in
    let m = c.in-Some-later_move.later.now in
    let at = c.in-Some-sent_of.ensures name.sender here.place in
    let later = sym c.in-Some-later_move.ensures in
    let fits = read_room c.requires.size (kernel_in s) name p.0 e c.args.moving m c.requires.sized p.1 at
    (only_if_is _ (move_of e c.args.moving) m later).1 in
    let notes = c.in_err-noted.ensures name.sender p.0 here.place p.1 fits in
    rw (is_error c.from_residual.result _ c.from_residual.ensures.1)
    (opens_not s name c.args.moving c.args.room p.0 e m (c.in-Some.ensures.there p.0 p.1) at later c.in_err-noted.field-0.0 notes
    c.requires.indexed)

pub returns : goal.returns
returns c =
    let s = c.args.store.now in
    let name = c.args.name in
    let here = c.in-Some.ensures.here in
    let p = process_at s name.sender c.in-Some.at here in
    let e = c.in-Some-sent_of.sent.now in
    let m = c.in-Some-later_move.later.now in
    let at = c.in-Some-sent_of.ensures name.sender here.place in
    let later = sym c.in-Some-later_move.ensures in
    let fits = read_room c.requires.size (kernel_in s) name p.0 e c.args.moving m c.requires.sized p.1 at
    (only_if_is _ (move_of e c.args.moving) m later).1 in
    let notes = c.in_ok-noted.ensures name.sender p.0 here.place p.1 fits in
    let put = c.put_open.ensures name.sender e here.place at in
    opens s name c.args.moving c.args.room p.0 e m (c.in-Some.ensures.there p.0 p.1) at later _ c.in_ok-noted.noted notes put.0
    (put.1 c.requires.indexed)
