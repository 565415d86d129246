use Rattle.std.proofs.Common.{ℕ, true, sym, subst, ◌∙◌}
use Rattle.vk_types.specs.Types.{Pid}
use Rattle.vk_base.specs.Ranges.{range_of}
use Rattle.v_laws.proofs.Held.{holding_is}
use Rattle.v_machine.specs.declared.calls.access.SegmentAccess.{SegmentAccess}
use Rattle.v_machine.specs.Kept.{kernel_in}
use Rattle.v_machine.specs.Moves.{Copies}
use Rattle.v_machine.specs.Rules.{Stays}
use Rattle.v_machine.proofs.Accessing.{ranges_lie}
use Rattle.v_machine.proofs.MoveCalls.{granted_lies, to_refused, to_begins, to_wants, to_copied}
use Rattle.v_machine.proofs.Stores.{process_at, stays, is_error}
use Rattle.v_machine.proofs.Live.{live_held}
use Rattle.v_machine.proofs.calls.moves.move_to.Goals as goal

abbrev asked_for : Pid → ℕ → ℕ → ℕ → SegmentAccess
asked_for partner dest src count =
    record { partner = partner; limit = 65536; write = true; granted = range_of dest count; own = range_of src count }

pub begin_to-requires-clause-there : goal.begin_to-requires-clause-there
begin_to-requires-clause-there c =
    let p = process_at c.args.store.now c.args.pid c.args.at c.requires.here in
    (c.in-Ok.ensures p.0 p.1).2

pub copy_now-requires-clause-to : goal.copy_now-requires-clause-to
copy_now-requires-clause-to c =
    let p = process_at c.args.store.now c.args.pid c.args.at c.requires.here in
    (c.in-Ok.ensures p.0 p.1).2.procs

pub returns-in-Err : goal.returns-in-Err
returns-in-Err c = λ p there ready.
    let a = c.args.asked in
    to_refused c.args.store.now c.args.pid p a.partner a.dest a.src a.count c.args.room c.in-Err.why (c.in-Err.ensures p there)
    c.requires.kept.indexed

pub returns-then-not-is_at_once : goal.returns-then-not-is_at_once
returns-then-not-is_at_once c = λ p there ready.
    let s = c.args.store.now in
    let a = c.args.asked in
    let ok = c.in-Ok.ensures p there in
    let x = holding_is (kernel_in s) c.args.pid a.partner c.in-Ok.holding.number ok.1 in
    let lies =
    ranges_lie (kernel_in s) c.args.pid p (asked_for a.partner a.dest a.src a.count) c.in-Ok.holding.number x.exchange ok.1 x.is ok.0 in
    to_begins s c.args.pid p a.partner a.dest a.src a.count c.args.room c.in-Ok.holding.number x.exchange c.begin_to.new.store
    c.begin_to.result there ok.0 (sym c.is_at_once.ensures ∙ c.if-not-is_at_once.true) ok.1 x.is (c.begin_to.ensures p there lies.1)

pub returns-in_err-copy_now : goal.returns-in_err-copy_now
returns-in_err-copy_now c = λ p there ready.
    let s = c.args.store.now in
    let a = c.args.asked in
    let ok = c.in-Ok.ensures p there in
    let q = process_at s a.partner c.in-Ok.holding.at ok.2 in
    let same = c.in_err-copy_now.ensures.err in
    rw (is_error c.from_residual.result _ c.from_residual.ensures.1)
    (to_wants s c.args.pid p a.partner a.dest a.src a.count c.args.room q.0 c.copy_now.new.store ok.0
    (sym c.is_at_once.ensures ∙ c.if-not-is_at_once.false) q.1 (subst (Stays s) (sym same) (stays s c.requires.kept.indexed)))

pub returns : goal.returns
returns c = λ p there ready.
    let s = c.args.store.now in
    let a = c.args.asked in
    let h = c.in-Ok.holding in
    let ok = c.in-Ok.ensures p there in
    let q = process_at s a.partner h.at ok.2 in
    let x = holding_is (kernel_in s) c.args.pid a.partner h.number ok.1 in
    let lies = ranges_lie (kernel_in s) c.args.pid p (asked_for a.partner a.dest a.src a.count) h.number x.exchange ok.1 x.is ok.0 in
    let fits = granted_lies c.requires.kept.size (kernel_in s) a.partner h.number x.exchange q.0 (range_of a.dest a.count)
    c.requires.kept.sized x.is q.1 lies.0 in
    let copies : Copies c.args.at h.at (range_of a.src a.count) a.dest s c.copy_now.new.store = c.in_ok-copy_now.ensures.ok in
    to_copied s c.args.pid p a.partner a.dest a.src a.count c.args.room q.0 c.copy_now.new.store ok.0
    (sym c.is_at_once.ensures ∙ c.if-not-is_at_once.false) q.1
    (copies c.args.pid a.partner p q.0 c.requires.here.place ok.2.place there q.1 lies.1 fits)
    (c.copy_now.ensures.indexed c.requires.kept.indexed)

pub begin_to-requires-clause-live : goal.begin_to-requires-clause-live
begin_to-requires-clause-live c =
    let p = process_at c.args.store.now c.args.pid c.args.at c.requires.here in
    let ok = c.in-Ok.ensures p.0 p.1 in
    live_held c.args.store.now c.args.pid c.args.asked.partner c.in-Ok.holding.number c.in-Ok.holding.at ok.1 ok.2.place
