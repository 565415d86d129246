use Rattle.std.proofs.Common.{◌≡◌, ◌+◌, ◌≤◌, length, sym, ap, subst, ◌∙◌, arith}
use Rattle.std.proofs.lemmas.Grind.{common_steps}
use Rattle.std.proofs.lemmas.Option.{none-some}
use Rattle.vk_types.specs.Types.{Move}
use Rattle.vk_base.specs.Kernel.{move_of}
use Rattle.vk_base.specs.Ranges.{with_bytes, bytes_in}
use Rattle.v_machine.specs.Places.{count_at}
use Rattle.v_machine.specs.Tables.{process_of}
use Rattle.v_machine.proofs.KernelLemmas.{kernel-process, sent_there, memory_is}
use Rattle.v_machine.proofs.tables.moving.write_part.Goals as goal

pub returns-in_default-clause-kernel : goal.returns-in_default-clause-kernel
returns-in_default-clause-kernel c = λ sender pid p e m place into there at_name is fits.
    let s = c.args.store.now in
    let named = sent_there s.places s.procs.items s.sends.items s.asked.items sender c.args.from c.index.result.now c.args.number place
    c.requires.from c.index.ensures in
    absurd (none-some e (grind (arith, common_steps, named, at_name)))

pub returns-in_default-move_of-clause-kernel : goal.returns-in_default-move_of-clause-kernel
returns-in_default-move_of-clause-kernel c = λ sender pid p e m place into there at_name is fits.
    let s = c.args.store.now in
    let named = sent_there s.places s.procs.items s.sends.items s.asked.items sender c.args.from c.index.result.now c.args.number place
    c.requires.from c.index.ensures in
    let sent : c.in-Some.sent.now ≡ e = grind (arith, common_steps, named, at_name) in
    let none = ap (λ x. move_of x c.args.moving) sent ∙ is in
    absurd (none-some m (grind (arith, common_steps, none)))

pub returns-clause-kernel : goal.returns-clause-kernel
returns-clause-kernel c = λ sender pid p e m place into there at_name is fits.
    let s = c.args.store.now in
    let x = c.index_mut-proc.result.now in
    let named = sent_there s.places s.procs.items s.sends.items s.asked.items sender c.args.from c.index.result.now c.args.number place
    c.requires.from c.index.ensures in
    let sent : c.in-Some.sent.now ≡ e = grind (arith, common_steps, named, at_name) in
    let found = ap (λ x. move_of x c.args.moving) sent ∙ is in
    let opened : c.in-Some-move_of.opened.now ≡ m = grind (arith, common_steps, found) in
    let size = memory_is s.places s.procs.items s.sends.items s.asked.items pid c.args.to x p into c.requires.to
    c.index_mut-proc.ensures.value there in
    let room : c.in-Some-move_of.opened.now.dest + (c.args.part.start + c.args.part.len) ≤ length x.memory =
    subst (λ n. c.in-Some-move_of.opened.now.dest + (c.args.part.start + c.args.part.len) ≤ n) (sym size)
    (subst (λ (y : Move). y.dest + (c.args.part.start + c.args.part.len) ≤ length p.memory) (sym opened) fits) in
    let written = c.copy_part.ensures room
    ∙ ap (λ (y : Move). with_bytes x.memory (y.dest + c.args.part.start) (bytes_in c.args.part y.bytes)) opened in
    kernel-process s.places s.procs.items s.sends.items s.asked.items s.names.items s.arrived
    (λ q. record q { memory = with_bytes q.memory (m.dest + c.args.part.start) (bytes_in c.args.part m.bytes) }) pid c.args.to x _ p
    into c.requires.to c.index_mut-proc.ensures.value there
    (ap (λ b. process_of (record x { memory = b }) (count_at s.sends.items c.args.to) (count_at s.asked.items c.args.to)) written)
