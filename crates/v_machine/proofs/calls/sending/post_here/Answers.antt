use Rattle.std.proofs.Common.{◌≡◌, ◌+◌, ◌==◌, [], ◌∷◌, ◌++◌, List, length, set, Some, refl, sym, ap, ◌∙◌, arith, length-append, if◌then◌else◌}
use Rattle.std.proofs.lemmas.Bool.{cond-true}
use Rattle.std.proofs.lemmas.Option.{same_Some, slice_get-get_or}
use Rattle.vk_types.specs.Types.{Exchange}
use Rattle.vk_base.specs.Kernel.{name_of, without}
use Rattle.vk_base.specs.Pids.{same_host}
use Rattle.v_machine.specs.Latest.{latest_in}
use Rattle.v_machine.specs.Kept.{kernel_in}
use Rattle.v_machine.specs.Rules.{posted}
use Rattle.v_machine.proofs.Indexes.{list_at_is}
use Rattle.v_machine.proofs.KernelLemmas.{set_self, count_pushed, exchanges-pushed, kernel-pushed}
use Rattle.v_laws.proofs.Without.{without_none}
use Rattle.v_machine.proofs.SendLemmas.{stays_alike, truncated, new, indexed_posted}
use Rattle.v_machine.proofs.Stores.{on_ok, on_err}
use Rattle.v_machine.proofs.calls.sending.post_here.Goals as goal

pub returns-then-is_err-clause-err : goal.returns-then-is_err-clause-err
returns-then-is_err-clause-err c =
    let s = c.args.store.now in
    let failed = on_err c.push-2.result _ (sym c.is_err.ensures.value ∙ c.if-is_err.true) c.push-2.ensures.err in
    let sends = ap (set s.sends.items c.args.caller.at) failed
    ∙ set_self s.sends.items c.args.caller.at c.index_mut-2.result.now c.index_mut-2.ensures.value in
    let queues = truncated s.queues.items c.args.coming.to c.len-waiting.result c.index_mut.result.now c.index-2.result.now c.push.new.self
    c.index_mut-then-is_err.result.now c.truncate.new.self _ c.requires.there.queues c.index_mut.ensures.value c.index-2.ensures
    c.len-waiting.ensures c.in_ok-push.ensures.ok c.index_mut-then-is_err.ensures.value c.truncate.ensures in
    stays_alike s _ refl refl sends refl refl refl queues refl (λ q h. refl) c.requires.kept.indexed

pub returns-clause-ok : goal.returns-clause-ok
returns-clause-ok c = λ p there ready.
    let s = c.args.store.now in
    let pid = c.args.caller.pid in
    let at = c.args.caller.at in
    let here = c.requires.here in
    let x = c.args.sent in
    let s0 = c.index_mut-2.result.now in
    let pushed = on_ok c.push-2.result _ (sym c.is_err.ensures.value ∙ c.if-is_err.false) c.push-2.ensures.ok in
    let counted = count_pushed s.places s.procs.items s.sends.items s.asked.items pid at p c.args.sent s0 c.push-2.new.self here.place
    here.procs here.sends c.index_mut-2.ensures.value pushed there in
    let one : c.index.result.now ≡ s0 = same_Some c.index.result.now s0
    (sym (slice_get-get_or s.sends.items at c.index.result.now here.sends ∙ ap Some (sym c.index.ensures))
    ∙ slice_get-get_or s.sends.items at s0 here.sends ∙ ap Some (sym c.index_mut-2.ensures.value)) in
    let number : c.next_number-number.result ≡ p.sends + 1 = c.next_number-number.ensures ∙ ap (λ (ss : List Exchange). length ss + 1) one
    ∙ sym counted in
    let unknown = new s pid at c.args.coming.to p x c.requires.kept here c.requires.there c.requires.local c.requires.queued there ready in
    let arrived : c.push-3.new.self ≡ s.arrived ++ name_of pid (p.sends + 1) ∷ [] = c.push-3.ensures
    ∙ ap (λ n. without (name_of pid n) s.arrived ++ name_of pid n ∷ []) number
    ∙ ap (λ ns. ns ++ name_of pid (p.sends + 1) ∷ []) (without_none (name_of pid (p.sends + 1)) s.arrived unknown) in
    let exchanges = exchanges-pushed s.places s.procs.items s.sends.items s.asked.items pid at p c.args.sent s0 c.push-2.new.self here.place
    here.procs here.sends c.index_mut-2.ensures.value pushed there in
    let grown : length c.push-2.new.self ≡ p.sends + 1 = ap length pushed ∙ length-append s0 (c.args.sent ∷ []) ∙ sym counted in
    let mine = ap length (list_at_is s.places s.sends.items pid at s0 here.place here.sends c.index_mut-2.ensures.value) in
    let waits : c.push.new.self ≡ c.index_mut.result.now ++ name_of pid (p.sends + 1) ∷ [] = c.in_ok-push.ensures.ok
    ∙ ap (λ n. c.index_mut.result.now ++ name_of pid n ∷ []) number in (
      kernel-pushed s.places s.procs.items s.sends.items s.asked.items pid at p c.args.sent s0 c.push-2.new.self here.place here.procs
          here.sends c.index_mut-2.ensures.value pushed there s.names.items s.arrived c.push-3.new.self
          ∙ ap (λ a. record (posted (kernel_in s) pid p x) { arrived = a })
          (arrived ∙ sym
          (cond-true (same_host pid x.target) (s.arrived ++ name_of pid (p.sends + 1) ∷ []) s.arrived c.requires.local)),
      indexed_posted s pid at c.args.coming.to p x c.requires.kept here c.requires.there c.requires.local c.requires.queued there ready _
          c.push-2.new.self c.index_mut.result.now c.index_mut-3.result.now c.put.new.self refl refl refl
          refl grown (omega (arith, grown, mine, counted)) exchanges arrived c.index_mut.ensures.value
          (ap (set s.queues.items c.args.coming.to) waits) c.index_mut-3.ensures.value refl
          (λ h. c.put.ensures pid.host h (c.requires.room c.index_mut-3.result.now c.index_mut-3.ensures.value) ∙ ap (λ n. if h == pid.host then n else latest_in c.index_mut-3.result.now h) number),
    )
