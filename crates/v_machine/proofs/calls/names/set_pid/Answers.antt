use Rattle.std.proofs.Common.{◌≡◌, ℕ, true, false, List, filter, length, nat_le, refl, sym, ap, ◌∙◌, lit≤, arith}
use Rattle.std.proofs.lemmas.Bool.{eq-eqb}
use Rattle.vk_types.specs.Types.{Registration}
use Rattle.vk_base.specs.Kernel.{is_live, others, put_names}
use Rattle.vk_base.specs.Calls.{with_name}
use Rattle.v_machine.specs.Kept.{kernel_in}
use Rattle.v_machine.specs.Names.{is_other, with_registered}
use Rattle.v_machine.specs.Tables.{names_by}
use Rattle.v_machine.proofs.Indexes.{indexed_same}
use Rattle.v_machine.proofs.Naming.{others_are, names-registered, set_pid_allowed, set_pid_full}
use Rattle.v_machine.proofs.calls.names.set_pid.Goals as goal

pub returns-then-is_full : goal.returns-then-is_full
returns-then-is_full c = λ p there ready.
    let k = kernel_in c.args.store.now in
    let names = c.args.store.now.names.items in
    let host = c.args.name.pid.host in
    let logical = c.args.name.logical in
    let same : c.args.pid.host ≡ host = omega arith in
    let live : is_live (k.procs c.args.name.pid) ≡ true = grind (arith, c.is_live.ensures) in
    let full : nat_le 64 (length (others (names_by names c.args.pid.host) logical)) ≡ true =
    ap (λ (h : ℕ). nat_le 64 (length (others (names_by names h) logical))) same
    ∙ ap (λ (ns : List Registration). nat_le 64 (length ns)) (others_are names host logical)
    ∙ ap (λ (ns : List Registration). nat_le 64 (length (filter (is_other host logical) ns))) (sym c.deref-2.ensures.value)
    ∙ sym c.is_full.ensures ∙ c.if-is_full.true in (
      record {
        effect = set_pid_full k c.args.pid p c.args.name (eq-eqb c.args.pid.host host same) live full;
        indexed = c.requires.indexed;
      },
      lit≤ tt,
    )

pub returns : goal.returns
returns c = λ p there ready.
    let k = kernel_in c.args.store.now in
    let names = c.args.store.now.names.items in
    let host = c.args.name.pid.host in
    let logical = c.args.name.logical in
    let same : c.args.pid.host ≡ host = omega arith in
    let live : is_live (k.procs c.args.name.pid) ≡ true = grind (arith, c.is_live.ensures) in
    let few : nat_le 64 (length (others (names_by names c.args.pid.host) logical)) ≡ false =
    ap (λ (h : ℕ). nat_le 64 (length (others (names_by names h) logical))) same
    ∙ ap (λ (ns : List Registration). nat_le 64 (length ns)) (others_are names host logical)
    ∙ ap (λ (ns : List Registration). nat_le 64 (length (filter (is_other host logical) ns))) (sym c.deref-2.ensures.value)
    ∙ sym c.is_full.ensures ∙ c.if-is_full.false in
    let new : c.register.new.names.items ≡ with_registered names c.args.name = c.in_ok-register.ensures.ok in
    let named : names_by c.register.new.names.items ≡ put_names (names_by names) c.args.pid.host
    (with_name (names_by names c.args.pid.host) c.args.name) =
    ap names_by new ∙ names-registered names c.args.name
    ∙ ap (λ (h : ℕ). put_names (names_by names) h (with_name (names_by names h) c.args.name)) (sym same) in (
      record {
        effect = set_pid_allowed k _ c.args.pid p c.args.name (eq-eqb c.args.pid.host host same) live few
            (ap (λ (n : ℕ → List Registration). record k { names = n }) named);
        indexed = indexed_same c.args.store.now _ refl refl refl refl refl refl refl c.requires.indexed;
      },
      lit≤ tt,
    )
