use Rattle.std.proofs.Common.{◌≡◌, ◌<◌, List, length, sym, ap, arith, ◌∙◌}
use Rattle.std.proofs.lemmas.Bool.{leb-false}
use Rattle.vk_types.specs.Types.{Registration}
use Rattle.vk_base.specs.Kernel.{others}
use Rattle.vk_names.proofs.Entries.{replaced_apart}
use Rattle.vk_names.proofs.names.Names.set.Goals as goal

pub push_name-requires : goal.push_name-requires
push_name-requires c =
    let same : length c.keep_others.new.names.items ≡ length (others c.deref-2.result.now c.args.logical) =
    ap (λ (ns : List Registration). length ns) (c.keep_others.ensures.items ∙ ap (λ ns. others ns c.args.logical) (sym c.deref-2.ensures.value)) in
    let low : length (others c.deref-2.result.now c.args.logical) < 64 =
    leb-false 64 (length (others c.deref-2.result.now c.args.logical)) (sym c.is_full.ensures ∙ c.if-is_full.false) in
    omega (arith, same, low, c.self.invariant.0, c.keep_others.new.names.ok.0)

pub invariant_of-self : goal.invariant_of-self
invariant_of-self c =
    (omega (arith, c.self.invariant.0), replaced_apart _ _ _ _ c.push_name.ensures.items c.keep_others.ensures.items c.self.invariant.1)
