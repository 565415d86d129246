use Rattle.std.proofs.Common.{◌≡◌, ◌+◌, ◌-◌, ◌++◌, length, map, ap, ◌∙◌, arith}
use Rattle.vk_pool.specs.Kept.{shown}
use Rattle.vk_pool.proofs.Shown.{made_count, nothing, pushed}
use Rattle.vk_pool.proofs.slots.push_slots.Goals as goal

pub push_reserved-requires : goal.push_reserved-requires
push_reserved-requires c =
    let before = c.args.slots.now in
    let size = made_count (c.loop-made._made - length before.items) before.items c.loop-made.slots.items c.loop-made.invariant.items in
    omega (
      arith,
      size,
      c.requires,
      before.ok.0,
      c.len-made.ensures,
      c.loop-made.slots.ok.0,
      c.loop-made.invariant.capacity,
      c.loop-made.invariant.most,
      c.loop-made-test.true,
      c.loop-made.auto._made,
    )

pub loop-made-preserved : goal.loop-made-preserved
loop-made-preserved c =
    let before = c.args.slots.now.items in
    let made = c.loop-made._made in
    let more : made - length before + 1 ≡ made + 1 - length before =
    omega (arith, c.loop-made.auto._made, c.len-made.ensures, c.args.slots.now.ok.0) in
    record {
      items =
          ap (map shown) c.push_reserved.ensures.items
          ∙ pushed (made - length before) before c.loop-made.slots.items c.empty.result c.empty.ensures c.loop-made.invariant.items
          ∙ ap (λ n. map shown before ++ nothing n) more;
      capacity = c.push_reserved.ensures.capacity ∙ c.loop-made.invariant.capacity;
      most = omega (arith, more, c.loop-made-test.true);
    }

pub returns-clause-items : goal.returns-clause-items
returns-clause-items c =
    let before = c.args.slots.now.items in
    let most = c.loop-made.invariant.most in
    let all : c.loop-made._made - length before ≡ c.args.at + 1 - length before = omega arith in
    c.loop-made.invariant.items ∙ ap (λ n. map shown before ++ nothing n) all
