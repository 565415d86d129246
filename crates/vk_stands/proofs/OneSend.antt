-- One Send of a kernel is as it was but for how far it is, or where; the others stay.
use Rattle.std.proofs.Common.{◌≡◌, Bool, true, false, Option, Some, refl, sym, ap, subst, ◌∙◌}
use Rattle.std.proofs.lemmas.Option.{same_Some}
use Rattle.vk_types.specs.Types.{Exchange, Name}
use Rattle.vk_base.specs.Kernel.{put_exchange, same_name}
use Rattle.v_laws.proofs.Tables.{put_exchange_at, put_exchange_other, same_name_is}
use Rattle.vk_stands.proofs.Views.{Goes, goes_self}

module _ (exchanges : Name → Option Exchange) (name : Name) (e x : Exchange) (at : exchanges name ≡ Some e) (goes : Goes e x) where
  forth_by : (n : Name) (z : Exchange) (b : Bool) → same_name n name ≡ b → exchanges n ≡ Some z →
      (v : Exchange) × (put_exchange exchanges name x n ≡ Some v) × Goes z v
  forth_by n z true same there =
      let one : e ≡ z = same_Some e z (sym at ∙ ap exchanges (sym (same_name_is n name same)) ∙ there) in
      (x, put_exchange_at exchanges name x n same, subst (λ a. Goes a x) one goes)
  forth_by n z false other there = (z, put_exchange_other exchanges name x n other ∙ there, goes_self z)

  pub put_forth : (n : Name) (z : Exchange) → exchanges n ≡ Some z → (v : Exchange) × (put_exchange exchanges name x n ≡ Some v) × Goes z v
  put_forth n z there = forth_by n z (same_name n name) refl there

  back_by : (n : Name) (v : Exchange) (b : Bool) → same_name n name ≡ b → put_exchange exchanges name x n ≡ Some v →
      (z : Exchange) × (exchanges n ≡ Some z) × Goes z v
  back_by n v true same there =
      let one : x ≡ v = same_Some x v (sym (put_exchange_at exchanges name x n same) ∙ there) in
      (e, ap exchanges (same_name_is n name same) ∙ at, subst (Goes e) one goes)
  back_by n v false other there = (v, sym (put_exchange_other exchanges name x n other) ∙ there, goes_self v)

  pub put_back : (n : Name) (v : Exchange) → put_exchange exchanges name x n ≡ Some v → (z : Exchange) × (exchanges n ≡ Some z) × Goes z v
  put_back n v there = back_by n v (same_name n name) refl there
