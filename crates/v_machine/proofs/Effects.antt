-- Effects that are the same once something was taken away of the kernels after them.
use Rattle.std.proofs.Common.{◌≡◌, Bool, true, false, cond, option_map, Option, Some, None, refl, ap, ◌∙◌}
use Rattle.vk_types.specs.Types.{Answer, Call, Pid}
use Rattle.vk_base.specs.Calls.{Effect, unseen, answered}
use Rattle.vk_base.specs.Kernel.{◌>>=◌, Kernel}

-- the kernel after it is changed so
abbrev pub effect_by : (Kernel → Kernel) → Effect → Effect
effect_by h e = record e { after = h e.after }

module _ (h : Kernel → Kernel) where
  abbrev pub SameBy : Option Effect → Option Effect → Type 0
  SameBy o p = option_map (effect_by h) o ≡ option_map (effect_by h) p

  pub bind_by : {A : Type 0} (o : Option A) (f g : A → Option Effect) → ((a : A) → o ≡ Some a → SameBy (f a) (g a)) →
      SameBy (o >>= f) (o >>= g)
  bind_by None f g each = refl
  bind_by (Some a) f g each = each a refl

  pub bind_by_at : {A : Type 0} (o p : Option A) (f g : A → Option Effect) → o ≡ p → ((a : A) → p ≡ Some a → SameBy (f a) (g a)) →
      SameBy (o >>= f) (p >>= g)
  bind_by_at o p f g is each = ap (λ q. option_map (effect_by h) (q >>= f)) is ∙ bind_by p f g each

  pub cond_by : (b : Bool) (o p q r : Option Effect) → SameBy o q → SameBy p r → SameBy (cond b o p) (cond b q r)
  cond_by true o p q r one other = one
  cond_by false o p q r one other = other

  pub unseen_by : (k l : Kernel) → h k ≡ h l → SameBy (Some (unseen k)) (Some (unseen l))
  unseen_by k l alike = ap (λ z. Some (unseen z)) alike

  pub answered_by : (k l : Kernel) (pid : Pid) (c : Call) (a : Answer) → h k ≡ h l →
      SameBy (Some (answered k pid c a)) (Some (answered l pid c a))
  answered_by k l pid c a alike = ap (λ z. Some (answered z pid c a)) alike
