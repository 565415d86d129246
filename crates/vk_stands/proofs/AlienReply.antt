-- A reply to a process of another station is kept in its alien, which it closes.
use Rattle.std.proofs.Common.{◌≡◌, ◌≤◌, ℕ, true, false, List, length, map, Some, refl, sym, ap, ◌∙◌}
use Rattle.std.proofs.lemmas.Option.{same_Some}
use Rattle.vk_types.specs.Types.{Exchange, Message, Name}
use Rattle.vk_base.specs.declared.kernel.Stage.TheVariants as stages
use Rattle.vk_base.specs.declared.limits.TheConstants.{SEGMENT_BYTES}
use Rattle.vk_base.specs.Kernel.{Kernel, is_taken, queue_of, same_name, with_stage}
use Rattle.v_laws.proofs.Queues.{queue-stage}
use Rattle.v_laws.proofs.Tables.{put_exchange_at, put_exchange_other, same_name_self}
use Rattle.vk_pool.specs.declared.alien.Alien.{Alien}
use Rattle.vk_pool.specs.Aliens.{alien_at, replied}
use Rattle.vk_stands.specs.Stands.{IsAlienKept}
use Rattle.vk_stands.specs.Tables.{Tables, alien_name, spot_of, stage_of}
use Rattle.vk_stands.proofs.Aliens.{of_at}
use Rattle.vk_stands.proofs.FitSlots.{fit_replied}
use Rattle.vk_stands.proofs.LocalReply.{taken_unqueued}
use Rattle.vk_stands.proofs.OneAlien.{ChangesAlien, names_slotted, slotted, slotted_carries, view_slotted}
use Rattle.vk_stands.proofs.Parts.{Carries, Part}
use Rattle.vk_stands.proofs.RemoteReply.{sound_told}
use Rattle.vk_stands.proofs.OneSend.{put_back, put_forth}
use Rattle.vk_stands.proofs.Views.{Goes}

module _ (host : ℕ) (t : Tables) (k : Kernel) (part : Part host t k) (i : ℕ) (a : Alien) (here : alien_at t.slots i ≡ Some a)
    (taken : is_taken (stage_of a) ≡ true) (m : Message) (dest : ℕ) (bytes : List ℕ) (closed : ℕ) where
  pub kept_alien : IsAlienKept k a
  kept_alien = part.view.kept a.sender a (of_at t.slots i a part.fit.apart here)

  abbrev e : Exchange
  e = kept_alien.exchange

  abbrev x : Exchange
  x = record e { stage = stages.Replied m dest bytes }

  abbrev f : Alien → Alien
  f = replied m dest bytes closed

  abbrev l : Kernel
  l = with_stage k (alien_name a) e (stages.Replied m dest bytes)

  goes : Goes e x
  goes = record { target = refl; message = refl; part = refl; moves = refl; opened = refl; done = refl; near = λ t. absurd (cc) }

  others : (n : Name) → same_name n (alien_name a) ≡ false → l.exchanges n ≡ k.exchanges n
  others n other = put_exchange_other k.exchanges (alien_name a) x n other

  pub closed_exchange : l.exchanges (alien_name a) ≡ Some x
  closed_exchange = put_exchange_at k.exchanges (alien_name a) x (alien_name a) (same_name_self (alien_name a))

  change : ChangesAlien k l a (f a)
  change = record {
    procs = λ q. refl;
    others = others;
    forth = put_forth k.exchanges (alien_name a) e x kept_alien.is goes;
    back = put_back k.exchanges (alien_name a) e x kept_alien.is goes;
    lookups = λ asker number. refl;
    same = record { sender = refl; number = refl; target = refl; message = refl; part = refl; moves = refl };
    stage = λ y z at there stage. ap (λ (v : Exchange). v.stage) (same_Some z x (sym there ∙ closed_exchange));
    spot = λ y z at there spot. ap spot_of (same_Some z x (sym there ∙ closed_exchange)) ∙ kept_alien.spot;
    refused = λ at is. absurd (cc);
  }

  pub closed_part : length bytes ≤ SEGMENT_BYTES → Part host (slotted t i f) l
  unfolding queue_of
  closed_part few = record {
    fit = fit_replied host t part.fit (Some i) m dest bytes closed few;
    view = view_slotted host t k l part.fit part.view i a here f change;
    sound = sound_told k part.sound (alien_name a) e kept_alien.is m dest bytes;
    names = part.names;
    unknown = part.unknown;
    queues = λ q at place. ap (map Some) (queue-stage k (alien_name a) e (stages.Replied m dest bytes) q kept_alien.is
        (taken_unqueued e.stage (ap is_taken kept_alien.stage ∙ taken))) ∙ part.queues q at place
        ∙ sym (names_slotted host t k l part.fit part.view i a here f change at);
  }

  pub closed_carries : Carries 0 t (slotted t i f)
  closed_carries = slotted_carries host t k l part.fit part.view i a here f change (λ y. refl)
