-- What the slots of the tables tell, a reading's slots tell too.
use Rattle.std.proofs.Common.{◌≡◌, ℕ, List, map, refl, ap, Option, Some, None, sym, ◌∙◌}
use Rattle.std.specs.List.{find, position}
use Rattle.std.specs.Option.{option_map, option_flatten, option_or, is_none}
use Rattle.vk_types.specs.Types.{Pid}
use Rattle.vk_pool.specs.declared.alien.Alien.{Alien}
use Rattle.vk_pool.specs.Aliens.{is_alien_from, alien_from, alien_at}
use Rattle.vk_pool.proofs.Shown.{position-mapped}
use Rattle.vk_rules.specs.Aliens as readings
use Rattle.vk_rules.specs.Aliens.{place_for}
use Rattle.vk_stands.specs.Tables.{read_alien}
use Rattle.vk_stands.proofs.Lists.{find-position, find-mapped}

abbrev pub read : Option Alien → Option readings.Alien
read slot = option_map read_alien slot

of_read : (sender : Pid) (slot : Option Alien) → readings.is_alien_of sender (read slot) ≡ is_alien_from sender slot
of_read sender None = refl
of_read sender (Some a) = refl

none_read : (slot : Option Alien) → is_none slot ≡ is_none (read slot)
none_read None = refl
none_read (Some a) = refl

joined : (o : Option (Option Alien)) → option_flatten (option_map read o) ≡ read (option_flatten o)
joined None = refl
joined (Some slot) = refl

-- the alien of a sender, and the slot of a new message
pub alien_of_read : (slots : List (Option Alien)) (sender : Pid) →
    readings.alien_of (map read slots) sender ≡ read (alien_from slots sender)
unfolding readings.alien_of
alien_of_read slots sender =
    ap (λ o. option_flatten o) (find-mapped (readings.is_alien_of sender) (is_alien_from sender) read (of_read sender) slots)
    ∙ joined (find (is_alien_from sender) slots)

pub place_for_read : (slots : List (Option Alien)) (sender : Pid) →
    place_for (map read slots) sender ≡ option_or (position (is_alien_from sender) slots) (position is_none slots)
unfolding place_for
place_for_read slots sender =
    ap (λ o. option_or o (position is_none (map read slots)))
    (sym (position-mapped (readings.is_alien_of sender) (is_alien_from sender) read (λ s. sym (of_read sender s)) slots))
    ∙ ap (λ o. option_or (position (is_alien_from sender) slots) o) (sym (position-mapped is_none is_none read none_read slots))

-- Each alien stands in its sender's slot.
abbrev pub AreAliensApart : List (Option Alien) → Type 0
AreAliensApart slots = (i : ℕ) (a : Alien) → alien_at slots i ≡ Some a → position (is_alien_from a.sender) slots ≡ Some i

pub of_at : (slots : List (Option Alien)) (i : ℕ) (a : Alien) → AreAliensApart slots → alien_at slots i ≡ Some a →
    alien_from slots a.sender ≡ Some a
of_at slots i a apart is =
    ap (λ o. option_flatten o) (find-position (is_alien_from a.sender) slots i None (apart i a is)) ∙ is
