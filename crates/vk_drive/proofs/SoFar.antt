-- The storm of a number, under way behind so many of its events.
use Rattle.std.proofs.Common.{◌≡◌, ℕ, ◌+◌, ◌<◌, ◌≤◌, List, [], ◌∷◌, ◌++◌, length, refl, sym, ap, subst, ◌∙◌, arith}
use Rattle.vk_base.specs.declared.limits.TheConstants.{EVENTS}
use Rattle.vk_schedule.specs.declared.event.Event.{Event}
use Rattle.vk_rules.specs.Histories.{history_of}
use Rattle.vk_drive.specs.declared.driver.Driver.{Driver}
use Rattle.vk_drive.specs.Driving.{IsDriver, IsPlayed, IsStormOpen}
unfoldable use Rattle.vk_drive.specs.Storms.{storm_after}
use Rattle.vk_drive.specs.Storms.{Storm, choice}
use Rattle.vk_drive.specs.Tasks.{settings}
use Rattle.vk_drive.proofs.Fronts.{FitsFront, fits_more, storm_count, storm_next}

pub record IsStormSoFar (n count : ℕ) (d : Driver) : Type 0 where
  pub driver : IsDriver (storm_after n count).events d
  pub state : d.generator ≡ (storm_after n count).state
  pub fits : FitsFront n count

-- before the first event
pub begun : (n : ℕ) (d : Driver) → IsDriver [] d → d.generator ≡ n → IsStormSoFar n 0 d
unfolding storm_after
begun n d is state = record { driver = is; state = state; fits = λ count low. absurd (omega arith) }

-- there may be more
pub few_events : (n count : ℕ) → count < n → n ≤ EVENTS → length (storm_after n count).events < EVENTS
few_events n count low few = let long = storm_count n count in omega (arith, long, low, few)

pub may_go_on : (n count : ℕ) (d : Driver) → IsStormSoFar n count d → count < n → n ≤ EVENTS → IsStormOpen d
may_go_on n count d so_far low few = ((storm_after n count).events, so_far.driver, few_events n count low few)

-- one event more
pub goes_on : (n count : ℕ) (old new : Driver) → IsStormSoFar n count old →
    IsPlayed (storm_after n count).events new (choice old.generator (history_of settings (storm_after n count).events)) →
    IsStormSoFar n (count + 1) new
goes_on n count old new so_far played =
    let s : Storm = storm_after n count in
    let hs = history_of settings s.events in
    let next = storm_next n count in
    let p : IsPlayed s.events new (choice s.state hs) = subst (λ x. IsPlayed s.events new (choice x hs)) so_far.state played in
    record {
      driver = subst (λ (t : Storm). IsDriver t.events new) (sym next) p.driver;
      state = p.state ∙ ap (λ (t : Storm). t.state) (sym next);
      fits = fits_more n count so_far.fits p.below;
    }

-- the events, where each is kept
pub no_events : (n : ℕ) → [] ≡ (storm_after n 0).events
unfolding storm_after
no_events n = refl

pub events_more : (n count : ℕ) (old new : Driver) → IsStormSoFar n count old →
    IsPlayed (storm_after n count).events new (choice old.generator (history_of settings (storm_after n count).events)) →
    (before after : List Event) (e : Event) → before ≡ (storm_after n count).events → e ≡ new.next → after ≡ before ++ e ∷ [] →
    after ≡ (storm_after n (count + 1)).events
events_more n count old new so_far played before after e are same is =
    let s : Storm = storm_after n count in
    let last : e ≡ (choice s.state (history_of settings s.events)).event =
    same ∙ played.event ∙ ap (λ x. (choice x (history_of settings s.events)).event) so_far.state in
    is ∙ (λ i. are i ++ last i ∷ []) ∙ ap (λ (t : Storm). t.events) (sym (storm_next n count))
