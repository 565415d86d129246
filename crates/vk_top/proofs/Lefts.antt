-- What is left of a front whose first events were had.
use Rattle.std.proofs.Common.{◌≡◌, ℕ, zero, suc, ◌+◌, ◌<◌, ◌≤◌, true, false, List, [], ◌∷◌, drop, get_or, length, take, sym, ap, subst, ◌∙◌, arith}
use Rattle.vk_base.specs.declared.limits.TheConstants.{EVENTS}
use Rattle.vk_base.specs.Settings.{Settings}
use Rattle.vk_cluster.specs.Values.{ClusterValue, is_full}
use Rattle.vk_schedule.specs.declared.event.Event.{Event}
use Rattle.vk_schedule.specs.declared.schedule.Front.{Front}
use Rattle.vk_schedule.specs.Lawful.{has_actors}
use Rattle.vk_schedule.specs.Remaining.{behind}
use Rattle.vk_report.specs.declared.entry.Counts.{Counts}
use Rattle.vk_report.specs.declared.entry.Form.{Form}
use Rattle.vk_top.proofs.Plays.{few, played_more, refused_cut, refused_text}
use Rattle.vk_top.specs.Playing.{AreFew, HasPlayed, IsHad, IsUnderWay, without_events}
use Rattle.vk_top.specs.Report.{is_cut, written_text}

-- the first of those that are left
record IsFirst (es : List Event) (n : ℕ) (e : Event) (rest : List Event) : Type 0 where
  low : n < length es
  is : e ≡ get_or es n e
  behind_it : rest ≡ drop (suc n) es

first_left : (es : List Event) (n : ℕ) (e : Event) (rest : List Event) → drop n es ≡ e ∷ rest → IsFirst es n e rest
first_left [] zero e rest left = absurd (cc)
first_left [] (suc n) e rest left = absurd (cc)
first_left (x ∷ xs) zero e rest left =
    let here : e ≡ x = cc in
    let others : rest ≡ xs = cc in
    record { low = omega arith; is = here; behind_it = others }
first_left (x ∷ xs) (suc n) e rest left =
    let first = first_left xs n e rest left in
    record { low = omega (arith, first.low); is = first.is; behind_it = first.behind_it }

module _ (form : Form) (all old : Front) (k : ClusterValue) (counts : Counts) (text : List ℕ) (so_far : IsUnderWay form all old k counts text) where
  -- the next is an event of this
  module _ (new : Front) (e : Event) (next : old ≡ behind (e ∷ []) new) where
    first : IsFirst all.schedule.events counts.events e new.schedule.events
    first =
        first_left all.schedule.events counts.events e new.schedule.events
        (sym so_far.rest ∙ ap (λ (f : Front). f.schedule.events) next)

    pub few_so_far : length all.schedule.events ≤ EVENTS → AreFew counts
    few_so_far most = few form all.schedule counts.events k counts text so_far.played e first.low first.is most

    pub actors_stand : has_actors old.schedule.config.specs e ≡ true → has_actors k.config.specs e ≡ true
    actors_stand acts =
        ap (λ (c : Settings). has_actors c.specs e) so_far.played.stands.config
        ∙ ap (λ (f : Front). has_actors f.schedule.config.specs e) (sym so_far.same)
        ∙ acts

    pub under_way_more : (now : ClusterValue) (after : Counts) (longer : List ℕ) → is_full k ≡ false →
        IsHad form all.schedule.config (take counts.events all.schedule.events) e counts after text longer now →
        IsUnderWay form all new now after longer
    under_way_more now after longer room had =
        let s = all.schedule in
        let n = counts.events in
        let more = played_more form s n k counts text so_far.played e first.low first.is now after longer room had in
        let counted : n + 1 ≡ after.events = ap (λ (c : Counts). c.events) (sym had.told.counts) in
        let place : suc n ≡ after.events = omega (arith, counted) in
        record {
          played = subst (λ m. HasPlayed form s m now after longer) counted more;
          rest = first.behind_it ∙ ap (λ m. drop m s.events) place;
          same = ap without_events (sym next) ∙ so_far.same;
        }

    pub way_cut : length all.schedule.events ≤ EVENTS → is_full k ≡ true → true ≡ is_cut all.schedule
    way_cut most full = refused_cut form all.schedule counts.events k counts text so_far.played e first.low first.is most full

    pub way_text : length all.schedule.events ≤ EVENTS → is_full k ≡ true → text ≡ written_text form all.schedule
    way_text most full = refused_text form all.schedule counts.events k counts text so_far.played e first.low first.is most full
