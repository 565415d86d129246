-- What the clock's ports do, one stretch behind the other.
use Rattle.std.proofs.Common.{◌≡◌, ℕ, zero, suc, ◌+◌, ◌≤◌, ◌<◌, Bool, true, false, List, [], ◌∷◌, ◌++◌, length, get_or, slice_set, refl, sym, ◌∙◌, subst, arith, inl, inr}
use Rattle.vk_types.specs.Types.{EventAnswer}
use Rattle.turn_cell.specs.declared.replay.Room.{Room}
use Rattle.vk_base.specs.declared.event.StationEvent.TheVariants as events
use Rattle.vk_hub.specs.declared.event.HubEvent.TheVariants as hub_events
use Rattle.vk_port.specs.declared.port.Pumped.{Pumped}
use Rattle.vk_port.specs.Ports.{Action, AtHub, AtStation, Delivers, Does, Drops, Enters, HasDelivered, HasMade, HasHeard as HeardOnce, HasPumped, Hears, IsCutEvent, IsCutPump, IsMet, IsRefused, Met, PortValue}
use Rattle.vk_port.specs.Stations.{frames_at}
use Rattle.vk_port.proofs.Logs.{does_more, does_nothing}
use Rattle.vk_rules.specs.Each.{Each}
use Rattle.v_run.specs.Passages.{HasHeard, OnlyTicks, lost_count, tick_count}
use Rattle.vk_threads.specs.Clocks.{AreTicked, FirstPumps, HaveLooked, HaveRounds, HaveRoundsCut, HaveTicked, HaveTickedCut, HaveWatched, OneFindsFull, OneHears, TickBetween, all_lost, may_tick}
use Rattle.vk_threads.specs.Works.{FindsFull}
use Rattle.vk_threads.proofs.Playing.{heard_append, lost_append, met_own, met_pump}
use Rattle.vk_threads.proofs.Full.{full_after}

-- Of one port.
pub ticks_append : (xs ys : List Action) → tick_count (xs ++ ys) ≡ tick_count xs + tick_count ys
ticks_append [] ys = omega arith
ticks_append (Enters before e posted ∷ xs) ys = let rest = ticks_append xs ys in omega arith
ticks_append (Delivers heard frame before posted ∷ xs) ys = ticks_append xs ys
ticks_append (Drops heard frame ∷ xs) ys = ticks_append xs ys
ticks_append (Hears heard ∷ xs) ys = ticks_append xs ys

pub only_ticks : (xs ys : List Action) → OnlyTicks xs → OnlyTicks ys → OnlyTicks (xs ++ ys)
only_ticks [] ys one two = two
only_ticks (Enters before e posted ∷ xs) ys one two = (one.0, only_ticks xs ys one.1 two)
only_ticks (Delivers heard frame before posted ∷ xs) ys one two = only_ticks xs ys one two
only_ticks (Drops heard frame ∷ xs) ys one two = only_ticks xs ys one two
only_ticks (Hears heard ∷ xs) ys one two = only_ticks xs ys one two

-- Nothing was done.
abbrev pub idle_all : List PortValue → List (List Action)
idle_all [] = []
idle_all (p ∷ ps) = [] ∷ idle_all ps

idle_ticked : (ps : List PortValue) → AreTicked ps ps (idle_all ps)
idle_ticked [] = tt
idle_ticked (p ∷ ps) = (does_nothing p, tt, idle_ticked ps)

idle_between : (ps : List PortValue) → TickBetween 0 0 (idle_all ps)
idle_between [] = tt
idle_between (p ∷ ps) = (omega arith, omega arith, idle_between ps)

idle_lost : (ps : List PortValue) → all_lost (idle_all ps) ≡ 0
idle_lost [] = refl
idle_lost (p ∷ ps) = let rest = idle_lost ps in omega arith

pub ticked_none : (ps : List PortValue) → HaveTicked 0 0 0 ps ps
ticked_none ps = record {
  acts = idle_all ps;
  does = idle_ticked ps;
  ticks = idle_between ps;
  few = (let none = idle_lost ps in omega arith);
}

-- Two stretches.
abbrev pub joined : List (List Action) → List (List Action) → List (List Action)
joined [] more = []
joined (a ∷ all) [] = []
joined (a ∷ all) (b ∷ more) = (a ++ b) ∷ joined all more

joined_ticked : (ps qs rs : List PortValue) (all more : List (List Action)) → AreTicked ps qs all → AreTicked qs rs more → AreTicked ps rs (joined all more)
joined_ticked [] [] [] [] [] one two = tt
joined_ticked (p ∷ ps) (q ∷ qs) (r ∷ rs) (a ∷ all) (b ∷ more) one two = (
  does_more p q r a b one.0 two.0,
  only_ticks a b one.1 two.1,
  joined_ticked ps qs rs all more one.2 two.2,
)
joined_ticked [] [] [] [] (b ∷ more) one two = absurd two
joined_ticked [] [] (r ∷ rs) [] more one two = absurd two
joined_ticked [] (q ∷ qs) rs all more one two = absurd one
joined_ticked [] [] rs (a ∷ all) more one two = absurd one
joined_ticked (p ∷ ps) [] rs all more one two = absurd one
joined_ticked (p ∷ ps) (q ∷ qs) rs [] more one two = absurd one
joined_ticked (p ∷ ps) (q ∷ qs) [] (a ∷ all) more one two = absurd two
joined_ticked (p ∷ ps) (q ∷ qs) (r ∷ rs) (a ∷ all) [] one two = absurd two

joined_between : (low high low2 high2 : ℕ) (all more : List (List Action)) → TickBetween low high all → TickBetween low2 high2 more
    → TickBetween (low + low2) (high + high2) (joined all more)
joined_between low high low2 high2 [] more one two = tt
joined_between low high low2 high2 (a ∷ all) [] one two = tt
joined_between low high low2 high2 (a ∷ all) (b ∷ more) one two =
    let sum = ticks_append a b in let x = one.0 in let y = two.0 in let z = one.1 in let u = two.1 in (
      omega arith,
      omega arith,
      joined_between low high low2 high2 all more one.2 two.2,
    )

joined_lost : (all more : List (List Action)) → all_lost (joined all more) ≤ all_lost all + all_lost more
joined_lost [] more = omega arith
joined_lost (a ∷ all) [] = omega arith
joined_lost (a ∷ all) (b ∷ more) = let sum = lost_append a b in let rest = joined_lost all more in omega arith

joined_full : (ps qs rs : List PortValue) (all more : List (List Action)) → AreTicked ps qs all → AreTicked qs rs more → OneFindsFull rs more
    → OneFindsFull rs (joined all more)
joined_full [] [] [] [] [] one two full = full
joined_full (p ∷ ps) (q ∷ qs) (r ∷ rs) (a ∷ all) (b ∷ more) one two (inl full) = inl (full_after r a b full)
joined_full (p ∷ ps) (q ∷ qs) (r ∷ rs) (a ∷ all) (b ∷ more) one two (inr full) = inr (joined_full ps qs rs all more one.2 two.2 full)
joined_full [] [] [] [] (b ∷ more) one two full = absurd two
joined_full [] [] (r ∷ rs) [] more one two full = absurd two
joined_full [] (q ∷ qs) rs all more one two full = absurd one
joined_full [] [] rs (a ∷ all) more one two full = absurd one
joined_full (p ∷ ps) [] rs all more one two full = absurd one
joined_full (p ∷ ps) (q ∷ qs) rs [] more one two full = absurd one
joined_full (p ∷ ps) (q ∷ qs) [] (a ∷ all) more one two full = absurd two
joined_full (p ∷ ps) (q ∷ qs) (r ∷ rs) (a ∷ all) [] one two full = absurd two

joined_hears : (ps qs rs : List PortValue) (all more : List (List Action)) → AreTicked ps qs all → AreTicked qs rs more → OneHears more
    → OneHears (joined all more)
joined_hears [] [] [] [] [] one two hears = hears
joined_hears (p ∷ ps) (q ∷ qs) (r ∷ rs) (a ∷ all) (b ∷ more) one two (inl hears) = inl (heard_append a b hears)
joined_hears (p ∷ ps) (q ∷ qs) (r ∷ rs) (a ∷ all) (b ∷ more) one two (inr hears) = inr (joined_hears ps qs rs all more one.2 two.2 hears)
joined_hears [] [] [] [] (b ∷ more) one two hears = absurd two
joined_hears [] [] (r ∷ rs) [] more one two hears = absurd two
joined_hears [] (q ∷ qs) rs all more one two hears = absurd one
joined_hears [] [] rs (a ∷ all) more one two hears = absurd one
joined_hears (p ∷ ps) [] rs all more one two hears = absurd one
joined_hears (p ∷ ps) (q ∷ qs) rs [] more one two hears = absurd one
joined_hears (p ∷ ps) (q ∷ qs) [] (a ∷ all) more one two hears = absurd two
joined_hears (p ∷ ps) (q ∷ qs) (r ∷ rs) (a ∷ all) [] one two hears = absurd two

pub ticked_more : (low high lost low2 high2 lost2 : ℕ) (ps qs rs : List PortValue) → HaveTicked low high lost ps qs → HaveTicked low2 high2 lost2 qs rs
    → HaveTicked (low + low2) (high + high2) (lost + lost2) ps rs
ticked_more low high lost low2 high2 lost2 ps qs rs one two = record {
  acts = joined one.acts two.acts;
  does = joined_ticked ps qs rs one.acts two.acts one.does two.does;
  ticks = joined_between low high low2 high2 one.acts two.acts one.ticks two.ticks;
  few = (let sum = joined_lost one.acts two.acts in let x = one.few in let y = two.few in omega arith);
}

pub ticked_cut : (low high lost low2 high2 lost2 : ℕ) (ps qs rs : List PortValue) (why : Room) → HaveTicked low high lost ps qs
    → HaveTickedCut low2 high2 lost2 qs rs why → HaveTickedCut (low + low2) (high + high2) (lost + lost2) ps rs why
ticked_cut low high lost low2 high2 lost2 ps qs rs why one two = record {
  acts = joined one.acts two.acts;
  does = joined_ticked ps qs rs one.acts two.acts one.does two.does;
  ticks = joined_between low high low2 high2 one.acts two.acts one.ticks two.ticks;
  few = (let sum = joined_lost one.acts two.acts in let x = one.few in let y = two.few in omega arith);
  full = λ is. joined_full ps qs rs one.acts two.acts one.does two.does (two.full is);
}

-- One port does something behind what all did.
abbrev pub behind : ℕ → List (List Action) → List Action → List (List Action)
behind n [] more = []
behind zero (a ∷ all) more = (a ++ more) ∷ all
behind (suc n) (a ∷ all) more = a ∷ behind n all more

behind_ticked : (i : ℕ) (ps qs : List PortValue) (all : List (List Action)) (q r : PortValue) (more : List Action) → AreTicked ps qs all
    → i < length qs → get_or qs i q ≡ q → Does q r more → OnlyTicks more → AreTicked ps (slice_set qs i r) (behind i all more)
behind_ticked i [] [] [] q r more one low at does only = tt
behind_ticked zero (p ∷ ps) (x ∷ qs) (a ∷ all) q r more one low at does only =
    (does_more p x r a more one.0 (subst (λ y. Does y r more) (sym at) does), only_ticks a more one.1 only, one.2)
behind_ticked (suc i) (p ∷ ps) (x ∷ qs) (a ∷ all) q r more one low at does only =
    (one.0, one.1, behind_ticked i ps qs all q r more one.2 (omega arith) at does only)
behind_ticked i [] (x ∷ qs) all q r more one low at does only = absurd one
behind_ticked i [] [] (a ∷ all) q r more one low at does only = absurd one
behind_ticked i (p ∷ ps) [] all q r more one low at does only = absurd one
behind_ticked i (p ∷ ps) (x ∷ qs) [] q r more one low at does only = absurd one

behind_lost : (i : ℕ) (all : List (List Action)) (more : List Action) → all_lost (behind i all more) ≤ all_lost all + lost_count more
behind_lost i [] more = omega arith
behind_lost zero (a ∷ all) more = let sum = lost_append a more in omega arith
behind_lost (suc i) (a ∷ all) more = let rest = behind_lost i all more in omega arith

behind_between : (low high n i : ℕ) (all : List (List Action)) (more : List Action) → TickBetween low high all → tick_count more ≤ n
    → TickBetween low (high + n) (behind i all more)
behind_between low high n i [] more one few = tt
behind_between low high n zero (a ∷ all) more one few =
    let sum = ticks_append a more in let x = one.0 in let y = one.1 in (omega arith, omega arith, wider all one.2)
  where
    wider : (rest : List (List Action)) → TickBetween low high rest → TickBetween low (high + n) rest
    wider [] it = tt
    wider (b ∷ rest) it = let z = it.1 in (it.0, omega arith, wider rest it.2)
behind_between low high n (suc i) (a ∷ all) more one few = let y = one.1 in (one.0, omega arith, behind_between low high n i all more one.2 few)

behind_full : (i : ℕ) (ps qs : List PortValue) (all : List (List Action)) (r : PortValue) (more : List Action) → AreTicked ps qs all
    → i < length qs → FindsFull r more → OneFindsFull (slice_set qs i r) (behind i all more)
behind_full i [] [] [] r more one low full = absurd (omega arith)
behind_full zero (p ∷ ps) (x ∷ qs) (a ∷ all) r more one low full = inl (full_after r a more full)
behind_full (suc i) (p ∷ ps) (x ∷ qs) (a ∷ all) r more one low full = inr (behind_full i ps qs all r more one.2 (omega arith) full)
behind_full i [] (x ∷ qs) all r more one low full = absurd one
behind_full i [] [] (a ∷ all) r more one low full = absurd one
behind_full i (p ∷ ps) [] all r more one low full = absurd one
behind_full i (p ∷ ps) (x ∷ qs) [] r more one low full = absurd one

-- The first so many ports have ticked, and the others have not.
abbrev pub TickedUpTo : ℕ → List (List Action) → Type 0
TickedUpTo n [] = Unit {0}
TickedUpTo zero (a ∷ all) = (tick_count a ≡ 0) × TickedUpTo zero all
TickedUpTo (suc n) (a ∷ all) = (tick_count a ≡ 1) × TickedUpTo n all

up_none : (ps : List PortValue) → TickedUpTo 0 (idle_all ps)
up_none [] = tt
up_none (p ∷ ps) = (refl, up_none ps)

up_more : (i : ℕ) (all : List (List Action)) (more : List Action) → TickedUpTo i all → tick_count more ≡ 1 → TickedUpTo (suc i) (behind i all more)
up_more i [] more so one = tt
up_more zero (a ∷ all) more so one = let sum = ticks_append a more in let none = so.0 in (omega arith, so.1)
up_more (suc i) (a ∷ all) more so one = (so.0, up_more i all more so.1 one)

up_all : (i : ℕ) (ps qs : List PortValue) (all : List (List Action)) → AreTicked ps qs all → length qs ≤ i → TickedUpTo i all → TickBetween 1 1 all
up_all i [] [] [] one low so = tt
up_all zero (p ∷ ps) (q ∷ qs) (a ∷ all) one low so = absurd (omega arith)
up_all (suc i) (p ∷ ps) (q ∷ qs) (a ∷ all) one low so =
    let x = so.0 in (omega arith, omega arith, up_all i ps qs all one.2 (omega arith) so.1)
up_all i [] (x ∷ qs) all one low so = absurd one
up_all i [] [] (a ∷ all) one low so = absurd one
up_all i (p ∷ ps) [] all one low so = absurd one
up_all i (p ∷ ps) (x ∷ qs) [] one low so = absurd one

-- where the port at this place meets a Room, it has not ticked, or once
up_cut : (i : ℕ) (all : List (List Action)) (more : List Action) → TickedUpTo i all → tick_count more ≤ 1 → TickBetween 0 1 (behind i all more)
up_cut i [] more so few = tt
up_cut zero (a ∷ all) more so few = let sum = ticks_append a more in let none = so.0 in (omega arith, omega arith, none_of all so.1)
  where
    none_of : (rest : List (List Action)) → TickedUpTo 0 rest → TickBetween 0 1 rest
    none_of [] it = tt
    none_of (b ∷ rest) it = let x = it.0 in (omega arith, omega arith, none_of rest it.1)
up_cut (suc i) (a ∷ all) more so few = let x = so.0 in (omega arith, omega arith, up_cut i all more so.1 few)

-- THE ROUND SO FAR.
pub record TicksSoFar (i : ℕ) (old now : List PortValue) : Type 0 where
  pub acts : List (List Action)
  pub does : AreTicked old now acts
  pub ticks : TickedUpTo i acts
  pub none : all_lost acts ≡ 0

pub so_none : (ps : List PortValue) → TicksSoFar 0 ps ps
so_none ps = record { acts = idle_all ps; does = idle_ticked ps; ticks = up_none ps; none = idle_lost ps }

pub so_more : (i : ℕ) (old now : List PortValue) (p q : PortValue) (a : EventAnswer) → TicksSoFar i old now → i < length now → get_or now i p ≡ p
    → HasMade p q [] events.Tick a → TicksSoFar (i + 1) old (slice_set now i q)
so_more i old now p q a so low at made =
    let more = Enters made.before events.Tick (length (frames_at p.station.origin made.before events.Tick)) ∷ [] in
    record {
      acts = behind i so.acts more;
      does = behind_ticked i old now so.acts p q more so.does low at made.does (tt, tt);
      ticks = (let next : suc i ≡ i + 1 = omega arith in subst (λ n. TickedUpTo n (behind i so.acts more)) next (up_more i so.acts more so.ticks refl));
      none = (let sum = behind_lost i so.acts more in let none = so.none in omega arith);
    }

pub so_all : (i : ℕ) (old now : List PortValue) → TicksSoFar i old now → length now ≤ i → HaveTicked 1 1 0 old now
so_all i old now so low = record {
  acts = so.acts;
  does = so.does;
  ticks = up_all i old now so.acts so.does low so.ticks;
  few = (let none = so.none in omega arith);
}

pub cut_tick : (o : _) (last : List Action) (m : Met) → IsCutEvent o events.Tick last m → OnlyTicks last × (tick_count last ≤ 1) × (lost_count last ≡ 0)
cut_tick o [] m cut = (tt, omega arith, refl)
cut_tick o (Enters before x posted ∷ []) (AtHub (hub_events.Post f)) cut =
    (subst (λ y. OnlyTicks (Enters before y posted ∷ [])) (sym cut.0) (tt, tt), omega arith, refl)
cut_tick o (Enters before x posted ∷ []) (AtHub (hub_events.Fetch h)) cut = absurd cut
cut_tick o (Enters before x posted ∷ []) (AtHub hub_events.Finished) cut = absurd cut
cut_tick o (Enters before x posted ∷ []) (AtHub hub_events.Halt) cut = absurd cut
cut_tick o (Enters before x posted ∷ []) (AtStation y) cut = absurd cut
cut_tick o (Enters before x posted ∷ (y ∷ ys)) m cut = absurd cut
cut_tick o (Delivers heard frame before posted ∷ xs) m cut = absurd cut
cut_tick o (Drops heard frame ∷ xs) m cut = absurd cut
cut_tick o (Hears heard ∷ xs) m cut = absurd cut

pub so_cut : (i : ℕ) (old now : List PortValue) (p q : PortValue) (why : Room) → TicksSoFar i old now → i < length now → get_or now i p ≡ p
    → IsRefused p q why [] (IsCutEvent p.station.origin events.Tick) → HaveTickedCut 0 1 0 old (slice_set now i q) why
so_cut i old now p q why so low at it =
    let cut = cut_tick p.station.origin it.last it.met it.cut in
    record {
      acts = behind i so.acts it.last;
      does = behind_ticked i old now so.acts p q it.last so.does low at it.does cut.0;
      ticks = up_cut i so.acts it.last so.ticks cut.1;
      few = (let sum = behind_lost i so.acts it.last in let none = so.none in let nothing = cut.2 in omega arith);
      full = λ is. behind_full i old now so.acts q it.last so.does low
          (met_own q it.last p.station.origin events.Tick refl it.last it.met it.cut (subst (λ (w : Room). IsMet q w it.met) is it.is_met));
    }

-- The first port pumps once.
first_does : (ps : List PortValue) (p q : PortValue) (lost : ℕ) (more : List Action) → 0 < length ps → get_or ps 0 p ≡ p → Does p q more
    → OnlyTicks more → tick_count more ≡ 0 → lost_count more ≤ lost → HaveTicked 0 0 lost ps (slice_set ps 0 q)
first_does ps p q lost more low at does only none few = record {
  acts = behind 0 (idle_all ps) more;
  does = behind_ticked 0 ps ps (idle_all ps) p q more (idle_ticked ps) low at does only;
  ticks = behind_between 0 0 0 0 (idle_all ps) more (idle_between ps) (omega arith);
  few = (let sum = behind_lost 0 (idle_all ps) more in let none2 = idle_lost ps in omega arith);
}

first_hears : (ps : List PortValue) (more : List Action) → 0 < length ps → HasHeard more → OneHears (behind 0 (idle_all ps) more)
first_hears [] more low hears = absurd (omega arith)
first_hears (p ∷ ps) more low hears = inl hears

pub first_stops : (ps : List PortValue) (p q : PortValue) → 0 < length ps → get_or ps 0 p ≡ p → HeardOnce p q [] → HaveLooked ps (slice_set ps 0 q) true
first_stops ps p q low at it =
    let more = Hears it.heard ∷ [] in (
      record {
        acts = behind 0 (idle_all ps) more;
        does = behind_ticked 0 ps ps (idle_all ps) p q more (idle_ticked ps) low at it.does tt;
        ticks = behind_between 0 0 0 0 (idle_all ps) more (idle_between ps) (omega arith);
        few = (let sum = behind_lost 0 (idle_all ps) more in let none = idle_lost ps in omega arith);
      },
      first_hears ps more low tt,
    )

pub first_delivers : (ps : List PortValue) (p q : PortValue) (a : EventAnswer) → 0 < length ps → get_or ps 0 p ≡ p → HasDelivered p q a
    → HaveTicked 0 0 0 ps (slice_set ps 0 q)
first_delivers ps p q a low at it =
    first_does ps p q 0 (Delivers it.heard it.frame it.before (length (frames_at p.station.origin it.before (events.Deliver it.frame))) ∷ [])
    low at it.does tt refl (omega arith)

-- and that is what it did
pub first_pumps : (ps : List PortValue) (p q : PortValue) (given : Pumped) → 0 < length ps → get_or ps 0 p ≡ p → HasPumped p q given
    → FirstPumps ps (slice_set ps 0 q)
first_pumps [] p q given low at it = absurd (omega arith)
first_pumps (x ∷ ps) p q given low at it = (given, subst (λ y. HasPumped y q given) (sym at) it)

pub first_rests : (ps : List PortValue) (p q : PortValue) → 0 < length ps → get_or ps 0 p ≡ p → Does p q [] → HaveTicked 0 0 0 ps (slice_set ps 0 q)
first_rests ps p q low at it = first_does ps p q 0 [] low at it tt refl (omega arith)

pub cut_pumps : (o : _) (host : ℕ) (last : List Action) (m : Met) → IsCutPump o host last m → OnlyTicks last × (tick_count last ≡ 0) × (lost_count last ≤ 1)
cut_pumps o host [] m cut = (tt, refl, omega arith)
cut_pumps o host (Drops heard frame ∷ []) m cut = (tt, refl, omega arith)
cut_pumps o host (Drops heard frame ∷ (y ∷ ys)) m cut = absurd cut
cut_pumps o host (Delivers heard frame before posted ∷ []) m cut = (tt, refl, omega arith)
cut_pumps o host (Delivers heard frame before posted ∷ (y ∷ ys)) m cut = absurd cut
cut_pumps o host (Enters before x posted ∷ xs) m cut = absurd cut
cut_pumps o host (Hears heard ∷ xs) m cut = absurd cut

pub first_cut : (ps : List PortValue) (p q : PortValue) (why : Room) → 0 < length ps → get_or ps 0 p ≡ p
    → IsRefused p q why [] (IsCutPump p.station.origin p.host) → HaveTickedCut 0 0 1 ps (slice_set ps 0 q) why
first_cut ps p q why low at it =
    let cut = cut_pumps p.station.origin p.host it.last it.met it.cut in
    let acts = behind 0 (idle_all ps) it.last in
    record {
      acts = acts;
      does = behind_ticked 0 ps ps (idle_all ps) p q it.last (idle_ticked ps) low at it.does cut.0;
      ticks = behind_between 0 0 0 0 (idle_all ps) it.last (idle_between ps) (let none = cut.1 in omega arith);
      few = (let sum = behind_lost 0 (idle_all ps) it.last in let none = idle_lost ps in let few = cut.2 in omega arith);
      full = λ is. behind_full 0 ps ps (idle_all ps) q it.last (idle_ticked ps) low
          (met_pump q [] p.station.origin p.host it.last it.met it.cut (subst (λ (w : Room). IsMet q w it.met) is it.is_met));
    }

-- Whatever they did, they may tick as before.
pub still_tick : (ps qs : List PortValue) (all : List (List Action)) → AreTicked ps qs all → Each may_tick ps → Each may_tick qs
still_tick [] [] [] one may = tt
still_tick (p ∷ ps) (q ∷ qs) (a ∷ all) one may = (one.0.same.ticks ∙ may.0, still_tick ps qs all one.2 may.1)
still_tick [] (x ∷ qs) all one may = absurd one
still_tick [] [] (a ∷ all) one may = absurd one
still_tick (p ∷ ps) [] all one may = absurd one
still_tick (p ∷ ps) (x ∷ qs) [] one may = absurd one

pub may_at : (i : ℕ) (ps : List PortValue) (p : PortValue) → Each may_tick ps → i < length ps → get_or ps i p ≡ p → p.ticks ≡ true
may_at i [] p may low at = absurd (omega arith)
may_at zero (x ∷ ps) p may low at = subst may_tick at may.0
may_at (suc i) (x ∷ ps) p may low at = may_at i ps p may.1 (omega arith) at

-- the round goes on
pub may_more : (i : ℕ) (ps : List PortValue) (q : PortValue) → Each may_tick ps → q.ticks ≡ true → Each may_tick (slice_set ps i q)
may_more i [] q may is = tt
may_more zero (x ∷ ps) q may is = (is, may.1)
may_more (suc i) (x ∷ ps) q may is = (may.0, may_more i ps q may.1 is)

-- ROUNDS.
pub rounds_more : (n : ℕ) (ps qs rs ts : List PortValue) → HaveTicked n n 0 ps qs → HaveTicked 1 1 0 qs rs → HaveTicked 0 0 0 rs ts
    → HaveTicked (n + 1) (n + 1) 0 ps ts
rounds_more n ps qs rs ts one two three =
    let sum = ticked_more (n + 1) (n + 1) 0 0 0 0 ps rs ts (ticked_more n n 0 1 1 0 ps qs rs one two) three in
    let e : n + 1 + 0 ≡ n + 1 = omega arith in
    subst (λ m. HaveTicked m m 0 ps ts) e sum

pub rounds_end : (n rounds : ℕ) (ps qs rs ts : List PortValue) → n + 1 ≤ rounds → HaveTicked n n 0 ps qs → HaveTicked 1 1 0 qs rs
    → HaveLooked rs ts true → HaveRounds rounds ps ts
rounds_end n rounds ps qs rs ts low one two last =
    let mid = ticked_more n n 0 1 1 0 ps qs rs one two in
    let look = last.0 in
    let acts = joined mid.acts look.acts in
    let e : n + 1 + 0 ≡ n + 1 = omega arith in
    record {
      done = n + 1;
      few = low;
      ticked = record {
        acts = acts;
        does = joined_ticked ps rs ts mid.acts look.acts mid.does look.does;
        ticks = subst (λ m. TickBetween m m acts) e (joined_between (n + 1) (n + 1) 0 0 mid.acts look.acts mid.ticks look.ticks);
        few = (let sum = joined_lost mid.acts look.acts in let x = mid.few in let y = look.few in omega arith);
      };
      all = inr (joined_hears ps rs ts mid.acts look.acts mid.does look.does last.1);
    }

-- all rounds are over
pub rounds_over : (n rounds : ℕ) (ps qs : List PortValue) → n ≡ rounds → HaveTicked n n 0 ps qs → HaveRounds rounds ps qs
rounds_over n rounds ps qs whole so = record {
  done = n;
  few = omega arith;
  ticked = record { acts = so.acts; does = so.does; ticks = so.ticks; few = (let none = so.few in omega arith) };
  all = inl whole;
}

-- looks behind all rounds
pub looked_more : (ps qs rs : List PortValue) → HaveTicked 0 0 0 ps qs → HaveTicked 0 0 0 qs rs → HaveTicked 0 0 0 ps rs
looked_more ps qs rs one two = ticked_more 0 0 0 0 0 0 ps qs rs one two

pub looked_end : (ps qs rs : List PortValue) → HaveTicked 0 0 0 ps qs → HaveLooked qs rs true → HaveWatched ps rs false
looked_end ps qs rs one last =
    let look = last.0 in (
      record {
        acts = joined one.acts look.acts;
        does = joined_ticked ps qs rs one.acts look.acts one.does look.does;
        ticks = joined_between 0 0 0 0 one.acts look.acts one.ticks look.ticks;
        few = (let sum = joined_lost one.acts look.acts in let x = one.few in let y = look.few in omega arith);
      },
      joined_hears ps qs rs one.acts look.acts one.does look.does last.1,
    )

pub looked_cut : (ps qs rs : List PortValue) (why : Room) → HaveTicked 0 0 0 ps qs → HaveTickedCut 0 0 1 qs rs why
    → HaveTickedCut 0 0 1 ps rs why
looked_cut ps qs rs why one two = ticked_cut 0 0 0 0 0 1 ps qs rs why one two

pub rounds_watched : (rounds : ℕ) (ps qs rs : List PortValue) → HaveTicked rounds rounds 0 ps qs → (idle : Bool) → HaveWatched qs rs idle
    → HaveRounds rounds ps rs
rounds_watched rounds ps qs rs gone true still =
    let sum = ticked_more rounds rounds 0 0 0 0 ps qs rs gone still in
    let e : rounds + 0 ≡ rounds = omega arith in
    rounds_over rounds rounds ps rs refl (subst (λ m. HaveTicked m m 0 ps rs) e sum)
rounds_watched rounds ps qs rs gone false last =
    let sum = ticked_more rounds rounds 0 0 0 1 ps qs rs gone last.0 in
    let e : rounds + 0 ≡ rounds = omega arith in
    record {
      done = rounds;
      few = omega arith;
      ticked = subst (λ m. HaveTicked m m 1 ps rs) e sum;
      all = inl refl;
    }

pub watched_cut : (rounds : ℕ) (ps qs rs : List PortValue) (why : Room) → HaveTicked rounds rounds 0 ps qs → HaveTickedCut 0 0 1 qs rs why
    → HaveRoundsCut rounds ps rs why
watched_cut rounds ps qs rs why one two =
    let sum = ticked_cut rounds rounds 0 0 0 1 ps qs rs why one two in
    record {
      done = rounds + 0;
      high = rounds + 0;
      near = omega arith;
      few = omega arith;
      ticked = record { acts = sum.acts; does = sum.does; ticks = sum.ticks; few = (let none = sum.few in omega arith); full = sum.full };
    }

pub rounds_cut : (n rounds : ℕ) (ps qs rs : List PortValue) (why : Room) → n + 1 ≤ rounds → HaveTicked n n 0 ps qs → HaveTickedCut 0 1 0 qs rs why
    → HaveRoundsCut rounds ps rs why
rounds_cut n rounds ps qs rs why low one two =
    let sum = ticked_cut n n 0 0 1 0 ps qs rs why one two in
    record {
      done = n + 0;
      high = n + 1;
      near = omega arith;
      few = low;
      ticked = record { acts = sum.acts; does = sum.does; ticks = sum.ticks; few = (let none = sum.few in omega arith); full = sum.full };
    }

pub rounds_cut_late : (n rounds : ℕ) (ps qs rs ts : List PortValue) (why : Room) → n + 1 ≤ rounds → HaveTicked n n 0 ps qs → HaveTicked 1 1 0 qs rs
    → HaveTickedCut 0 0 1 rs ts why → HaveRoundsCut rounds ps ts why
rounds_cut_late n rounds ps qs rs ts why low one two three =
    let sum = ticked_cut (n + 1) (n + 1) 0 0 0 1 ps rs ts why (ticked_more n n 0 1 1 0 ps qs rs one two) three in
    record {
      done = n + 1 + 0;
      high = n + 1 + 0;
      near = omega arith;
      few = omega arith;
      ticked = record { acts = sum.acts; does = sum.does; ticks = sum.ticks; few = (let none = sum.few in omega arith); full = sum.full };
    }

pub still : (low high lost : ℕ) (ps qs : List PortValue) → HaveTicked low high lost ps qs → Each may_tick ps → Each may_tick qs
still low high lost ps qs it may = still_tick ps qs it.acts it.does may
