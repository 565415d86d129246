-- What cells that were opened are, and their seats.
use Rattle.vk_types.specs.Types.{StationEvent}
use Rattle.vk_cluster.proofs.Stations.{Apart}
use Rattle.std.proofs.Common.{◌≡◌, ◌<◌, ℕ, suc, ◌+◌, ◌==◌, ◌||◌, eqb-true, eq-eqb, Bool, true, false, cond, Some, List, [], ◌∷◌, ◌++◌, append_assoc, append-nil, length, map, refl, sym, ap, ◌∙◌, subst, arith}
use Rattle.std.specs.Prelude.{slice_get}
use Rattle.std.specs.List.{list_any}
use Rattle.std.proofs.lemmas.List.{length-map}
use Rattle.std.proofs.lemmas.Option.{none-some, same_Some}
use Rattle.turn_cell.specs.Seats.{Cell, Sitting, fresh}
use Rattle.vk_base.specs.Settings.{Settings}
use Rattle.vk_port.specs.Stations.{StationHistory, origin_of}
use Rattle.vk_rules.specs.Each.{Each}
use Rattle.vk_rules.proofs.Lists.{each_append, each_weaker}
use Rattle.v_run.specs.Passages.{fresh_station}
use Rattle.vk_threads.specs.declared.opening.Site.{Site}
use Rattle.vk_threads.specs.declared.opening.Spare.{Spare}
use Rattle.vk_threads.specs.Dealt.{IsSpare, spare_host}
use Rattle.vk_threads.specs.Ended.{cell_at}
use Rattle.vk_threads.specs.Opened.{AreOpened, HasOpened, IsFresh, IsOpened, count_of, spare_at}
use Rattle.vk_threads.proofs.Dealing.{count_append}

-- seats that a cell gave, as spares
pub fresh_spares : (cell : Cell StationHistory) (host : ℕ) (seats : List (Sitting StationHistory StationEvent)) (from : ℕ)
    → ((k : ℕ) → k < length seats → slice_get seats k ≡ Some (fresh cell (from + k))) → Each (IsFresh cell host) (map (spare_at host) seats)
fresh_spares cell host [] from each = tt
fresh_spares cell host (s ∷ ss) from each = (
  record { at = refl; number = from + 0; seat = same_Some s (fresh cell (from + 0)) (each 0 (omega arith)) },
  fresh_spares cell host ss (suc from) (λ k low. subst (λ (n : ℕ). slice_get ss k ≡ Some (fresh cell n)) (omega arith) (each (suc k) (omega arith))),
)

pub origin_fresh : (s : StationHistory) (c : Settings) (h : ℕ) → s.config ≡ c → s.host ≡ h → origin_of s ≡ fresh_station c h
origin_fresh s c h config host =
    ap (λ (x : Settings). fresh_station x s.host) config ∙ ap (fresh_station c) host

pub opened_one : (c : Settings) (host count : ℕ) (cell : Cell StationHistory) (seats : List (Sitting StationHistory StationEvent)) (before after : List Spare)
    → cell.origin ≡ fresh_station c host → cell.seats ≡ count → length seats ≡ count
    → ((k : ℕ) → k < count → slice_get seats k ≡ Some (fresh cell k)) → after ≡ before ++ map (spare_at host) seats → HasOpened c host count cell before after
opened_one c host count cell seats before after origin so_many all each is = (
  map (spare_at host) seats,
  record {
    origin = origin;
    seats = so_many;
    each = fresh_spares cell host seats 0 (λ k low. let same : k ≡ 0 + k = omega arith in
        subst (λ (n : ℕ). slice_get seats k ≡ Some (fresh cell n)) same (each k (omega (arith, all))));
    all = length-map seats (spare_at host) ∙ all;
  },
  is,
)

-- one more station with its cell
pub opened_more : (c : Settings) (hosts stations now later : List ℕ) (sites grown : List Site) (before after : List Spare) (h count : ℕ)
    (cell : Cell StationHistory)
    → ((ss : List Site) (sp : List Spare) → AreOpened c hosts now ss sp → AreOpened c hosts stations (sites ++ ss) (before ++ sp))
    → now ≡ h ∷ later → count ≡ count_of h hosts → HasOpened c h count cell before after → grown ≡ sites ++ record { host = h; cell = cell } ∷ []
    → (ss : List Site) (sp : List Spare) → AreOpened c hosts later ss sp → AreOpened c hosts stations (grown ++ ss) (after ++ sp)
opened_more c hosts stations now later sites grown before after h count cell goes is counted opened more ss sp are =
    let site : Site = record { host = h; cell = cell } in
    let all : IsOpened c h (count_of h hosts) cell opened.0 = subst (λ n. IsOpened c h n cell opened.0) counted opened.1 in
    let one : AreOpened c hosts now (site ∷ ss) (opened.0 ++ sp) =
    subst (λ l. AreOpened c hosts l (site ∷ ss) (opened.0 ++ sp)) (sym is) (opened.0, sp, refl, all, refl, are) in
    subst (λ l. AreOpened c hosts stations l (after ++ sp)) (sym (append_assoc sites (site ∷ []) ss) ∙ ap (λ l. l ++ ss) (sym more))
    (subst (AreOpened c hosts stations (sites ++ site ∷ ss)) (sym (append_assoc before opened.0 sp) ∙ ap (λ l. l ++ sp) (sym opened.2))
    (goes (site ∷ ss) (opened.0 ++ sp) one))

pub opened_all : (c : Settings) (hosts stations left : List ℕ) (sites : List Site) (spares : List Spare)
    → ((ss : List Site) (sp : List Spare) → AreOpened c hosts left ss sp → AreOpened c hosts stations (sites ++ ss) (spares ++ sp))
    → left ≡ [] → AreOpened c hosts stations sites spares
opened_all c hosts stations left sites spares goes none =
    subst (λ l. AreOpened c hosts stations l spares) (append-nil sites)
    (subst (AreOpened c hosts stations (sites ++ [])) (append-nil spares)
    (goes [] [] (subst (λ l. AreOpened c hosts l [] []) (sym none) refl)))

abbrev site_host : Site → ℕ
site_host s = s.host

module _ (c : Settings) (hosts : List ℕ) where
  pub opened_hosts : (hs : List ℕ) (ss : List Site) (spares : List Spare) → AreOpened c hosts hs ss spares → map site_host ss ≡ hs
  opened_hosts [] [] spares are = refl
  opened_hosts [] (s ∷ ss) spares are = absurd are
  opened_hosts (h ∷ hs) [] spares are = absurd are
  opened_hosts (h ∷ hs) (s ∷ ss) spares are = ap (λ n. n ∷ map site_host ss) are.2 ∙ ap (λ l. h ∷ l) (opened_hosts hs ss are.1 are.5)

  pub opened_cells : (hs : List ℕ) (ss : List Site) (spares : List Spare) → AreOpened c hosts hs ss spares
      → Each (λ (s : Site). s.cell.origin ≡ fresh_station c s.host) ss
  opened_cells [] [] spares are = tt
  opened_cells [] (s ∷ ss) spares are = absurd are
  opened_cells (h ∷ hs) [] spares are = absurd are
  opened_cells (h ∷ hs) (s ∷ ss) spares are = (are.3.origin ∙ ap (fresh_station c) (sym are.2), opened_cells hs ss are.1 are.5)

  -- the cell of a station, and its seats
  pub record IsCellAt (h : ℕ) (cell : Cell StationHistory) : Type 0 where
    pub origin : cell.origin ≡ fresh_station c h
    pub seats : cell.seats ≡ count_of h hosts

  cell_is : (s : Site) (ss : List Site) (g h : ℕ) (own : List Spare) (cell : Cell StationHistory) → s.host ≡ g → IsOpened c g (count_of g hosts) s.cell own
      → (cell_at ss h ≡ Some cell → IsCellAt h cell) → (b : Bool) → (s.host == h) ≡ b → cond b (Some s.cell) (cell_at ss h) ≡ Some cell → IsCellAt h cell
  cell_is s ss g h own cell at is rest true same found =
      let there : g ≡ h = sym at ∙ eqb-true s.host h same in
      subst (IsCellAt h) (same_Some s.cell cell found)
      (subst (λ (n : ℕ). IsCellAt n s.cell) there (record { origin = is.origin; seats = is.seats }))
  cell_is s ss g h own cell at is rest false same found = rest found

  pub opened_cell : (hs : List ℕ) (ss : List Site) (spares : List Spare) (h : ℕ) (cell : Cell StationHistory) → AreOpened c hosts hs ss spares
      → cell_at ss h ≡ Some cell → IsCellAt h cell
  opened_cell [] [] spares h cell are found = absurd (none-some cell found)
  opened_cell [] (s ∷ ss) spares h cell are found = absurd are
  opened_cell (g ∷ hs) [] spares h cell are found = absurd are
  opened_cell (g ∷ hs) (s ∷ ss) spares h cell are found =
      cell_is s ss g h are.0 cell are.2 are.3 (opened_cell hs ss are.1 h cell are.5) (s.host == h) refl found

  -- a seat of one of these cells, at one of these stations
  record IsSpareOf (hs : List ℕ) (ss : List Site) (s : Spare) : Type 0 where
    pub is : IsSpare ss s
    pub among : list_any (λ x. x == s.host) hs ≡ true

  own_spare : (s : Site) (ss : List Site) (g : ℕ) (hs : List ℕ) (own : List Spare) → s.host ≡ g → IsOpened c g (count_of g hosts) s.cell own → (x : Spare)
      → IsFresh s.cell g x → IsSpareOf (g ∷ hs) (s ∷ ss) x
  own_spare s ss g hs own at is x new = record {
    is = record {
      cell = s.cell;
      there = ap (λ b. cond b (Some s.cell) (cell_at ss x.host)) (eq-eqb s.host x.host (at ∙ sym new.at));
      of = ap (λ (o : StationHistory). o.host) is.origin ∙ sym new.at;
      number = new.number;
      seat = new.seat;
    };
    among = ap (λ b. b || list_any (λ y. y == x.host) hs) (eq-eqb g x.host (sym new.at));
  }

  differs : (g : ℕ) (hs : List ℕ) (h : ℕ) → list_any (λ x. x == g) hs ≡ false → list_any (λ x. x == h) hs ≡ true → (b : Bool) → (g == h) ≡ b → (g == h) ≡ false
  differs g hs h none there true same = let other : list_any (λ x. x == g) hs ≡ true = subst (λ (n : ℕ). list_any (λ x. x == n) hs ≡ true) (sym (eqb-true g h same)) there in absurd (cc (other, none))
  differs g hs h none there false same = same

  or_true : (b : Bool) → (b || true) ≡ true
  or_true true = refl
  or_true false = refl

  later_spare : (s : Site) (ss : List Site) (g : ℕ) (hs : List ℕ) → s.host ≡ g → list_any (λ x. x == g) hs ≡ false → (x : Spare) → IsSpareOf hs ss x
      → IsSpareOf (g ∷ hs) (s ∷ ss) x
  later_spare s ss g hs at none x of =
      let apart : (s.host == x.host) ≡ false = ap (λ (n : ℕ). n == x.host) at ∙ differs g hs x.host none of.among (g == x.host) refl in
      record {
        is = record {
          cell = of.is.cell;
          there = ap (λ b. cond b (Some s.cell) (cell_at ss x.host)) apart ∙ of.is.there;
          of = of.is.of;
          number = of.is.number;
          seat = of.is.seat;
        };
        among = ap (λ b. (g == x.host) || b) of.among ∙ or_true (g == x.host);
      }

  spares_of : (hs : List ℕ) (ss : List Site) (spares : List Spare) → Apart hs → AreOpened c hosts hs ss spares → Each (IsSpareOf hs ss) spares
  spares_of [] [] spares apart are = subst (Each (IsSpareOf [] [])) (sym are) tt
  spares_of [] (s ∷ ss) spares apart are = absurd are
  spares_of (h ∷ hs) [] spares apart are = absurd are
  spares_of (h ∷ hs) (s ∷ ss) spares apart are =
      subst (Each (IsSpareOf (h ∷ hs) (s ∷ ss))) (sym are.4)
      (each_append (IsSpareOf (h ∷ hs) (s ∷ ss)) are.0 are.1
      (each_weaker (IsFresh s.cell h) (IsSpareOf (h ∷ hs) (s ∷ ss)) are.0 are.3.each (own_spare s ss h hs are.0 are.2 are.3))
      (each_weaker (IsSpareOf hs ss) (IsSpareOf (h ∷ hs) (s ∷ ss)) are.1 (spares_of hs ss are.1 apart.1 are.5) (later_spare s ss h hs are.2 apart.0)))

  pub opened_spares : (hs : List ℕ) (ss : List Site) (spares : List Spare) → Apart hs → AreOpened c hosts hs ss spares → Each (IsSpare ss) spares
  opened_spares hs ss spares apart are = each_weaker (IsSpareOf hs ss) (IsSpare ss) spares (spares_of hs ss spares apart are) (λ x of. of.is)

  -- how many spares there are of each station
  own_count : (cell : Cell StationHistory) (g h : ℕ) (own : List Spare) → Each (IsFresh cell g) own → (b : Bool) → (g == h) ≡ b
      → count_of h (map spare_host own) ≡ cond b (length own) 0
  own_count cell g h [] each true same = refl
  own_count cell g h [] each false same = refl
  own_count cell g h (s ∷ ss) each true same =
      let one : (s.host == h) ≡ true = ap (λ (n : ℕ). n == h) each.0.at ∙ same in
      ap (λ b. cond b 1 0 + count_of h (map spare_host ss)) one ∙ (let rest = own_count cell g h ss each.1 true same in omega arith)
  own_count cell g h (s ∷ ss) each false same =
      let one : (s.host == h) ≡ false = ap (λ (n : ℕ). n == h) each.0.at ∙ same in
      ap (λ b. cond b 1 0 + count_of h (map spare_host ss)) one ∙ (let rest = own_count cell g h ss each.1 false same in omega arith)

  map_append : (f : Spare → ℕ) (xs ys : List Spare) → map f (xs ++ ys) ≡ map f xs ++ map f ys
  map_append f [] ys = refl
  map_append f (x ∷ xs) ys = ap (λ l. f x ∷ l) (map_append f xs ys)

  add_counts : (h g n m : ℕ) (a b : Bool) → (g == h) ≡ a → (a ≡ true → b ≡ false) → (a ≡ true → n ≡ m) → cond a n 0 + cond b m 0 ≡ cond (a || b) m 0
  add_counts h g n m true true is apart same = absurd (cc (apart refl))
  add_counts h g n m true false is apart same = let e = same refl in omega arith
  add_counts h g n m false true is apart same = omega arith
  add_counts h g n m false false is apart same = refl

  pub opened_counts : (h : ℕ) (hs : List ℕ) (ss : List Site) (spares : List Spare) → Apart hs → AreOpened c hosts hs ss spares
      → count_of h (map spare_host spares) ≡ cond (list_any (λ x. x == h) hs) (count_of h hosts) 0
  opened_counts h [] [] spares apart are = ap (λ l. count_of h (map spare_host l)) are
  opened_counts h [] (s ∷ ss) spares apart are = absurd are
  opened_counts h (g ∷ hs) [] spares apart are = absurd are
  opened_counts h (g ∷ hs) (s ∷ ss) spares apart are =
      let among = list_any (λ x. x == h) hs in
      ap (λ l. count_of h (map spare_host l)) are.4 ∙ ap (count_of h) (map_append spare_host are.0 are.1)
      ∙ count_append h (map spare_host are.0) (map spare_host are.1)
      ∙ ap (λ n. n + count_of h (map spare_host are.1)) (own_count s.cell g h are.0 are.3.each (g == h) refl ∙ ap (λ n. cond (g == h) n 0) are.3.all)
      ∙ ap (λ n. cond (g == h) (count_of g hosts) 0 + n) (opened_counts h hs ss are.1 apart.1 are.5)
      ∙ add_counts h g (count_of g hosts) (count_of h hosts) (g == h) among refl
      (λ same. subst (λ (n : ℕ). list_any (λ x. x == n) hs ≡ false) (eqb-true g h same) apart.0)
      (λ same. ap (λ n. count_of n hosts) (eqb-true g h same))
