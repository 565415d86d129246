-- How long a work goes on. Its base is the entry that began, answered or restarted it last.
use Rattle.std.specs.Prelude.{◌≡◌, ℕ, ◌+◌, ◌*◌, ◌<◌, ◌≤◌, Bool, true, false, List, [], ◌∷◌, ◌++◌, if◌then◌else◌}
use Rattle.vk_types.specs.Types.{Call, Pid, Times}
use Rattle.vk_base.specs.Settings.{Settings}
use Rattle.vk_rules.specs.Entries.{Entry, Input, Ticked}
use Rattle.vk_rules.specs.Right.{entries_of, entry_of}
use Rattle.vk_rules.specs.Works.{has_round, is_base}
use Rattle.v_due.specs.Failures.{IsAtWork, EndsRefused, failure_of, reading_behind}

-- the next entry is a base of the work of the process
abbrev pub next_entry : Settings → ℕ → List Input → Input → Entry
next_entry c host is i = entry_of c host (entries_of c host is) i

abbrev pub is_base_next : Settings → ℕ → List Input → Input → Pid → Bool
is_base_next c host is i s = is_base (reading_behind c host is).view s (next_entry c host is i) ((reading_behind c host is).work s)

-- none of these is one, behind the older ones
abbrev pub HaveNoBase : Settings → ℕ → Pid → (older later : List Input) → Type 0
HaveNoBase c host s older [] = Unit {0}
HaveNoBase c host s older (i ∷ is) = (is_base_next c host (is ++ older) i s ≡ false) × HaveNoBase c host s older is

-- A work of the process, of which this input made the base, and none of the later ones.
pub record IsSince (c : Settings) (host : ℕ) (earlier : List Input) (first : Input) (later : List Input) (s : Pid) : Type 0 where
  pub base : is_base_next c host earlier first s ≡ true
  pub none : HaveNoBase c host s (first ∷ earlier) later

-- The tick at which it fails, if nothing answers it: it goes out as often as there are tries, the first time with its base or,
-- where it was answered, an interval later.
abbrev pub last_tick : Times → Pid → Entry → ℕ
last_tick t s e = e.tick + t.interval * (if has_round s e then t.tries else t.tries + 1)

pub record IsLastTick (c : Settings) (host : ℕ) (earlier : List Input) (first : Input) (later : List Input) (i : Input) (s : Pid)
    : Type 0 where
  pub tick : i ≡ Ticked
  pub last : (reading_behind c host (later ++ first ∷ earlier)).now + 1 ≡ last_tick c.times s (next_entry c host earlier first)

-- There it fails, and at nothing else.
abbrev pub FailuresComeInTurn : Type 0
FailuresComeInTurn = (c : Settings) (host : ℕ) (earlier : List Input) (first : Input) (later : List Input) (i : Input) (s : Pid)
    (call : Call) →
    0 < c.times.tries → 0 < c.times.interval →
    IsSince c host earlier first later s → IsAtWork c host (later ++ first ∷ earlier) s call →
    EndsRefused c host (later ++ first ∷ earlier) i s call (failure_of call) → IsLastTick c host earlier first later i s

abbrev pub WorksFailInTurn : Type 0
WorksFailInTurn = (c : Settings) (host : ℕ) (earlier : List Input) (first : Input) (later : List Input) (i : Input) (s : Pid)
    (call : Call) →
    0 < c.times.tries → 0 < c.times.interval →
    IsSince c host earlier first later s → IsAtWork c host (later ++ first ∷ earlier) s call →
    IsLastTick c host earlier first later i s → EndsRefused c host (later ++ first ∷ earlier) i s call (failure_of call)

-- The next due tick of a work lies ahead, and it has gone out no more often than there are tries.
pub record IsPatient (c : Settings) (host : ℕ) (is : List Input) (s : Pid) : Type 0 where
  pub past : ((reading_behind c host is).work s).since ≤ (reading_behind c host is).now
  pub ahead : (reading_behind c host is).now < ((reading_behind c host is).work s).since + c.times.interval
  pub few : ((reading_behind c host is).work s).rounds ≤ c.times.tries

abbrev pub WorksArePatient : Type 0
WorksArePatient = (c : Settings) (host : ℕ) (is : List Input) (s : Pid) (call : Call) → 0 < c.times.tries → 0 < c.times.interval →
    IsAtWork c host is s call → IsPatient c host is s
