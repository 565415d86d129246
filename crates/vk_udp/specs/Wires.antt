-- What links and wires hand out, are given to send, and count.
use Rattle.std.specs.Prelude.{ℕ, zero, suc, ◌≡◌, ◌<◌, ◌+◌, ◌++◌, ◌⊎◌, Bool, true, false, Option, Some, None, List, [], ◌∷◌, Result, Ok, Err, option_map, unwrap_or}
use Rattle.vk_io.specs.Causes.{next_count}
use Rattle.vk_io.specs.Memory.{Calls}
use Rattle.vk_io.specs.declared.ends.Failed.{Failed}

-- what a link has handed out behind a call that was answered so, where it tells it
abbrev pub received : Option (List (List ℕ)) → Result Bool Failed → List ℕ → Option (List (List ℕ))
received handed (Ok true) bytes = option_map (λ all. all ++ bytes ∷ []) handed
received handed (Ok false) bytes = handed
received handed (Err e) bytes = handed

-- what a link is given to send: the port, and the bytes
abbrev pub Datagram : Type 0
Datagram = ℕ × List ℕ

-- What is told now, if it still is: what was told before, and these behind it.
abbrev pub IsMore : {A : Type 0} → (before now : Option (List A)) → List A → Type 0
IsMore (Some all) (Some now) more = now ≡ all ++ more
IsMore None (Some now) more = ⊥
IsMore before None more = Unit {0}

-- A link that was just opened has met no fault, and neither handed out anything nor was given anything to send. It tells so where its wire
-- tells.
abbrev pub HasNothing : {A : Type 0} → (wire link : Option (List A)) → Type 0
HasNothing (Some all) link = link ≡ Some []
HasNothing None (Some own) = own ≡ []
HasNothing None None = Unit {0}

abbrev pub IsNewLink : (wire link : Option (List (List ℕ))) → (faults : ℕ) → Type 0
IsNewLink wire link faults = (faults ≡ 0) × HasNothing wire link

-- What a wire tells once a link has come back, if it still tells: behind what it told before, what the link tells.
abbrev pub IsClosed : {A : Type 0} → (before link after : Option (List A)) → Type 0
IsClosed (Some all) (Some own) (Some told) = told ≡ all ++ own
IsClosed before link (Some told) = ⊥
IsClosed before link None = Unit {0}

-- the count of a wire goes up where a link comes back that has met a fault, and else stays
abbrev pub CountsLink : (link before now : ℕ) → Type 0
CountsLink zero before now = now ≡ before
CountsLink (suc n) before now = now ≡ next_count before

-- a link in memory: what it handed out, what it was given to send, if it still tells it, what it has left, and its receives
pub record Deck : Type 0 where
  pub handed : List (List ℕ)
  pub sent : Option (List Datagram)
  pub left : List (List ℕ)
  pub calls : Calls

-- a receive that does not fail hands out the next datagram, and answers false exactly where none is left
abbrev pub HandsOut : Deck → Deck → Bool → List ℕ → Type 0
HandsOut old new true bytes = (old.left ≡ bytes ∷ new.left) × (new.handed ≡ old.handed ++ bytes ∷ [])
HandsOut old new false bytes = (old.left ≡ []) × (new.left ≡ []) × (new.handed ≡ old.handed)

-- it handed out nothing and was given nothing to send, and no receive failed
abbrev pub IsUnused : Deck → Type 0
IsUnused d = (d.handed ≡ []) × (d.sent ≡ Some []) × (d.calls.faults ≡ 0)

-- A wire in memory: the links that it is to open, the last one first; what those handed out that came back, and what they were given to
-- send, if it still tells it; how many more may come back and be told; and its opens.
pub record Exchange : Type 0 where
  pub ready : List Deck
  pub told : Option (List (List ℕ))
  pub sent : Option (List Datagram)
  pub room : ℕ
  pub calls : Calls

abbrev pub handed_by : Deck → List (List ℕ)
handed_by d = d.handed

-- what a link was given to send, if it tells it
abbrev pub given : Deck → List Datagram
given d = unwrap_or d.sent []

-- what two tell one behind the other, if both do
abbrev pub joined : {A : Type 0} → Option (List A) → Option (List A) → Option (List A)
joined (Some front) (Some back) = Some (front ++ back)
joined front back = None

-- What it tells once a link has come back. With room left it tells, behind what it told before, what the link handed out and was given to
-- send, and has room for one less; with none left it tells no more.
abbrev pub TakesBack : Exchange → Deck → Exchange → Type 0
TakesBack old link new =
    (0 < old.room → (new.told ≡ option_map (λ all. all ++ link.handed) old.told) × (new.sent ≡ joined old.sent link.sent)
    × (new.room + 1 ≡ old.room))
    × (old.room ≡ 0 → (new.told ≡ None) × (new.sent ≡ None) × (new.room ≡ 0))

-- the link that it opens: the last one that is ready, else one without datagrams
abbrev pub Opens : List Deck → List Deck → Deck → Type 0
Opens old new link = (old ≡ new ++ link ∷ []) ⊎ ((old ≡ []) × (new ≡ []) × (link.left ≡ []))
