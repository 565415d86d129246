-- What a seat knows at the table, and what each step makes of that.
use Rattle.std.specs.Prelude.{◌≡◌, ℕ, ◌+◌, ◌<◌, ◌≤◌, ◌⊎◌, true, false, Some, None, List, [], ◌∷◌, ◌++◌}
use mathlib.Core.List.{IsPrefix}
use Rattle.turn_cell.specs.Accounts.{AreAccountsOf, AreDifferent, IsNumberOf}
use Rattle.turn_cell.specs.History.{events_of}
use Rattle.turn_cell.specs.declared.rule.Account.{Account}
use Rattle.turn_cell.specs.declared.rule.Standing.{Standing}

module _ {S E : Type 0} where
  -- it has the numbers from `number` on, and none of them has entered anything
  abbrev pub unsplit : S → ℕ → ℕ → Standing S E
  unsplit origin number seats = record {
    origin = Some origin;
    account = record { number = number; seen = []; mine = []; turns = 0 };
    limit = seats;
    holds = false;
    ended = [];
  }

  -- it has no number, and knows nothing
  abbrev pub spent : Standing S E
  spent = record { origin = None; account = record { number = 0; seen = []; mine = []; turns = 0 }; limit = 0; holds = false; ended = [] }

  -- it gave its first number away, and goes on with the next one
  abbrev pub without_first : Standing S E → Standing S E
  without_first v = record {
    origin = v.origin;
    account = record { number = v.account.number + 1; seen = v.account.seen; mine = []; turns = v.account.turns };
    limit = v.limit;
    holds = v.holds;
    ended = v.ended;
  }

  -- a new seat with the first number alone
  abbrev pub with_first : Standing S E → Standing S E
  with_first v = record {
    origin = v.origin;
    account = record { number = v.account.number; seen = v.account.seen; mine = v.account.mine; turns = 0 };
    limit = v.account.number + 1;
    holds = false;
    ended = [];
  }

  -- it keeps the accounts of the other, which ends
  abbrev pub joined : Standing S E → Standing S E → Standing S E
  joined v w = record { origin = v.origin; account = v.account; limit = v.limit; holds = v.holds; ended = w.account ∷ (w.ended ++ v.ended) }

  -- it took the turn, and has seen the history so far
  abbrev pub in_turn : Standing S E → List (ℕ × E) → Standing S E
  in_turn v log = record {
    origin = v.origin;
    account = record { number = v.account.number; seen = log; mine = v.account.mine; turns = v.account.turns + 1 };
    limit = v.limit;
    holds = true;
    ended = v.ended;
  }

  -- it gave the turn back, and left this history
  abbrev pub after_turn : Standing S E → List (ℕ × E) → Standing S E
  after_turn v log = record {
    origin = v.origin;
    account = record { number = v.account.number; seen = log; mine = events_of v.account.number log; turns = v.account.turns };
    limit = v.limit;
    holds = false;
    ended = v.ended;
  }

  -- it gave the turn back, and entered nothing
  abbrev pub after_looking : Standing S E → Standing S E
  after_looking v = record { origin = v.origin; account = v.account; limit = v.limit; holds = false; ended = v.ended }

  -- it gave the turn back, and entered the event
  abbrev pub after_entering : Standing S E → E → Standing S E
  after_entering v e = record {
    origin = v.origin;
    account = record {
      number = v.account.number;
      seen = v.account.seen ++ (v.account.number, e) ∷ [];
      mine = v.account.mine ++ e ∷ [];
      turns = v.account.turns;
    };
    limit = v.limit;
    holds = false;
    ended = v.ended;
  }

  -- the number is one of its own, or of an ended seat whose account it keeps
  abbrev pub Owns : Standing S E → ℕ → Type 0
  Owns v k = ((v.account.number ≤ k) × (k < v.limit)) ⊎ IsNumberOf k v.ended

  -- the accounts that it has: those of ended seats, and its own behind them
  abbrev pub accounts_in : Standing S E → List (Account E)
  accounts_in v = v.ended ++ v.account ∷ []

  -- what it knows is true of this history, which began with this state at a cell with so many seats
  pub record Knows (origin : S) (seats : ℕ) (log : List (ℕ × E)) (v : Standing S E) : Type 0 where
    pub same : (o : S) → v.origin ≡ Some o → o ≡ origin
    pub few : v.limit ≤ seats
    pub seen : IsPrefix v.account.seen log
    pub mine : v.account.number < v.limit → events_of v.account.number log ≡ v.account.mine
    pub fresh : (k : ℕ) → v.account.number < k → k < v.limit → events_of k log ≡ []
    pub ended : AreAccountsOf log v.ended
    pub ended_few : (k : ℕ) → IsNumberOf k v.ended → k < seats
    pub different : AreDifferent (v.account ∷ v.ended)
