use Rattle.std.proofs.Common.{rules, ◌≡◌, ◌<◌, ◌∙◌, Some, sym, ap, subst, map, arith}
use Rattle.std.proofs.lemmas.List.Elements.{All-pop}
use Rattle.turn_cell.specs.Held.{IsWhole, account_of}
use Rattle.turn_cell.proofs.Gathering.{account_is, accounts_all, accounts_first, accounts_step}
use Rattle.turn_cell.proofs.Joining.{join_keeps}
use Rattle.turn_cell.proofs.cell.gather.Goals as goal

pub loop-seat-init : goal.loop-seat-init
loop-seat-init g c =
    let seat = c.in-Some.seat in
    let idle = c.into_place-place.ensures.idle in
    let popped = All-pop (λ s. s.table ≡ c.args.board.now.table_id) _ _ (Some seat) c.in-Some.ensures.items c.requires.seats in
    let place = c.into_place-place.result in
    let account = account_is seat place.table_id seat.number place.me c.into_place-place.ensures.same idle.0 in
    record {
      on = ap (λ s. s.table) (sym c.into_place-place.ensures.same) ∙ popped.1;
      whole = (omega arith, idle.2, idle.4);
      same = popped.0;
      kept = accounts_first c.args.seats.items c.pop.new.self.items seat place.me.0 c.in-Some.ensures.items idle.3 account;
    }

pub join_seat-requires : goal.join_seat-requires
join_seat-requires g c =
    let before = c.loop-seat.invariant in
    let seat = c.in-Some-pop.seat in
    let idle = c.into_place.ensures.idle in
    let popped = All-pop (λ s. s.table ≡ c.args.board.now.table_id) _ _ (Some seat) c.in-Some-pop.ensures.items before.same in
    let w = c.into_place.result.me.0 in
    let under : w.account.number < w.limit = omega arith in
    let table = ap (λ s. s.table) (sym c.into_place.ensures.same) ∙ popped.1 in
    let joins = join_keeps _ _ _ _ _ c.loop-seat.place.me.0 _ w before.whole.1 before.whole.0 idle.2 under in
    (before.on, table, idle.4, search rules, joins)

pub loop-seat-preserved : goal.loop-seat-preserved
loop-seat-preserved g c =
    let before = c.loop-seat.invariant in
    let seat = c.in-Some-pop.seat in
    let idle = c.into_place.ensures.idle in
    let popped = All-pop (λ s. s.table ≡ c.args.board.now.table_id) _ _ (Some seat) c.in-Some-pop.ensures.items before.same in
    let v = c.loop-seat.place.me.0 in
    let place = c.into_place.result in
    let w = place.me.0 in
    let me = c.join_seat.ensures.2 in
    let left = c.pop-in-loop-seat.new.self in
    let account = account_is seat place.table_id seat.number place.me c.into_place.ensures.same idle.0 in
    record {
      on = c.join_seat.ensures.0 ∙ before.on;
      whole = subst (λ m. IsWhole m) (sym me) before.whole;
      same = popped.0;
      kept = accounts_step (map account_of c.args.seats.items) c.loop-seat.seats.items left.items seat v w c.join_seat.new.seat.me.0
          c.in-Some-pop.ensures.items idle.3 account (ap (λ m. m.0) me) before.kept;
    }

pub returns-clause-accounts : goal.returns-clause-accounts
returns-clause-accounts g c =
    let none = sym c.loop-seat.seats.ok.0 ∙ c.in_default.ensures.cases.0 in
    accounts_all (map account_of c.args.seats.items) c.loop-seat.seats.items c.loop-seat.place.me.0 none c.loop-seat.invariant.kept
