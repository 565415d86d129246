use Rattle.std.proofs.Common.{◌∙◌, All, sym, ap, subst, arith}
use Rattle.std.specs.List.{range_with_len}
use Rattle.std.specs.List.Sorted.{IsPermutation}
use Rattle.turn_cell.specs.Accounts.{IsAccountOf}
use Rattle.turn_cell.specs.Held.{account_of}
use Rattle.turn_cell.specs.Seats.{Sitting, numbers_of}
use Rattle.turn_cell.proofs.Closing.{Closes, closes}
use Rattle.turn_cell.proofs.Handed.{all_once, each_below, each_once, each_right, ended_count}
use Rattle.turn_cell.proofs.cell.TurnCell.close.Given as given
use Rattle.turn_cell.proofs.cell.TurnCell.close.Goals as goal

pub gather-place-requires-clause-some : goal.gather-place-requires-clause-some
gather-place-requires-clause-some g c κs within =
    let seats = ap (λ s. s.seats) c.self.view_is in omega (arith, seats, c.self.invariant.2, c.requires.all)

ends : (g : given.Over) (c : goal.After-free g)
    → Closes g.S.Replay.history g.S.Replay.origin (g.S.Replay.origin c.self.inside.table.shared.key.start.value)
    c.self.inside.table.shared.key.seats c.gather-place.result.me.0 c.take-state.result
ends g c =
    let place = c.gather-place.ensures.place in
    let v = c.gather-place.result.me.0 in
    let count = ended_count v c.args.seats.items c.gather-place.ensures.accounts ∙ (sym c.args.seats.ok.0 ∙ (c.requires.all ∙ sym (ap (λ s. s.seats) c.self.view_is))) in
    closes _ _ _ _ c.gather-place.result.id v _ _ _ place.1.1 place.1.0 count c.close_with-closed.ensures.values.2 c.take-state.ensures.value

right : (g : given.Over) (c : goal.After-free g)
    → All (λ (s : Sitting g.row.S.Denot g.row.S-Event.Denot). IsAccountOf (g.S.Replay.history c.take-state.result) (account_of s))
    c.args.seats.items
right g c =
    let t = ends g c in
    each_right c.gather-place.result.me.0 c.args.seats.items c.gather-place.ensures.accounts (g.S.Replay.history c.take-state.result)
    t.mine t.ended

pub returns-clause-origin : goal.returns-clause-origin
returns-clause-origin g c = (ends g c).same ∙ ap (λ s. s.origin) c.self.view_is

pub returns-clause-seen : goal.returns-clause-seen
returns-clause-seen g c = λ k d under. (right g c k d under).0

pub returns-clause-mine : goal.returns-clause-mine
returns-clause-mine g c = λ k d under. (right g c k d under).1

pub returns-clause-others : goal.returns-clause-others
returns-clause-others g c = λ k past. (ends g c).known k (let seats = ap (λ s. s.seats) c.self.view_is in omega arith)

pub returns-clause-below : goal.returns-clause-below
returns-clause-below g c =
    let t = ends g c in
    let all = each_below c.gather-place.result.me.0 c.args.seats.items c.gather-place.ensures.accounts _ t.low t.different in
    λ k d under. let low = all k d under in let seats = ap (λ s. s.seats) c.self.view_is in omega arith

pub returns-clause-different : goal.returns-clause-different
returns-clause-different g c =
    let t = ends g c in each_once c.gather-place.result.me.0 c.args.seats.items c.gather-place.ensures.accounts _ t.low t.different

pub returns-clause-numbers : goal.returns-clause-numbers
returns-clause-numbers g c =
    let t = ends g c in
    let seats = ap (λ s. s.seats) c.self.view_is in
    subst (λ n. IsPermutation (numbers_of c.args.seats.items) (range_with_len 0 n)) seats
    (all_once c.gather-place.result.me.0 c.args.seats.items c.gather-place.ensures.accounts _ t.low t.different (sym c.args.seats.ok.0 ∙ (c.requires.all ∙ sym seats)))
