-- When what came of a row is what it wants.
use Rattle.std.specs.Prelude.{◌≡◌, ◌⊎◌, IfSome}
use Rattle.vk_rows.specs.declared.row.Found.{Found}
use Rattle.vk_rows.specs.declared.row.Row.{Row}

pub record Agrees (row : Row) (found : Found) : Type 0 where
  pub output : row.output.items ≡ found.output.items
  pub status : (row.status.items ≡ found.status.items) ⊎ (row.status.items ≡ found.number.items)
  pub answers : IfSome row.answers (λ a. a.items ≡ found.answers.items)
