-- Texts that grow.
use Rattle.std.specs.Prelude.{ℕ, List, ◌++◌}
use Rattle.vk_text.specs.declared.text.Text.{Text}

-- what is appended, and the draft behind it
abbrev pub shown : Text → List ℕ
shown t = t.bytes.items ++ t.draft
