use Rattle.std.proofs.Common.{◌≡◌, ◌<◌, ◌^◌, IsTrue, take}
use Rattle.std.specs.Char.{is_ascii_digit}
use Rattle.std.specs.List.{list_all}
use Rattle.std.specs.Str.Parse.{digits_value}
use Rattle.vk_text.proofs.word.nine_digits.Given as goal

abbrev pub invariant-loop-at : goal.invariant-loop-at
invariant-loop-at l = record {
  digits : IsTrue (list_all is_ascii_digit (take l.at l.bytes));
  small : l.value < 10 ^ l.at;
  value : l.value ≡ digits_value 10 (take l.at l.bytes);
}
