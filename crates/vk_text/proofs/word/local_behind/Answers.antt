use Rattle.std.proofs.Common.{◌+◌, Some, ap, sym, ◌∙◌}
use Rattle.vk_base.proofs.PidLemmas.{pid_of_numbers_is}
use Rattle.vk_text.proofs.FirstWords.{word_is_pid}
use Rattle.vk_text.proofs.word.local_behind.Goals as goal

pub returns : goal.returns
returns c =
    let host = c.requires.host in
    let number = c.in_ok-local.ensures.number in
    let read = word_is_pid c.args.bytes.now _ c.args.point c.args.host (Some c.in_ok-local.local) (sym host.0) c.requires.within
    c.requires.point host.1 c.split_at.ensures.back number.1 in
    (ap (λ n. c.args.point + 1 + n) number.0 ∙ read.1, read.0 ∙ sym (pid_of_numbers_is c.args.host c.in_ok-local.local _ _ _))
