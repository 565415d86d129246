use Rattle.std.proofs.Common.{◌∙◌, ap, length, length-drop}
use Rattle.std.proofs.lemmas.List.{take_rest}
use Rattle.vk_edge.proofs.Gathering.{read_behind_is}
use Rattle.vk_edge.proofs.buffer.read_behind.Goals as goal

pub returns-clause-read : goal.returns-clause-read
returns-clause-read g c =
    let slice = c.deref_mut.result.now in
    let room = c.read.auto.into ∙ ap length (take_rest slice c.args.filled) ∙ length-drop c.args.filled slice in
    read_behind_is _ _ c.read.result c.args.bytes.now.items slice c.read.new.into c.args.filled c.args.bytes.now.len
    c.deref_mut.ensures.value c.args.bytes.now.ok.0 c.requires room c.read.ensures.bound c.read.ensures.bytes
