use Rattle.std.proofs.Common.{Bor, Option, option_copied, ap}
use Rattle.vk_types.specs.Types.{Answer}
use Rattle.vk_program.specs.Tasks.{told_by}
use Rattle.vk_pipe.proofs.Hearing.{after_last}
use Rattle.vk_pipe.specs.Standing.{server_of}
use Rattle.vk_pipe.proofs.server.PipeServer.hear.Goals as goal

pub returns-in-Some-clause-after : goal.returns-in-Some-clause-after
returns-in-Some-clause-after c = λ given is.
    after_last c.args.self.now.requests c.follow.new.self.requests (server_of c.args.self.now) (server_of c.follow.new.self)
    c.news_of-news.result c.in-Some.answer.now (told_by (option_copied c.args.last)) given c.follow.ensures.requests
    (ap (λ (o : Option (Bor Answer)). told_by (option_copied o)) c.in-Some.is) c.news_of-news.ensures c.follow.ensures.state is
