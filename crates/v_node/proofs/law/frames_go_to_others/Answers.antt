use Rattle.v_node.proofs.Others.{frames_go_to_others}
use Rattle.v_node.proofs.law.frames_go_to_others.Goals as goal

pub returns : goal.returns
returns c = frames_go_to_others c.views_and_aliens_hold_anyhow.ensures
