use Rattle.v_pipe.proofs.Readers.{reads_pieces, reads_pieces_in}
use Rattle.v_pipe.proofs.reads_are_pieces.Goals as goal

pub returns : goal.returns
returns c = record { runs = reads_pieces; histories = reads_pieces_in }
