use Rattle.std.proofs.Common.{◌≡◌, ◌++◌, take}
use Rattle.std.specs.List.{flat_map}
use Rattle.vk_picture.specs.Svg.{frame_line}
use Rattle.vk_picture.proofs.drawn.write_frames.Given as goal

abbrev pub invariant-loop-frame : goal.invariant-loop-frame
invariant-loop-frame l = l.text.items ≡ l.fn.text.items ++ flat_map (frame_line l.picture l.row) (take l.frame-index l.frames)
