use Rattle.std.proofs.Common.{◌≡◌, map, take}
use Rattle.plcx_xml.specs.declared.building.Frame.{Frame}
use Rattle.plcx_xml.proofs.building.names_of.Given as goal

abbrev pub invariant-loop-frame : goal.invariant-loop-frame
invariant-loop-frame l = l.names.items ≡ map (λ (f : Frame). f.name) (take l.frame-index l.frames)
