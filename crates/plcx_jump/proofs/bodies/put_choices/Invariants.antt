use Rattle.std.proofs.Common.{◌≡◌, ◌++◌, map, drop}
use Rattle.plcx_meaning.specs.Templates.{choices_text}
use Rattle.plcx_st.specs.Meant.{stmt_meant}
use Rattle.plcx_targets.specs.Labels.{network_of}
use Rattle.plcx_jump.proofs.bodies.put_choices.Given as goal

-- the choices of the elements from this place on
abbrev pub invariant-loop-i : goal.invariant-loop-i
invariant-loop-i l = map stmt_meant l.body.items ≡ map stmt_meant l.fn.body.items ++ choices_text l.targets (network_of l.elements (drop l.i l.places))
