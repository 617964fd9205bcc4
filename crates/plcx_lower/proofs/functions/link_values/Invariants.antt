use Rattle.std.proofs.Common.{◌≡◌, ◌++◌, map, drop}
use Rattle.plcx_meaning.specs.Templates.{link_text}
use Rattle.plcx_st.specs.Meant.{expr_meant}
use Rattle.plcx_drawn.specs.Shown.{shown_link}
use Rattle.plcx_lower.proofs.functions.link_values.Given as goal

-- the values so far, and the links that are left
abbrev pub invariant-loop-link : goal.invariant-loop-link
invariant-loop-link l = map expr_meant l.values.items ++ map link_text (map shown_link (drop l.link-index l.links)) ≡ map link_text (map shown_link l.links)
