use Rattle.std.proofs.Common.{ℕ, Option, drop, map}
use Rattle.plcx_model.specs.Verdict.{Verdict}
use Rattle.plcx_profile.specs.declared.judging.DeclarationRule.{DeclarationRule}
use Rattle.plcx_profile.specs.Judged.{BreaksIn, place_of}
use Rattle.plcx_profile.specs.Seen.{shown}
use Rattle.plcx_profile.proofs.judging.first_broken.Given as goal

-- a verdict over the rules that are left is one over all
abbrev pub invariant-loop-rule : goal.invariant-loop-rule
invariant-loop-rule l = (v : Option (DeclarationRule × ℕ)) → Verdict (BreaksIn l.blocks) place_of (map shown l.items) (drop l.rule-index l.order) v → Verdict (BreaksIn l.blocks) place_of (map shown l.items) l.order v
