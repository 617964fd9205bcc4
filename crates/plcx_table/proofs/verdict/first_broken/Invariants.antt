use Rattle.std.proofs.Common.{ℕ, Option, drop, map}
use Rattle.plcx_model.specs.Verdict.{Verdict}
use Rattle.plcx_table.specs.declared.row.FormatRule.{FormatRule}
use Rattle.plcx_table.specs.Flat.{shown_item, BreaksIn}
use Rattle.plcx_table.specs.Format.{place_of}
use Rattle.plcx_table.proofs.verdict.first_broken.Given as goal

-- a verdict over the rules that are left is one over all
abbrev pub invariant-loop-rule : goal.invariant-loop-rule
invariant-loop-rule l = (v : Option (FormatRule × ℕ)) → Verdict (BreaksIn l.namespace (map shown_item l.items)) place_of (map shown_item l.items) (drop l.rule-index l.order) v → Verdict (BreaksIn l.namespace (map shown_item l.items)) place_of (map shown_item l.items) l.order v
