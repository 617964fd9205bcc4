-- Where the verdict is that no rule is broken, no element breaks any.
use Rattle.std.proofs.Common.{◌≡◌, Bool, true, false, List, [], ◌∷◌, None, refl}
use Rattle.plcx_types.specs.Lists.{Each}
use Rattle.plcx_model.specs.declared.project.Pou.{Pou}
use Rattle.plcx_model.specs.declared.project.Project.{Project}
use Rattle.plcx_model.specs.Verdict.{Never, Verdict, Next}
use Rattle.plcx_rules.specs.declared.rule.LinkRule.{LinkRule}
use Rattle.plcx_rules.specs.declared.rule.LinkRule.TheVariants as rule
use Rattle.plcx_rules.specs.Items.{Item, items_from, items_of}
use Rattle.plcx_rules.specs.LinkRules.{breaks, BreaksLink, link_rules, link_place, LinkVerdict}
use Rattle.plcx_rules.proofs.Lists.{each_never, each_more}

-- each rule is kept
all_kept : {R A P : Type 0} (B : R → List A → A → Type 0) (place : R → A → P) (items : List A) (rules : List R) → Verdict B place items rules None → Each (λ (r : R). Never (B r) [] items) rules
all_kept B place items [] v = tt
all_kept B place items (r ∷ rules) (Next never rest) = (never, all_kept B place items rules rest)

abbrev Kept : Project → LinkRule → Type 0
Kept project r = Never (BreaksLink project.pous r) [] (items_of project.pous)

one_kept : (project : Project) → Each (Kept project) link_rules → (r : LinkRule) → Kept project r
one_kept project all rule.LocalIds = all.0
one_kept project all rule.References = all.1.0
one_kept project all rule.Outputs = all.1.1.0
one_kept project all rule.Several = all.1.1.1.0
one_kept project all rule.Missing = all.1.1.1.1.0
one_kept project all rule.BlockTypes = all.1.1.1.1.1.0
one_kept project all rule.Instances = all.1.1.1.1.1.1.0
one_kept project all rule.Formals = all.1.1.1.1.1.1.1.0
one_kept project all rule.Expressions = all.1.1.1.1.1.1.1.1.0
one_kept project all rule.Targets = all.1.1.1.1.1.1.1.1.1.0
one_kept project all rule.Connectors = all.1.1.1.1.1.1.1.1.1.1.0
one_kept project all rule.Labels = all.1.1.1.1.1.1.1.1.1.1.1.0
one_kept project all rule.Modifiers = all.1.1.1.1.1.1.1.1.1.1.1.1.0
one_kept project all rule.Ladders = all.1.1.1.1.1.1.1.1.1.1.1.1.1.0

-- no element breaks this rule
abbrev pub Keeps : List Pou → LinkRule → Item → Type 0
Keeps pous r x = breaks pous r x ≡ true → ⊥

pub keeps : (project : Project) → LinkVerdict project None → (r : LinkRule) → Each (Keeps project.pous r) (items_from 0 project.pous)
unfolding items_of
keeps project v r = each_never (λ (x : Item). breaks project.pous r x ≡ true) [] (items_from 0 project.pous) (one_kept project (all_kept (BreaksLink project.pous) link_place (items_of project.pous) link_rules v) r)

is_false : (b : Bool) → (b ≡ true → ⊥) → b ≡ false
is_false true h = absurd (h refl)
is_false false h = refl

pub none_breaks : (project : Project) → LinkVerdict project None → (r : LinkRule) → Each (λ (x : Item). breaks project.pous r x ≡ false) (items_of project.pous)
unfolding items_of
none_breaks project v r = each_more (Keeps project.pous r) (λ (x : Item). breaks project.pous r x ≡ false) (items_from 0 project.pous) (λ x h. is_false (breaks project.pous r x) h) (keeps project v r)
